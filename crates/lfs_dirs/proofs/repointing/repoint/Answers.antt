use Rattle.std.proofs.lemmas.Result.{err_from_is_err_and}
use Rattle.std.proofs.Common.{rules, ◌≡◌, length}
use Rattle.lfs_files.proofs.FilesCompose.{redrafts_more, redrafts_read}
use Rattle.lfs_model.specs.Tree.{slot_len}
use Rattle.lfs_dirs.specs.Adding.{slot_for}
use Rattle.lfs_dirs.specs.Searching.{FindsName}
use Rattle.lfs_dirs.proofs.Growths.{grows_behind, slot_grows}
use Rattle.lfs_dirs.proofs.SlotsAdded.{fits_slot}
use Rattle.lfs_dirs.proofs.SlotsReplaced.{counts_searched, repoints, fails_behind}
use Rattle.lfs_dirs.proofs.repointing.repoint.Goals as goal

pub returns-in-Ok-None-clause-redrafts : goal.returns-in-Ok-None-clause-redrafts
returns-in-Ok-None-clause-redrafts g c =
    redrafts_read c.search_from.ensures.searches.reads

pub returns-in-Err-clause-redrafts : goal.returns-in-Err-clause-redrafts
returns-in-Err-clause-redrafts g c =
    redrafts_read c.search_from.ensures.searches.reads

pub returns-in_err-write_at-clause-redrafts : goal.returns-in_err-write_at-clause-redrafts
returns-in_err-write_at-clause-redrafts g c =
    redrafts_more (g.met.F.Files.lawful c.args.files.now) (redrafts_read c.search_from.ensures.searches.reads) c.write_at.ensures.redrafts

pub returns-clause-redrafts : goal.returns-clause-redrafts
returns-clause-redrafts g c =
    redrafts_more (g.met.F.Files.lawful c.args.files.now) (redrafts_read c.search_from.ensures.searches.reads) c.write_at.ensures.redrafts

pub returns-in-Ok-None-clause-none : goal.returns-in-Ok-None-clause-none
returns-in-Ok-None-clause-none g c is = rw c.in-Ok-None.field-0-is at c.in-Ok-None.ensures.none

pub returns-in_err-write_at-clause-failed : goal.returns-in_err-write_at-clause-failed
returns-in_err-write_at-clause-failed g c =
    let p = err_from_is_err_and c.from_residual.result c.from_residual.ensures.1 in rw (p.1, p.2)
    (λ other. fails_behind (g.F.Files.state c.write_at.new.self) c.args.directory.value c.args.header
    c.search_from.ensures.searches.reads (c.in_err-write_at.ensures.failed other))

pub returns-clause-done : goal.returns-clause-done
returns-clause-done g c is =
    let slot : c.written.result.now ≡ slot_for c.args.header.form c.args.number.value c.args.name.now = cc in
    let long : length c.written.result.now ≡ slot_len c.args.header.form = cc in
    let found : FindsName (g.F.Files.state c.args.files.now) (g.F.Files.state c.search_from.new.files) c.args.directory.value c.args.header
    c.args.name.now c.in-Ok-Some.found = rw c.in-Ok-Some.field-0-is at c.in-Ok-Some.ensures.found in
    repoints c.in-Ok-Some.found (fits_slot c.args.header.form c.args.number.value c.args.number.some c.args.number.few c.requires.name)
    (cc) (search rules) c.search_from.ensures.searches.reads c.write_at.ensures.redrafts found
    (rw (← slot) (rw (← c.slot_len.ensures.value) c.in_ok-write_at.ensures.done))

pub returns-clause-counted : goal.returns-clause-counted
returns-clause-counted g c is =
    counts_searched (g.F.Files.state c.write_at.new.self) c.search_from.ensures.searches.reads c.in_ok-write_at.ensures.counted

pub returns-clause-small : goal.returns-clause-small
returns-clause-small g c is =
    let long : length c.written.result.now ≡ slot_len c.args.header.form = cc in
    grows_behind 1 2 c.search_from.ensures.searches.reads (slot_grows long c.in_ok-write_at.ensures.done)
