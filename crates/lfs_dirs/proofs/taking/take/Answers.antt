use Rattle.std.proofs.lemmas.Result.{err_from_is_err_and}
use Rattle.lfs_files.proofs.FilesCompose.{redrafts_more, redrafts_read}
use Rattle.lfs_dirs.proofs.SlotsReplaced.{fails_behind}
use Rattle.lfs_dirs.proofs.Takings.{counts_behind, takes}
use Rattle.lfs_dirs.proofs.taking.take.Goals as goal

pub returns-in-Ok-None-clause-redrafts : goal.returns-in-Ok-None-clause-redrafts
returns-in-Ok-None-clause-redrafts g c =
    redrafts_read c.search_from.ensures.searches.reads

pub returns-in-Err-clause-redrafts : goal.returns-in-Err-clause-redrafts
returns-in-Err-clause-redrafts g c =
    redrafts_read c.search_from.ensures.searches.reads

pub returns-in_err-drop_slot-clause-redrafts : goal.returns-in_err-drop_slot-clause-redrafts
returns-in_err-drop_slot-clause-redrafts g c =
    redrafts_more (g.met.F.Files.lawful c.args.files.now) (redrafts_read c.search_from.ensures.searches.reads) c.drop_slot.ensures.redrafts

pub returns-clause-redrafts : goal.returns-clause-redrafts
returns-clause-redrafts g c =
    redrafts_more (g.met.F.Files.lawful c.args.files.now) (redrafts_read c.search_from.ensures.searches.reads) c.drop_slot.ensures.redrafts

pub returns-in-Ok-None-clause-none : goal.returns-in-Ok-None-clause-none
returns-in-Ok-None-clause-none g c is = rw c.in-Ok-None.field-0-is at c.in-Ok-None.ensures.none

pub returns-in_err-drop_slot-clause-failed : goal.returns-in_err-drop_slot-clause-failed
returns-in_err-drop_slot-clause-failed g c =
    let p = err_from_is_err_and c.from_residual.result c.from_residual.ensures.1 in rw (p.1, p.2)
    (λ other. fails_behind (g.F.Files.state c.drop_slot.new.files) c.args.directory.value c.args.header
    c.search_from.ensures.searches.reads (c.in_err-drop_slot.ensures.failed other))

pub returns-clause-done : goal.returns-clause-done
returns-clause-done g c is =
    takes c.in-Ok-Some.found c.search_from.ensures.searches.reads c.drop_slot.ensures.redrafts
    (rw c.in-Ok-Some.field-0-is at c.in-Ok-Some.ensures.found)
    c.in_ok-drop_slot.ensures.done

pub returns-clause-counted : goal.returns-clause-counted
returns-clause-counted g c is =
    counts_behind (g.F.Files.state c.drop_slot.new.files) c.args.directory.value c.args.header
    c.search_from.ensures.searches.reads c.in_ok-drop_slot.ensures.counted
