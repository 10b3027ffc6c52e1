use Rattle.std.proofs.lemmas.Result.{err_from_is_err_and}
use Rattle.std.proofs.Common.{rules, ◌≡◌, ◌*◌}
use Rattle.lfs_model.specs.Tree.{slot_len}
use Rattle.lfs_files.proofs.FilesCompose.{redrafts_more, redrafts_read}
use Rattle.lfs_dirs.specs.Directory.{slot_count}
use Rattle.lfs_dirs.proofs.WideDrafts.{counts_empty, counts_written, fails_written, widens_empty, widens_written}
use Rattle.lfs_dirs.proofs.widening.widen.Goals as goal

pub returns-in_err-slots-clause-redrafts : goal.returns-in_err-slots-clause-redrafts
returns-in_err-slots-clause-redrafts g c =
    redrafts_read c.wide_slots.ensures.gathers.reads

pub returns-in_err-reform-clause-redrafts : goal.returns-in_err-reform-clause-redrafts
returns-in_err-reform-clause-redrafts g c =
    redrafts_more (g.met.F.Files.lawful c.args.files.now) (redrafts_read c.wide_slots.ensures.gathers.reads) c.reform.ensures.redrafts

pub returns-in_err-write_at-clause-redrafts : goal.returns-in_err-write_at-clause-redrafts
returns-in_err-write_at-clause-redrafts g c =
    redrafts_more (g.met.F.Files.lawful c.args.files.now) (redrafts_more (g.met.F.Files.lawful c.args.files.now)
    (redrafts_read c.wide_slots.ensures.gathers.reads) c.reform.ensures.redrafts) c.write_at.ensures.redrafts

pub returns-then-is_empty : goal.returns-then-is_empty
returns-then-is_empty g c =
    let reads = c.wide_slots.ensures.gathers.reads in
    let told = c.in_ok-slots.ensures.answer in
    let long = c.in_ok-slots.ensures.long in
    let size : c.len-size.result ≡ slot_len 1 * slot_count c.args.header = search rules in
    let reforms = rw size at c.in_ok-reform.ensures.done in
    record {
      redrafts = redrafts_more (g.met.F.Files.lawful c.args.files.now) (redrafts_read reads) c.reform.ensures.redrafts;
      done = widens_empty reads told long c.requires.size c.reform.ensures.redrafts reforms (search rules);
      counted = counts_empty reads told long c.requires.size c.reform.ensures.redrafts reforms c.in_ok-reform.ensures.counted;
      failed = search rules;
      halted = search rules;
      other = search rules;
    }

pub returns : goal.returns
returns g c =
    let reads = c.wide_slots.ensures.gathers.reads in
    let told = c.in_ok-slots.ensures.answer in
    let long = c.in_ok-slots.ensures.long in
    let size : c.len-size.result ≡ slot_len 1 * slot_count c.args.header = search rules in
    let bytes : c.as_slice.result.now ≡ c.in_ok-slots.slots.items = search rules in
    let reforms = rw size at c.in_ok-reform.ensures.done in
    let writes = rw bytes at (rw size at c.in_ok-write_at.ensures.done) in
    let first = c.reform.ensures.redrafts in
    let last = c.write_at.ensures.redrafts in
    let lawful = g.met.F.Files.lawful c.args.files.now in
    record {
      redrafts = redrafts_more lawful (redrafts_more lawful (redrafts_read reads) first) last;
      done = widens_written reads told long c.requires.size first reforms last writes
          (λ lone. c.in_ok-write_at.ensures.asked (rw bytes lone));
      counted = counts_written reads told long c.requires.size first reforms last writes c.in_ok-reform.ensures.counted
          c.in_ok-write_at.ensures.counted;
      failed = search rules;
      halted = search rules;
      other = search rules;
    }

pub returns-in_err-reform-clause-failed : goal.returns-in_err-reform-clause-failed
returns-in_err-reform-clause-failed g c =
    let p = err_from_is_err_and c.from_residual-in_err-reform.result c.from_residual-in_err-reform.ensures.1 in rw (p.1, p.2)
    (λ other. absurd (other c.in_err-reform.ensures.failed))

pub returns-in_err-write_at-clause-failed : goal.returns-in_err-write_at-clause-failed
returns-in_err-write_at-clause-failed g c =
    let p = err_from_is_err_and c.from_residual-in_err-write_at.result c.from_residual-in_err-write_at.ensures.1 in rw (p.1, p.2)
    (λ other. let size : c.len-size.result ≡ slot_len 1 * slot_count c.args.header = search rules in
    let reforms = rw size at c.in_ok-reform.ensures.done in
    fails_written c.wide_slots.ensures.gathers.reads c.in_ok-slots.ensures.answer c.in_ok-slots.ensures.long c.requires.size
    c.reform.ensures.redrafts reforms (g.F.Files.state c.write_at.new.self) (c.in_err-write_at.ensures.failed other))
