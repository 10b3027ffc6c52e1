use Rattle.std.proofs.lemmas.Result.{err_from_is_err_and}
use Rattle.std.proofs.Common.{rules, ◌≡◌, ◌-◌, ◌/◌, arith}
use Rattle.std.proofs.lemmas.Result.{on_ok_weaker}
use Rattle.lfs_files.proofs.FilesCompose.{fault_more, redrafts_more, redrafts_read}
use Rattle.lfs_model.specs.Tree.{slot_len}
use Rattle.lfs_dirs.specs.Directory.{slot_count}
use Rattle.lfs_dirs.specs.Taking.{CountsDropped, DropsSlot}
use Rattle.lfs_dirs.proofs.Takings.{counts_last, drops_and_counts, drops_last, fails_last, slot_read}
use Rattle.lfs_dirs.proofs.Widths.{count_less}
use Rattle.lfs_dirs.proofs.taking.drop_slot.Goals as goal

pub returns-then-place-last-clause-done : goal.returns-then-place-last-clause-done
returns-then-place-last-clause-done g c =
    let value = c.slot_len-slot.ensures.value in
    let less = count_less c.args.header.form c.args.header.size in
    on_ok_weaker c.shrink.result
    (λ shrinks. drops_last c.args.place (omega (arith, rw value at c.if-place-last.true))
    (rw (← value) shrinks))
    c.shrink.ensures.done

pub returns-in-Err-clause-redrafts : goal.returns-in-Err-clause-redrafts
returns-in-Err-clause-redrafts g c =
    redrafts_read c.block.ensures.reads

pub returns-in_err-shrink-clause-redrafts : goal.returns-in_err-shrink-clause-redrafts
returns-in_err-shrink-clause-redrafts g c =
    redrafts_more (g.met.F.Files.lawful c.args.files.now) (redrafts_read c.block.ensures.reads) c.shrink-2.ensures.redrafts

pub returns-in_err-write_at-clause-redrafts : goal.returns-in_err-write_at-clause-redrafts
returns-in_err-write_at-clause-redrafts g c =
    redrafts_more (g.met.F.Files.lawful c.args.files.now) (redrafts_more (g.met.F.Files.lawful c.args.files.now) (redrafts_read
    c.block.ensures.reads) c.shrink-2.ensures.redrafts) c.write_at.ensures.redrafts

pub returns-in_err-shrink-clause-failed : goal.returns-in_err-shrink-clause-failed
returns-in_err-shrink-clause-failed g c =
    let p = err_from_is_err_and c.from_residual.result c.from_residual.ensures.1 in rw (p.1, p.2)
    (λ other. fault_more (g.F.Files.state c.shrink-2.new.self) c.block.ensures.reads (c.in_err-shrink.ensures.failed other))

pub returns-in_err-write_at-clause-failed : goal.returns-in_err-write_at-clause-failed
returns-in_err-write_at-clause-failed g c =
    let p = err_from_is_err_and c.from_residual-in_err-write_at.result c.from_residual-in_err-write_at.ensures.1 in rw (p.1, p.2)
    (λ other. fails_last c.block.ensures.reads c.shrink-2.ensures.redrafts c.write_at.ensures.redrafts c.in_ok-shrink.ensures.done
    (c.in_err-write_at.ensures.failed other))

pub returns : goal.returns
returns g c =
    let value = c.slot_len-slot.ensures.value in
    let other = rw value at c.if-place-last.false in
    let last : (c.args.header.size - slot_len c.args.header.form) / slot_len c.args.header.form ≡ slot_count c.args.header - 1 =
    count_less c.args.header.form c.args.header.size in
    let read = slot_read (g.F.Files.state c.args.files.now) (g.F.Files.state c.block.new.self) c.args.directory.value c.args.header
    ((c.args.header.size - slot_len c.args.header.form) / slot_len c.args.header.form) c.block.new.out
    (rw value at (rw c.slots_in_block-2.ensures.value at c.nth_slot-bytes.ensures.bytes))
    (rw (← value) (rw (← c.slots_in_block.ensures.value) c.in-Ok.ensures.answer)) in
    let old = g.F.Files.state c.args.files.now in
    let new = g.F.Files.state c.write_at.new.self in
    let both : DropsSlot old new c.args.directory.value c.args.header c.args.place × CountsDropped old new c.args.directory.value
    c.args.header =
    drops_and_counts c.args.place (omega arith) c.nth_slot-bytes.ensures.long c.block.ensures.reads c.shrink-2.ensures.redrafts
    c.write_at.ensures.redrafts (rw (← last) read) (rw (← value) c.in_ok-shrink.ensures.done)
    (rw (← value) c.in_ok-write_at.ensures.done) c.requires.size c.in_ok-shrink.ensures.counted c.in_ok-write_at.ensures.counted in
    let lawful = g.met.F.Files.lawful c.args.files.now in
    record {
      redrafts = redrafts_more lawful (redrafts_more lawful (redrafts_read c.block.ensures.reads) c.shrink-2.ensures.redrafts)
          c.write_at.ensures.redrafts;
      done = both.0;
      counted = both.1;
      failed = search rules;
      halted = search rules;
      other = search rules;
    }

pub returns-then-place-last-clause-counted : goal.returns-then-place-last-clause-counted
returns-then-place-last-clause-counted g c =
    on_ok_weaker c.shrink.result (counts_last (g.F.Files.state c.args.files.now) (g.F.Files.state c.shrink.new.self) c.args.directory.value
    c.args.header) c.shrink.ensures.counted
