use Rattle.std.proofs.lemmas.Result.{err_from_is_err_and}
use Rattle.std.proofs.Common.{◌*◌, ◌<◌, ◌≤◌, refl, arith, rules}
use Rattle.lfs_files.proofs.FilesCompose.{reads_more}
use Rattle.lfs_dirs.specs.Directory.{per_block, slot_count}
use Rattle.lfs_dirs.specs.Searching.{count_in_nth}
use Rattle.lfs_dirs.proofs.Widenings.{widening_begins, widening_ends, widening_fails, widening_few, widening_goes_on, widening_long}
use Rattle.lfs_dirs.proofs.Widths.{blocks_low, blocks_past}
use Rattle.lfs_dirs.proofs.widening.wide_slots.Goals as goal

pub loop-index-init : goal.loop-index-init
loop-index-init g c = widening_begins c.args.directory.value c.args.header c.new-slots.ensures.items

pub loop-index-preserved : goal.loop-index-preserved
loop-index-preserved g c =
    let low : per_block c.args.header.form * c.loop-index.index < slot_count c.args.header =
    (let less = blocks_low c.args.header.form c.loop-index.index c.slots_of-all.result
    c.slots_in_block-whole.ensures.value (omega arith) in omega arith)
    in
    widening_goes_on c.args.directory.value c.args.header (g.F.Files.state c.widen_nth.new.files)
    (count_in_nth c.args.header c.loop-index.index) refl low c.loop-index.invariant
    (g.met.F.Files.lawful c.args.files.now) c.widen_nth.ensures.gathers.reads c.in_ok-widen_nth.ensures.long c.in_ok-widen_nth.ensures.done

pub returns-in_err-widen_nth-clause-gathers : goal.returns-in_err-widen_nth-clause-gathers
returns-in_err-widen_nth-clause-gathers g c = record {
  reads = reads_more (g.met.F.Files.lawful c.args.files.now) c.loop-index.invariant.reads c.widen_nth.ensures.gathers.reads;
  halted = search rules;
  other = search rules;
}

pub returns-in_err-widen_nth-clause-failed : goal.returns-in_err-widen_nth-clause-failed
returns-in_err-widen_nth-clause-failed g c =
    let p = err_from_is_err_and c.from_residual.result c.from_residual.ensures.1 in rw (p.1, p.2)
    (λ other. let low : per_block c.args.header.form * c.loop-index.index < slot_count c.args.header =
    (let less = blocks_low c.args.header.form c.loop-index.index c.slots_of-all.result
    c.slots_in_block-whole.ensures.value (omega arith) in omega arith)
    in
    widening_fails c.args.directory.value c.args.header (g.F.Files.state c.widen_nth.new.files)
    (count_in_nth c.args.header c.loop-index.index) refl low c.loop-index.invariant (c.in_err-widen_nth.ensures.failed other))

pub returns : goal.returns
returns g c =
    let most = blocks_past c.args.header.form c.loop-index.index c.slots_of-all.result c.slots_in_block-whole.ensures.value (omega arith) in
    let past : slot_count c.args.header ≤ per_block c.args.header.form * c.loop-index.index = omega arith in
    record {
      gathers = search rules;
      long = widening_long c.args.directory.value c.args.header past c.loop-index.invariant;
      few = widening_few c.args.directory.value c.args.header c.requires.size past c.loop-index.invariant;
      answer = widening_ends c.args.directory.value c.args.header past c.loop-index.invariant;
      failed = search rules;
    }
