use Rattle.std.proofs.Common.{◌*◌, ℕ, ap, arith, ◌∙◌, refl}
use Rattle.lfs_dirs.specs.Directory.{per_block}
use Rattle.lfs_dirs.proofs.Widths.{block_before, blocks_past, blocks_up}
use Rattle.lfs_verify.proofs.Takes.{looks_none, looks_then}
use Rattle.lfs_tree.proofs.GoodBlocks.{blocks_begin, blocks_end, blocks_fail, blocks_go_on}
use Rattle.lfs_tree.proofs.Seeing.{inode_then, sees_first, sees_then}
use Rattle.lfs_tree.proofs.directories.take_blocks.Goals as goal

pub loop-index-init : goal.loop-index-init
loop-index-init g c =
    let e = c.div_ceil-index.ensures in
    let whole = c.slots_in_block-whole.ensures.value in
    let form = c.args.header.form in
    let times = ap (λ (i : ℕ). per_block form * i) e in
    record {
      low = omega (arith, blocks_up form c.slots_of-slots.result whole);
      looks = looks_none (g.met.D.SectorDevice.lawful c.args.device.now);
      no_failure = refl;
      taken = λ k m sees is base was. blocks_begin m c.args.header c.div_ceil-index.result
          (omega (arith, blocks_past form c.div_ceil-index.result c.slots_of-slots.result whole (omega arith))) was;
    }

pub returns-in-Err-clause-failed : goal.returns-in-Err-clause-failed
returns-in-Err-clause-failed g c same k m sees is =
    let looks = c.loop-index.invariant.looks in
    omega (arith, c.in-Err.ensures.failed k m c.args.directory.value (sees_then sees looks) (inode_then k c.args.directory.value is looks))

pub loop-index-preserved : goal.loop-index-preserved
loop-index-preserved g c =
    let here = c.loop-index.invariant in
    record {
      low = omega (arith, block_before c.args.header.form c.loop-index.index c.loop-index-test.true);
      looks = looks_then here.looks c.in-Ok.ensures.keeps.looks;
      no_failure = c.in-Ok.ensures.keeps.no_failure ∙ here.no_failure;
      taken = λ k m sees own base was.
          blocks_go_on m c.args.header (c.in-Ok.ensures.answer k m c.args.directory.value (sees_then sees here.looks)
          (inode_then k c.args.directory.value own here.looks)) c.slots_of-slots.ensures c.slots_in_block-whole.ensures.value
          c.min-count.ensures c.loop-index-test.true refl here.low c.take_slots.new.names c.take_slots.new.tables
          (here.taken k m (sees_first sees c.in-Ok.ensures.keeps.looks) own base was)
          (rw c.in-Ok-true.field-0-test at c.in-Ok-true.ensures);
    }

pub returns-in-Ok-false-clause-takes : goal.returns-in-Ok-false-clause-takes
returns-in-Ok-false-clause-takes g c k m sees own base was =
    let here = c.loop-index.invariant in
    blocks_fail m c.args.header (c.in-Ok.ensures.answer k m c.args.directory.value (sees_then sees here.looks)
    (inode_then k c.args.directory.value own here.looks)) c.slots_of-slots.ensures c.slots_in_block-whole.ensures.value
    c.min-count.ensures c.loop-index-test.true refl here.low c.take_slots.new.names c.take_slots.new.tables
    (here.taken k m (sees_first sees c.in-Ok.ensures.keeps.looks) own base was)
    (rw c.in-Ok-false.field-0-test at c.in-Ok-false.ensures)

pub returns-clause-takes : goal.returns-clause-takes
returns-clause-takes g c k m sees own base was =
    blocks_end m c.args.header c.loop-index.index (omega arith)
    (c.loop-index.invariant.taken k m sees own base was)
