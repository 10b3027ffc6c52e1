use Rattle.std.proofs.Common.{rules}
use Rattle.lfs_memory.proofs.Applied.{blocks_then}
use Rattle.lfs_memory.proofs.applying.apply_blocks.Goals as goal

pub loop-edit-preserved : goal.loop-edit-preserved
loop-edit-preserved c =
    blocks_then c.edit-item.result c.loop-edit-test.true
    (search rules) c.loop-edit.invariant _ c.in_ok-apply_block.ensures.done
