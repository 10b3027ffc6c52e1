use Rattle.std.proofs.Common.{arith}
use Rattle.lfs_memory.proofs.PointerRuns.{ok_for}
use Rattle.lfs_memory.proofs.pointers.read_run.Goals as goal

pub returns-then-index-lt-DIRECT_BLOCKS-clause-from : goal.returns-then-index-lt-DIRECT_BLOCKS-clause-from
returns-then-index-lt-DIRECT_BLOCKS-clause-from g c =
    ok_for c.read_inode_run.result _ 0 112 _ (omega arith) c.if-index-lt-DIRECT_BLOCKS.true c.read_inode_run.ensures.from

pub returns-clause-from : goal.returns-clause-from
returns-clause-from g c =
    ok_for c.read_leaf_run.result _ _ _ _ (omega arith) (omega arith) c.read_leaf_run.ensures.from
