use Rattle.lfs_memory.proofs.LiftedKeys.{inode_is}
use Rattle.lfs_memory.proofs.lifting.mark.Goals as goal

-- src/lifting.rt:94:1
pub returns-in-Inode-clause-others : goal.returns-in-Inode-clause-others
returns-in-Inode-clause-others c none = absurd (none _ (inode_is _ c.kind.ensures c.in-Inode.is))
