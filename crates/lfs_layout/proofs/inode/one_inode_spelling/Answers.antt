use Rattle.lfs_model.proofs.InodePlaces.{one_inode}
use Rattle.lfs_layout.proofs.inode.one_inode_spelling.Goals as goal

pub returns : goal.returns
returns c a b p q e = one_inode a b p q e
