use Rattle.lfs_inodes.proofs.Codes.{code_below}
use Rattle.lfs_inodes.proofs.laws.parents_come_later.Goals as goal

pub returns : goal.returns
returns c = code_below
