use Rattle.lfs_path.proofs.TreeLaws.{chain_says, directories_say}
use Rattle.lfs_path.proofs.laws.directories_are_known.Goals as goal

pub returns : goal.returns
returns c = record { all = directories_say; here = chain_says }
