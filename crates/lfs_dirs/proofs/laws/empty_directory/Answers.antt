use Rattle.lfs_dirs.proofs.SlotsKept.{empty_directory}
use Rattle.lfs_dirs.proofs.laws.empty_directory.Goals as goal

pub returns : goal.returns
returns c = empty_directory
