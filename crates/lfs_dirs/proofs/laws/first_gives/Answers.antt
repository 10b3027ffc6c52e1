use Rattle.lfs_dirs.proofs.SlotNames.{first_gives}
use Rattle.lfs_dirs.proofs.laws.first_gives.Goals as goal

pub returns : goal.returns
returns c = first_gives
