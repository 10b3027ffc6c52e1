use Rattle.lfs_dirs.proofs.SlotsGive.{slot_gives}
use Rattle.lfs_dirs.proofs.laws.slot_gives.Goals as goal

pub returns : goal.returns
returns c = slot_gives
