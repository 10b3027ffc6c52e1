use Rattle.lfs_dirs.proofs.SlotNames.{slot_appended}
use Rattle.lfs_dirs.proofs.laws.slot_appended.Goals as goal

pub returns : goal.returns
returns c = slot_appended
