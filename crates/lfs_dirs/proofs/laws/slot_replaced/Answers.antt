use Rattle.lfs_dirs.proofs.SlotsApart.{slot_replaced}
use Rattle.lfs_dirs.proofs.laws.slot_replaced.Goals as goal

pub returns : goal.returns
returns c = slot_replaced
