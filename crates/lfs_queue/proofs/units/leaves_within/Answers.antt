use Rattle.lfs_queue.proofs.UnitOrders.{leaves_within}
use Rattle.lfs_queue.proofs.units.leaves_within.Goals as goal

pub returns : goal.returns
returns c = leaves_within
