use Rattle.lfs_queue.proofs.UnitOrders.{leaves_of_one}
use Rattle.lfs_queue.proofs.units.leaves_of_one.Goals as goal

pub returns : goal.returns
returns c = leaves_of_one
