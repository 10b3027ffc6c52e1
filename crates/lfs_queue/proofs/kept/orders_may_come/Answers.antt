use Rattle.lfs_queue.proofs.KeptOrders.{orders_may_come}
use Rattle.lfs_queue.proofs.kept.orders_may_come.Goals as goal

pub returns : goal.returns
returns c = orders_may_come
