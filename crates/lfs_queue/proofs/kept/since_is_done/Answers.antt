use Rattle.lfs_queue.proofs.KeptOrders.{since_is_done}
use Rattle.lfs_queue.proofs.kept.since_is_done.Goals as goal

pub returns : goal.returns
returns c = since_is_done
