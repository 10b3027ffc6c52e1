use Rattle.lfs_queue.proofs.KeptOrders.{done_is_on}
use Rattle.lfs_queue.proofs.kept.done_is_on.Goals as goal

pub returns : goal.returns
returns g c = done_is_on (g.D.SectorDevice.state c.args.device.now)
