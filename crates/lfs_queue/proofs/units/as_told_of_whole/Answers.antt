use Rattle.lfs_queue.proofs.UnitOrders
use Rattle.lfs_queue.proofs.units.as_told_of_whole.Goals as goal

pub returns : goal.returns
returns g c = UnitOrders.as_told_of_whole (g.D.SectorDevice.state c.args.device.now) (g.met.D.SectorDevice.lawful c.args.device.now)
