use Rattle.lfs_queue.proofs.KeptOrders.{done_meanwhile}
use Rattle.lfs_queue.proofs.kept.done_meanwhile.Goals as goal

pub returns : goal.returns
returns g c = done_meanwhile (g.D.SectorDevice.state c.args.old.now) (g.D.SectorDevice.state c.args.new.now)
