use Rattle.lfs_put.proofs.InOrder.{saved}
use Rattle.lfs_put.proofs.changing.upgrade.Goals as goal

pub returns : goal.returns
returns g c = saved _ c.upgrade-upgraded.ensures c.save.ensures
