use Rattle.lfs_put.proofs.InOrder.{saved}
use Rattle.lfs_put.proofs.changing.rename.Goals as goal

pub returns : goal.returns
returns g c = saved _ c.rename-renamed.ensures c.save.ensures
