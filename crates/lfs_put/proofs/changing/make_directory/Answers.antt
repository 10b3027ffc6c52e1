use Rattle.lfs_put.proofs.InOrder.{saved}
use Rattle.lfs_put.proofs.changing.make_directory.Goals as goal

pub returns : goal.returns
returns g c = saved _ c.mkdir-made.ensures c.save.ensures
