use Rattle.lfs_put.proofs.InOrder.{saved}
use Rattle.lfs_put.proofs.changing.remove_kind.Goals as goal

pub returns : goal.returns
returns g c = saved _ c.take_away-removed.ensures c.save.ensures
