use Rattle.lfs_put.proofs.InOrder.{saved}
use Rattle.lfs_put.proofs.changing.clean.Goals as goal

pub returns : goal.returns
returns g c = saved _ c.clean-cleaned.ensures.serves c.save.ensures
