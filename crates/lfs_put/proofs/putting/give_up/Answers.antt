use Rattle.std.proofs.Common.{refl}
use Rattle.lfs_put.proofs.putting.give_up.Goals as goal

pub returns : goal.returns
returns g c = (_, _, (_, c.unlink.ensures, (_, c.sync.ensures, refl)))
