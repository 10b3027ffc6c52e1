use Rattle.lfs_log.proofs.Volumes.{holds_one}
use Rattle.lfs_log.proofs.log.Log.holds_one_map.Goals as goal

pub returns : goal.returns
returns g c = holds_one
