use Rattle.lfs_fs.proofs.CallRuns.{left_is_mounted}
use Rattle.lfs_fs.proofs.laws.left_is_mounted.Goals as goal

pub returns : goal.returns
returns g c = left_is_mounted g.D.SectorDevice.state
