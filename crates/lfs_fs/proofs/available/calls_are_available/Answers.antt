use Rattle.lfs_fs.proofs.Bearing.{calls_are_available}
use Rattle.lfs_fs.proofs.available.calls_are_available.Goals as goal

pub returns : goal.returns
returns g c = calls_are_available g.D.SectorDevice.state
