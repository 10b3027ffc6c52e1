use Rattle.lfs_fs.proofs.Bearing.{syncs_are_done}
use Rattle.lfs_fs.proofs.available.syncs_are_done.Goals as goal

pub returns : goal.returns
returns g c = syncs_are_done g.D.SectorDevice.state
