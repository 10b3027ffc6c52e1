use Rattle.lfs_fs.proofs.CallRuns.{mounts_are_saved}
use Rattle.lfs_fs.proofs.laws.mounts_are_saved.Goals as goal

pub returns : goal.returns
returns g c = mounts_are_saved g.D.SectorDevice.state
