use Rattle.lfs_volume.specs.Found.{by_volume}
use Rattle.pansuyog_calls.proofs.CallsInARow.{mounts_are_saved}
use Rattle.pansuyog_calls.proofs.laws.mounts_are_saved.Goals as goal

pub returns : goal.returns
returns g c = mounts_are_saved (by_volume g.D.SectorDevice.state)
