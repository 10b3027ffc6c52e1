use Rattle.lfs_volume.specs.Found.{by_volume}
use Rattle.lfs_volume.specs.Lawful.{volume_lawful}
use Rattle.pansuyog_calls.proofs.CallsInARow.{calls_are_kept}
use Rattle.pansuyog_calls.proofs.laws.calls_are_kept.Goals as goal

pub returns : goal.returns
returns g c = calls_are_kept (by_volume g.D.SectorDevice.state) (volume_lawful g.D.SectorDevice.state g.met.D.SectorDevice.lawful)
