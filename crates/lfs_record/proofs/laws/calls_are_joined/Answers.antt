use Rattle.lfs_record.proofs.Turning.{calls_joined}
use Rattle.lfs_record.proofs.laws.calls_are_joined.Goals as goal

pub returns : goal.returns
returns g c = calls_joined g.D.SectorDevice.state
