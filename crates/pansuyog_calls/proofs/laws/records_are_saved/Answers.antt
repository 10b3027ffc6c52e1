use Rattle.lfs_volume.specs.Found.{by_volume}
use Rattle.pansuyog_calls.proofs.Sessions.{records_are_saved}
use Rattle.pansuyog_calls.proofs.laws.records_are_saved.Goals as goal

pub returns : goal.returns
returns g c = records_are_saved (by_volume g.D.SectorDevice.state) c.sessions_are_saved.ensures
