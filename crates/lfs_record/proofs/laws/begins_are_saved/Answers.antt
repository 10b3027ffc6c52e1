use Rattle.lfs_record.proofs.Following.{begins_are_saved}
use Rattle.lfs_record.proofs.laws.begins_are_saved.Goals as goal

pub returns : goal.returns
returns g c = begins_are_saved g.D.SectorDevice.state c.calls_are_kept.ensures
