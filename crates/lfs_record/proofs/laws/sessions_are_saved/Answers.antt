use Rattle.lfs_record.proofs.Following.{sessions_are_saved}
use Rattle.lfs_record.proofs.laws.sessions_are_saved.Goals as goal

pub returns : goal.returns
returns g c = sessions_are_saved g.D.SectorDevice.state c.calls_are_kept.ensures
