use Rattle.lfs_record.proofs.Saved.{lines_are_saved}
use Rattle.lfs_record.proofs.laws.lines_are_saved.Goals as goal

pub returns : goal.returns
returns g c = lines_are_saved g.D.SectorDevice.state c.calls_are_kept.ensures
