use Rattle.lfs_record.proofs.Stopping.{lines_are_kept}
use Rattle.lfs_record.proofs.laws.lines_are_kept.Goals as goal

pub returns : goal.returns
returns g c = lines_are_kept g.D.SectorDevice.state
