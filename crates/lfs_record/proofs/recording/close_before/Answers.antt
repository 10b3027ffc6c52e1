use Rattle.lfs_record.proofs.Turning.{closed_none, closed_one}
use Rattle.lfs_record.proofs.recording.close_before.Goals as goal

pub returns-in-Some : goal.returns-in-Some
returns-in-Some g c =
    rw c.in-Some.is (closed_one g.D.SectorDevice.state _ _ c.in-Some.before c.close.result c.close.ensures)

pub returns-in-None : goal.returns-in-None
returns-in-None g c = rw c.in-None.is (closed_none g.D.SectorDevice.state _ tt)
