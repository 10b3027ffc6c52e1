use Rattle.lfs_volume.specs.Found.{by_volume}
use Rattle.lfs_record.proofs.Turning.{closed_none, closed_one}
use Rattle.pansuyog_calls.proofs.recording.close_present.Goals as goal

pub returns-in-Some : goal.returns-in-Some
returns-in-Some g c =
    rw (← c.present_of.ensures, c.in-Some.is)
    (closed_one (by_volume g.D.SectorDevice.state) _ _ c.in-Some.present c.close.result c.close.ensures)

pub returns-in-None : goal.returns-in-None
returns-in-None g c = rw (← c.present_of.ensures, c.in-None.is) (closed_none (by_volume g.D.SectorDevice.state) _ tt)
