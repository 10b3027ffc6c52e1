use Rattle.lfs_record.proofs.Turning.{turn_stays}
use Rattle.lfs_record.proofs.recorder.Recorder.turn.Goals as goal

pub returns-in-Some : goal.returns-in-Some
returns-in-Some g c = turn_stays g.D.SectorDevice.state _ c.args.self.now c.args.day.now c.in-Some.present c.in-Some.ensures
