use Rattle.lfs_record.proofs.Turning.{saved}
use Rattle.lfs_record.proofs.recorder.Recorder.save.Goals as goal

pub returns : goal.returns
returns g c = saved g.D.SectorDevice.state _ _ c.args.self.now c.sync.result c.sync.ensures
