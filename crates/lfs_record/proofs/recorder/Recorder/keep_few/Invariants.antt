use Rattle.std.proofs.Common.{◌<◌}
use Rattle.lfs_fs.specs.Seen.{seen}
use Rattle.lfs_record.proofs.Recorded.{Dropped}
use Rattle.lfs_record.proofs.recorder.Recorder.keep_few.Given as goal

abbrev pub invariant-loop-round : goal.invariant-loop-round
invariant-loop-round g l = (0 < l.self.files) × Dropped g.D.SectorDevice.state (seen l.initial.fs) (seen l.fs) l.self l._round
