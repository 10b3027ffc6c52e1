use Rattle.lfs_fs.specs.Seen.{seen}
use Rattle.lfs_record.proofs.Recorded.{SoFar}
use Rattle.lfs_record.proofs.recorder.Recorder.create.Given as goal

abbrev pub invariant-loop : goal.invariant-loop
invariant-loop g l = SoFar g.D.SectorDevice.state (seen l.initial.fs) (seen l.fs) l.self
