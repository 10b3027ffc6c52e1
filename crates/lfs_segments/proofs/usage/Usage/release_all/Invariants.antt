use Rattle.std.proofs.Common.{◌≡◌, length}
use Rattle.lfs_segments.proofs.Steps.{ReleasedTo}
use Rattle.lfs_segments.proofs.usage.Usage.release_all.Given as goal

abbrev pub invariant-loop-segment : goal.invariant-loop-segment
invariant-loop-segment l = ReleasedTo l.fn.self l.self l.segment × (l.segment-end ≡ length l.fn.self.segments)
