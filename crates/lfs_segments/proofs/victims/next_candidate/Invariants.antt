use Rattle.std.proofs.Common.{◌≡◌, length}
use Rattle.lfs_segments.specs.Choosing.{Leads}
use Rattle.lfs_segments.proofs.victims.next_candidate.Given as goal

abbrev pub invariant-loop-segment : goal.invariant-loop-segment
invariant-loop-segment l = Leads l.usage l.preference l.last l.segment l.next × (l.segment-end ≡ length l.usage.segments)
