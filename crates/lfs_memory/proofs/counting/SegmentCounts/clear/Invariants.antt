use Rattle.std.proofs.Common.{◌≡◌, ◌<◌, ℕ, get_or, length}
use Rattle.lfs_memory.proofs.counting.SegmentCounts.clear.Given as goal

abbrev pub invariant-loop-segment : goal.invariant-loop-segment
invariant-loop-segment l = record {
  long : length l.self-inside.counts.items ≡ 1024;
  zeros : (s : ℕ) → s < l.segment → get_or l.self-inside.counts.items s 0 ≡ 0;
}
