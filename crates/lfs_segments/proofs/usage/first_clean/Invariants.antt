use Rattle.std.proofs.Common.{◌≢◌, ◌<◌, ℕ, get_or}
use Rattle.lfs_segments.specs.Table.{no_segment}
use Rattle.lfs_segments.proofs.usage.first_clean.Given as goal

abbrev pub invariant-loop-segment : goal.invariant-loop-segment
invariant-loop-segment l = (s : ℕ) → s < l.segment → (get_or l.states s no_segment).used ≢ 0
