use Rattle.std.proofs.Common.{◌≡◌, ◌<◌, ℕ, get_or}
use Rattle.lfs_verify.specs.Labels.{marked_count}
use Rattle.lfs_verify.proofs.counts.are_counts.Given as goal

abbrev pub invariant-loop-segment : goal.invariant-loop-segment
invariant-loop-segment l = (s : ℕ) → s < l.segment → get_or l.live s 0 ≡ marked_count l.marks s 64
