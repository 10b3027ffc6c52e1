use Rattle.std.proofs.Common.{◌<◌, ◌≤◌, ℕ, get_or}
use Rattle.lfs_memory.specs.Removing.{counted_in}
use Rattle.lfs_memory.proofs.removing.are_covered.Given as goal

abbrev pub invariant-loop-segment : goal.invariant-loop-segment
invariant-loop-segment l = record { before : (s : ℕ) → s < l.segment → get_or l.counts s 0 ≤ counted_in l.usage l.lives s }
