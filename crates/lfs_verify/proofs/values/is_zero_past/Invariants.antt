use Rattle.std.proofs.Common.{◌≡◌, ◌<◌, ◌≤◌, ℕ, get_or}
use Rattle.lfs_verify.proofs.values.is_zero_past.Given as goal

abbrev pub invariant-loop-place : goal.invariant-loop-place
invariant-loop-place l = (j : ℕ) → l.end ≤ j → j < l.place → get_or l.block j 0 ≡ 0
