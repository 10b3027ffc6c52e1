use Rattle.std.proofs.Common.{◌≡◌, ◌<◌, ◌≤◌, ◌+◌, ◌*◌, ℕ, get_or}
use Rattle.lfs_layout.proofs.fields.is_zero_at.Given as goal

abbrev pub invariant-loop-step : goal.invariant-loop-step
invariant-loop-step l = (k : ℕ) → l.at ≤ k → k < l.at + 64 * l.step → get_or l.sector k 0 ≡ 0
