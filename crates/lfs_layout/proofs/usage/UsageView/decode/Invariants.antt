use Rattle.std.proofs.Common.{◌<◌, ◌≤◌, ◌*◌, ℕ}
use Rattle.lfs_model.specs.Usage.{IsUse, IsUnused}
use Rattle.lfs_model.specs.Usage.{use_at}
use Rattle.lfs_layout.proofs.usage.UsageView.decode.Given as goal

abbrev pub invariant-loop-i : goal.invariant-loop-i
invariant-loop-i l = record {
  each : (k : ℕ) → k < l.i → IsUse (use_at (8 * k) l.sector);
  past : (k : ℕ) → k < l.i → l.count ≤ k → IsUnused (use_at (8 * k) l.sector);
}
