use Rattle.std.proofs.Common.{◌<◌, ◌+◌, ◌*◌, ℕ}
use Rattle.lfs_model.specs.Summary.{IsEntryAt}
use Rattle.lfs_layout.proofs.summary.SummaryView.decode.Given as goal

abbrev pub invariant-loop-i : goal.invariant-loop-i
invariant-loop-i l = (k : ℕ) → k < l.i → IsEntryAt (8 + 8 * k) l.sector
