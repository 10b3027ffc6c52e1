use Rattle.std.proofs.Common.{◌<◌, ℕ}
use Rattle.lfs_verify.specs.Labels.{Agrees}
use Rattle.lfs_verify.proofs.labels.stage_labels.Given as goal

abbrev pub invariant-loop-sector : goal.invariant-loop-sector
invariant-loop-sector l = (i : ℕ) → i < l.sector → Agrees l.marks l.labels i
