use Rattle.std.proofs.Common.{◌<◌, ℕ}
use Rattle.lfs_inodes.proofs.Empties.{LeadsAt}
use Rattle.lfs_inodes.proofs.table.DirtyTable.first_empty.Given as goal

abbrev pub invariant-loop-at : goal.invariant-loop-at
invariant-loop-at l = (j : ℕ) → j < l.at → LeadsAt l.self j
