use Rattle.std.proofs.Common.{◌≡◌, Some}
use Rattle.lfs_model.specs.Memory.{file_of}
use Rattle.lfs_inodes.proofs.Leaving.{LeavesFrom}
use Rattle.lfs_inodes.proofs.table.DirtyTable.forget.Given as goal

abbrev pub invariant-loop-at : goal.invariant-loop-at
invariant-loop-at l = LeavesFrom l.fn.self l.self (λ x. file_of x ≡ Some l.file) (λ x. file_of x ≡ Some l.file → ⊥) l.at

abbrev pub decreases-loop-at : goal.decreases-loop-at
decreases-loop-at l = l.at
