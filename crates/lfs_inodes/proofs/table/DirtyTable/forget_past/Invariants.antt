use Rattle.std.proofs.Common.{◌≡◌, true, false}
use Rattle.lfs_model.specs.Cutting.{is_past}
use Rattle.lfs_inodes.proofs.Leaving.{LeavesFrom}
use Rattle.lfs_inodes.proofs.table.DirtyTable.forget_past.Given as goal

abbrev pub invariant-loop-at : goal.invariant-loop-at
invariant-loop-at l =
    LeavesFrom l.fn.self l.self (λ x. is_past l.file l.first x ≡ true) (λ x. is_past l.file l.first x ≡ false) l.at

abbrev pub decreases-loop-at : goal.decreases-loop-at
decreases-loop-at l = l.at
