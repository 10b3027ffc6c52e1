use Rattle.std.proofs.Common.{◌≡◌, ◌<◌, ℕ}
use Rattle.lfs_model.specs.Entry.{word}
use Rattle.lfs_inodes.proofs.table.has_no_pointer.Given as goal

abbrev pub invariant-loop-place : goal.invariant-loop-place
invariant-loop-place l = (w : ℕ) → w < l.place → word l.block w ≡ 0
