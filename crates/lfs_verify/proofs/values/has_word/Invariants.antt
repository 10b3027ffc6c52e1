use Rattle.std.proofs.Common.{◌≡◌, ◌<◌, ℕ}
use Rattle.lfs_model.specs.Entry.{word}
use Rattle.lfs_verify.proofs.values.has_word.Given as goal

abbrev pub invariant-loop-place : goal.invariant-loop-place
invariant-loop-place l = (j : ℕ) → j < l.place → word l.block j ≡ 0
