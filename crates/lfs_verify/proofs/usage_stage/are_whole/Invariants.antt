use Rattle.std.proofs.Common.{◌≡◌, ◌<◌, ◌%◌, ℕ, get_or}
use Rattle.lfs_verify.proofs.usage_stage.are_whole.Given as goal

abbrev pub invariant-loop-segment : goal.invariant-loop-segment
invariant-loop-segment l = (s : ℕ) → s < l.segment → get_or l.used s 0 % l.unit ≡ 0
