use Rattle.std.proofs.Common.{◌≡◌, ◌<◌, ◌⊎◌, ℕ, Some, get_or}
use Rattle.lfs_model.specs.Usage.{no_use}
use Rattle.lfs_show.specs.Steady.{StaysUsed}
use Rattle.lfs_show.proofs.steadiness.are_still_used.Given as goal

abbrev pub invariant-loop-segment : goal.invariant-loop-segment
invariant-loop-segment l =
    (s : ℕ) → s < l.segment
    → (l.appended ≡ Some s) ⊎ StaysUsed (get_or l.own s no_use) (get_or l.now s no_use)
