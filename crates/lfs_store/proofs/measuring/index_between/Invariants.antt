use Rattle.std.proofs.Common.{◌≤◌, length, drop}
use Rattle.std.specs.List.{AllByRecursion}
use Rattle.lfs_store.specs.Measuring.{IsOff}
use Rattle.lfs_store.proofs.measuring.index_between.Given as goal

abbrev pub invariant-loop-place : goal.invariant-loop-place
invariant-loop-place l = (l.place ≤ length l.edits) × AllByRecursion (IsOff l.number l.from l.to) (drop l.place l.edits)

abbrev pub decreases-loop-place : goal.decreases-loop-place
decreases-loop-place l = l.place
