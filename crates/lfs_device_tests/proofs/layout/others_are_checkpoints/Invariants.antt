use Rattle.std.proofs.Common.{◌≤◌}
use Rattle.lfs_device_tests.proofs.layout.others_are_checkpoints.Given as goal

abbrev pub invariant-loop-place : goal.invariant-loop-place
invariant-loop-place l = l.count ≤ l.place
