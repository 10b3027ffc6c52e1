use Rattle.std.proofs.Common.{◌<◌}
use Rattle.lfs_tree.specs.Reaching.{Marked}
use Rattle.lfs_tree.proofs.Climbing.{OnTheWay, left}
use Rattle.lfs_tree.proofs.reached.climb.Given as goal

abbrev pub invariant-loop-marks : goal.invariant-loop-marks
invariant-loop-marks l = record {
  few : l.at < 4096;
  way : Marked l.tables.up l.initial.marks l.start.value → OnTheWay l.tables.up l.initial.marks l.marks l.start.value l.at;
}

abbrev pub decreases-loop-marks : goal.decreases-loop-marks
decreases-loop-marks l = left l.marks
