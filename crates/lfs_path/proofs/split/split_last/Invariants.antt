use Rattle.std.proofs.Common.{length}
use Rattle.lfs_path.proofs.Splits.{SplitsAt}
use Rattle.lfs_path.proofs.split.split_last.Given as goal

abbrev pub invariant-loop-piece : goal.invariant-loop-piece
invariant-loop-piece l = SplitsAt l.path l.rest

abbrev pub decreases-loop-piece : goal.decreases-loop-piece
decreases-loop-piece l = length l.rest
