use Rattle.lfs_model.proofs.Counting
use Rattle.lfs_model.proofs.log.unplaced_counts.Goals as goal

pub returns : goal.returns
returns c = Counting.unplaced_counts
