use Rattle.lfs_model.proofs.Counting
use Rattle.lfs_model.proofs.log.moved_counts.Goals as goal

pub returns : goal.returns
returns c = Counting.moved_counts
