use Rattle.lfs_model.proofs.Counting
use Rattle.lfs_model.proofs.log.taken_counts.Goals as goal

pub returns : goal.returns
returns c = Counting.taken_counts
