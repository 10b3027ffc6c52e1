use Rattle.lfs_model.proofs.DetachedCounts
use Rattle.lfs_model.proofs.log.detached_counts.Goals as goal

pub returns : goal.returns
returns c = DetachedCounts.detached_counts
