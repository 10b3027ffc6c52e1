use Rattle.lfs_model.proofs.Counting
use Rattle.lfs_model.proofs.log.one_more_counted.Goals as goal

pub returns : goal.returns
returns c = Counting.one_more_counted
