use Rattle.lfs_model.proofs.Detaching
use Rattle.lfs_model.proofs.log.detaching.Goals as goal

pub returns : goal.returns
returns c = Detaching.detaching
