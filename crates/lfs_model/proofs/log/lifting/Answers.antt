use Rattle.lfs_model.proofs.Lifting
use Rattle.lfs_model.proofs.log.lifting.Goals as goal

pub returns : goal.returns
returns c = Lifting.lifting
