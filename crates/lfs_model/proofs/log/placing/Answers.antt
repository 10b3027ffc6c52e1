use Rattle.lfs_model.proofs.Placing
use Rattle.lfs_model.proofs.log.placing.Goals as goal

pub returns : goal.returns
returns c = Placing.placing
