use Rattle.lfs_model.proofs.Finishing
use Rattle.lfs_model.proofs.log.finishing.Goals as goal

pub returns : goal.returns
returns c = Finishing.finishing
