use Rattle.lfs_model.proofs.Mounting
use Rattle.lfs_model.proofs.log.mounting.Goals as goal

pub returns : goal.returns
returns c = Mounting.mounting
