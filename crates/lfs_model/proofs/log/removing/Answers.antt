use Rattle.lfs_model.proofs.BlockChanges
use Rattle.lfs_model.proofs.log.removing.Goals as goal

pub returns : goal.returns
returns c = BlockChanges.removing
