use Rattle.lfs_model.proofs.BlockChanges
use Rattle.lfs_model.proofs.log.adding.Goals as goal

pub returns : goal.returns
returns c = BlockChanges.adding
