use Rattle.lfs_model.proofs.BlockChanges
use Rattle.lfs_model.proofs.log.rewriting.Goals as goal

pub returns : goal.returns
returns c = BlockChanges.rewriting
