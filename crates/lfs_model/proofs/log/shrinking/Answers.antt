use Rattle.lfs_model.proofs.PointerChanges
use Rattle.lfs_model.proofs.log.shrinking.Goals as goal

pub returns : goal.returns
returns c = PointerChanges.shrinking
