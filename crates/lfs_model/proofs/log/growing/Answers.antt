use Rattle.lfs_model.proofs.PointerChanges
use Rattle.lfs_model.proofs.log.growing.Goals as goal

pub returns : goal.returns
returns c = PointerChanges.growing
