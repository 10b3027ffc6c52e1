use Rattle.lfs_model.proofs.Finishing
use Rattle.lfs_model.proofs.log.released_free.Goals as goal

pub returns : goal.returns
returns c = Finishing.released_free
