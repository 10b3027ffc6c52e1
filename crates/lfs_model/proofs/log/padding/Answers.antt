use Rattle.lfs_model.proofs.Padding
use Rattle.lfs_model.proofs.log.padding.Goals as goal

pub returns : goal.returns
returns c = Padding.padding
