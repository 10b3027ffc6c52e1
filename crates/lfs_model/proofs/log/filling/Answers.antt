use Rattle.lfs_model.proofs.Outgoing
use Rattle.lfs_model.proofs.log.filling.Goals as goal

pub returns : goal.returns
returns c = Outgoing.filling
