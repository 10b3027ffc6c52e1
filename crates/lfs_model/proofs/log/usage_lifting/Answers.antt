use Rattle.lfs_model.proofs.Outgoing
use Rattle.lfs_model.proofs.log.usage_lifting.Goals as goal

pub returns : goal.returns
returns c = Outgoing.usage_lifting
