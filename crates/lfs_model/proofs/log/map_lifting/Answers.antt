use Rattle.lfs_model.proofs.Outgoing
use Rattle.lfs_model.proofs.log.map_lifting.Goals as goal

pub returns : goal.returns
returns c = Outgoing.map_lifting
