use Rattle.lfs_model.proofs.Outgoing
use Rattle.lfs_model.proofs.log.settling.Goals as goal

pub returns : goal.returns
returns c = Outgoing.settling
