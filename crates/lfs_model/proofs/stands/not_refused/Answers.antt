use Rattle.lfs_model.proofs.Volume
use Rattle.lfs_model.proofs.stands.not_refused.Goals as goal

pub returns : goal.returns
returns c = Volume.not_refused
