use Rattle.lfs_model.proofs.Volume
use Rattle.lfs_model.proofs.stands.state_locality.Goals as goal

pub returns : goal.returns
returns c = Volume.state_locality
