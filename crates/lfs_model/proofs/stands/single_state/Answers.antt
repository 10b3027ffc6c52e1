use Rattle.lfs_model.proofs.Volume
use Rattle.lfs_model.proofs.stands.single_state.Goals as goal

pub returns : goal.returns
returns c = Volume.single_state
