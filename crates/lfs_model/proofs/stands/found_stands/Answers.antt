use Rattle.lfs_model.proofs.Volume
use Rattle.lfs_model.proofs.stands.found_stands.Goals as goal

pub returns : goal.returns
returns c = Volume.found_stands
