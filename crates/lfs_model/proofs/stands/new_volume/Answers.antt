use Rattle.lfs_model.proofs.Volume
use Rattle.lfs_model.proofs.stands.new_volume.Goals as goal

pub returns : goal.returns
returns c = Volume.new_volume
