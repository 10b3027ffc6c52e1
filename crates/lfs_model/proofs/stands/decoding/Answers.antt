use Rattle.lfs_model.proofs.Decodes
use Rattle.lfs_model.proofs.stands.decoding.Goals as goal

pub returns : goal.returns
returns c = Decodes.decoding
