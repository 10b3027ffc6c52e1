use Rattle.lfs_model.proofs.Encodes
use Rattle.lfs_model.proofs.stands.encoding.Goals as goal

pub returns : goal.returns
returns c = Encodes.encoding
