use Rattle.lfs_model.proofs.Image
use Rattle.lfs_model.proofs.stands.formatted.Goals as goal

pub returns : goal.returns
returns c = Image.formatted
