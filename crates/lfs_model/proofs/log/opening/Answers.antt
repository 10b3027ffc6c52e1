use Rattle.lfs_model.proofs.Segments
use Rattle.lfs_model.proofs.log.opening.Goals as goal

pub returns : goal.returns
returns c = Segments.opening
