use Rattle.lfs_model.proofs.Segments
use Rattle.lfs_model.proofs.log.releasing.Goals as goal

pub returns : goal.returns
returns c = Segments.releasing
