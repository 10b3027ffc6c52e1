use Rattle.lfs_model.proofs.Segments
use Rattle.lfs_model.proofs.log.reopening.Goals as goal

pub returns : goal.returns
returns c = Segments.reopening
