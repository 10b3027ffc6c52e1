use Rattle.lfs_model.proofs.Reading
use Rattle.lfs_model.proofs.log.reading.Goals as goal

pub returns : goal.returns
returns c = Reading.reading
