use Rattle.lfs_model.proofs.Live
use Rattle.lfs_model.proofs.stands.chunk_read.Goals as goal

pub returns : goal.returns
returns c = Live.chunk_read
