use Rattle.lfs_model.proofs.Live
use Rattle.lfs_model.proofs.stands.named_counts.Goals as goal

pub returns : goal.returns
returns c = Live.named_counts
