use Rattle.lfs_model.proofs.Live
use Rattle.lfs_model.proofs.stands.placed_counts.Goals as goal

pub returns : goal.returns
returns c = Live.placed_counts
