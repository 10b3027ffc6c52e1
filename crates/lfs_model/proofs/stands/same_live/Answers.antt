use Rattle.lfs_model.proofs.Live
use Rattle.lfs_model.proofs.stands.same_live.Goals as goal

pub returns : goal.returns
returns c = Live.same_live
