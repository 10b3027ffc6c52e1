use Rattle.lfs_model.proofs.Live
use Rattle.lfs_model.proofs.stands.one_more_live.Goals as goal

pub returns : goal.returns
returns c = Live.one_more_live
