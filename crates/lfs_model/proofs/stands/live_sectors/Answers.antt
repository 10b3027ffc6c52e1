use Rattle.lfs_model.proofs.Live
use Rattle.lfs_model.proofs.stands.live_sectors.Goals as goal

pub returns : goal.returns
returns c = Live.live_sectors
