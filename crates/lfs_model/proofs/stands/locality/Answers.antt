use Rattle.lfs_model.proofs.Crash
use Rattle.lfs_model.proofs.stands.locality.Goals as goal

pub returns : goal.returns
returns c = Crash.locality
