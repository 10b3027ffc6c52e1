use Rattle.lfs_model.proofs.Crash
use Rattle.lfs_model.proofs.stands.single_log.Goals as goal

pub returns : goal.returns
returns c = Crash.single_log
