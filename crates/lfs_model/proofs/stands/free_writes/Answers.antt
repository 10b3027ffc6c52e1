use Rattle.lfs_model.proofs.Crash
use Rattle.lfs_model.proofs.stands.free_writes.Goals as goal

pub returns : goal.returns
returns c = Crash.free_writes
