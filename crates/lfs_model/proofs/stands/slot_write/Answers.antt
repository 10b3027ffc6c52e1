use Rattle.lfs_model.proofs.Crash
use Rattle.lfs_model.proofs.stands.slot_write.Goals as goal

pub returns : goal.returns
returns c = Crash.slot_write
