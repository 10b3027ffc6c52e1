use Rattle.lfs_dirs.proofs.SlotsAdded.{slot_written}
use Rattle.lfs_dirs.proofs.laws.slot_written.Goals as goal

pub returns : goal.returns
returns c = slot_written
