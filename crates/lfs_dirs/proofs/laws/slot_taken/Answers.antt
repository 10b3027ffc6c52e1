use Rattle.lfs_dirs.proofs.SlotsApart.{last_slot_taken, slot_taken}
use Rattle.lfs_dirs.proofs.laws.slot_taken.Goals as goal

pub returns-clause-last : goal.returns-clause-last
returns-clause-last c = last_slot_taken

pub returns-clause-other : goal.returns-clause-other
returns-clause-other c = slot_taken
