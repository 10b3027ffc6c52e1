use Rattle.lfs_salvage.proofs.Found.{found_none}
use Rattle.lfs_salvage.proofs.slots.read_slot.Goals as goal

pub returns-in-None-clause-found : goal.returns-in-None-clause-found
returns-in-None-clause-found g c = found_none c.in-None.ensures.none
