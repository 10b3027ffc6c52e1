use Rattle.lfs_dirs.proofs.SlotPlaces.{slot_in_block, slots_of_block}
use Rattle.lfs_dirs.proofs.laws.slots_of_block.Goals as goal

pub returns-clause-all : goal.returns-clause-all
returns-clause-all c = slots_of_block

pub returns-clause-one : goal.returns-clause-one
returns-clause-one c = slot_in_block
