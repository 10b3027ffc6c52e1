use Rattle.lfs_salvage.proofs.Found.{found_first, found_second}
use Rattle.lfs_salvage.proofs.slots.read_slots.Goals as goal

pub returns-clause-first : goal.returns-clause-first
returns-clause-first g c =
    found_first c.read_slot.ensures.carries c.read_slot-2.ensures.carries c.read_slot.ensures.found

pub returns-clause-second : goal.returns-clause-second
returns-clause-second g c =
    found_second c.read_slot.ensures.carries c.read_slot-2.ensures.carries c.read_slot.ensures.content c.read_slot-2.ensures.found
