use Rattle.lfs_model.proofs.SlotPlaces.{one_slot}
use Rattle.lfs_layout.proofs.slot.one_slot_spelling.Goals as goal

pub returns : goal.returns
returns c form a b p q e = one_slot form a b p q e
