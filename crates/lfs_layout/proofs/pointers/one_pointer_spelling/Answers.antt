use Rattle.lfs_model.proofs.PointerPlaces.{one_pointers}
use Rattle.lfs_layout.proofs.pointers.one_pointer_spelling.Goals as goal

pub returns : goal.returns
returns c a b p q e = one_pointers a b p q e
