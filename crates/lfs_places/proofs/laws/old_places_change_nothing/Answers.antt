use Rattle.lfs_places.proofs.OldPlaces
use Rattle.lfs_places.proofs.laws.old_places_change_nothing.Goals as goal

pub returns : goal.returns
returns c = OldPlaces.old_change_nothing
