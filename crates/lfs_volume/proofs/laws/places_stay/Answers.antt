use Rattle.lfs_volume.proofs.Staying
use Rattle.lfs_volume.proofs.laws.places_stay.Goals as goal

pub returns : goal.returns
returns c = Staying.places_stay
