use Rattle.lfs_places.specs.Lawful
use Rattle.lfs_places.proofs.laws.places_lead_back.Goals as goal

pub returns : goal.returns
returns c = Lawful.places_lead_back
