use Rattle.lfs_places.specs.Lawful
use Rattle.lfs_places.proofs.laws.cells_stand.Goals as goal

pub returns : goal.returns
returns c = record { cells = Lawful.cells_stand; sizes = Lawful.sizes_stand }
