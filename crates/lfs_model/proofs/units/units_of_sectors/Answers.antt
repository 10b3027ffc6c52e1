use Rattle.lfs_model.proofs.UnitsKept.{units_of_sectors}
use Rattle.lfs_model.proofs.units.units_of_sectors.Goals as goal

pub returns : goal.returns
returns c = units_of_sectors
