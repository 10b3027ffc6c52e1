use Rattle.lfs_model.proofs.UnitWrites.{unit_of_one}
use Rattle.lfs_model.proofs.units.unit_of_one.Goals as goal

pub returns : goal.returns
returns c = unit_of_one
