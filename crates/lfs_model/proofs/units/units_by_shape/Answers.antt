use Rattle.lfs_model.proofs.UnitsKept.{units_by_shape}
use Rattle.lfs_model.proofs.units.units_by_shape.Goals as goal

pub returns : goal.returns
returns c = units_by_shape
