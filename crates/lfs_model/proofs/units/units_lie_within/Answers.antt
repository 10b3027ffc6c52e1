use Rattle.lfs_model.proofs.UnitWrites.{units_within}
use Rattle.lfs_model.proofs.units.units_lie_within.Goals as goal

pub returns : goal.returns
returns c = units_within
