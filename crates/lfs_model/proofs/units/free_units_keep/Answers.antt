use Rattle.lfs_model.proofs.UnitWrites.{free_unit_writes}
use Rattle.lfs_model.proofs.units.free_units_keep.Goals as goal

pub returns : goal.returns
returns c = free_unit_writes
