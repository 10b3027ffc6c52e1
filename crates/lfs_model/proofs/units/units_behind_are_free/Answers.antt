use Rattle.lfs_model.proofs.UnitWrites.{aligned_free}
use Rattle.lfs_model.proofs.units.units_behind_are_free.Goals as goal

pub returns : goal.returns
returns c = aligned_free
