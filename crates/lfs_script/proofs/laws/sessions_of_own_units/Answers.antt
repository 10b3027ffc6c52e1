use Rattle.lfs_script.proofs.OwnUnits.{own_units}
use Rattle.lfs_script.proofs.laws.sessions_of_own_units.Goals as goal

pub returns : goal.returns
returns c = own_units
