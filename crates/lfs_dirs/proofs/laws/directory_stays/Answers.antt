use Rattle.lfs_dirs.proofs.SlotsKept.{directory_stays, slots_stay}
use Rattle.lfs_dirs.proofs.laws.directory_stays.Goals as goal

pub returns-clause-slots : goal.returns-clause-slots
returns-clause-slots c = slots_stay

pub returns-clause-names : goal.returns-clause-names
returns-clause-names c = directory_stays
