use Rattle.lfs_dirs.proofs.SlotPlaces.{names_many}
use Rattle.lfs_dirs.proofs.laws.names_many.Goals as goal

pub returns : goal.returns
returns c = names_many
