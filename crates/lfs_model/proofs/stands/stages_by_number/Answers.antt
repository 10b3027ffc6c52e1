use Rattle.lfs_model.proofs.Damage
use Rattle.lfs_model.proofs.stands.stages_by_number.Goals as goal

pub returns : goal.returns
returns c = Damage.stages_by_number
