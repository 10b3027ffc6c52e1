use Rattle.lfs_model.proofs.Damage
use Rattle.lfs_model.proofs.stands.not_damaged.Goals as goal

pub returns : goal.returns
returns c = Damage.not_damaged
