use Rattle.lfs_model.proofs.Damage
use Rattle.lfs_model.proofs.stands.one_damage.Goals as goal

pub returns : goal.returns
returns c = Damage.one_damage
