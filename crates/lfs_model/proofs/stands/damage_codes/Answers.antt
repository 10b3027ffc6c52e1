use Rattle.lfs_model.proofs.Damage
use Rattle.lfs_model.proofs.stands.damage_codes.Goals as goal

pub returns : goal.returns
returns c = Damage.damage_codes
