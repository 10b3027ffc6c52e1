use Rattle.lfs_model.proofs.Forgetting.{dropped_sound}
use Rattle.lfs_model.proofs.laws.dropping_keeps_states_sound.Goals as goal

pub returns : goal.returns
returns c N s sound = dropped_sound N s sound
