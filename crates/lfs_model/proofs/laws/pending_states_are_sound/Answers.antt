use Rattle.lfs_model.proofs.KeepsAll.{pending_sound}
use Rattle.lfs_model.proofs.laws.pending_states_are_sound.Goals as goal

pub returns : goal.returns
returns c = pending_sound
