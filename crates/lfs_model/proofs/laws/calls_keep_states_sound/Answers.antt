use Rattle.lfs_model.proofs.KeepsAll.{call_keeps}
use Rattle.lfs_model.proofs.laws.calls_keep_states_sound.Goals as goal

pub returns : goal.returns
returns c = call_keeps
