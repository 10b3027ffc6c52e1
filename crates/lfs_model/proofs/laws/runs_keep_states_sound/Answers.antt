use Rattle.lfs_model.proofs.KeepsAll.{run_keeps}
use Rattle.lfs_model.proofs.laws.runs_keep_states_sound.Goals as goal

pub returns : goal.returns
returns c = run_keeps
