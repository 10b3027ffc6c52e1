use Rattle.lfs_model.proofs.KeepsAll.{line_run_keeps}
use Rattle.lfs_model.proofs.laws.scripts_keep_states_sound.Goals as goal

pub returns : goal.returns
returns c = line_run_keeps
