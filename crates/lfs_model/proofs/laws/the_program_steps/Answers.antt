use Rattle.lfs_model.proofs.StepsAre.{run_to_steps}
use Rattle.lfs_model.proofs.laws.the_program_steps.Goals as goal

pub returns : goal.returns
returns c N s calls r is = run_to_steps N s calls r is
