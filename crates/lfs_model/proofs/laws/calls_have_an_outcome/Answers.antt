use Rattle.lfs_model.proofs.StepsAre.{step_ends}
use Rattle.lfs_model.proofs.laws.calls_have_an_outcome.Goals as goal

pub returns : goal.returns
returns c N s sound call = step_ends N s sound.named call
