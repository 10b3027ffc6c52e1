use Rattle.lfs_model.proofs.StepsAre.{step_unique}
use Rattle.lfs_model.proofs.laws.calls_have_one_outcome.Goals as goal

pub returns : goal.returns
returns c N s s' s'' call a b x y = step_unique x y
