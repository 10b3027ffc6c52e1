use Rattle.lfs_model.proofs.StepsAre.{walk_ends}
use Rattle.lfs_model.proofs.laws.walks_have_one_end.Goals as goal

pub returns : goal.returns
returns c N s sound follow d ps slash k few = walk_ends s.tree follow sound.named d ps slash k few
