use Rattle.lfs_model.proofs.Standing
use Rattle.lfs_model.proofs.stands.standing_is_sound.Goals as goal

pub returns : goal.returns
returns c = Standing.standing_is_sound
