use Rattle.lfs_model.proofs.Fresh.{fresh_sound}
use Rattle.lfs_model.proofs.laws.new_volumes_are_sound.Goals as goal

pub returns : goal.returns
returns c N h = fresh_sound N h
