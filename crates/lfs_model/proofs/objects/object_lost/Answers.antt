use Rattle.lfs_model.proofs.ObjectMaps.{object_lost}
use Rattle.lfs_model.proofs.objects.object_lost.Goals as goal

pub returns : goal.returns
returns c = object_lost
