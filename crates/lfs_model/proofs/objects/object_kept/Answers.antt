use Rattle.lfs_model.proofs.ObjectMaps.{object_kept}
use Rattle.lfs_model.proofs.objects.object_kept.Goals as goal

pub returns : goal.returns
returns c = object_kept
