use Rattle.lfs_model.proofs.ObjectBytes.{object_part}
use Rattle.lfs_model.proofs.objects.object_part.Goals as goal

pub returns : goal.returns
returns c = object_part
