use Rattle.lfs_model.proofs.ObjectBytes.{object_bytes}
use Rattle.lfs_model.proofs.objects.object_bytes.Goals as goal

pub returns : goal.returns
returns c = object_bytes
