use Rattle.lfs_model.proofs.ObjectTrees.{object_taken}
use Rattle.lfs_model.proofs.objects.object_taken.Goals as goal

pub returns : goal.returns
returns c = object_taken
