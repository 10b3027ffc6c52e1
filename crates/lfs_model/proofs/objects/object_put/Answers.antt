use Rattle.lfs_model.proofs.ObjectTrees.{object_put}
use Rattle.lfs_model.proofs.objects.object_put.Goals as goal

pub returns : goal.returns
returns c = object_put
