use Rattle.lfs_model.proofs.ObjectTrees.{links_apart}
use Rattle.lfs_model.proofs.objects.links_apart.Goals as goal

pub returns : goal.returns
returns c = links_apart
