use Rattle.lfs_model.proofs.ObjectTrees.{node_of_header}
use Rattle.lfs_model.proofs.objects.node_of_header.Goals as goal

pub returns : goal.returns
returns c = node_of_header
