use Rattle.lfs_model.proofs.ObjectTrees.{blocks_of_change, need_of_object}
use Rattle.lfs_model.proofs.objects.blocks_of_change.Goals as goal

pub returns-clause-blocks : goal.returns-clause-blocks
returns-clause-blocks c = blocks_of_change

pub returns-clause-need : goal.returns-clause-need
returns-clause-need c = need_of_object
