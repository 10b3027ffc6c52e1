use Rattle.lfs_model.proofs.ObjectNeeds.{object_costs, directory_blocks}
use Rattle.lfs_model.proofs.ObjectTrees.{costs_in_tree}
use Rattle.lfs_model.proofs.objects.object_costs.Goals as goal

pub returns-clause-costs : goal.returns-clause-costs
returns-clause-costs c = object_costs

pub returns-clause-in_tree : goal.returns-clause-in_tree
returns-clause-in_tree c = costs_in_tree

pub returns-clause-directory : goal.returns-clause-directory
returns-clause-directory c = directory_blocks
