use Rattle.lfs_path.proofs.TreeLaws.{tree_maps}
use Rattle.lfs_path.proofs.laws.sound_trees_are_walked.Goals as goal

pub returns : goal.returns
returns c = tree_maps
