use Rattle.lfs_dirs.proofs.InTrees.{name_in_tree, name_off_tree}
use Rattle.lfs_dirs.proofs.laws.name_in_tree.Goals as goal

pub returns : goal.returns
returns c = record { more = name_in_tree; less = name_off_tree }
