use Rattle.lfs_dirs.proofs.InTrees.{directory_made, directory_node, directory_widened}
use Rattle.lfs_dirs.proofs.laws.directory_in_tree.Goals as goal

pub returns : goal.returns
returns c = record { node = directory_node; made = directory_made; widened = directory_widened }
