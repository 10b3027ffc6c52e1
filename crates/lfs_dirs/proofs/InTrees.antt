-- Directories in the tree, and what changes of their names make of it.
use Rattle.std.proofs.Common.{◌≡◌, ℕ, []}
use Rattle.std.specs.Prelude.{unwrap_or}
use Rattle.std.specs.FinMap.{put}
use Rattle.lfs_model.specs.Stands.{LogMap}
use Rattle.lfs_model.specs.Tree.{File, Dir, Names, byte_cmp, form_of, names_of, node, with_node, without}
use Rattle.lfs_model.specs.TreeOf.{tree_in}
use Rattle.lfs_model.proofs.ObjectTrees.{node_of_header, tree_with}
use Rattle.lfs_files.specs.declared.header.Header.{Header}
use Rattle.lfs_dirs.specs.Directory.{names_at}
use Rattle.lfs_dirs.specs.InTree.{ChangesDirectory, DirectoryMade, DirectoryNode, DirectoryWidened, NameInTree, NameOffTree}
use Rattle.lfs_dirs.specs.Widening.{wide}
use Rattle.lfs_dirs.proofs.SlotsKept.{empty_directory}

pub directory_node : DirectoryNode
directory_node m d head is = cc (node_of_header m d is.number.0 is.number.1)

-- the directory that a change of its names makes of the tree's
module _ (m m' : LogMap) (d : ℕ) {head head' : Header} (is : ChangesDirectory m m' d head head') (change : Names → Names) where
  changed_tree : names_at m' d head' ≡ change (names_at m d head) → tree_in m'
      ≡ with_node (tree_in m) d (Dir (form_of (node (tree_in m) d)) (change (names_of (unwrap_or (node (tree_in m) d) (File [])))))
  changed_tree names =
      cc (tree_with m m' d is.only (directory_node m' d head' is.after), directory_node m d head is.before)

pub name_in_tree : NameInTree
name_in_tree m m' d head head' name n is names = changed_tree m m' d is (put byte_cmp name n) names

pub name_off_tree : NameOffTree
name_off_tree m m' d head head' name is names = changed_tree m m' d is (without byte_cmp name) names

pub directory_widened : DirectoryWidened
directory_widened m m' d head only before after names =
    cc (tree_with m m' d only (directory_node m' d (wide head) after), directory_node m d head before)

pub directory_made : DirectoryMade
directory_made m m' d head only is empty =
    cc (tree_with m m' d only (directory_node m' d head is), (empty_directory m' d head empty).1)
