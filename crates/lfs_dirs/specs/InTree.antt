-- A directory in the tree, and what changes of its names make of the tree.
use Rattle.std.specs.Prelude.{◌≡◌, ◌≤◌, ℕ, List, [], Some}
use Rattle.std.specs.FinMap.{put}
use Rattle.lfs_model.specs.declared.Kind.TheVariants as kind
use Rattle.lfs_model.specs.declared.limits.TheConstants.{LAST_NUMBER}
use Rattle.lfs_model.specs.Objects.{IsChangedAt}
use Rattle.lfs_model.specs.Stands.{LogMap}
use Rattle.lfs_model.specs.Step.{widened}
use Rattle.lfs_model.specs.Tree.{Dir, byte_cmp, node, with_name, with_node, without, without_name}
use Rattle.lfs_model.specs.TreeOf.{tree_in}
use Rattle.lfs_files.specs.declared.header.Header.{Header}
use Rattle.lfs_files.specs.Headers.{as_header}
use Rattle.lfs_dirs.specs.Directory.{names_at}
use Rattle.lfs_dirs.specs.Widening.{wide}

-- Object d is a directory of this header.
pub record HasDirectory (m : LogMap) (d : ℕ) (head : Header) : Type 0 where
  pub number : (1 ≤ d) × (d ≤ LAST_NUMBER)
  pub header : m.header d ≡ Some (as_header head)
  pub kind : head.kind ≡ kind.Directory

-- Its node has the names that its slots give.
abbrev pub DirectoryNode : Type 0
DirectoryNode = (m : LogMap) (d : ℕ) (head : Header) → HasDirectory m d head → node (tree_in m) d ≡ Some (Dir head.form (names_at m d head))

-- Only directory d changes.
pub record ChangesDirectory (m m' : LogMap) (d : ℕ) (head head' : Header) : Type 0 where
  pub only : IsChangedAt m d m'
  pub before : HasDirectory m d head
  pub after : HasDirectory m' d head'
  pub form : head'.form ≡ head.form

-- With a name that it has, or comes to have, giving another number, so has the tree;
abbrev pub NameInTree : Type 0
NameInTree = (m m' : LogMap) (d : ℕ) (head head' : Header) (name : List ℕ) (n : ℕ) → ChangesDirectory m m' d head head'
    → names_at m' d head' ≡ put byte_cmp name n (names_at m d head) → tree_in m' ≡ with_name (tree_in m) d name n

-- and without a name, the tree is without it.
abbrev pub NameOffTree : Type 0
NameOffTree = (m m' : LogMap) (d : ℕ) (head head' : Header) (name : List ℕ) → ChangesDirectory m m' d head head'
    → names_at m' d head' ≡ without byte_cmp name (names_at m d head) → tree_in m' ≡ without_name (tree_in m) d name

-- With form 1 and the names that it had, the tree is what widen makes of it.
abbrev pub DirectoryWidened : Type 0
DirectoryWidened = (m m' : LogMap) (d : ℕ) (head : Header) → IsChangedAt m d m' → HasDirectory m d head → HasDirectory m' d (wide head)
    → names_at m' d (wide head) ≡ names_at m d head → tree_in m' ≡ widened (tree_in m) d

-- A number that had no object and has an empty directory now: so has the tree.
abbrev pub DirectoryMade : Type 0
DirectoryMade = (m m' : LogMap) (d : ℕ) (head : Header) → IsChangedAt m d m' → HasDirectory m' d head → head.size ≡ 0
    → tree_in m' ≡ with_node (tree_in m) d (Dir head.form [])
