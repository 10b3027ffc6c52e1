-- What is known of trees that are walked, and of the last piece of a path.
use Rattle.std.specs.Prelude.{◌≡◌, ◌≢◌, ◌==◌, ℕ, true, false, List, [], ◌∷◌, Option, Some, None}
use Rattle.std.specs.Ordering.{nat_cmp}
use Rattle.lfs_model.specs.Entry.{Header}
use Rattle.lfs_model.specs.Objects.{IsDirectory, IsHeaderOf}
use Rattle.lfs_model.specs.Sound.{NamesGive, Sound}
use Rattle.lfs_model.specs.Stands.{LogMap}
use Rattle.lfs_model.specs.Tree.{File, Dir, State, Tree, names, is_dir, name_len, name_limit, names_in, node, with_name, with_node, without}
use Rattle.lfs_model.specs.Tree.{without_name}
use Rattle.lfs_model.specs.TreeOf.{AreFormed, IsTree, tree_in}
use Rattle.lfs_model.specs.Step.{last_dots, name, no_last}
use Rattle.lfs_files.specs.declared.header.Header.{Header as HeaderValue}
use Rattle.lfs_files.specs.Headers.{as_header}
use Rattle.lfs_dirs.specs.Directory.{names_at}
use Rattle.lfs_path.specs.declared.last.Last.{Last}
use Rattle.lfs_path.specs.Pieces.{is_dots}
use Rattle.lfs_path.specs.Seeing.{HasHeader}
use Rattle.lfs_path.specs.Trees.{HasTree, InChain, InDirectory, here}
use Rattle.lfs_path.specs.Lasts.{HasLast}

-- what the rows of the calls say of a path's last piece
abbrev pub SaysLast : List ℕ → Option Last → Type 0
SaysLast path None = no_last path ≡ true
SaysLast path (Some l) = (no_last path ≡ false) × (name path ≡ l.name.now) × (last_dots path ≡ is_dots l.name.now)

abbrev pub LastSays : Type 0
LastSays = (path : List ℕ) (last : Option Last) → HasLast path last → SaysLast path last

-- ---- any tree

-- A log map of a sound tree, with what a volume's log map keeps, is one that is walked; and so is one that a mount takes.
pub record TreeMaps : Type 0 where
  pub sound : (N : ℕ) (s : State) (m : LogMap) → Sound N s → s.tree ≡ tree_in m
      → ((n : ℕ) (h : Header) → m.header n ≡ Some h → IsHeaderOf n h) → AreFormed m → HasTree m
  pub mounted : (N : ℕ) (m : LogMap) → IsTree N m → ((n : ℕ) (h : Header) → m.header n ≡ Some h → IsHeaderOf n h)
      → is_dir (node (tree_in m) 1) ≡ true → HasTree m

-- What a directory that is walked is.
pub record DirectorySays (m : LogMap) (d : ℕ) (head : HeaderValue) : Type 0 where
  pub formed : IsDirectory m d (as_header head)
  -- its names are those that its slots give, and as long as its form allows
  pub names : names_in (tree_in m) d ≡ names_at m d head
  pub longest : name_limit (tree_in m) d ≡ name_len head.form

abbrev pub DirectoriesSay : Type 0
DirectoriesSay = (m : LogMap) (d : ℕ) (head : HeaderValue) → InDirectory d m → HasHeader d head m → DirectorySays m d head

-- A walk is at a directory.
abbrev pub ChainSays : Type 0
ChainSays = (m : LogMap) (chain : List ℕ) → InChain chain m → InDirectory (here chain) m
