-- What a piece of a path is in a directory.
use Rattle.std.specs.Prelude.{◌≡◌, ◌≢◌, ◌<◌, ℕ, Bool, List, ◌∷◌, Some, None}
use Rattle.lfs_model.specs.Stands.{LogMap}
use Rattle.lfs_model.specs.Tree.{File, Dir, Link, Names, Tree, entry}
use Rattle.lfs_model.specs.TreeOf.{object, tree_in}
use Rattle.lfs_model.specs.Walk.{End, Gives, IsLookedUp, Walk, dot, dot_dot}
use Rattle.lfs_files.specs.declared.header.Header.{Header}
use Rattle.lfs_files.specs.Headers.{as_header}
use Rattle.lfs_path.specs.declared.seen.Seen.{Seen}
use Rattle.lfs_path.specs.declared.seen.Seen.TheVariants as seen

-- object n is there; and its inode says this
abbrev pub HasObject : ℕ → LogMap → Type 0
HasObject n m = m.header n ≢ None

abbrev pub HasHeader : ℕ → Header → LogMap → Type 0
HasHeader n head m = m.header n ≡ Some (as_header head)

-- a walk at a piece in directory d ends so, whatever follows
abbrev pub EndsAtPiece : ℕ → List ℕ → Tree → End → Type 0
EndsAtPiece d piece t e = (follow : Bool) (ps : List (List ℕ)) (s : Bool) (k : ℕ) → Walk t follow d (piece ∷ ps) s k e

-- A name is looked up in directory d, and gives object n.
pub record NamesObject (d : ℕ) (name : List ℕ) (n : ℕ) (m : LogMap) : Type 0 where
  pub is_name : IsLookedUp (tree_in m) d name
  pub is_there : entry (tree_in m) d name ≡ Some n

-- the piece is this in directory d
abbrev pub IsSeen : ℕ → List ℕ → Seen → LogMap → Type 0
IsSeen d piece seen.Here m = piece ≡ dot
IsSeen d piece seen.Above m = piece ≡ dot_dot
IsSeen d piece (seen.Directory n) m = (form : ℕ) × (names : Names) × Gives (tree_in m) d piece n.value (Dir form names)
IsSeen d piece (seen.File n) m = (bytes : List ℕ) × Gives (tree_in m) d piece n.value (File bytes)
IsSeen d piece (seen.Symbolic l) m = Gives (tree_in m) d piece l.number.value (Link (object m l.number.value (as_header l.header)))
