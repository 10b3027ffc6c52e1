-- Where the walk of a text stops.
use Rattle.std.specs.Prelude.{◌≡◌, ◌<◌, ◌||◌, nat_lt, ℕ, Bool, true, false, List, ◌∷◌, length, Option, Some, None, Result, Ok, Err}
use Rattle.lfs_model.specs.PathText.{comps, slash, from_root}
use Rattle.lfs_model.specs.Stands.{LogMap}
use Rattle.lfs_model.specs.Tree.{File, Link, Tree}
use Rattle.lfs_model.specs.TreeOf.{tree_in}
use Rattle.lfs_model.specs.Walk.{End, At, Gives, Walk, more}
use Rattle.lfs_path.specs.declared.passing.Met.{Met}
use Rattle.lfs_path.specs.declared.passing.Met.TheVariants as met
use Rattle.lfs_path.specs.declared.passing.Stop.{Stop}
use Rattle.lfs_path.specs.declared.passing.Stop.TheVariants as stop
use Rattle.lfs_path.specs.declared.seen.Link.{Link as LinkValue}
use Rattle.lfs_path.specs.declared.walk_fault.WalkFault.{WalkFault}
use Rattle.lfs_path.specs.declared.walk_fault.WalkFault.TheVariants.{NotDir}
use Rattle.lfs_path.specs.Following.{text_of}
use Rattle.lfs_path.specs.Trees.{IsChain, here}

-- ---- one piece

-- It leads from one directory to another: each walk of what follows is one of the whole.
pub record Leads (piece : List ℕ) (chain chain' : List ℕ) (m : LogMap) : Type 0 where
  pub directories : IsChain (tree_in m) chain'
  pub walks : (follow : Bool) (ps : List (List ℕ)) (s : Bool) (k : ℕ) (e : End)
      → Walk (tree_in m) follow (here chain') ps s k e → Walk (tree_in m) follow (here chain) (piece ∷ ps) s k e

-- what a directory has under its name
abbrev pub Meets : ℕ → List ℕ → Met → LogMap → Type 0
Meets d piece (met.File n) m = (bytes : List ℕ) × Gives (tree_in m) d piece n.value (File bytes)
Meets d piece (met.Symbolic l) m = Gives (tree_in m) d piece l.number.value (Link (text_of m l))

-- to a directory, or to another object, and the directory stays
abbrev pub PassesText : List ℕ → List ℕ → List ℕ → Option Met → LogMap → Type 0
PassesText piece chain chain' None m = Leads piece chain chain' m
PassesText piece chain chain' (Some x) m = (chain' ≡ chain) × Meets (here chain) piece x m

-- ---- a whole text

-- whether a piece or a slash end is left behind an object
abbrev pub is_left : Bool → List ℕ → Bool
is_left slash_end rest = slash_end || nat_lt 0 (length rest)

-- what is done at an object
abbrev pub IsStop : Bool → Bool → List ℕ → Met → Result Stop WalkFault → Type 0
IsStop slash_end follow rest (met.File n) (Ok (stop.Node x)) = (x ≡ n) × (is_left slash_end rest ≡ false)
IsStop slash_end follow rest (met.File n) (Err NotDir) = is_left slash_end rest ≡ true
IsStop slash_end follow rest (met.Symbolic l) (Ok (stop.Node x)) = (x ≡ l.number) × ((is_left slash_end rest || follow) ≡ false)
IsStop slash_end follow rest (met.Symbolic l) (Ok (stop.Followed x text)) = (x ≡ l) × (text.now ≡ rest)
    × ((is_left slash_end rest || follow) ≡ true)
IsStop slash_end follow rest _ _ = ⊥

-- a walk of a text from directory d with k links followed; the path may count as one with a slash end
abbrev pub WalksText : Bool → Bool → ℕ → List ℕ → ℕ → Tree → End → Type 0
WalksText slash_end follow d text k t e = Walk t follow d (comps text) (slash_end || slash text) k e

-- however many links were followed
abbrev pub EndsText : Bool → Bool → ℕ → List ℕ → Tree → End → Type 0
EndsText slash_end follow d text t e = (k : ℕ) → WalksText slash_end follow d text k t e

-- A link that is followed is met in directory at: the walk from there, with the text behind the link left, is one of the whole.
pub record MeetsLink (slash_end follow : Bool) (d : ℕ) (text : List ℕ) (at : ℕ) (l : LinkValue) (rest : List ℕ) (m : LogMap) : Type 0 where
  pub piece : List ℕ
  pub gives : Gives (tree_in m) at piece l.number.value (Link (text_of m l))
  pub goes : (more (comps rest) (slash_end || slash rest) || follow) ≡ true
  pub walks : (k : ℕ) (e : End) → Walk (tree_in m) follow at (piece ∷ comps rest) (slash_end || slash rest) k e
      → WalksText slash_end follow d text k (tree_in m) e
  pub begins : from_root rest ≡ nat_lt 0 (length rest)
  pub goes_on : more (comps rest) (slash rest) ≡ nat_lt 0 (length rest)

abbrev pub StopsAt : Bool → Bool → List ℕ → List ℕ → List ℕ → Stop → LogMap → Type 0
StopsAt slash_end follow chain text chain' stop.Directory m = EndsText slash_end follow (here chain) text (tree_in m) (At (here chain'))
StopsAt slash_end follow chain text chain' (stop.Node n) m = EndsText slash_end follow (here chain) text (tree_in m) (At n.value)
StopsAt slash_end follow chain text chain' (stop.Followed l rest) m =
    MeetsLink slash_end follow (here chain) text (here chain') l rest.now m

-- Where the walk of a text stops, and at which directories.
pub record StopsAtLink (slash_end follow : Bool) (chain text chain' : List ℕ) (x : Stop) (m : LogMap) : Type 0 where
  pub directories : IsChain (tree_in m) chain'
  pub stop : StopsAt slash_end follow chain text chain' x m

-- what is known of it whatever the tree is: it isn't at a node where a directory has to be
abbrev pub FitsStop : Bool → Stop → Type 0
FitsStop slash_end stop.Directory = Unit {0}
FitsStop slash_end (stop.Node n) = slash_end ≡ false
FitsStop slash_end (stop.Followed l rest) = Unit {0}
