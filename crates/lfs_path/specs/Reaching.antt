-- Where the walk of a path ends.
use Rattle.std.specs.Prelude.{◌≡◌, ℕ, Bool, List, Some}
use Rattle.lfs_model.specs.PathText.{text_refusal}
use Rattle.lfs_model.specs.Stands.{LogMap}
use Rattle.lfs_model.specs.Tree.{Tree}
use Rattle.lfs_model.specs.TreeOf.{tree_in}
use Rattle.lfs_model.specs.Walk.{End, At, Parent, Resolve}
use Rattle.lfs_path.specs.Passing.{WalksText}
use Rattle.lfs_path.specs.Telling.{ByFault}
use Rattle.lfs_path.specs.Trees.{IsChain, here}
use Rattle.lfs_path.specs.declared.walk_fault.WalkFault.{WalkFault}
use Rattle.lfs_path.specs.declared.walk_fault.WalkFault.TheVariants.{NoMemory}

-- the walk of a path's pieces from the root ends so; the path may count as one with a slash end
abbrev pub EndsPath : Bool → Bool → List ℕ → Tree → End → Type 0
EndsPath slash_end follow path t e = WalksText slash_end follow 1 path 0 t e

-- It ends at node n; these are the directory where it was last, and those above.
pub record Reaches (slash_end follow : Bool) (path chain : List ℕ) (n : ℕ) (m : LogMap) : Type 0 where
  pub directories : IsChain (tree_in m) chain
  pub walk : EndsPath slash_end follow path (tree_in m) (At n)

-- ---- whole paths

abbrev pub EndsResolve : List ℕ → Bool → Tree → End → Type 0
EndsResolve path follow t e = Resolve t path follow e

abbrev pub EndsParent : List ℕ → Tree → End → Type 0
EndsParent path t e = Parent t path e

-- the path gives node n
abbrev pub ResolvesTo : List ℕ → Bool → ℕ → LogMap → Type 0
ResolvesTo path follow n m = EndsResolve path follow (tree_in m) (At n)

-- The directory that the path's last piece stands in, and those above it.
pub record IsParent (path chain : List ℕ) (m : LogMap) : Type 0 where
  pub directories : IsChain (tree_in m) chain
  pub ends : EndsParent path (tree_in m) (At (here chain))

-- the path is refused for its text alone
abbrev pub IsTextFault : List ℕ → WalkFault → Type 0
IsTextFault path NoMemory = ⊥
IsTextFault path fault = ByFault fault ⊥ (λ r. text_refusal path ≡ Some r)
