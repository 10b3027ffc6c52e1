-- The directory of a path without pieces.
use Rattle.std.proofs.Common.{◌≡◌, refl, sym, ℕ, List, [], ◌∷◌, None}
use Rattle.lfs_model.specs.PathText.{comps, text_refusal}
use Rattle.lfs_model.specs.Stands.{LogMap}
use Rattle.lfs_model.specs.Tree.{Tree}
use Rattle.lfs_model.specs.TreeOf.{tree_in}
use Rattle.lfs_model.specs.Walk.{At, no_piece}
use Rattle.lfs_path.specs.Reaching.{EndsParent, IsParent}

root_ends : (t : Tree) (path : List ℕ) → text_refusal path ≡ None → comps path ≡ [] → EndsParent path t (At 1)
root_ends t path text none =
    rw text (rw none no_piece)

pub root_place : (m : LogMap) {path chain : List ℕ} → text_refusal path ≡ None → comps path ≡ [] → chain ≡ 1 ∷ [] → IsParent path chain m
root_place m {path} text none at = record {
  directories = rw (← sym at) refl;
  ends = rw (← sym at) (root_ends (tree_in m) path text none);
}
