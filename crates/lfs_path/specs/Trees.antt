-- Log maps whose tree is walked, and where a walk over it is.
use Rattle.std.specs.Prelude.{◌≡◌, ◌≢◌, ℕ, true, List, [], ◌∷◌, Some}
use Rattle.lfs_model.specs.Entry.{Header}
use Rattle.lfs_model.specs.Objects.{IsHeaderOf}
use Rattle.lfs_model.specs.Sound.{NamesGive}
use Rattle.lfs_model.specs.Stands.{LogMap}
use Rattle.lfs_model.specs.Tree.{Tree, is_dir, names, node, up}
use Rattle.lfs_model.specs.TreeOf.{AreFormed, tree_in}

-- Headers and slots are well-formed; the tree has a root that no name gives, each name gives a node, and each other directory has one name.
pub record HasTree (m : LogMap) : Type 0 where
  pub headers : (n : ℕ) (h : Header) → m.header n ≡ Some h → IsHeaderOf n h
  pub formed : AreFormed m
  pub root : is_dir (node (tree_in m) 1) ≡ true
  pub there : NamesGive (tree_in m)
  pub unnamed : names (tree_in m) 1 ≡ 0
  pub one_name : (n : ℕ) → n ≢ 1 → is_dir (node (tree_in m) n) ≡ true → names (tree_in m) n ≡ 1

-- Object d of such a log map is a directory.
pub record InDirectory (d : ℕ) (m : LogMap) : Type 0 where
  pub tree : HasTree m
  pub directory : is_dir (node (tree_in m) d) ≡ true

-- ---- a directory, and behind it those above it as far as the root

-- each is named by the one behind it
abbrev pub IsChain : Tree → List ℕ → Type 0
IsChain t [] = ⊥
IsChain t (d ∷ []) = d ≡ 1
IsChain t (d ∷ above ∷ rest) = (up t d ≡ above) × (is_dir (node t d) ≡ true) × IsChain t (above ∷ rest)

-- the directory itself
abbrev pub here : List ℕ → ℕ
here [] = 1
here (d ∷ above) = d

-- those from the one above it on; the root stays
abbrev pub risen : List ℕ → List ℕ
risen [] = []
risen (d ∷ []) = d ∷ []
risen (d ∷ above ∷ rest) = above ∷ rest

-- They are one of such a log map.
pub record InChain (chain : List ℕ) (m : LogMap) : Type 0 where
  pub tree : HasTree m
  pub directories : IsChain (tree_in m) chain
