-- The directories above a walk, and what a piece makes of them.
use Rattle.std.proofs.Common.{◌≡◌, ◌≢◌, sym, ap, ◌∙◌, ℕ, true, List, [], ◌∷◌, arith}
use Rattle.lfs_model.specs.Stands.{LogMap}
use Rattle.lfs_model.specs.Tree.{Dir, Names, Tree, is_dir, names, node, up}
use Rattle.lfs_model.specs.TreeOf.{tree_in}
use Rattle.lfs_model.specs.Walk.{Gives, directory, dot, dot_dot, goes_up, stays}
use Rattle.lfs_model.proofs.Shrinking.{named_counts}
use Rattle.lfs_model.proofs.Standing.{in_order}
use Rattle.lfs_path.specs.Passing.{Leads}
use Rattle.lfs_path.specs.Trees.{InChain, InDirectory, IsChain, here, risen}
use Rattle.lfs_path.proofs.Uppers.{up_is}

chain_directory : (t : Tree) (chain : List ℕ) → is_dir (node t 1) ≡ true → IsChain t chain → is_dir (node t (here chain)) ≡ true
chain_directory t [] root is = absurd is
chain_directory t (d ∷ []) root is = cc
chain_directory t (d ∷ above ∷ rest) root is = is.1

pub in_directory : (m : LogMap) (chain : List ℕ) → InChain chain m → InDirectory (here chain) m
in_directory m chain is = record { tree = is.tree; directory = chain_directory (tree_in m) chain is.tree.root is.directories }

-- ---- dot
pub dot_leads : {m : LogMap} {piece chain : List ℕ} → piece ≡ dot → InChain chain m → Leads piece chain chain m
dot_leads same is = record { directories = is.directories; walks = λ follow ps s k e w. stays same w }

-- ---- dot-dot
risen_chain : (t : Tree) (chain : List ℕ) → IsChain t chain → IsChain t (risen chain) × (here (risen chain) ≡ up t (here chain))
risen_chain t [] is = absurd is
risen_chain t (d ∷ []) is = (is, cc)
risen_chain t (d ∷ above ∷ rest) is = (is.2, sym is.0)

pub dot_dot_leads : (m : LogMap) {piece : List ℕ} (chain : List ℕ) {chain' : List ℕ} → piece ≡ dot_dot → chain' ≡ risen chain
    → InChain chain m
    → Leads piece chain chain' m
dot_dot_leads m chain same up_there is =
    let risen_is = risen_chain (tree_in m) chain is.directories in
    record {
      directories = rw up_there risen_is.0;
      walks = λ follow ps s k e w. goes_up same (rw (← ap here up_there ∙ risen_is.1) w);
    }

-- ---- a directory's name
down_chain : (t : Tree) (chain : List ℕ) (n : ℕ) → up t n ≡ here chain → is_dir (node t n) ≡ true → IsChain t chain → IsChain t (n ∷ chain)
down_chain t [] n above dir is = absurd is
down_chain t (d ∷ rest) n above dir is = (above, dir, is)

pub name_leads : (m : LogMap) (piece chain : List ℕ) {chain' : List ℕ} {n form : ℕ} {ns : Names}
    → Gives (tree_in m) (here chain) piece n (Dir form ns)
    → chain' ≡ n ∷ chain → InChain chain m → Leads piece chain chain' m
name_leads m piece chain {n} gives down is = record {
  directories = rw down (down_chain (tree_in m) chain n above dir is.directories);
  walks = λ follow ps s k e w. directory gives (rw (← ap here down) w);
}
  where
    dir : is_dir (node (tree_in m) n) ≡ true
    dir = cc

    not_root : n ≢ 1
    not_root same =
        let none : names (tree_in m) n ≡ 0 = cc in
        omega (arith, named_counts (tree_in m) (here chain) piece n gives.is_there)

    above : up (tree_in m) n ≡ here chain
    above = up_is (tree_in m) (in_order m) n piece gives.is_there not_root (is.tree.one_name n not_root dir)
