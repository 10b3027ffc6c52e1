-- A set of names, with one name more.
use Rattle.std.proofs.Common.{◌≡◌, ◌≢◌, true, false, cond, ℕ, List, Some, Vec, Global, refl, sym, ◌∙◌, ap}
use Rattle.std.specs.Prelude.{is_some}
use Rattle.std.specs.BTreeSet as tree
use Rattle.std.specs.BTreeMap.{is_at}
use Rattle.std.specs.BTreeSet.{BTreeSet}
use Rattle.std.specs.Cmp.Lexicographic.{nat_list_cmp_total, slice_cmp}
use Rattle.std.specs.FinMap.{find, put}
use Rattle.std.specs.FinMap.Entries.{find-put}
use Rattle.std.specs.Ordering.{eq_by_cmp, nat_cmp}
use Rattle.lfs_model.specs.Tree.{Names, byte_cmp}
use Rattle.lfs_dirs.proofs.SlotNames.{apart, tied, ties}
use Rattle.lfs_tree.specs.Naming.{HasNames}

module _ (set : BTreeSet (Vec ℕ Global)) (key : Vec ℕ Global) {name : List ℕ} (is : key.items ≡ name) (names : Names)
    (had : HasNames set names) where
  pub name_more : (set' : BTreeSet (Vec ℕ Global)) (v : ℕ)
      → ((q : Vec ℕ Global) → tree.contains (λ (x y : Vec ℕ Global). slice_cmp nat_cmp x.items y.items) set' q ≡ cond (is_at
      (slice_cmp nat_cmp key.items) q.items) true (tree.contains (λ (x y : Vec ℕ Global). slice_cmp nat_cmp x.items y.items) set q))
      → HasNames set' (put byte_cmp name v names)
  name_more set' v up q =
      elim (eq_by_cmp byte_cmp q.items name) as (λ b. eq_by_cmp byte_cmp q.items name ≡ b
      → tree.contains (λ (x y : Vec ℕ Global). slice_cmp nat_cmp x.items y.items) set' q
      ≡ is_some (cond b (Some v) (find byte_cmp q.items names))) [
        | true ↦ λ e. cc (up q, ties (is ∙ sym (tied q.items name e)))
        | false ↦ λ e.
            let other : key.items ≢ q.items =
            λ same. cc (ties (sym same ∙ is)) in
            cc (up q, apart key.items q.items other, had q)
      ] refl ∙ sym (ap is_some (find-put byte_cmp nat_list_cmp_total q.items name v names))
