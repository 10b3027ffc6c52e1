-- The totals of a log map are those of its tree.
use Rattle.std.specs.Prelude.{sum_by}
use Rattle.std.proofs.Common.{◌≡◌, ◌+◌, ℕ, zero, suc, Option, Some, None, refl, sym, ◌∙◌, ap, arith}
use Rattle.std.proofs.lemmas.List.Sums.{sum_by-cons}
use Rattle.lfs_model.specs.declared.Kind.TheVariants as kind
use Rattle.lfs_model.specs.Encodes.{IsLogMap}
use Rattle.lfs_model.specs.Entry.{Header}
use Rattle.lfs_model.specs.Need.{data_of, meta_of}
use Rattle.lfs_model.specs.Objects.{AreLong, HasCosts, IsDirectory, stored_blocks}
use Rattle.lfs_model.specs.Stands.{LogMap}
use Rattle.lfs_model.specs.Tree.{Node, Tree}
use Rattle.lfs_model.specs.TreeOf.{node_by, node_of, nodes_from, tree_in, with_object}
use Rattle.lfs_model.proofs.ObjectNeeds.{object_costs}
use Rattle.lfs_model.specs.Totals.{data_of_file, meta_of_file, sum_upto, TotalsOfTree}
use Rattle.lfs_store.proofs.Measures.{nothing_stored, stored_nothing}
use Rattle.lfs_store.proofs.Summing.{stored_all}

sum_none : (f : ℕ → ℕ) → sum_upto f 0 ≡ 0
unfolding sum_upto
sum_none f = refl

sum_more : (f : ℕ → ℕ) (n : ℕ) → sum_upto f (suc n) ≡ sum_upto f n + f (suc n)
unfolding sum_upto
sum_more f n = refl

-- ---- a sum over the nodes, by their numbers
module _ (m : LogMap) (f : Node → ℕ) (w : ℕ → ℕ) where
  abbrev weighs : Option Node → ℕ
  weighs o = elim o [ None ↦ 0 | Some x ↦ f x ]

  abbrev total : Tree → ℕ
  total t = sum_by (λ e. f e.1) t

  one_more : (n : ℕ) (o : Option Node) (t : Tree) → total (with_object n o t) ≡ weighs o + total t
  one_more n None t = omega arith
  one_more n (Some x) t = sum_by-cons (λ (e : ℕ × Node). f e.1) (n, x) t

  module _ (each : (n : ℕ) → weighs (node_of m n (m.header n)) ≡ w n) where
    first : (count a : ℕ) → total (nodes_from m (suc count) a) ≡ w a + total (nodes_from m count (a + 1))
    unfolding nodes_from
    first count a =
        omega (arith, each a, one_more a (node_of m a (m.header a)) (nodes_from m count (a + 1)))

    none : (a : ℕ) → total (nodes_from m 0 a) ≡ 0
    unfolding nodes_from
    none a = refl

    nodes_sum : (count b : ℕ) → total (nodes_from m count (b + 1)) + sum_upto w b ≡ sum_upto w (b + count)
    nodes_sum zero b =
        let same : b ≡ b + 0 = omega arith in
        omega (arith, none (b + 1), ap (sum_upto w) same)
    nodes_sum (suc count) b =
        let next : b + 1 ≡ suc b = omega arith in
        let last : b + 1 + count ≡ b + suc count = omega arith in
        omega (arith, nodes_sum count (b + 1), ap (sum_upto w) next ∙ sum_more w b, ap w next, ap (sum_upto w) last, first count (b + 1))

    all_nodes : (many : ℕ) → total (nodes_from m many 1) ≡ sum_upto w many
    all_nodes many =
        let same : 0 + many ≡ many = omega arith in
        omega (arith, nodes_sum many 0, ap (sum_upto w) same, sum_none w)

    tree_sum : total (tree_in m) ≡ sum_upto w 4095
    unfolding tree_in
    tree_sum = all_nodes _

-- ---- what a number adds
module _ (m : LogMap) (is : IsLogMap m) (long : (n : ℕ) → AreLong m n)
    (formed : (n : ℕ) (h : Header) → m.header n ≡ Some h → h.kind ≡ kind.Directory → IsDirectory m n h) where
  costs : (n : ℕ) (h : Header) → m.header n ≡ Some h → HasCosts (node_by m h.kind n h) (stored_blocks m n)
  costs n h at = object_costs m n h is (long n) at (formed n h at)

  data_each : {n : ℕ} (o : Option Header) → m.header n ≡ o → weighs m data_of (data_of_file m) (node_of m n o) ≡ data_of_file m n
  data_each None at = sym (stored_all _ _ _ ∙ stored_nothing _ _ _ _ (λ i le lt. nothing_stored _ is at _))
  data_each (Some h) at = (costs _ _ at).blocks

  meta_each : (n : ℕ) (o : Option Header) → m.header n ≡ o → weighs m meta_of (meta_of_file m) (node_of m n o) ≡ meta_of_file m n
  meta_each n None at = cc
  meta_each n (Some h) at = cc ((costs _ _ at).above, at)

pub totals_of_tree : TotalsOfTree
totals_of_tree m is long formed = (
  tree_sum _ _ _ (λ n. data_each _ is long formed _ refl),
  tree_sum _ _ _ (λ n. meta_each m is long formed n _ refl),
)
