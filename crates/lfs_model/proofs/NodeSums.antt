-- A sum over the nodes of a log map's tree goes over their numbers.
use Rattle.std.specs.Prelude.{sum_by}
use Rattle.std.proofs.Common.{◌≡◌, ◌+◌, ℕ, zero, suc, Option, Some, None, refl, ◌∙◌, ap, arith}
use Rattle.std.proofs.lemmas.List.Sums.{sum_by-cons}
use Rattle.lfs_model.specs.Stands.{LogMap}
use Rattle.lfs_model.specs.Tree.{Node, Tree}
use Rattle.lfs_model.specs.TreeOf.{node_of, nodes_from, tree_in, with_object}

-- what a node adds, and what all nodes of a tree do
module _ (f : Node → ℕ) where
  abbrev pub weighs : Option Node → ℕ
  weighs o = elim o [ None ↦ 0 | Some x ↦ f x ]

  abbrev pub total : Tree → ℕ
  total t = sum_by (λ e. f e.1) t

module _ (m : LogMap) (f : Node → ℕ) (w : ℕ → ℕ) (each : (n : ℕ) → weighs f (node_of m n (m.header n)) ≡ w n) where
  one_more : (n : ℕ) (o : Option Node) (t : Tree) → total f (with_object n o t) ≡ weighs f o + total f t
  one_more n None t = omega arith
  one_more n (Some x) t = sum_by-cons (λ (e : ℕ × Node). f e.1) (n, x) t

  first : (count a : ℕ) → total f (nodes_from m (suc count) a) ≡ w a + total f (nodes_from m count (a + 1))
  unfolding nodes_from
  first count a =
      let own = each a in
      let one = one_more a (node_of m a (m.header a)) (nodes_from m count (a + 1)) in
      omega (arith, own, one)

  none : (a : ℕ) → total f (nodes_from m 0 a) ≡ 0
  unfolding nodes_from
  none a = refl

  -- s is any sum of w over the numbers 1 to n
  module _ (s : ℕ → ℕ) (no_number : s 0 ≡ 0) (next : (n : ℕ) → s (suc n) ≡ s n + w (suc n)) where
    nodes_sum : (count b : ℕ) → total f (nodes_from m count (b + 1)) + s b ≡ s (b + count)
    nodes_sum zero b =
        let same : b ≡ b + 0 = omega arith in
        let e = ap s same in
        omega (arith, none (b + 1), e)
    nodes_sum (suc count) b =
        let rest = nodes_sum count (b + 1) in
        let one : b + 1 ≡ suc b = omega arith in
        let last : b + 1 + count ≡ b + suc count = omega arith in
        let up = ap s one ∙ next b in
        let own = ap w one in
        let end = ap s last in
        omega (arith, rest, up, own, end, first count (b + 1))

    -- the tree's nodes have the numbers up to 4,095
    pub tree_sum : total f (tree_in m) ≡ s 4095
    unfolding tree_in
    tree_sum =
        let all = nodes_sum 4095 0 in
        let same : 0 + 4095 ≡ 4095 = omega arith in
        let end = ap s same in
        omega (arith, all, end, no_number)
