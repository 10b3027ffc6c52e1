-- What a changed node, and a new entry, change of the need.
use Rattle.std.proofs.Common.{◌≡◌, refl, ℕ, ◌+◌, ◌*◌, Option, Some, None, arith}
use Rattle.std.specs.Prelude.{T}
use Rattle.std.specs.Ordering.{nat_cmp}
use Rattle.std.proofs.lemmas.Cmp.{nat_cmp_total}
use Rattle.std.specs.FinMap.{is_sorted}
use Rattle.lfs_model.specs.Tree.{Tree, Node, node, with_node, without}
use Rattle.lfs_model.specs.Need.{cost, cost_at, need, data_of, meta_of}
use Rattle.lfs_model.proofs.Sums.{total_put, total_without, weight}

cost_is : (o : Option Node) → weight nat_cmp_total data_of o + 7 * weight nat_cmp_total meta_of o ≡ cost_at o
cost_is None = refl
cost_is (Some x) = refl

pub need-with_node : (t : Tree) (n : ℕ) (x : Node) → T (is_sorted nat_cmp t) → need (with_node t n x) + cost_at (node t n) ≡ need t + cost x
need-with_node t n x h =
    let d = total_put nat_cmp_total data_of n x t h in
    let m = total_put nat_cmp_total meta_of n x t h in
    let c = cost_is (node t n) in
    omega (arith, d, m, c)

-- a node less
pub need-without : (t : Tree) (n : ℕ) → T (is_sorted nat_cmp t) → need (without nat_cmp n t) + cost_at (node t n) ≡ need t
need-without t n h =
    let d = total_without nat_cmp_total data_of n t h in
    let m = total_without nat_cmp_total meta_of n t h in
    let c = cost_is (node t n) in
    omega (arith, d, m, c)
