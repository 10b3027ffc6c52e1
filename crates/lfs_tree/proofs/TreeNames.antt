-- How often the tree's directories give a number, and which.
use Rattle.std.specs.Prelude.{T, unwrap_or}
use Rattle.std.proofs.Common.{◌≡◌, ◌<◌, ◌≤◌, ⊎_elim, ◌+◌, cond, true, false, Bool, eqb, ℕ, zero, suc, List, [], ◌∷◌, Option, Some, None}
use Rattle.std.proofs.Common.{refl, ◌∙◌, ap, arith}
use Rattle.std.proofs.lemmas.Bool.{cases_eq}
use Rattle.std.proofs.lemmas.List.Sums.{sum_by-cons}
use Rattle.std.specs.Cmp.Lexicographic.{nat_list_cmp_total}
use Rattle.std.specs.FinMap.{find, is_sorted}
use Rattle.std.specs.Prelude.{◌==◌}
use Rattle.std.proofs.lemmas.Bool.Decides.{nat_tests}
use Rattle.lfs_model.specs.Stands.{LogMap}
use Rattle.lfs_model.specs.Tree.{File, Names, Node, byte_cmp, names, names_of}
use Rattle.lfs_model.specs.TreeOf.{node_of, tree_in}
use Rattle.lfs_model.proofs.Sums.{T_right, find_after, find_first, weight-le-total}
use Rattle.lfs_model.proofs.NodeSums.{tree_sum}
use Rattle.lfs_tree.specs.Naming.{giving}
use Rattle.lfs_tree.specs.Objects.{given_below, names_at, sum_below}
use Rattle.lfs_tree.proofs.Named.{sum_more, sum_none}
use Rattle.lfs_tree.proofs.ObjectNames.{AreHeaders, no_names, nobody}

-- ---- names
sum_step : (f : ℕ → ℕ) (n : ℕ) → sum_below f (suc n) ≡ sum_below f n + f n
unfolding sum_below
sum_step f n = refl

module _ (m : LogMap) (are : AreHeaders m) (n : ℕ) where
  given_each : (d : ℕ) (o : Option Node)
      → elim o [ None ↦ 0 | Some x ↦ giving (names_of x) n ] ≡ giving (names_of (unwrap_or o (File []))) n
  given_each d None = refl
  given_each d (Some x) = refl

  -- how often the tree gives a number
  pub names_given : names (tree_in m) n ≡ given_below m 4096 n
  names_given =
      let w = λ (d : ℕ). giving (names_at m d) n in
      let start : sum_below w 1 ≡ 0 = sum_more w 0 ∙ (let own = ap (λ (ms : Names). giving ms n) (no_names m are 0 (nobody m are)) in
      omega (arith, sum_none w)) in
      tree_sum m (λ x. giving (names_of x) n) w (λ d. given_each d (node_of m d (m.header d))) (λ d. sum_below w (suc d)) start
      (λ d. sum_step w (suc d))

-- what is given is found, and what is found is given
pub given_found : (ms : Names) (n : ℕ) → T (is_sorted byte_cmp ms) → 0 < giving ms n → (name : List ℕ) × (find byte_cmp name ms ≡ Some n)
given_found [] n order some = absurd (omega arith)
given_found (e ∷ ms) n order some = ⊎_elim
    (λ (here : e.1 ≡ n). (e.0, cc (find_first nat_list_cmp_total (λ x. 0) e ms)))
    (λ (other : e.1 ≡ n → ⊥).
    let no_ : eqb e.1 n ≡ false = grind (arith, nat_tests) in
    let own = ap {B = ℕ} (λ (b : Bool). cond b 1 0) no_ in
    let rest = given_found ms n (T_right _ (is_sorted byte_cmp ms) order)
    (omega (arith, sum_by-cons (λ (x : List ℕ × ℕ). cond {A = ℕ} (x.1 == n) 1 0) e ms)) in
    (rest.0, find_after nat_list_cmp_total (λ x. 0) rest.0 e ms n order rest.1))
    (cases_eq e.1 n)

pub found_given : (ms : Names) (name : List ℕ) (n : ℕ) → find byte_cmp name ms ≡ Some n → 0 < giving ms n
found_given ms name n found =
    let same : eqb n n ≡ true = grind (arith, nat_tests) in
    let one = ap {B = ℕ} (λ (b : Bool). cond b 1 0) same in
    omega (arith, weight-le-total nat_list_cmp_total (λ v. cond {A = ℕ} (v == n) 1 0) name n ms found)

-- ---- two numbers that add to a sum
sum_own : (f : ℕ → ℕ) (a n : ℕ) → a < n → f a ≤ sum_below f n
unfolding sum_below
sum_own f a zero low = absurd (omega arith)
sum_own f a (suc n) low = ⊎_elim
    (λ (here : a ≡ n). (omega (arith, ap f here)))
    (λ (other : a ≡ n → ⊥). (omega (arith, sum_own f a n (omega arith))))
    (cases_eq a n)

pub sum_both : (f : ℕ → ℕ) (a : ℕ) {b : ℕ} (n : ℕ) → a < n → b < n → (a ≡ b → ⊥) → f a + f b ≤ sum_below f n
unfolding sum_below
sum_both f a zero low high ne = absurd (omega arith)
sum_both f a {b} (suc n) low high ne = ⊎_elim
    (λ (here : a ≡ n). (let rest = sum_own f b n (omega arith) in omega (arith, ap f here)))
    (λ (other : a ≡ n → ⊥). ⊎_elim
    (λ (there : b ≡ n). (let rest = sum_own f a n (omega arith) in omega (arith, ap f there)))
    (λ (apart : b ≡ n → ⊥).
    (omega (arith, sum_both f a n (omega arith) (omega arith) ne))) (cases_eq b n))
    (cases_eq a n)
