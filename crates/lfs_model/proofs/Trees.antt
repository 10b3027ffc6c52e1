-- Look-ups in a tree after a change.
use Rattle.std.proofs.Common.{◌≡◌, ◌≢◌, refl, ap, ◌∙◌, ℕ, true, false, List, Some, arith, cond}
use Rattle.std.specs.Ordering.{nat_cmp, eq_by_cmp, is_eq}
use Rattle.std.specs.declared.cmp.Ordering.TheVariants.{Less, Equal, Greater}
use Rattle.std.specs.Cmp.{ranked}
use Rattle.std.proofs.lemmas.Cmp.{nat_cmp_total}
use Rattle.std.proofs.lemmas.Bool.Decides.{nat_tests}
use Rattle.std.specs.FinMap.{find, put}
use Rattle.std.specs.FinMap.Entries.{find-put}

pub cmp_same : (n : ℕ) → eq_by_cmp nat_cmp n n ≡ true
cmp_same n = grind (arith, nat_tests)

pub cmp_other : (q n : ℕ) → q ≢ n → eq_by_cmp nat_cmp q n ≡ false
cmp_other q n ne = elim (nat_cmp q n) as (λ r. r ≡ nat_cmp q n → is_eq r ≡ false) [
  | Less ↦ λ e. refl
  | Equal ↦ λ e. absurd (ne (ranked q n Equal e))
  | Greater ↦ λ e. refl
] refl

module _ {X : Type 0} (t : List (ℕ × X)) (n : ℕ) (x : X) where
  pub find_here : find nat_cmp n (put nat_cmp n x t) ≡ Some x
  find_here = find-put nat_cmp nat_cmp_total n n x t ∙ ap (λ b. cond b (Some x) (find nat_cmp n t)) (cmp_same n)

  pub find_other : (q : ℕ) → q ≢ n → find nat_cmp q (put nat_cmp n x t) ≡ find nat_cmp q t
  find_other q ne = find-put nat_cmp nat_cmp_total q n x t ∙ ap (λ b. cond b (Some x) (find nat_cmp q t)) (cmp_other q n ne)
