-- The least number that is free.
use Rattle.std.proofs.Common.{◌≡◌, ◌≢◌, refl, sym, subst, ◌∙◌, ℕ, ◌+◌, ◌<◌, ◌≤◌, false, List, [], ◌∷◌, Some, None, arith, inl, inr, eqb}
use Rattle.std.specs.Prelude.{T}
use Rattle.std.specs.Ordering.{is_lt, nat_cmp}
use Rattle.std.specs.Cmp.{nat_cmp_is, ranked}
use Rattle.std.specs.declared.cmp.Ordering.TheVariants.{Less, Equal, Greater}
use Rattle.std.proofs.lemmas.Cmp.{nat_cmp_total}
use Rattle.std.proofs.lemmas.Bool.Decides.{nat_tests, eqb_tells}
use Rattle.std.specs.FinMap.{find, is_sorted}
use Rattle.std.specs.FinMap.Entries.{below_all}
use Rattle.lfs_model.specs.Tree.{least_from}
use Rattle.lfs_model.proofs.Sums.{T_left, T_right, none_below, find_first, find_after}
use Rattle.lfs_model.proofs.Trees.{cmp_other}

lt_below : (x y : ℕ) → T (is_lt (nat_cmp x y)) → x < y
lt_below x y h = elim (nat_cmp x y) as (λ r. r ≡ nat_cmp x y → T (is_lt r) → x < y) [
  | Less ↦ λ e _. ranked x y Less e
  | Equal ↦ λ e h. absurd h
  | Greater ↦ λ e h. absurd h
] refl h

module _ {X : Type 0} where
  -- every key is a or above
  abbrev pub starts : ℕ → List (ℕ × X) → Type 0
  starts a [] = Unit {0}
  starts a (e ∷ es) = a ≤ e.0

  -- with all keys above a, a is free
  least_below : (a : ℕ) (k : ℕ) (es : List (ℕ × X)) → a < k → T (below_all nat_cmp k es) → least_from a es ≡ a
  least_below a k [] lt h = refl
  least_below a k (e ∷ es) lt h =
      let past : k < e.0 = lt_below k e.0 (T_left _ _ h) in
      let no : eqb e.0 a ≡ false = grind (arith, nat_tests) in
      rw no (least_below a k es lt (T_right _ _ h))

  starts_after : (k : ℕ) (es : List (ℕ × X)) → T (below_all nat_cmp k es) → starts (k + 1) es
  starts_after k [] h = tt
  starts_after k (e ∷ es) h = let past : k < e.0 = lt_below k e.0 (T_left _ _ h) in omega arith

  pub least_free : (a : ℕ) (es : List (ℕ × X)) → T (is_sorted nat_cmp es) → starts a es
      → (a ≤ least_from a es) × (find nat_cmp (least_from a es) es ≡ None)
  least_free a [] h s = (omega arith, refl)
  least_free a (e ∷ es) h s =
      elim (eqb_tells e.0 a) as (λ _. (a ≤ least_from a (e ∷ es)) × (find nat_cmp (least_from a (e ∷ es)) (e ∷ es) ≡ None)) [
        | inl same ↦
            let rest = least_free (a + 1) es (T_right (below_all nat_cmp e.0 es) (is_sorted nat_cmp es) h) (subst (λ b. starts (b + 1) es)
            same.1 (starts_after e.0 es (T_left (below_all nat_cmp e.0 es) (is_sorted nat_cmp es) h))) in
            let ne : least_from (a + 1) es ≢ e.0 = λ p. absurd (let low = rest.0 in let is = same.1 in omega arith) in
            let is : least_from a (e ∷ es) ≡ least_from (a + 1) es = rw same.0 refl in
            let low = rest.0 in
            subst (λ (n : ℕ). (a ≤ n) × (find nat_cmp n (e ∷ es) ≡ None)) (sym is)
            (omega arith, rw (cmp_other (least_from (a + 1) es) e.0 ne) rest.1)
        | inr apart ↦
            let above : a < e.0 = let ne = apart.1 in omega (arith, s) in
            let here : least_from a es ≡ a = least_below a e.0 es above (T_left (below_all nat_cmp e.0 es) (is_sorted nat_cmp es) h) in
            let is : least_from a (e ∷ es) ≡ a = rw apart.0 here in
            let less : nat_cmp a e.0 ≡ Less = sym (nat_cmp_is a e.0 Less above) in
            let ne : a ≢ e.0 = omega arith in
            subst (λ (n : ℕ). (a ≤ n) × (find nat_cmp n (e ∷ es) ≡ None)) (sym is) (
              omega arith,
              rw (cmp_other a e.0 ne)
                  (none_below nat_cmp_total (λ x. 0) a e.0 es less (T_left (below_all nat_cmp e.0 es) (is_sorted nat_cmp es) h)),
            )
      ]

  -- every number from a up to it is taken
  pub least_taken : (a : ℕ) (es : List (ℕ × X)) → T (is_sorted nat_cmp es) → starts a es → (k : ℕ) → a ≤ k → k < least_from a es
      → find nat_cmp k es ≢ None
  least_taken a [] h s k low high none = absurd (omega arith)
  least_taken a (e ∷ es) h s k low high none =
      elim (eqb_tells e.0 a) as (λ _. ⊥) [
        | inl same ↦
            let is : least_from a (e ∷ es) ≡ least_from (a + 1) es = rw same.0 refl in
            let later = starts_after e.0 es (T_left (below_all nat_cmp e.0 es) (is_sorted nat_cmp es) h) in
            elim (eqb_tells k a) as (λ _. ⊥) [
              | inl here ↦ let first = find_first nat_cmp_total (λ x. 0) e es in let at : k ≡ e.0 = here.1 ∙ sym same.1 in
                  let found : find nat_cmp k (e ∷ es) ≡ Some e.1 = subst (λ (n : ℕ). find nat_cmp n (e ∷ es) ≡ Some e.1) (sym at) first in
                  cc
              | inr past ↦
                  let ne = past.1 in
                  let rest = least_taken (a + 1) es (T_right (below_all nat_cmp e.0 es) (is_sorted nat_cmp es) h)
                  (subst (λ b. starts (b + 1) es) same.1 later) k (omega arith) (omega arith) in
                  elim (find nat_cmp k es) as (λ o. find nat_cmp k es ≡ o → ⊥) [
                    | None ↦ λ gone. rest gone
                    | Some x ↦ λ found. let now = find_after nat_cmp_total (λ x. 0) k e es x h found in cc
                  ] refl
            ]
        | inr apart ↦
            let above : a < e.0 = let ne = apart.1 in omega (arith, s) in
            let here : least_from a es ≡ a = least_below a e.0 es above (T_left (below_all nat_cmp e.0 es) (is_sorted nat_cmp es) h) in
            let is : least_from a (e ∷ es) ≡ a = rw apart.0 here in
            absurd (omega arith)
      ]
