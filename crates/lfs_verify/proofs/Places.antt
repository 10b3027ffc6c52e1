-- Numbers put into a table one by one.
use Rattle.std.proofs.Common.{◌≡◌, ◌<◌, ◌≤◌, ⊎_elim, ◌+◌, ℕ, List, length, get_or, set, sym, ◌∙◌, ap, arith}
use Rattle.std.proofs.Common.{get_or-set_other, get_or-set_same}
use Rattle.std.proofs.lemmas.Bool.{cases_eq}

module _ (mid : List ℕ) (at n x : ℕ) where
  -- those that were put so far, and one more
  pub put_own : (f : ℕ → ℕ) → at + n < length mid → x ≡ f n → (i : ℕ) → i < n + 1 → (i < n → get_or mid (at + i) 0 ≡ f i)
      → get_or (set mid (at + n) x) (at + i) 0 ≡ f i
  put_own f inside is i lt was = ⊎_elim
      (λ (here : i ≡ n). ap (λ (a : ℕ). get_or (set mid (at + n) x) (at + a) 0) here ∙ get_or-set_same mid (at + n) x 0 inside ∙ is
      ∙ ap f (sym here))
      (λ (ne : i ≡ n → ⊥). get_or-set_other mid (at + n) (at + i) x 0 (λ h. ne (omega (arith, h))) ∙ was (omega (arith, lt, ne)))
      (cases_eq i n)

  -- what stands before them, and behind them
  pub put_before : (j : ℕ) → j < at → get_or (set mid (at + n) x) j 0 ≡ get_or mid j 0
  put_before j lt = get_or-set_other mid (at + n) j x 0 (λ h. omega (arith, h, lt))

  pub put_after : (j : ℕ) → at + (n + 1) ≤ j → get_or (set mid (at + n) x) j 0 ≡ get_or mid j 0
  put_after j le = get_or-set_other mid (at + n) j x 0 (λ h. omega (arith, h, le))
