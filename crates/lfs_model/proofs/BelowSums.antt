-- The sum over the numbers below one.
use Rattle.std.proofs.Common.{◌≡◌, ◌≤◌, ⊎_elim, ◌+◌, ℕ, zero, suc, refl, ap, arith}
use Rattle.std.proofs.lemmas.Bool.{cases_eq}

-- the sum over the numbers below n
abbrev pub sum_below : (ℕ → ℕ) → ℕ → ℕ
sum_below f zero = 0
sum_below f (suc n) = sum_below f n + f n

-- equal numbers have equal sums
pub sum_same : (f g : ℕ → ℕ) (n : ℕ) → ((s : ℕ) → f s ≡ g s) → sum_below f n ≡ sum_below g n
sum_same f g zero same = refl
sum_same f g (suc n) same = let rest = sum_same f g n same in let here = same n in omega (arith, rest, here)

-- where one of them is more by one at most, so is the sum
pub sum_one : (f g : ℕ → ℕ) (c n : ℕ) → f c ≤ g c + 1 → ((s : ℕ) → (s ≡ c → ⊥) → f s ≡ g s)
    → (sum_below f n ≤ sum_below g n + 1) × (n ≤ c → sum_below f n ≡ sum_below g n)
sum_one f g c zero here there = (omega arith, λ le. refl)
sum_one f g c (suc n) here there =
    let rest = sum_one f g c n here there in (
      ⊎_elim
          (λ (at : n ≡ c). let same = rest.1 (omega (arith, at)) in let a = ap f at in let b = ap g at in omega (arith, same, a, b, here))
          (λ (away : n ≡ c → ⊥). let most = rest.0 in let same = there n away in omega (arith, most, same))
          (cases_eq n c),
      λ le. let same = rest.1 (omega (arith, le)) in let last = there n (λ e. omega (arith, e, le)) in omega (arith, same, last),
    )

-- no numbers have no sum
pub sum_zero : (n : ℕ) → sum_below (λ s. 0) n ≡ 0
sum_zero zero = refl
sum_zero (suc n) = let rest = sum_zero n in omega (arith, rest)
