-- What is gained as a checkpoint is acknowledged: the segments that were emptied are clean, besides those that were.
use Rattle.std.proofs.Common.{◌≡◌, ◌<◌, ◌≤◌, ⊎_elim, ◌+◌, ◌==◌, cond, ℕ, zero, suc, Bool, true, false, List, [], ◌∷◌, length}
use Rattle.std.proofs.Common.{refl, sym, ◌∙◌, ap, subst, arith, inl, inr, eq-eqb}
use Rattle.std.specs.List.{AllByRecursion}
use Rattle.std.proofs.lemmas.Bool.{cases_eq, cond-true, cond-false, ne_eqb}
use Rattle.lfs_model.specs.Members.{IsIn, AreApart}
use Rattle.lfs_model.specs.Stands.{count_up}
use Rattle.lfs_model.proofs.Live.{count_up_none, count_up_more}
use Rattle.lfs_segments.proofs.Numbers.{count_change, counts}

-- ---- the count of those that pass a test
-- the test passes v too
with_one : (ℕ → Bool) → ℕ → ℕ → Bool
with_one p v s = cond (s == v) true (p s)

own_one : (p : ℕ → Bool) (v s : ℕ) → s ≡ v → with_one p v s ≡ true
unfolding with_one
own_one p v s e = cond-true _ _ _ (eq-eqb s v e)

other_one : (p : ℕ → Bool) (v s : ℕ) → (s ≡ v → ⊥) → with_one p v s ≡ p s
unfolding with_one
other_one p v s ne = cond-false _ _ _ (ne_eqb s v ne)

-- one more passes the test
one_more : (p : ℕ → Bool) (v n : ℕ) → v < n → p v ≡ false → count_up (with_one p v) n ≡ count_up p n + 1
one_more p v n lt off = omega (
  arith,
  count_change p (with_one p v) n v lt (λ x away. sym (other_one p v x away)),
  counts off,
  counts (own_one p v v refl),
)

-- where what passes p passes q, no more pass p
count_less : (p q : ℕ → Bool) (n : ℕ) → ((s : ℕ) → s < n → p s ≡ true → q s ≡ true) → count_up p n ≤ count_up q n
count_less p q zero less = omega (arith, count_up_none p, count_up_none q)
count_less p q (suc n) less = grind (arith, count_less p q n, either (p n) (q n), count_up_more p n, count_up_more q n)
  where
    either : (a b : Bool) → (a ≡ true → b ≡ true) → cond {A = ℕ} a 1 0 ≤ cond {A = ℕ} b 1 0
    either true b h = omega (arith, ap (λ b. cond {A = ℕ} b 1 0) (h refl))
    either false b h = omega arith

-- so many distinct ones that didn't pass pass now
pub count_gained : (vs : List ℕ) {p q : ℕ → Bool} (n : ℕ) → AreApart vs → AllByRecursion (λ s. s < n) vs
    → AllByRecursion (λ s. (p s ≡ false) × (q s ≡ true)) vs → ((s : ℕ) → s < n → p s ≡ true → q s ≡ true)
    → count_up p n + length vs ≤ count_up q n
count_gained [] {p} {q} n apart low change less = omega (arith, count_less p q n less)
count_gained (v ∷ vs) {p} {q} n apart low change less =
    let more = one_more p v n low.0 change.0.0 in
    let rest = count_gained vs {p = with_one p v} {q = q} n apart.1 low.1 (still vs (λ s is e. apart.0 (subst (IsIn vs) e is)) change.1)
    (λ s lt on. ⊎_elim
    (λ here. ap q here ∙ change.0.1)
    (λ away. less s lt (sym (other_one p v s away) ∙ on))
    (cases_eq s v)) in
    omega arith
  where
    still : (ws : List ℕ) → ((s : ℕ) → IsIn ws s → s ≡ v → ⊥) → AllByRecursion (λ s. (p s ≡ false) × (q s ≡ true)) ws
        → AllByRecursion (λ s. (with_one p v s ≡ false) × (q s ≡ true)) ws
    still [] away all = tt
    still (w ∷ ws) away all = ((other_one p v w (away w (inl refl)) ∙ all.0.0, all.0.1), still ws (λ s is e. away s (inr is) e) all.1)
