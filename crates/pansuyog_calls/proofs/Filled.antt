-- Bytes that are copied to the beginning of others.
use Rattle.std.proofs.Common.{◌≡◌, ◌≤◌, ℕ, zero, suc, List, [], ◌∷◌, ◌++◌, length, refl, ap, arith, inl, inr}
use Rattle.std.specs.Prelude.{◌⊎◌, take, drop}
use Rattle.pansuyog_calls.specs.Bytes.{filled}

pub copied : (bytes before : List ℕ) (n : ℕ) → n ≤ length bytes → n ≤ length before → (n ≡ length bytes) ⊎ (n ≡ length before)
    → take n bytes ++ drop n before ≡ filled bytes before
copied [] before zero one two most = refl
copied [] before (suc n) one two most = absurd (omega (arith, one))
copied (byte ∷ bytes) [] zero one two most = refl
copied (byte ∷ bytes) [] (suc n) one two most = absurd (omega (arith, two))
copied (byte ∷ bytes) (was ∷ before) zero one two (inl is) = absurd (omega (arith, is))
copied (byte ∷ bytes) (was ∷ before) zero one two (inr is) = absurd (omega (arith, is))
copied (byte ∷ bytes) (was ∷ before) (suc n) one two (inl is) =
    ap (λ (l : List ℕ). byte ∷ l) (copied bytes before n (omega (arith, one)) (omega (arith, two)) (inl (omega (arith, is))))
copied (byte ∷ bytes) (was ∷ before) (suc n) one two (inr is) =
    ap (λ (l : List ℕ). byte ∷ l) (copied bytes before n (omega (arith, one)) (omega (arith, two)) (inr (omega (arith, is))))
