-- The moments of a device's past.
use Rattle.std.proofs.Common.{inl, inr, ℕ, ◌≤◌, List, [], ◌∷◌, length, arith}
use Rattle.std.specs.Prelude.{◌↔◌}
use Rattle.lfs_model.specs.Device.{Cell}
use Rattle.lfs_model.specs.Past.{AtSince, AtUntil, HoldsUntil}

module _ {X : Type 0} (At : List X → List Cell → Type 0) where
  pub counts_at : (came : List X) (t : ℕ) (c : List Cell) → t ≤ length came → At came c → AtSince At came t c
  counts_at [] t c le left = (le, left)
  counts_at (x ∷ came) t c le left = inl (le, left)

  -- the moments before the last come to an end
  ended : (came : List X) (t : ℕ) (c : List Cell) → AtSince At came t c → t ≤ length came
  ended [] t c left = left.0
  ended (x ∷ came) t c (inl here) = here.0
  ended (x ∷ came) t c (inr there) = let low = ended came t c there in omega (arith, low)

  pub only_at : (came : List X) (c : List Cell) → AtSince At came (length came) c → At came c
  only_at [] c left = left.1
  only_at (x ∷ came) c (inl here) = here.1
  only_at (x ∷ came) c (inr there) = let late : length (x ∷ came) ≤ length came = ended came (length (x ∷ came)) c there in
      absurd (omega arith)

  pub earlier_at : (came : List X) (t u : ℕ) (c : List Cell) → t ≤ u → AtSince At came u c → AtSince At came t c
  earlier_at [] t u c le left = ((let was = left.0 in omega (arith, le, was)), left.1)
  earlier_at (x ∷ came) t u c le (inl now) = inl ((let was = now.0 in omega (arith, le, was)), now.1)
  earlier_at (x ∷ came) t u c le (inr then') = inr (earlier_at came t u c le then')

  -- of what comes later nothing is known up to a moment of the past
  pub until_before : (x : X) (came : List X) (t u : ℕ) (c : List Cell) → u ≤ length came
      → AtUntil At (x ∷ came) t u c ↔ AtUntil At came t u c
  until_before x came t u c le = (back, λ left. inr left)
    where
      back : AtUntil At (x ∷ came) t u c → AtUntil At came t u c
      back (inl late) = absurd (let low = late.1 in omega (arith, low, le))
      back (inr there) = there

  until_since : (came : List X) (t u : ℕ) (c : List Cell) → AtUntil At came t u c → AtSince At came t c
  until_since [] t u c left = left
  until_since (x ∷ came) t u c (inl here) = inl (here.0, here.2)
  until_since (x ∷ came) t u c (inr there) = inr (until_since came t u c there)

  since_until : (came : List X) (t u : ℕ) (c : List Cell) → length came ≤ u → AtSince At came t c → AtUntil At came t u c
  since_until [] t u c le left = left
  since_until (x ∷ came) t u c le (inl here) = inl (here.0, le, here.1)
  since_until (x ∷ came) t u c le (inr there) = inr (since_until came t u c (omega (arith, le)) there)

  -- and up to now all is
  pub until_end : (came : List X) (t : ℕ) (c : List Cell) → AtUntil At came t (length came) c ↔ AtSince At came t c
  until_end came t c = (until_since came t (length came) c, since_until came t (length came) c (omega arith))

pub holds_earlier : {X : Type 0} (Holds : List X → Type 0) (came : List X) (t u : ℕ) → t ≤ u → HoldsUntil Holds came u
    → HoldsUntil Holds came t
holds_earlier Holds [] t u le held = held
holds_earlier Holds (x ∷ came) t u le held = ((λ low. held.0 (omega (arith, low, le))), holds_earlier Holds came t u le held.1)

-- what held before it holds
module _ {X : Type 0} (Holds : List X → Type 0) (before : (x : X) (came : List X) → Holds (x ∷ came) → Holds came) where
  pub holds_until : (came : List X) (u : ℕ) → Holds came → HoldsUntil Holds came u
  holds_until [] u holds = holds
  holds_until (x ∷ came) u holds = ((λ le. holds), holds_until came u (before x came holds))

  holds_last : (came : List X) → HoldsUntil Holds came (length came) → Holds came
  holds_last [] holds = holds
  holds_last (x ∷ came) holds = holds.0 (omega arith)

  pub holds_end : (came : List X) → HoldsUntil Holds came (length came) ↔ Holds came
  holds_end came = (holds_last came, holds_until came (length came))

  pub holds_before : (x : X) (came : List X) (u : ℕ) → u ≤ length came → HoldsUntil Holds (x ∷ came) u ↔ HoldsUntil Holds came u
  holds_before x came u le = ((λ held. held.1), λ held. ((λ late. absurd (omega (arith, late, le))), held))
