-- What a stop at some moment of a device's past might have left, where moments are what had come by then, the newest first.
use Rattle.std.specs.Prelude.{◌≤◌, ◌⊎◌, ℕ, List, [], ◌∷◌, length}
use Rattle.lfs_model.specs.Device.{Cell}

-- At says what a stop leaves at the moment when so much had come
module _ {X : Type 0} (At : List X → List Cell → Type 0) where
  -- at a moment from the t-th on
  abbrev pub AtSince : List X → ℕ → List Cell → Type 0
  AtSince [] t c = (t ≤ 0) × At [] c
  AtSince (x ∷ came) t c = ((t ≤ length (x ∷ came)) × At (x ∷ came) c) ⊎ AtSince came t c

  -- at one from the t-th to the u-th
  abbrev pub AtUntil : List X → ℕ → ℕ → List Cell → Type 0
  AtUntil [] t u c = (t ≤ 0) × At [] c
  AtUntil (x ∷ came) t u c = ((t ≤ length (x ∷ came)) × (length (x ∷ came) ≤ u) × At (x ∷ came) c) ⊎ AtUntil came t u c

-- What holds at each moment up to the u-th.
module _ {X : Type 0} (Holds : List X → Type 0) where
  abbrev pub HoldsUntil : List X → ℕ → Type 0
  HoldsUntil [] u = Holds []
  HoldsUntil (x ∷ came) u = (length (x ∷ came) ≤ u → Holds (x ∷ came)) × HoldsUntil came u
