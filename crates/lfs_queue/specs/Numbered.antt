-- Orders by their numbers.
use Rattle.std.specs.Prelude.{◌≡◌, ◌⊎◌, ◌<◌, ◌≤◌, ℕ, List, ◌∷◌, length, min, ◌-◌, ◌^◌}
use Rattle.lfs_model.specs.Device.{IsBeginning}
use Rattle.lfs_model.specs.declared.Order.{Order}

-- The order has this number among all that were told, the newest first: so many were told before it.
pub record HasNumber (told : List Order) (number : ℕ) (order : Order) : Type 0 where
  pub before : List Order
  pub count : length before ≡ number
  pub begins : IsBeginning (order ∷ before) told

-- a count as far as 64 bits tell it
abbrev pub as_told : ℕ → ℕ
as_told n = min n (2 ^ 64 - 1)

-- none of this number waits, where such orders, the newest first, were carried out, and such were told
abbrev pub IsNoneWaiting : List Order → List Order → ℕ → Type 0
IsNoneWaiting carried told number = (number < length carried) ⊎ (length told ≤ number)
