-- The two checkpoint slots and the units of a device.
use Rattle.std.specs.Prelude.{◌≡◌, ℕ}

-- the slots are of different units: a write to one of them spoils nothing of the other
abbrev pub SlotsApart : (ℕ → ℕ) → Type 0
SlotsApart unit = unit 0 ≡ unit 1 → ⊥
