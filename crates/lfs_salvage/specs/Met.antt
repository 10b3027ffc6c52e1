-- Which numbers a walk met.
use Rattle.std.specs.Prelude.{◌≡◌, ℕ, true, Some}
use Rattle.std.specs.List.{slice_get}
use Rattle.lfs_salvage.specs.declared.walk.Walk.{Walk}

-- the walk met the number
abbrev pub HasMet : Walk → ℕ → Type 0
HasMet walk number = slice_get walk.met.items number ≡ Some true
