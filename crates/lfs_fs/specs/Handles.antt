-- The open handles that a table of files stands for.
use Rattle.std.specs.Prelude.{ℕ, ◌≡◌, ◌+◌, List, [], ◌∷◌, Option, Some, None}
use Rattle.lfs_model.specs.declared.number.FileNumber.{FileNumber}
use Rattle.lfs_model.specs.Tree.{Handles}

-- the places from a on that have a file, each with its number
abbrev pub handles_from : ℕ → List (Option FileNumber) → Handles
handles_from a [] = []
handles_from a (None ∷ fs) = handles_from (a + 1) fs
handles_from a (Some f ∷ fs) = (a, f.value) ∷ handles_from (a + 1) fs

-- place h is handle h; it stays closed, since a table's 64 places are dear to write out
unfoldable pub handles_of : List (Option FileNumber) → Handles
handles_of files = handles_from 0 files

-- the number of a place's file
abbrev pub number_in : Option FileNumber → Option ℕ
number_in None = None
number_in (Some f) = Some f.value

-- a place has the file of this number
abbrev pub HasNumber : Option FileNumber → ℕ → Type 0
HasNumber place n = number_in place ≡ Some n
