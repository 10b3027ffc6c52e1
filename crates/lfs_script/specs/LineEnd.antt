-- What the reading of a line takes behind the line's bytes.
use Rattle.std.specs.Prelude.{ℕ, List, [], ◌∷◌, Result, Ok, Err}
use Rattle.lfs_script.specs.declared.line.LineEnd.{LineEnd}
use Rattle.lfs_script.specs.declared.line.LineEnd.TheVariants.{Newline, Input, TooLong}

abbrev pub consumed_by_line : {E : Type 0} → Result LineEnd E → List ℕ
consumed_by_line (Ok Newline) = 10 ∷ []
consumed_by_line (Ok Input) = []
consumed_by_line (Ok (TooLong b)) = b ∷ []
consumed_by_line (Err e) = []

-- P of the byte that came after the longest line
abbrev pub OnTooLong : {E : Type 0} → Result LineEnd E → (ℕ → Type 0) → Type 0
OnTooLong (Ok (TooLong b)) P = P b
OnTooLong (Ok Newline) P = Unit {0}
OnTooLong (Ok Input) P = Unit {0}
OnTooLong (Err e) P = Unit {0}
