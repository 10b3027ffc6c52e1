-- What calls of a reader or a writer count.
use Rattle.std.specs.Prelude.{◌≡◌, ℕ, zero, suc, Result, Ok, Err}

-- by the result of a call, how many failed before it and by then
abbrev pub CountsFailure : {X E : Type 0} → ℕ → ℕ → Result X E → Type 0
CountsFailure old new (Ok x) = new ≡ old
CountsFailure old new (Err error) = new ≡ suc old

-- a write that took so many bytes failed only where that is none
abbrev pub CountsTaken : ℕ → ℕ → ℕ → Type 0
CountsTaken old new zero = new ≡ suc old
CountsTaken old new (suc n) = new ≡ old

-- by the result of a write, how many failed or took nothing before it and by then
abbrev pub CountsWrite : {E : Type 0} → ℕ → ℕ → Result ℕ E → Type 0
CountsWrite old new (Ok n) = CountsTaken old new n
CountsWrite old new (Err error) = new ≡ suc old
