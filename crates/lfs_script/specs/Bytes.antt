-- What calls take of a reader.
use Rattle.std.specs.Prelude.{◌≡◌, ℕ, ◌+◌, ◌-◌, List, [], ◌∷◌, Option, Some, None, Result, Ok, Err, IfOk, OnErr}
use Rattle.std.specs.Io.KnownBytes.{Consumes, IsAtEnd, prepend_known}

-- the byte that a call took, if it took one
abbrev pub taken : {E : Type 0} → Result (Option ℕ) E → List ℕ
taken (Ok (Some b)) = b ∷ []
taken (Ok None) = []
taken (Err e) = []

-- how many bytes are read and not taken, or may be read still
abbrev pub ahead : ℕ → ℕ → ℕ → ℕ
ahead start end budget = (end - start) + budget

-- A byte was taken of an input, or its end was met. What is left of the new input stands before what the reader has; after a failure that
-- is nothing.
pub record TakesByte {E : Type 0} (old reader : Option (List ℕ)) (left : List ℕ) (result : Result (Option ℕ) E) : Type 0 where
  pub bytes : Consumes old (prepend_known left reader) (taken result)
  pub end : IfOk result (λ byte. byte ≡ None → IsAtEnd (prepend_known left reader))
  pub err : OnErr result (left ≡ [])
