-- What a witness heard of a reader, which is what its reads gave: the input of a run is known by it in hindsight. The language is an own
-- choice.
use Rattle.std.specs.Prelude.{◌≡◌, ◌&&◌, ◌==◌, ℕ, Bool, false, not, IsTrue, Option, Some, None, List, [], ◌++◌, take, length}
use Rattle.std.specs.Prelude.{Result, Ok, Err, IfOk}
use Rattle.lfs_script.specs.Bytes.{taken}

-- The bytes that its reads gave, in order, and whether the last read that didn't fail gave none though it had room: the input ended there.
pub record Heard : Type 0 where
  pub bytes : List ℕ
  pub ended : Bool

-- no read was made
abbrev pub nothing_heard : Heard
nothing_heard = record { bytes = []; ended = false }

-- by the result of a read over this chunk, what was heard before it and by then
abbrev pub HearsRead : {E : Type 0} → Heard → Heard → Result ℕ E → List ℕ → Type 0
HearsRead old new (Ok n) chunk = (new.bytes ≡ old.bytes ++ take n chunk) × (new.ended ≡ ((n == 0) && not (length chunk == 0)))
HearsRead old new (Err error) chunk = new ≡ old

-- Of what was left and what was heard since, these bytes were used, and the others are left now.
pub record UsesHeard (old new : Heard) (left left' used : List ℕ) : Type 0 where
  pub bytes : List ℕ
  pub all : new.bytes ≡ old.bytes ++ bytes
  pub parts : left ++ bytes ≡ used ++ left'

-- the input's end was heard, and nothing is left
abbrev pub HearsEnd : Heard → List ℕ → Type 0
HearsEnd heard left = IsTrue heard.ended × (left ≡ [])

-- As `TakesByte`, by what was heard.
pub record HearsByte {E : Type 0} (old new : Heard) (left left' : List ℕ) (result : Result (Option ℕ) E) : Type 0 where
  pub bytes : UsesHeard old new left left' (taken result)
  pub end : IfOk result (λ byte. byte ≡ None → HearsEnd new left')

-- In hindsight P holds from the input to what is left of it. The input is the bytes that were heard meanwhile and, behind them, any rest
-- that is left: none where the input's end was heard. So where P says that nothing is left, the end was heard.
pub record HearsTo (old new : Heard) (P : Option (List ℕ) → Option (List ℕ) → Type 0) : Type 0 where
  pub bytes : List ℕ
  pub all : new.bytes ≡ old.bytes ++ bytes
  pub holds : (rest : List ℕ) → (IsTrue new.ended → rest ≡ []) → P (Some (bytes ++ rest)) (Some rest)
