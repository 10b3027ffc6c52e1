-- What calls give a writer.
use Rattle.std.specs.Prelude.{◌≡◌, ◌≢◌, List, [], ◌++◌, ℕ, Option, Result, OnOk, OnErr}
use Rattle.std.specs.Io.KnownBytes.{Appends}
use Rattle.lfs_streams.specs.Counts.{CountsFailure}

-- a beginning of the bytes went out, which may be none of them and isn't all
abbrev pub AppendsSome : Option (List ℕ) → Option (List ℕ) → List ℕ → Type 0
AppendsSome old new bytes = (part : List ℕ) × (rest : List ℕ) × (part ++ rest ≡ bytes) × (rest ≢ []) × Appends old new part

-- From what the writer held, and from so many writes of it that failed or took nothing: all of the bytes went out, and no more writes did
-- so. Or the call failed: some of the bytes went out and not all, and one write more did so.
pub record Puts {A E : Type 0} (old new : Option (List ℕ)) (failures failures' : ℕ) (bytes : List ℕ) (result : Result A E) : Type 0 where
  pub ok : OnOk result (Appends old new bytes)
  pub err : OnErr result (AppendsSome old new bytes)
  pub counted : CountsFailure failures failures' result
