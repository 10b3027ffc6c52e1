-- Behind which answers a run goes on, and what a run says by its end: a strict
-- run ends at the first refusal, after its reply. The language is an own choice.
use Rattle.std.specs.Prelude.{◌≡◌, ◌⊎◌, ◌<◌, ◌≤◌, ◌-◌, ◌^◌, ℕ, suc, length, Bool, true, false, IsTrue, Option, Some, None, List, [], ◌∷◌}
use Rattle.std.specs.Prelude.{◌++◌}
use Rattle.std.specs.List.{AllByRecursion}
use Rattle.std.specs.Io.KnownBytes.{Appends, Consumes}
use Rattle.lfs_model.specs.Call.{Answer, is_ok}
use Rattle.lfs_model.specs.Device.{DeviceState}
use Rattle.lfs_model.specs.Script.{Line, lines}
use Rattle.lfs_model.specs.Use.{UsesVolume}
use Rattle.lfs_script.specs.Ending.{AreSpelled, EndOf, EndsWithLine, StopsInBad, StopsInReply, replies}
use Rattle.lfs_script.specs.declared.script.ScriptEnd.TheVariants.{Read, Write}
use Rattle.lfs_script.specs.declared.script.StrictEnd.{StrictEnd}
use Rattle.lfs_script.specs.declared.script.StrictEnd.TheVariants.{Script, Refused}

-- a run goes on behind this answer: a strict one not behind a refusal
abbrev pub GoesOnBehind : Bool → Answer → Type 0
GoesOnBehind strict answer = IsTrue strict → IsTrue (is_ok answer)

-- behind each of these
abbrev pub GoesOn : Bool → List Answer → Type 0
GoesOn strict = AllByRecursion (GoesOnBehind strict)

-- it is strict, and ends behind this answer
abbrev pub EndsBehind : Bool → Answer → Type 0
EndsBehind strict answer = IsTrue strict × (is_ok answer ≡ false)

-- the end behind an answer, or none
abbrev pub Follows : Bool → Option StrictEnd → Answer → Type 0
Follows strict None answer = GoesOnBehind strict answer
Follows strict (Some Refused) answer = EndsBehind strict answer
Follows strict (Some (Script end)) answer = ⊥

-- All replies went out. The last answer alone is a refusal; the lines are
-- all those of the input, each of them whole, and more may have been read.
pub record StopsBehind (strict : Bool) (r r' w w' : Option (List ℕ)) (texts : List (List ℕ)) (answers : List Answer) : Type 0 where
  pub input : List ℕ
  pub more : List ℕ
  pub before : List Answer
  pub last : Answer
  pub cut : lines input ≡ texts
  pub whole : EndsWithLine input more r'
  pub read : Consumes r r' (input ++ more)
  pub all : answers ≡ before ++ last ∷ []
  pub first : GoesOn strict before
  pub refused : EndsBehind strict last
  pub written : Appends w w' (replies answers)

-- What each end says: as of a run that isn't strict, and which answers aren't refusals. The reply that went out in part may be one.
abbrev pub StrictEndOf : Bool → StrictEnd → Option (List ℕ) → Option (List ℕ) → Option (List ℕ) → Option (List ℕ) → List (List ℕ)
    → List Answer → Type 0
StrictEndOf strict Refused r r' w w' texts answers = StopsBehind strict r r' w w' texts answers
StrictEndOf strict (Script Write) r r' w w' texts answers = ((stop : StopsInReply r r' w w' texts answers) × GoesOn strict stop.before)
    ⊎ (StopsInBad r r' w w' texts answers × GoesOn strict answers)
StrictEndOf strict (Script end) r r' w w' texts answers = EndOf end r r' w w' texts answers × GoesOn strict answers

-- by its end, from so many reads that failed to so many: where a run ends since it can't read on, a read failed, or nearly 2^64 bytes were
-- read, which is as many as are counted
abbrev pub ReadsTo : StrictEnd → ℕ → ℕ → Option (List ℕ) → Option (List ℕ) → Type 0
ReadsTo (Script Read) failures failures' r r' = (failures < failures')
    ⊎ ((bytes : List ℕ) × Consumes r r' bytes × (2 ^ 64 - 2 ≤ length bytes))
ReadsTo end failures failures' r r' = Unit {0}

-- by its end, from so many writes that failed, or took nothing, to so many: one did just where the run ends since it can't write
abbrev pub WritesTo : StrictEnd → ℕ → ℕ → Type 0
WritesTo (Script Write) failures failures' = failures' ≡ suc failures
WritesTo end failures failures' = failures' ≡ failures

-- the same of a run that may go on
abbrev pub WritesOn : Option StrictEnd → ℕ → ℕ → Type 0
WritesOn None failures failures' = failures' ≡ failures
WritesOn (Some end) failures failures' = WritesTo end failures failures'

-- As `Session`, by a strict run of the script.
pub record StrictSession (end : StrictEnd) (r r' w w' : Option (List ℕ)) (d d' : DeviceState) : Type 0 where
  pub texts : List (List ℕ)
  pub script : List Line
  pub answers : List Answer
  pub spelled : AreSpelled texts script
  pub bytes : StrictEndOf true end r r' w w' texts answers
  pub uses : d'.keeps_model → UsesVolume d d' script answers
