-- What a run of a script does to its volume, line by line. The language is an own choice.
use Rattle.std.specs.Prelude.{◌≡◌, ◌⊎◌, ◌+◌, ◌<◌, ℕ, Bool, Option, Some, None, List, [], length}
use Rattle.std.specs.List.{AllByRecursion}
use Rattle.std.specs.Io.KnownBytes.{Appends, Consumes}
use Rattle.lfs_model.specs.Call.{Answer}
use Rattle.lfs_model.specs.Device.{DeviceState}
use Rattle.lfs_model.specs.Script.{Line, Spells, bad, reply}
use Rattle.lfs_fs.specs.Scripts.{RunsLines, ServesLine, TellsLines}
use Rattle.lfs_fs.specs.Volume.{Mounted}
use Rattle.lfs_words.specs.Bytes.{AppendsSome}
use Rattle.lfs_script.specs.Ending.{AreSpelled, EndOf, IsBadText, IsText, ended_texts, replies}
use Rattle.lfs_script.specs.Noted.{Glance, Glanced, GlancesAt}
use Rattle.lfs_script.specs.Strict.{EndsBehind, GoesOn, GoesOnBehind, StrictEndOf}
use Rattle.lfs_script.specs.declared.script.ScriptEnd.{ScriptEnd}
use Rattle.lfs_script.specs.declared.script.ScriptEnd.TheVariants.{Done, BadLine, Read, Write, Memory}
use Rattle.lfs_script.specs.declared.script.StrictEnd.{StrictEnd}
use Rattle.lfs_script.specs.declared.script.StrictEnd.TheVariants.{Script, Refused}

-- The reply to the n-th line, which is bad.
abbrev pub RepliesBadLine : ScriptEnd → Option (List ℕ) → Option (List ℕ) → ℕ → Type 0
RepliesBadLine (BadLine m) w w' n = (m ≡ n) × Appends w w' (bad n)
RepliesBadLine Write w w' n = AppendsSome w w' (bad n)
RepliesBadLine Done w w' n = ⊥
RepliesBadLine Read w w' n = ⊥
RepliesBadLine Memory w w' n = ⊥

module _ {D : Type 0} (state : D → DeviceState) where
  -- A run of a script: each text spells a line, the lines' answers are a
  -- run of the model on the volume, and the bytes are those of the end.
  pub record Ends (end : ScriptEnd) (r r' w w' : Option (List ℕ)) (old new : Mounted D) : Type 0 where
    pub texts : List (List ℕ)
    pub script : List Line
    pub answers : List Answer
    pub spelled : AreSpelled texts script
    pub run : RunsLines state old new script answers
    pub bytes : EndOf end r r' w w' texts answers

  -- The same of a run that may be strict.
  pub record EndsBy (strict : Bool) (end : StrictEnd) (r r' w w' : Option (List ℕ)) (old new : Mounted D) : Type 0 where
    pub texts : List (List ℕ)
    pub script : List Line
    pub answers : List Answer
    pub spelled : AreSpelled texts script
    pub run : RunsLines state old new script answers
    pub bytes : StrictEndOf strict end r r' w w' texts answers

  -- As `EndsBy`, with the clocks at which the replies went out.
  pub record EndsNoted (strict : Bool) (end : StrictEnd) (r r' w w' : Option (List ℕ)) (old new : Mounted D)
      (s s' : List Glance) : Type 0 where
    pub ends : EndsBy strict end r r' w w' old new
    pub clocks : List ℕ
    pub told : TellsLines state old new ends.script ends.answers clocks
    pub glanced : Glanced w ends.answers clocks s s'

  -- The n-th line is called, and its reply goes out as far as R says.
  pub record Called (R : List ℕ → Type 0) (old new : Mounted D) (text : List ℕ) : Type 0 where
    pub line : Line
    pub answer : Answer
    pub spells : Spells text line
    pub serves : ServesLine state old new line answer
    pub replied : R (reply answer)

  -- The answer to a line, or none to a bad one.
  abbrev pub AnswersText : Option Answer → Mounted D → Mounted D → List ℕ → Type 0
  AnswersText None old new text = IsBadText text × (new ≡ old)
  AnswersText (Some answer) old new text = (line : Line) × Spells text line × ServesLine state old new line answer

  -- What is done of one line, the n-th: none where the script goes on.
  abbrev pub Turns : Bool → Option StrictEnd → Option (List ℕ) → Option (List ℕ) → Mounted D → Mounted D → List ℕ → ℕ → Type 0
  Turns strict None w w' old new text n = (call : Called (Appends w w') old new text) × GoesOnBehind strict call.answer
  Turns strict (Some Refused) w w' old new text n = (call : Called (Appends w w') old new text) × EndsBehind strict call.answer
  Turns strict (Some (Script end)) w w' old new text n = ((end ≡ Write) × Called (AppendsSome w w') old new text)
      ⊎ (IsBadText text × RepliesBadLine end w w' n × (new ≡ old))

  -- Where the text is a call's, device and writer are glanced at once: behind the call, before its reply. A bad text isn't glanced at.
  pub record GlancesBeforeReply (new : Mounted D) (w : Option (List ℕ)) (text : List ℕ) (s s' : List Glance) : Type 0 where
    pub once : (line : Line) → Spells text line → GlancesAt (state new.log.device).moment w s s'
    pub never : IsBadText text → s' ≡ s

  -- Both of the last line, which may be none.
  abbrev pub Finishes : Bool → StrictEnd → Option (List ℕ) → Option (List ℕ) → Mounted D → Mounted D → List ℕ → ℕ → List Glance
      → List Glance → Type 0
  Finishes strict end w w' old new text n s s' = ((text ≡ []) × (end ≡ Script Done) × (w' ≡ w) × (new ≡ old) × (s' ≡ s))
      ⊎ ((0 < length text) × GlancesBeforeReply new w text s s'
      × (((end ≡ Script Done) × Turns strict None w w' old new text n) ⊎ Turns strict (Some end) w w' old new text n))

  -- How far a script has come before the n-th line, where the reader has this left.
  pub record SoFar (strict : Bool) (n : ℕ) (r left w w' : Option (List ℕ)) (old now : Mounted D) (s s' : List Glance) : Type 0 where
    pub texts : List (List ℕ)
    pub script : List Line
    pub answers : List Answer
    pub plain : AllByRecursion IsText texts
    pub spelled : AreSpelled texts script
    pub clocks : List ℕ
    pub told : TellsLines state old now script answers clocks
    pub glanced : Glanced w answers clocks s s'
    pub goes_on : GoesOn strict answers
    pub consumed : Consumes r left (ended_texts texts)
    pub appended : Appends w w' (replies answers)
    pub count : length texts + 1 ≡ n
