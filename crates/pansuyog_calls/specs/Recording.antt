-- What a call of C makes of a recorder, and by it of the volume that is mounted.
use Rattle.std.specs.Prelude.{◌≡◌, ℕ, ℤ, pos, min, List, Option, Some, None, Result, Ok, Err}
use Rattle.lfs_model.specs.Call.{Done}
use Rattle.lfs_model.specs.Device.{DeviceState}
use Rattle.lfs_fs.specs.Refusals.{refusal_of}
use Rattle.lfs_fs.specs.Seen.{answer_by, seen}
use Rattle.lfs_fs.specs.Volume.{Mounted}
use Rattle.lfs_fs.specs.declared.error.FsError.{FsError}
use Rattle.lfs_fs.specs.declared.fs.Fs.{Fs}
use Rattle.lfs_record.specs.Asking.{BeginsOn}
use Rattle.lfs_record.specs.Recording.{Closes, Saves, TakesLine}
use Rattle.lfs_record.specs.declared.recorder.Present.{Present}
use Rattle.lfs_record.specs.declared.recorder.Recorder.{Recorder}
use Rattle.lfs_record.specs.declared.recorder.TheConstants.{MOST_BYTES}
use Rattle.pansuyog_calls.specs.Codes.{code_of_answer, code_of_refusal, inval, not_mounted}
use Rattle.pansuyog_calls.specs.Serving.{IsOnlyRead}
use Rattle.pansuyog_calls.specs.declared.access.Access.{Access}
use Rattle.pansuyog_calls.specs.declared.access.Access.TheVariants.{ReadWrite, ReadOnly}

-- C is told the number of what came of a call without a value
abbrev pub TellsResult : ℤ → Result (Unit {0}) FsError → Type 0
TellsResult code outcome = code ≡ code_of_answer (answer_by (λ done. Done) outcome)

-- a recorder has begun, or none has; and C is told so
abbrev pub TellsBegun : ℤ → Option Recorder → Result Recorder FsError → Type 0
TellsBegun code now (Ok begun) = (code ≡ pos 0) × (now ≡ Some begun)
TellsBegun code now (Err fault) = (code ≡ code_of_refusal (refusal_of fault)) × (now ≡ None)

-- the file that a recorder has open, if there is one
abbrev pub present_of : Option Recorder → Option Present
present_of (Some recorder) = recorder.present
present_of None = None

module _ {D : Type 0} (state : D → DeviceState) where
  -- A recorder begins. What one before it has open is closed first, and where it is refused there is none any more.
  pub record Begins (old new : Fs D) (was now : Option Recorder) (bytes files : ℕ) (code : ℤ) : Type 0 where
    pub between : Mounted D
    pub closed : Result (Unit {0}) FsError
    pub closes : Closes state (seen old) between (present_of was) closed
    pub outcome : Result Recorder FsError
    pub begins : BeginsOn state between (seen new) (min bytes MOST_BYTES) files outcome
    pub tells : TellsBegun code now outcome

  -- A line is written, or it isn't.
  pub record Writes (old new : Fs D) (was now : Recorder) (day line : List ℕ) (code : ℤ) : Type 0 where
    pub outcome : Result (Unit {0}) FsError
    pub takes : TakesLine state (seen old) (seen new) was now day line outcome
    pub tells : TellsResult code outcome

  -- All lines so far are saved, or the call is refused.
  pub record SavesAll (old new : Fs D) (recorder : Recorder) (code : ℤ) : Type 0 where
    pub outcome : Result (Unit {0}) FsError
    pub saves : Saves state (seen old) (seen new) recorder outcome
    pub tells : TellsResult code outcome

  -- Where no recorder has begun nothing changes, and C is told that the call isn't taken.
  abbrev pub HasNone : Fs D → Fs D → Option Recorder → ℤ → Type 0
  HasNone old new now code = (new ≡ old) × (now ≡ None) × (code ≡ inval)

  abbrev pub WritesBy : Option Recorder → Option Recorder → List ℕ → List ℕ → ℤ → Fs D → Fs D → Type 0
  WritesBy (Some was) (Some now) day line code old new = Writes old new was now day line code
  WritesBy (Some was) None day line code old new = ⊥
  WritesBy None now day line code old new = HasNone old new now code

  abbrev pub SavesBy : Option Recorder → ℤ → Fs D → Fs D → Type 0
  SavesBy (Some recorder) code old new = SavesAll old new recorder code
  SavesBy None code old new = HasNone old new None code

  -- So it is of the volume that is mounted, where it may be written; else nothing changes, and C is told why.
  abbrev pub RecordsIn : Access → Option (Fs D) → Option (Fs D) → Option Recorder → Option Recorder → ℤ → (Fs D → Fs D → Type 0) → Type 0
  RecordsIn ReadWrite (Some old) (Some new) was now code Records = Records old new
  RecordsIn ReadWrite (Some old) None was now code Records = ⊥
  RecordsIn ReadWrite None new was now code Records = (new ≡ None) × (now ≡ was) × (code ≡ not_mounted)
  RecordsIn ReadOnly old new was now code Records = IsOnlyRead state old new code × (now ≡ was)

  abbrev pub BeginsIn : Access → Option (Fs D) → Option (Fs D) → Option Recorder → Option Recorder → ℕ → ℕ → ℤ → Type 0
  BeginsIn access old new was now bytes files code =
      RecordsIn access old new was now code (λ old new. Begins old new was now bytes files code)

  abbrev pub WritesIn : Access → Option (Fs D) → Option (Fs D) → Option Recorder → Option Recorder → List ℕ → List ℕ → ℤ → Type 0
  WritesIn access old new was now day line code = RecordsIn access old new was now code (WritesBy was now day line code)

  abbrev pub SavesIn : Access → Option (Fs D) → Option (Fs D) → Option Recorder → ℤ → Type 0
  SavesIn access old new recorder code = RecordsIn access old new recorder recorder code (SavesBy recorder code)
