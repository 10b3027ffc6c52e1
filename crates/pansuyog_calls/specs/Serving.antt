-- What a call of C makes of a volume: what the model's call makes of it.
use Rattle.std.specs.Prelude.{◌≡◌, ℕ, ℤ, List, Option, Some, None}
use Rattle.lfs_model.specs.Call as model
use Rattle.lfs_model.specs.Call.{Call, Answer}
use Rattle.lfs_model.specs.Device.{DeviceState}
use Rattle.lfs_fs.specs.Seen.{seen}
use Rattle.lfs_fs.specs.Volume.{Serves}
use Rattle.lfs_fs.specs.declared.fs.Fs.{Fs}
use Rattle.pansuyog_calls.specs.Bytes.{filled}
use Rattle.pansuyog_calls.specs.Codes.{code_of_answer, not_mounted, read_only}
use Rattle.pansuyog_calls.specs.declared.access.Access.{Access}
use Rattle.pansuyog_calls.specs.declared.access.Access.TheVariants.{ReadWrite, ReadOnly}

-- C is told the number of the answer alone
abbrev pub TellsCode : ℤ → Answer → Type 0
TellsCode code answer = code ≡ code_of_answer answer

-- the bytes of an answer, laid over those that stood in C's memory
abbrev pub laid_over : Answer → List ℕ → List ℕ
laid_over (model.Data bytes) before = filled bytes before
laid_over (model.Text bytes) before = filled bytes before
laid_over _ before = before

-- C is told the number of the answer, and given its bytes
abbrev pub TellsBytes : ℤ → List ℕ → List ℕ → Answer → Type 0
TellsBytes code before after answer = (code ≡ code_of_answer answer) × (after ≡ laid_over answer before)

module _ {D : Type 0} (state : D → DeviceState) where
  -- A mounted volume serves a call of the model, and C is told of its answer.
  pub record Answers (old new : Fs D) (call : Call) (Tells : Answer → Type 0) : Type 0 where
    pub answer : Answer
    pub serves : Serves state (seen old) (seen new) call answer
    pub tells : Tells answer

  -- The volume that is mounted serves a call of the model, and is mounted still; or none is mounted, and C is told this.
  abbrev pub ServesIn : Option (Fs D) → Option (Fs D) → Call → (Answer → Type 0) → Type 0 → Type 0
  ServesIn (Some old) (Some new) call Tells Otherwise = Answers old new call Tells
  ServesIn (Some old) None call Tells Otherwise = ⊥
  ServesIn None new call Tells Otherwise = (new ≡ None) × Otherwise

  abbrev pub ServesCall : Option (Fs D) → Option (Fs D) → Call → ℤ → Type 0
  ServesCall old new call code = ServesIn old new call (TellsCode code) (code ≡ not_mounted)

  abbrev pub ServesBytes : Option (Fs D) → Option (Fs D) → Call → ℤ → List ℕ → List ℕ → Type 0
  ServesBytes old new call code before after =
      ServesIn old new call (TellsBytes code before after) ((code ≡ not_mounted) × (after ≡ before))

  -- A volume that is only read is as it was, and C is told this; or none is mounted.
  abbrev pub IsOnlyRead : Option (Fs D) → Option (Fs D) → ℤ → Type 0
  IsOnlyRead (Some old) new code = (new ≡ Some old) × (code ≡ read_only)
  IsOnlyRead None new code = (new ≡ None) × (code ≡ not_mounted)

  -- a call that may write: it is made where that is allowed
  abbrev pub ServesChange : Access → Option (Fs D) → Option (Fs D) → Call → ℤ → Type 0
  ServesChange ReadWrite old new call code = ServesCall old new call code
  ServesChange ReadOnly old new call code = IsOnlyRead old new code
