-- What a recorder that begins asks of a volume, by its results.
use Rattle.std.specs.Prelude.{◌≡◌, ◌⊎◌, ℕ, List, ◌∷◌, ◌++◌, Option, Result, Ok, Err}
use Rattle.lfs_model.specs.Call.{Call, Refuse}
use Rattle.lfs_model.specs.Device.{DeviceState}
use Rattle.lfs_fs.specs.Refusals.{refusal_of}
use Rattle.lfs_fs.specs.Volume.{Mounted}
use Rattle.lfs_fs.specs.declared.error.FsError.{FsError}
use Rattle.lfs_fs.specs.declared.error.FsError.TheVariants as error
use Rattle.lfs_record.specs.Beginning.{Begins, FindsFiles, GoesOn, TakesUp}
use Rattle.lfs_record.specs.Moves.{Calls}
use Rattle.lfs_record.specs.Recording.{ServesCalls}
use Rattle.lfs_record.specs.declared.recorder.Present.{Present}
use Rattle.lfs_record.specs.declared.recorder.Recorder.{Recorder}

-- one of the calls was refused for this fault
abbrev pub WasRefused : Calls → FsError → Type 0
WasRefused calls fault = (before : Calls) × (call : Call) × (later : Calls) × (calls ≡ before ++ (call, Refuse (refusal_of fault)) ∷ later)

-- why a recorder doesn't begin: a call was refused, or memory was
abbrev pub EndsEarly : Calls → FsError → Type 0
EndsEarly calls fault = WasRefused calls fault ⊎ (fault ≡ error.NoMemory)

-- an open file goes on, or is closed
abbrev pub EndsOpen : ℕ → List ℕ → ℕ → Calls → Result (Option Present) FsError → Type 0
EndsOpen handle day size calls (Ok present) = GoesOn handle day size calls present
EndsOpen handle day size calls (Err fault) = WasRefused calls fault

-- the file of a name goes on, or doesn't
abbrev pub EndsTaking : List ℕ → Calls → Result (Option Present) FsError → Type 0
EndsTaking name calls (Ok present) = TakesUp name calls present
EndsTaking name calls (Err fault) = EndsEarly calls fault

-- a recorder of so many bytes and files goes by what its calls found
abbrev pub EndsBegun : ℕ → ℕ → Calls → Result Recorder FsError → Type 0
EndsBegun bytes files calls (Ok r) = Begins bytes files calls r × FindsFiles calls r
EndsBegun bytes files calls (Err fault) = EndsEarly calls fault

module _ {D : Type 0} (state : D → DeviceState) where
  pub record KeepsOpen (old new : Mounted D) (handle : ℕ) (day : List ℕ) (size : ℕ) (result : Result
      (Option Present) FsError) : Type 0 where
    pub calls : Calls
    pub served : ServesCalls state old new calls
    pub ends : EndsOpen handle day size calls result

  pub record TakesFile (old new : Mounted D) (name : List ℕ) (result : Result (Option Present) FsError) : Type 0 where
    pub calls : Calls
    pub served : ServesCalls state old new calls
    pub ends : EndsTaking name calls result

  -- A recorder begins: by the calls that it makes, and by the state that they leave where they are a run of the model.
  pub record BeginsOn (old new : Mounted D) (bytes files : ℕ) (result : Result Recorder FsError) : Type 0 where
    pub calls : Calls
    pub served : ServesCalls state old new calls
    pub ends : EndsBegun bytes files calls result
