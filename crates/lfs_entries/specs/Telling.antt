-- What calls on entries tell of files: of each log map that is staged, with the draft.
use Rattle.std.specs.Prelude.{◌≡◌, true, Result, IsErrOf}
use Rattle.lfs_model.specs.Stands.{LogMap}
use Rattle.lfs_files.specs.declared.fault.LogFault.TheVariants as log
use Rattle.lfs_files.specs.Files.{FilesState, IsFault, Reads, Redrafts}
use Rattle.lfs_path.specs.Telling.{TellsFault}
use Rattle.lfs_entries.specs.declared.fault.EntryFault.{EntryFault}
use Rattle.lfs_entries.specs.declared.fault.EntryFault.TheVariants as fault

module _ {S D : Type 0} (s s' : FilesState S D) where
  -- it is so in each of them
  abbrev pub InEach : (LogMap → Type 0) → Type 0
  InEach P = (m m' : LogMap) → s'.device.keeps_model → s.has m m' → P m'

  -- no refusal: memory was refused, or a call of the device failed
  abbrev pub FailsAt : EntryFault → Type 0
  FailsAt fault.NoMemory = Unit {0}
  FailsAt (fault.Log f) = IsFault s s'
  FailsAt _ = ⊥

  -- or it failed where this is so
  abbrev pub FailsWhere : (LogMap → Type 0) → EntryFault → Type 0
  FailsWhere P fault.NoMemory = Unit {0}
  FailsWhere P (fault.Log f) = TellsFault s s' P
  FailsWhere P _ = ⊥

  -- A call that only reads. A halted log says so, and none is full.
  pub record AsksOnly {A : Type 0} (result : Result A EntryFault) : Type 0 where
    pub reads : Reads s s'
    pub halted : IsErrOf result (fault.Log log.Halted) → s.halted ≡ true
    pub other : IsErrOf result (fault.Log log.Full) → ⊥

  -- The same of a call that changes no more than the draft.
  pub record DraftsOnly {A : Type 0} (result : Result A EntryFault) : Type 0 where
    pub redrafts : Redrafts s s'
    pub halted : IsErrOf result (fault.Log log.Halted) → s.halted ≡ true
    pub other : IsErrOf result (fault.Log log.Full) → ⊥
