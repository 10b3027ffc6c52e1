-- What becomes of what a call drafted.
use Rattle.std.specs.Prelude.{◌≡◌, Result, Ok, Err, OnOk, IfErr}
use Rattle.lfs_model.specs.Device.{DeviceState}
use Rattle.lfs_entries.specs.declared.fault.EntryFault.{EntryFault}
use Rattle.lfs_fs.specs.declared.error.FsError.{FsError}
use Rattle.lfs_fs.specs.declared.fs.Fs.{Fs}
use Rattle.lfs_fs.specs.Accepting.{StagesDraft, TurnsDown}
use Rattle.lfs_fs.specs.Faults.{error_of_entry}
use Rattle.lfs_fs.specs.Seen.{seen}

module _ {D : Type 0} (state : D → DeviceState) where
  -- The draft is whole: it is staged, or turned down.
  pub record EndsDraft (old new : Fs D) (result : Result (Unit {0}) FsError) : Type 0 where
    pub done : OnOk result (StagesDraft state old new)
    pub refused : IfErr result (TurnsDown state old new)

  -- It isn't, and is given up.
  pub record GivesUp (old new : Fs D) (fault : EntryFault) (result : Result (Unit {0}) FsError) : Type 0 where
    pub same : seen new ≡ seen old
    pub is : result ≡ Err (error_of_entry fault)

  abbrev pub Finishes : Fs D → Fs D → Result (Unit {0}) EntryFault → Result (Unit {0}) FsError → Type 0
  Finishes old new (Ok drafted) result = EndsDraft old new result
  Finishes old new (Err fault) result = GivesUp old new fault result
