-- What the steps of the calls of paths do, each for itself.
use Rattle.std.specs.Prelude.{◌≡◌, ◌⊎◌, ℕ, true, List, Option, Some, None}
use Rattle.lfs_model.specs.Bytes.{AreBytes}
use Rattle.lfs_model.specs.Checkpoint.{CheckpointValue}
use Rattle.lfs_model.specs.Device.{DeviceState}
use Rattle.lfs_model.specs.Stands.{LogMap}
use Rattle.lfs_model.specs.Tree.{State}
use Rattle.lfs_model.specs.Walk.{At, Parent}
use Rattle.lfs_files.specs.declared.fault.LogFault.TheVariants as log
use Rattle.lfs_store.specs.StoreState.{IsEmpty, draft_of, drafted_of}
use Rattle.lfs_fs.specs.Drafted.{EndsRefused, WalksTo}
use Rattle.lfs_fs.specs.Faults.{error_of_walk}
use Rattle.lfs_path.specs.declared.last.Last.{Last}
use Rattle.lfs_path.specs.declared.walk_fault.WalkFault.{WalkFault}
use Rattle.lfs_path.specs.declared.walk_fault.WalkFault.TheVariants as walking
use Rattle.lfs_path.specs.Lasts.{HasLast}
use Rattle.lfs_path.specs.Reaching.{EndsParent}
use Rattle.lfs_fs.specs.declared.error.FsError.{FsError}
use Rattle.lfs_fs.specs.declared.error.FsError.TheVariants as error
use Rattle.lfs_fs.specs.declared.fs.Fs.{Fs}
use Rattle.lfs_fs.specs.Seen.{Begins, IsReady, OnlyReads, seen}
use Rattle.lfs_fs.specs.Volume.{IsIn, IsStill, Mounted}

module _ {D : Type 0} (state : D → DeviceState) where
  -- A call that makes an entry began at volume v, read, and came to directory d, where the last
  -- piece of a path stands.
  pub record Reaches (v : Mounted D) (old : Fs D) (path : List ℕ) (d : ℕ) (piece : Option Last) : Type 0 where
    pub still : IsStill state v (seen old)
    pub empty : IsEmpty (draft_of old.store)
    pub drafted : drafted_of old.store ≡ (seen old).log.totals
    pub bytes : AreBytes path
    pub last : HasLast path piece
    pub walk : (k : CheckpointValue) (m0 m : LogMap) (s : State)
        → (state (seen old).log.device).keeps_model → IsIn state v k m0 m s
        → Parent s.tree path (At d)

  -- The walk of a path came to directory d, where its last piece stands.
  pub record FindsPlace (old new : Fs D) (path : List ℕ) (d : ℕ) (piece : Option Last) : Type 0 where
    pub last : HasLast path piece
    pub walks : WalksTo state (seen old).log (seen new).log (draft_of old.store) (EndsParent path) (At d)

  -- It ended refused, or the log gave no answer.
  pub record FailsPlace (old new : Fs D) (path : List ℕ) (fault : FsError) : Type 0 where
    pub cause : WalkFault
    pub is : fault ≡ error_of_walk cause
    pub ends : EndsRefused state (seen old).log (seen new).log (draft_of old.store) (EndsParent path) cause
    pub halted : cause ≡ walking.Log log.Halted → (seen old).log.halted ≡ true
    pub other : cause ≡ walking.Log log.Full → ⊥

  -- or the path has no piece, which has a fault of its own
  abbrev pub LacksPlace : Fs D → Fs D → List ℕ → FsError → FsError → Type 0
  LacksPlace old new path nameless fault = FailsPlace old new path fault
      ⊎ ((fault ≡ nameless) × ((d : ℕ) × FindsPlace old new path d None))

  -- A call began, and came to the last piece of its path, in directory d.
  pub record BeginsAt (old new : Fs D) (path : List ℕ) (d : ℕ) (last : Last) : Type 0 where
    pub reached : Reaches (seen old) new path d (Some last)
    pub ready : IsReady new

  -- It began, and the path was refused.
  pub record BeginsOnly (old new : Fs D) (path : List ℕ) (fault : FsError) : Type 0 where
    pub begun : Fs D
    pub begins : Begins old begun
    pub reads : OnlyReads state begun new
    pub fails : FailsPlace begun new path fault

  -- It came nowhere: the volume is halted, or the path was refused, or has no piece.
  abbrev pub BeginsNowhere : Fs D → Fs D → List ℕ → FsError → FsError → Type 0
  BeginsNowhere old new path nameless fault = ((fault ≡ error.Halted) × (new ≡ old) × ((seen old).log.halted ≡ true))
      ⊎ (BeginsOnly old new path fault
      ⊎ ((fault ≡ nameless) × ((d : ℕ) × (Reaches (seen old) new path d None × IsReady new))))
