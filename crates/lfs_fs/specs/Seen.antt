-- What contracts see of a volume's value, and the answers of its calls.
use Rattle.std.specs.Prelude.{◌≡◌, ℕ, false, None, Result, Ok, Err}
use Rattle.std.specs.Ordering.{nat_cmp}
use Rattle.std.specs.FinMap.{find}
use Rattle.lfs_model.specs.Call.{Answer, Refuse}
use Rattle.lfs_model.specs.Device.{DeviceState}
use Rattle.lfs_model.specs.Tree.{Handles}
use Rattle.lfs_store.specs.StoreState.{IsEmpty, draft_of, drafted_of, volume_of}
use Rattle.lfs_fs.specs.declared.error.FsError.{FsError}
use Rattle.lfs_fs.specs.declared.error.FsError.TheVariants as error
use Rattle.lfs_fs.specs.declared.fs.Fs.{Fs}
use Rattle.lfs_fs.specs.Refusals.{refusal_of}
use Rattle.lfs_fs.specs.Volume.{IsStill, Mounted}

abbrev pub seen : {D : Type 0} → Fs D → Mounted D
seen f = record { log = volume_of f.store; table = f.handles }

-- the answer of a call by its result
abbrev pub answer_by : {X : Type 0} → (X → Answer) → Result X FsError → Answer
answer_by f (Ok x) = f x
answer_by f (Err e) = Refuse (refusal_of e)

-- A volume whose log was only read, for a call's draft, which is as it was.
pub record OnlyReads {D : Type 0} (state : D → DeviceState) (old new : Fs D) : Type 0 where
  pub still : IsStill state (seen old) (seen new)
  pub draft : draft_of new.store ≡ draft_of old.store
  pub drafted : drafted_of new.store ≡ drafted_of old.store

-- A call may draft: the volume isn't halted, and nothing is drafted.
pub record IsReady {D : Type 0} (f : Fs D) : Type 0 where
  pub running : (seen f).log.halted ≡ false
  pub empty : IsEmpty (draft_of f.store)

-- A call begins: the volume isn't halted, and nothing is drafted.
pub record Begins {D : Type 0} (old new : Fs D) : Type 0 where
  pub running : (seen old).log.halted ≡ false
  pub same : seen new ≡ seen old
  pub empty : IsEmpty (draft_of new.store)
  pub drafted : drafted_of new.store ≡ (seen new).log.totals

-- why a handle gives no file: it isn't open
abbrev pub GivesNone : Handles → ℕ → FsError → Type 0
GivesNone table handle fault = (fault ≡ error.BadHandle) × (find nat_cmp handle table ≡ None)
