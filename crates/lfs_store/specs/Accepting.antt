-- A store over its log: what it holds from a mount on, as drafts are staged and commits save them.
use Rattle.std.specs.Prelude.{◌≡◌, ◌⊎◌, ◌<◌, ◌≤◌, ◌+◌, ◌/◌, ℕ, true, false, cond}
use Rattle.lfs_model.specs.declared.limits.TheConstants.{MOST_UNSAVED}
use Rattle.lfs_model.specs.Checkpoint.{CheckpointValue, Shape, shape_of}
use Rattle.lfs_model.specs.Crash.{StandsOn}
use Rattle.lfs_model.specs.Device.{DeviceState, Carries, AllLeft}
use Rattle.lfs_model.specs.Encodes.{IsLogMap}
use Rattle.lfs_model.specs.Memory.{is_nameless}
use Rattle.lfs_model.specs.Stands.{LogMap, StandsLog}
use Rattle.lfs_model.specs.TreeOf.{dropped}
use Rattle.lfs_cleaner.specs.log.verify.declared.fault.MountFault.{MountFault}
use Rattle.lfs_cleaner.specs.log.verify.Faults.{IsFault, LacksLog}
use Rattle.lfs_cleaner.specs.log.memory.Removing.{without_file}
use Rattle.lfs_cleaner.specs.log.LogState.{LogState, Holds, LeavesSaved}
use Rattle.lfs_cleaner.specs.log.Thresholds.{HasReserve}
use Rattle.lfs_cleaner.specs.Making.{IsSavedAmply, MakesClean, MayMakeClean, SavesOnly, most_checkpoints}
use Rattle.lfs_store.specs.declared.draft.Draft.{Draft}
use Rattle.lfs_store.specs.StoreState.{Fits, asked_by, with_draft}

-- A mount's refusal that isn't of memory. Where the content stands for a log map it is Device, and a call of the device failed.
abbrev pub IsMountRefusal : DeviceState → DeviceState → MountFault → Type 0
IsMountRefusal d d' =
    IsFault ((m : LogMap) → d'.keeps_model → StandsLog d.content m → d.failures < d'.failures) (LacksLog d d')

-- enough segments are clean for a commit
abbrev pub HasClean : {D : Type 0} → LogState D → Type 0
HasClean h = HasReserve h.segments h.clean

-- enough are clean for two: one leaves what the next asks for
abbrev pub HasCleanForTwo : {D : Type 0} → LogState D → Type 0
HasCleanForTwo h = h.segments / 8 + 16 ≤ h.clean

-- memory has room for a draft: what it brings fits beside what isn't saved, in what one commit may write
abbrev pub HasRoomFor : {D : Type 0} → LogState D → Draft → Type 0
HasRoomFor h d = (h.halted ≡ false) × (h.waiting + asked_by d ≤ MOST_UNSAVED)

-- At most so many checkpoints are written, and where there was room for what isn't saved there still is.
pub record SavesFew {D : Type 0} (h h' : LogState D) : Type 0 where
  pub number : h.number ≤ h'.number
  pub few : h'.number ≤ h.number + h.segments / 8 + 1
  pub ready : (h.saved ≡ false → HasClean h) → h'.saved ≡ false → HasClean h'

module _ {D : Type 0} (state : D → DeviceState) where
  -- A commit: what the log has, without its files of no links, is acknowledged. Where all of it was saved nothing happens.
  pub record Commits (h h' : LogState D) : Type 0 where
    pub carries : Carries (state h.device) (state h'.device)
    pub was_running : h.halted ≡ false
    pub running : h'.halted ≡ false
    pub number : h'.number ≡ cond h.saved h.number (h.number + 1)
    pub segments : h'.segments ≡ h.segments
    pub clean : h.clean ≤ h'.clean + 8
    pub saved : h'.saved ≡ true
    pub no_failure : (state h'.device).failures ≡ (state h.device).failures
    pub holds : (k : CheckpointValue) (m0 m : LogMap) → (state h'.device).keeps_model → Holds state h k m0 m → IsLogMap (dropped m)
        → (next : CheckpointValue) × (shape_of next ≡ shape_of k) × Holds state h' next (dropped m) m
    pub left : (k : CheckpointValue) (m0 m : LogMap) → (state h'.device).keeps_model → Holds state h k m0 m → IsLogMap (dropped m)
        → AllLeft (state h'.device) (λ c. StandsOn (shape_of k) c (dropped m))
    pub moment : LeavesSaved state h h'

  -- The log has log map m' now: over what was acknowledged before, m0, or over
  -- m without its files of no links, if a commit came. The volume has this shape still.
  pub record HoldsNext (shape : Shape) (m0 m : LogMap) (h : LogState D) (m' : LogMap) : Type 0 where
    pub checkpoint : CheckpointValue
    pub acknowledged : LogMap
    pub either : (acknowledged ≡ m0) ⊎ (acknowledged ≡ dropped m)
    pub same : shape_of checkpoint ≡ shape
    pub holds : Holds state h checkpoint acknowledged m'

  -- What isn't saved is committed, or a part of it written early, or nothing is done: room can be made still.
  pub record Readies (h h' : LogState D) : Type 0 where
    pub room : MakesClean state h h'
    pub spent : h'.number + most_checkpoints h' ≤ h.number + most_checkpoints h
    pub able : (k : CheckpointValue) (m0 m : LogMap) → (state h'.device).keeps_model → MayMakeClean state h k m0 m
        → (next : CheckpointValue) × (m1 : LogMap) × MayMakeClean state h' next m1 m

  -- how a draft finds the log behind a pass: nothing was done, or room can be made still, or all is saved, with enough segments clean
  abbrev pub FindsReady : LogState D → LogState D → Type 0
  FindsReady h h' = (h' ≡ h) ⊎ ((Readies h h' × SavesOnly state h h') ⊎ IsSavedAmply h')

  -- A draft is staged: the log has the log map with all its changes, and enough segments are clean for a commit.
  pub record Accepts (h h' : LogState D) (d : Draft) : Type 0 where
    pub carries : Carries (state h.device) (state h'.device)
    pub halted : h'.halted ≡ h.halted
    pub segments : h'.segments ≡ h.segments
    pub enough : HasClean h'
    pub unsaved : h'.saved ≡ false
    pub saves : SavesFew h h'
    pub holds : (k : CheckpointValue) (m0 m : LogMap) → (state h'.device).keeps_model → Holds state h k m0 m → Fits d m
        → IsLogMap (dropped m) → HoldsNext (shape_of k) m0 m h' (with_draft d m)
    pub moment : LeavesSaved state h h'

  -- Or it isn't: the log has the log map that it had.
  pub record Declines (h h' : LogState D) (d : Draft) : Type 0 where
    pub carries : Carries (state h.device) (state h'.device)
    pub halted : h'.halted ≡ h.halted
    pub segments : h'.segments ≡ h.segments
    pub saves : SavesFew h h'
    pub holds : (k : CheckpointValue) (m0 m : LogMap) → (state h'.device).keeps_model → Holds state h k m0 m → Fits d m
        → IsLogMap (dropped m) → HoldsNext (shape_of k) m0 m h' m
    pub moment : LeavesSaved state h h'

  -- a call of the device failed, where the log has a log map that the draft fits
  abbrev pub IsAcceptFault : LogState D → LogState D → Draft → Type 0
  IsAcceptFault h h' d = (k : CheckpointValue) (m0 m : LogMap) → (state h'.device).keeps_model → Holds state h k m0 m → Fits d m
      → IsLogMap (dropped m)
      → (state h.device).failures < (state h'.device).failures

  -- A file without a name goes at once: what is acknowledged is as it was.
  abbrev pub Forgets : LogState D → LogState D → ℕ → Type 0
  Forgets h h' n = (k : CheckpointValue) (m0 m : LogMap) → (state h'.device).keeps_model → Holds state h k m0 m
      → is_nameless m n ≡ true → Holds state h' k m0 (without_file n m)
