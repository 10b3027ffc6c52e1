-- What becomes of a call's draft: it is staged where the volume has the space for it, or it isn't.
use Rattle.std.specs.Prelude.{◌≡◌, ◌⊎◌, ◌<◌, ◌≤◌, ◌+◌, ◌*◌, ◌^◌, ℕ}
use Rattle.lfs_model.specs.declared.limits.TheConstants.{LEAST_NEED, MOST_UNSAVED, NEED_OF_META, NEED_OF_SEGMENT}
use Rattle.lfs_model.specs.Device.{DeviceState}
use Rattle.lfs_store.specs.cleaner.Making.{HaltsLater, HasThreeSixteenths, MayNotMakeClean, most_checkpoints, clean_orders, once_orders}
use Rattle.lfs_store.specs.log.LogState.{LogState}
use Rattle.lfs_store.specs.log.Saving.{commit_orders}
use Rattle.lfs_store.specs.Accepting.{Accepts, Declines, HasClean, HasCleanForTwo, IsAcceptFault}
use Rattle.lfs_store.specs.StoreState.{asked_by, draft_of, drafted_of}
use Rattle.lfs_fs.specs.declared.error.FsError.{FsError}
use Rattle.lfs_fs.specs.declared.error.FsError.TheVariants as error
use Rattle.lfs_fs.specs.declared.fs.Fs.{Fs}
use Rattle.lfs_fs.specs.Seen.{seen}
use Rattle.lfs_fs.specs.Volume.{TellsAtMost, TellsNothing}

-- what the tree needs with the draft, and the most that it may need
abbrev pub need_of : {D : Type 0} → Fs D → ℕ
need_of f = (drafted_of f.store).data_blocks + NEED_OF_META * (drafted_of f.store).meta_blocks + LEAST_NEED

abbrev pub limit_of : {D : Type 0} → Fs D → ℕ
limit_of f = NEED_OF_SEGMENT * (seen f).log.segments

module _ {D : Type 0} (state : D → DeviceState) where
  -- The device is given no more orders than where room is made, no more than in a commit and a pass where enough segments are clean for
  -- two commits, and no more than in a commit where three sixteenths are clean too. It is given none where memory has room for so many
  -- blocks more and enough segments are clean for a commit, three sixteenths too.
  pub record TellsFew (old new : LogState D) (asked : ℕ) : Type 0 where
    pub room : TellsAtMost state old new (clean_orders old.segments)
    pub one_pass : HasCleanForTwo old → TellsAtMost state old new (once_orders old.segments)
    pub one_commit : HasCleanForTwo old → HasThreeSixteenths old → TellsAtMost state old new commit_orders
    pub idle : HasClean old → HasThreeSixteenths old → old.waiting + asked ≤ MOST_UNSAVED → TellsNothing state old new

  -- The draft is staged, and the totals are those with it.
  pub record StagesDraft (old new : Fs D) : Type 0 where
    pub accepts : Accepts state (seen old).log (seen new).log (draft_of old.store)
    pub totals : (seen new).log.totals ≡ drafted_of old.store
    pub young : (seen old).log.number < 2 ^ 62
    pub room : need_of old ≤ limit_of old
    pub tells : TellsFew (seen old).log (seen new).log (asked_by (draft_of old.store))

  -- It isn't, after room was to be made for it.
  pub record IsDeclined (old new : Fs D) : Type 0 where
    pub declines : Declines state (seen old).log (seen new).log (draft_of old.store)
    pub totals : (seen new).log.totals ≡ (seen old).log.totals
    pub young : (seen old).log.number < 2 ^ 62
    pub tells : TellsFew (seen old).log (seen new).log (asked_by (draft_of old.store))

  -- A call of the device failed, or no room could be made, as it can where the device keeps the model.
  abbrev pub IsFailed : Fs D → Fs D → Type 0
  IsFailed old new =
      IsAcceptFault state (seen old).log (seen new).log (draft_of old.store)
      ⊎ MayNotMakeClean state (seen old).log (seen new).log

  -- Why it isn't: no other fault comes.
  abbrev pub TurnsDown : Fs D → Fs D → FsError → Type 0
  TurnsDown old new error.NoSpace = (seen new ≡ seen old) × (limit_of old < need_of old)
  TurnsDown old new error.Worn = (seen new ≡ seen old) × (2 ^ 62 ≤ (seen old).log.number) × (need_of old ≤ limit_of old)
  TurnsDown old new error.NoMemory = IsDeclined old new
  TurnsDown old new error.Device = IsDeclined old new × IsFailed old new
  TurnsDown old new error.Halted =
      HaltsLater state (seen old).log (seen new).log (most_checkpoints (seen old).log)
      × TellsFew (seen old).log (seen new).log (asked_by (draft_of old.store))
  TurnsDown old new _ = ⊥
