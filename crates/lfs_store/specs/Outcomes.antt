-- How a store's calls on its log end: what holds where they are done, what at each error, and what holds anyway.
use Rattle.std.specs.Prelude.{◌≡◌, ◌≢◌, ◌<◌, ◌≤◌, ◌+◌, true, false, length, Result, OnOk, OnErr, IsErrOf}
use Rattle.lfs_model.specs.Device.{DeviceState}
use Rattle.lfs_model.specs.declared.limits.TheConstants.{MOST_UNSAVED}
use Rattle.lfs_files.specs.declared.fault.LogFault.{LogFault}
use Rattle.lfs_files.specs.declared.fault.StoreFault.{StoreFault}
use Rattle.lfs_files.specs.declared.fault.StoreFault.TheVariants.{NoMemory, Log}
use Rattle.lfs_files.specs.declared.fault.LogFault.TheVariants.{Full, Device, Halted}
use Rattle.lfs_cleaner.specs.log.LogState.{LogState, Halts, IsFull, Saves}
use Rattle.lfs_cleaner.specs.log.Saving.{commit_orders, orders_for}
use Rattle.lfs_cleaner.specs.Making.{FailsClean, HaltsLater, HasQuarter, HasThreeSixteenths, IsAtRest}
use Rattle.lfs_cleaner.specs.Making.{LacksClean, MakesClean, MayNotMakeClean, most_checkpoints}
use Rattle.lfs_cleaner.specs.Making.{clean_orders, once_orders}
use Rattle.lfs_store.specs.declared.store.Store.{Store}
use Rattle.lfs_store.specs.Keeping.{KeepsDraft}
use Rattle.lfs_store.specs.StoreState.{asked_by}
use Rattle.lfs_store.specs.Accepting.{Accepts, Commits, Declines, HasClean, HasCleanForTwo, HasRoomFor, IsAcceptFault, Readies}

module _ {D : Type 0} (state : D → DeviceState) where
  -- A commit.
  pub record Committed (old new : Store D) (result : Result Unit LogFault) : Type 0 where
    pub keeps : KeepsDraft old new
    pub done : OnOk result (Commits state old.log new.log)
    pub ready : OnOk result (Readies state old.log new.log)
    pub saved : OnOk result (new.log.saved ≡ true)
    pub saves : OnOk result (old.log.saved ≡ false → Saves state old.log new.log)
    pub same : OnErr result (new.log.saved ≡ old.log.saved)
    pub full : IsErrOf result Full → (new.log ≡ old.log) × IsFull old.log
    pub unsaved : IsErrOf result Full → old.log.saved ≡ false
    pub other : IsErrOf result Device → ⊥
    pub halted : IsErrOf result Halted → old.log.halted ≢ true → Halts state old.log new.log
    pub still : old.log.halted ≡ true → (new.log ≡ old.log) × IsErrOf result Halted
    pub quiet : old.log.saved ≡ true → new.log ≡ old.log
    pub told : length (state new.log.device).told ≤ length (state old.log.device).told + commit_orders
    pub tells : length (state new.log.device).told
        ≤ length (state old.log.device).told + orders_for old.log.waiting

  -- Room is made in the log, or why it isn't.
  pub record Reserves (old new : Store D) (result : Result Unit LogFault) : Type 0 where
    pub keeps : KeepsDraft old new
    pub done : OnOk result (MakesClean state old.log new.log)
    pub full : IsErrOf result Full → LacksClean state old.log new.log
    pub device : IsErrOf result Device → FailsClean state old.log new.log
    pub halted : IsErrOf result Halted → old.log.halted ≢ true
        → HaltsLater state old.log new.log (most_checkpoints old.log)

  -- The cleaner makes it, where fewer than a quarter of the segments is clean.
  pub record Cleaned (old new : Store D) (result : Result Unit LogFault) : Type 0 where
    pub room : Reserves old new result
    pub still : old.log.halted ≡ true → (new.log ≡ old.log) × IsErrOf result Halted
    pub quiet : HasQuarter old.log → new.log ≡ old.log

  -- The draft of a store is staged whole, or not at all. The log is h' then.
  pub record Accepted (old : Store D) (h' : LogState D) (result : Result Unit StoreFault) : Type 0 where
    pub counted : OnOk result (h'.totals ≡ old.drafted)
    pub kept : OnErr result (h'.totals ≡ old.log.totals)
    pub done : OnOk result (Accepts state old.log h' old.draft)
    pub full : IsErrOf result (Log Full) → Declines state old.log h' old.draft
    pub lacks : IsErrOf result (Log Full) → IsFull h'
    pub never : IsErrOf result (Log Full) → MayNotMakeClean state old.log h'
    pub memory : IsErrOf result NoMemory → Declines state old.log h' old.draft
    pub fits : IsErrOf result NoMemory → (old.log.saved ≡ true → IsAtRest old.log) → MOST_UNSAVED < asked_by old.draft
    pub device : IsErrOf result (Log Device) → Declines state old.log h' old.draft
    pub failed : IsErrOf result (Log Device) → IsAcceptFault state old.log h' old.draft
    pub halted : IsErrOf result (Log Halted) → old.log.halted ≢ true
        → HaltsLater state old.log h' (most_checkpoints old.log)
    pub still : old.log.halted ≡ true → (h' ≡ old.log) × IsErrOf result (Log Halted)
    pub quiet : HasRoomFor old.log old.draft → HasClean old.log → HasThreeSixteenths old.log → h'.number ≡ old.log.number
    pub told : length (state h'.device).told
        ≤ length (state old.log.device).told + clean_orders old.log.segments
    pub one_pass : HasCleanForTwo old.log
        → length (state h'.device).told ≤ length (state old.log.device).told + once_orders old.log.segments
    pub one_commit : HasCleanForTwo old.log → HasThreeSixteenths old.log
        → length (state h'.device).told ≤ length (state old.log.device).told + commit_orders
    pub idle : HasRoomFor old.log old.draft → HasClean old.log → HasThreeSixteenths old.log
        → (state h'.device).told ≡ (state old.log.device).told
