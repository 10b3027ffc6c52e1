-- What a call keeps of a store.
use Rattle.std.specs.Prelude.{◌≡◌}
use Rattle.lfs_model.specs.Device.{DeviceState}
pub use Rattle.lfs_cleaner.specs.log.LogState.{ReadsLog}
use Rattle.lfs_cleaner.specs.log.LogState.{Reads}
use Rattle.lfs_store.specs.declared.store.Store.{Store}

module _ {D : Type 0} (old new : Store D) where
  -- A call that changes the draft alone, and what it counts.
  pub record OnlyDrafts : Type 0 where
    pub log : new.log ≡ old.log

  -- One that doesn't count what it changes.
  pub record DraftsUncounted : Type 0 where
    pub log : new.log ≡ old.log
    pub drafted : new.drafted ≡ old.drafted

  -- A call on the log: the draft stays, and the totals do.
  pub record KeepsDraft : Type 0 where
    pub draft : new.draft ≡ old.draft
    pub totals : new.log.totals ≡ old.log.totals
    pub drafted : new.drafted ≡ old.drafted

module _ {D : Type 0} (state : D → DeviceState) (old new : Store D) where
  -- A call that changes the draft by what it reads in the log, and doesn't count what it changes.
  pub record RedraftsUncounted : Type 0 where
    pub reads : Reads state old.log new.log
    pub drafted : new.drafted ≡ old.drafted

  -- One that counts alone.
  pub record OnlyCounts : Type 0 where
    pub reads : Reads state old.log new.log
    pub draft : new.draft ≡ old.draft
