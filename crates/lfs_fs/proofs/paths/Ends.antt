-- A volume whose layers below were only read.
use Rattle.lfs_fs.proofs.Prelude.{◌≡◌, DeviceState, Reads, draft_of, drafted_of, Fs, OnlyReads, seen}

module _ {D : Type 0} (state : D → DeviceState) where
  pub store_reads : {old new : Fs D} → Reads state (seen old).log (seen new).log → draft_of new.store ≡ draft_of old.store
      → drafted_of new.store ≡ drafted_of old.store → new.handles ≡ old.handles → OnlyReads state old new
  store_reads reads draft drafted handles = record {
    still = record { reads = reads; table = handles };
    draft = draft;
    drafted = drafted;
  }
