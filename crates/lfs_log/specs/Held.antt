-- What a log keeps in its fields, and what of it the layers above see.
use Rattle.std.specs.Prelude.{◌≡◌, ◌≤◌, ◌+◌, ◌*◌, ◌/◌, cond, max, ℕ, Bool, true, false, [], length}
use Rattle.lfs_model.specs.declared.limits.TheConstants.{CHUNK_BLOCKS, MOST_UNSAVED, SEGMENT_SECTORS, TABLE_BLOCKS}
use Rattle.lfs_model.specs.Device.{DeviceState}
use Rattle.lfs_memory.specs.segments.Early.{AreUntaken, early_in}
use Rattle.lfs_memory.specs.segments.Spare.{emptied_in}
use Rattle.lfs_memory.specs.segments.Table.{clean_in}
use Rattle.lfs_memory.specs.inodes.Data.{data_count}
use Rattle.lfs_memory.specs.declared.memory.LogMemory.{LogMemory}
use Rattle.lfs_memory.specs.Memory.{IsMemory, HoldsVolume}
use Rattle.lfs_verify.specs.declared.totals.BlockTotals.{BlockTotals}
use Rattle.lfs_log.specs.declared.moving.TheConstants.{MOST_MOVING}
use Rattle.lfs_log.specs.Groups.{ListedKeys}
use Rattle.lfs_log.specs.LogState.{LogState}
use Rattle.lfs_log.specs.Thresholds.{most_victims}

pub record Held (D : Type 0) : Type 0 where
  pub device : D
  pub memory : LogMemory
  pub number : ℕ
  pub version : ℕ
  pub upgraded : Bool
  pub saved : Bool
  pub halted : Bool
  pub totals : BlockTotals

-- how much is unsaved, as `unsaved_by` of the log's state says it
abbrev pub unsaved_in : {D : Type 0} → Held D → ℕ
unsaved_in h =
    cond h.saved 0 (max 1 (length h.memory.dirty.blocks + early_in h.memory.usage.segments + cond h.upgraded 1 0))

-- what the layers above see of it
abbrev pub seen : {D : Type 0} → Held D → LogState D
seen h = record {
  device = h.device;
  halted = h.halted;
  number = h.number;
  version = h.version;
  upgraded = h.upgraded;
  saved = h.saved;
  unsaved = unsaved_in h;
  totals = h.totals;
  segments = length h.memory.usage.segments;
  clean = clean_in h.memory.usage.segments;
  emptied = emptied_in h.memory.usage.segments;
  waiting = length h.memory.dirty.blocks;
  file_data = data_count h.memory.dirty;
  usage = h.memory.usage;
  inner = h.memory;
}

-- What a log keeps true over any device, until a commit failed. Its memory takes as many blocks as one commit may write.
pub record IsRunning (d : DeviceState) (v : LogMemory) : Type 0 where
  pub memory : IsMemory v
  pub room : HoldsVolume d v
  pub closed : v.chunk.names ≡ []
  pub few : length v.dirty.blocks ≤ MOST_UNSAVED
  pub wide : v.dirty.capacity.limit ≡ MOST_UNSAVED
  pub reserved : v.dirty.capacity.room ≡ MOST_UNSAVED

-- memory of a pass of the cleaner: for the tables, for blocks that wait there, and for the names of all that its victims hold
pub record IsPassMemory (v pass : LogMemory) (keys : ListedKeys) : Type 0 where
  pub segments : length pass.usage.segments ≡ length v.usage.segments
  pub least : MOST_MOVING ≤ pass.dirty.capacity.limit
  pub limit : pass.dirty.capacity.limit + TABLE_BLOCKS ≤ CHUNK_BLOCKS * (length v.usage.segments / 8)
  pub list : SEGMENT_SECTORS * most_victims (length v.usage.segments) ≤ keys.room

-- and the log has it
pub record IsReadyToPass (d : DeviceState) (v pass : LogMemory) (keys : ListedKeys) : Type 0 where
  pub running : IsRunning d v
  pub prepared : IsPassMemory v pass keys

abbrev pub HoldsUnlessHalted : DeviceState → LogMemory → LogMemory → ListedKeys → Bool → Type 0
HoldsUnlessHalted d v pass keys halted = halted ≡ false → IsReadyToPass d v pass keys

-- nothing waits for a checkpoint: no block in memory, no version that was raised, and no sector that was taken
pub record NothingWaits (v : LogMemory) (upgraded : Bool) : Type 0 where
  pub blocks : v.dirty.blocks ≡ []
  pub version : upgraded ≡ false
  pub sectors : AreUntaken v.usage

-- so it is where all of the log is saved
abbrev pub WaitsUnlessSaved : LogMemory → Bool → Bool → Type 0
WaitsUnlessSaved v upgraded saved = saved ≡ true → NothingWaits v upgraded
