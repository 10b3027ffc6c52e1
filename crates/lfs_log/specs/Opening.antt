-- What a mount makes of the tables: the memory of a log that runs.
use Rattle.std.specs.Prelude.{◌≡◌, ◌≤◌, ◌+◌, ◌*◌, ℕ, [], length, None}
use Rattle.lfs_model.specs.Checkpoint.{MayHave}
use Rattle.lfs_model.specs.Device.{DeviceState}
use Rattle.lfs_model.specs.declared.limits.TheConstants.{CHECKPOINT_SLOTS, MOST_UNSAVED, SEGMENT_SECTORS}
use Rattle.lfs_model.specs.Stands.{LogMap, StandsLog}
use Rattle.lfs_model.specs.Totals.{IsCounted}
use Rattle.lfs_verify.specs.declared.totals.BlockTotals.{BlockTotals}
use Rattle.lfs_memory.specs.declared.memory.LogMemory.{LogMemory}
use Rattle.lfs_memory.specs.Memory.{IsMemory, IsLog}

-- a mount's memory
pub record IsOpened (v : LogMemory) (size : ℕ) : Type 0 where
  pub memory : IsMemory v
  pub room : CHECKPOINT_SLOTS + SEGMENT_SECTORS * length v.usage.segments ≤ size
  pub chunk : v.chunk.names ≡ []
  -- so the first chunk begins in a clean segment
  pub last : v.usage.last ≡ None
  pub dirty : v.dirty.blocks ≡ []
  pub wide : v.dirty.capacity.limit ≡ MOST_UNSAVED
  pub reserved : v.dirty.capacity.room ≡ MOST_UNSAVED

-- The device holds the log map that it stands for, all of it durable.
abbrev pub Opens : DeviceState → DeviceState → LogMemory → ℕ → ℕ → Type 0
Opens d d' v version number = (m : LogMap) → d'.keeps_model → (is : StandsLog d.content m)
    → IsLog d' v is.checkpoint m m × (is.checkpoint.number ≡ number) × (m.version ≡ version)
    × MayHave is.checkpoint version

-- These are the totals of the log map for which the content stands.
abbrev pub CountsOpened : DeviceState → DeviceState → BlockTotals → Type 0
CountsOpened d d' totals = (m : LogMap) → d'.keeps_model → StandsLog d.content m → IsCounted m totals.data_blocks totals.meta_blocks
