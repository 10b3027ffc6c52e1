-- What a commit does.
use Rattle.std.specs.Prelude.{◌≡◌, ◌<◌, ◌≤◌, ◌+◌, ◌-◌, ◌*◌, ◌/◌, ℕ, [], length}
use Rattle.lfs_model.specs.Checkpoint.{CheckpointValue, shape_of}
use Rattle.lfs_model.specs.Crash.{StandsForOn}
use Rattle.lfs_model.specs.declared.limits.TheConstants.{CHUNK_BLOCKS, MOST_UNSAVED, TABLE_BLOCKS}
use Rattle.lfs_model.specs.Device.{DeviceState, Carries, AllLeft}
use Rattle.lfs_model.specs.Stands.{LogMap}
use Rattle.lfs_model.specs.TreeOf.{dropped}
use Rattle.lfs_memory.specs.segments.Chunk.{due_in, room_in}
use Rattle.lfs_memory.specs.segments.Emptied.{IsEmptied}
use Rattle.lfs_memory.specs.segments.Table.{used_of, clean_in}
use Rattle.lfs_memory.specs.segments.Spare.{emptied_in}
use Rattle.lfs_memory.specs.declared.memory.LogMemory.{LogMemory}
use Rattle.lfs_memory.specs.Memory.{IsMemory, IsLog}
use Rattle.lfs_memory.specs.segments.Early.{AreUntaken}
use Rattle.lfs_log.specs.Publishing.{IsAcknowledged, LeavesEither}

-- how many segments a commit takes at most that places so many blocks of files, and all blocks of the tables
abbrev pub segments_for : ℕ → ℕ
segments_for blocks = (blocks + TABLE_BLOCKS + (CHUNK_BLOCKS - 1)) / CHUNK_BLOCKS

-- and where the chunk that has begun takes so many blocks more
abbrev pub segments_for_open : ℕ → ℕ → ℕ
segments_for_open blocks room = (blocks + TABLE_BLOCKS + (CHUNK_BLOCKS - 1 - room)) / CHUNK_BLOCKS

-- how many orders it gives the device: these blocks, a summary for each segment and for a chunk behind the last, two syncs and a checkpoint
abbrev pub orders_for : ℕ → ℕ
orders_for blocks = blocks + TABLE_BLOCKS + segments_for blocks + 4

-- these blocks, a summary for each segment and for as many chunks as have begun or may begin without one, two syncs and a checkpoint
abbrev pub orders_for_open : ℕ → ℕ → ℕ → ℕ
orders_for_open blocks room due = blocks + TABLE_BLOCKS + segments_for_open blocks room + due + 3

-- of the blocks in memory, with the chunk that has begun, if there is one
abbrev pub segments_open : LogMemory → ℕ
segments_open v = segments_for_open (length v.dirty.blocks) (room_in v.chunk)

abbrev pub orders_open : LogMemory → ℕ
orders_open v = orders_for_open (length v.dirty.blocks) (room_in v.chunk) (due_in v.chunk v.usage)

-- how many a commit gives it at most, outside a pass of the cleaner: with all blocks of files that memory takes
abbrev pub commit_orders : ℕ
commit_orders = orders_for MOST_UNSAVED

-- and a pass, where there are so many segments
abbrev pub pass_orders : ℕ → ℕ
pass_orders segments = 8 * segments + 4

-- with so many taken, an eighth of the segments is clean or emptied still
abbrev pub IsSparedBy : ℕ → LogMemory → Type 0
IsSparedBy segments v = length v.usage.segments + 8 * segments ≤ 8 * (clean_in v.usage.segments + emptied_in v.usage.segments)

abbrev pub IsSpared : LogMemory → Type 0
IsSpared v = IsSparedBy (segments_for (length v.dirty.blocks)) v

-- All that memory holds is saved, but for files without a name; no more segments were taken for it than these, those that
-- were emptied are clean besides those that were, and an eighth is clean at least. No more orders than these were given.
pub record CommitsIn (most orders : ℕ) (d d' : DeviceState) (v v' : LogMemory) (version number : ℕ) : Type 0 where
  pub carries : Carries d d'
  pub memory : IsMemory v'
  pub chunk : v'.chunk.names ≡ []
  pub dirty : v'.dirty.blocks ≡ []
  pub untaken : AreUntaken v'.usage
  pub capacity : v'.dirty.capacity ≡ v.dirty.capacity
  pub segments : length v'.usage.segments ≡ length v.usage.segments
  pub gains : clean_in v.usage.segments + emptied_in v.usage.segments ≤ clean_in v'.usage.segments + most
  pub many : length v'.usage.segments ≤ 8 * clean_in v'.usage.segments
  pub cleaned : (s : ℕ) → IsEmptied v.usage s → used_of v'.usage s ≡ 0
  pub no_failure : d'.failures ≡ d.failures
  pub log : (k : CheckpointValue) (m0 m : LogMap) → d'.keeps_model → IsAcknowledged d v version number k m0 m
      → (next : CheckpointValue) × (next.number ≡ number + 1) × IsLog d' v' next (dropped m) m × (shape_of next ≡ shape_of k)
  pub moment : LeavesEither d d' v version number
  pub told : length d'.told ≤ length d.told + orders

-- no more than its blocks want
abbrev pub CommitsAll : DeviceState → DeviceState → LogMemory → LogMemory → ℕ → ℕ → Type 0
CommitsAll d d' v v' version number =
    CommitsIn (segments_for (length v.dirty.blocks)) (orders_for (length v.dirty.blocks)) d d' v v' version number

-- no more than they want with the chunk that has begun
abbrev pub CommitsOpen : DeviceState → DeviceState → LogMemory → LogMemory → ℕ → ℕ → Type 0
CommitsOpen d d' v v' version number = CommitsIn (segments_open v) (orders_open v) d d' v v' version number

-- A failure of the device ended it: a stop from now on leaves what was acknowledged, or what was to be saved.
pub record CommitFailsIn (orders : ℕ) (d d' : DeviceState) (v : LogMemory) (version number : ℕ) : Type 0 where
  pub carries : Carries d d'
  pub cause : (k : CheckpointValue) (m0 m : LogMap) → d'.keeps_model → IsLog d v k m0 m → d.failed_orders < d'.failed_orders
  pub left : (k : CheckpointValue) (m0 m : LogMap) → d'.keeps_model → IsAcknowledged d v version number k m0 m
      → AllLeft d' (StandsForOn (shape_of k) m0 (dropped m))
  pub moment : LeavesEither d d' v version number
  pub told : length d'.told ≤ length d.told + orders

abbrev pub CommitFails : DeviceState → DeviceState → LogMemory → ℕ → ℕ → Type 0
CommitFails d d' v version number = CommitFailsIn (orders_for (length v.dirty.blocks)) d d' v version number

abbrev pub CommitFailsOpen : DeviceState → DeviceState → LogMemory → ℕ → ℕ → Type 0
CommitFailsOpen d d' v version number = CommitFailsIn (orders_open v) d d' v version number
