-- What the log holds in memory, and what that and the device stand for.
use Rattle.std.specs.Prelude.{◌≡◌, ◌<◌, ◌≤◌, ◌+◌, ◌*◌, ◌/◌, ◌%◌, ◌^◌, ◌==◌, cond, ℕ, Bool, true, List, [], ◌∷◌, ◌++◌, length, Option}
use Rattle.std.specs.Prelude.{Some, None}
use Rattle.lfs_model.specs.declared.limits.TheConstants.{BLOCK_SEGMENTS, CHECKPOINT_SLOTS, CHUNK_BLOCKS, FILE_NUMBERS, MOST_SEGMENTS}
use Rattle.lfs_model.specs.declared.limits.TheConstants.{MOST_UNIT_POWER, OPEN_CHUNK_BLOCKS, SEGMENT_SECTORS, TABLE_BLOCKS}
use Rattle.lfs_model.specs.Entry.{Entry, Data, Leaf, Double, Inode, Map, Usage}
use Rattle.lfs_model.specs.Checkpoint.{CheckpointValue, IsSegmentCount, shape_of}
use Rattle.lfs_model.specs.Crash.{StandsOn}
use Rattle.lfs_model.specs.Device.{DeviceState, Carries, LeavesOnly}
use Rattle.lfs_model.specs.Stands.{LogMap}
use Rattle.lfs_model.specs.Summary.{BlockNameValue}
use Rattle.lfs_model.specs.Memory.{is_nameless}
use Rattle.lfs_model.specs.Running.{IsTight, Tables, Running, IsSet}
use Rattle.lfs_model.specs.Settled.{IsSettled}
use Rattle.lfs_segments.specs.Table.{UsageTable, used_of, live_of, held_of, age_of, kept_of, address_of, stale_of, clean_in}
use Rattle.lfs_segments.specs.Chunk.{Chunk, IsOpenChunk, StaysInPlace, entries_of, room_in, usage_name}
use Rattle.lfs_segments.specs.Early.{early_in}
use Rattle.lfs_segments.specs.Emptied.{IsEmptied}
use Rattle.lfs_segments.specs.Steps.{Begins, Notes, Pads}
use Rattle.lfs_inodes.specs.Blocks.{blocks_of}
use Rattle.lfs_inodes.specs.MapValue.{MapValue, address_in, is_hidden_in, block_in}
use Rattle.lfs_memory.specs.declared.memory.LogMemory.{LogMemory}

-- the addresses in the tables
abbrev pub table_at : MapValue → UsageTable → Entry → ℕ
table_at map usage (Data n i) = 0
table_at map usage (Leaf n q) = 0
table_at map usage (Double n) = 0
table_at map usage (Inode n) = address_in map n
table_at map usage (Map j) = block_in map j
table_at map usage (Usage j) = address_of usage j

abbrev pub tables_by : MapValue → UsageTable → Tables
tables_by map usage = record {
  at = table_at map usage;
  used = used_of usage;
  live = live_of usage;
  held = held_of usage;
  age = age_of usage;
  kept = kept_of usage;
  stale = stale_of usage;
}

abbrev pub tables_of : LogMemory → Tables
tables_of v = tables_by v.map v.usage

-- a number past all segments stands for none
abbrev pub segment_in : Chunk → ℕ
segment_in c = cond (length c.names == 0) MOST_SEGMENTS c.segment

abbrev pub chunk_in : Chunk → Option (List Entry)
chunk_in c = cond (length c.names == 0) None (Some (entries_of c))

-- how many blocks find a place, in the chunk that has begun and in the clean segments
abbrev pub room_of : LogMemory → ℕ
room_of v = CHUNK_BLOCKS * clean_in v.usage.segments + room_in v.chunk

-- What holds of memory over any device. Behind the first sector of its segment the chunk takes so
-- many sectors at most.
pub record IsMemoryUpTo (most : ℕ) (v : LogMemory) : Type 0 where
  pub count : IsSegmentCount (length v.usage.segments)
  pub opened : 0 < length v.chunk.names → IsOpenChunk v.chunk v.usage
  pub short : 0 < length v.chunk.names → v.chunk.start + length v.chunk.names ≤ most
  -- a usage block that left its address isn't as the device has it
  pub usages : (j : ℕ) → address_of v.usage j ≡ 1 → stale_of v.usage j ≡ true
  -- no more blocks of files than a cleaning pass may write into the segments that it may take
  pub few : v.dirty.capacity.limit + TABLE_BLOCKS ≤ CHUNK_BLOCKS * (length v.usage.segments / 8)
  pub unit : v.usage.unit ≤ MOST_UNIT_POWER

-- between two blocks: a chunk that is full is written at once
abbrev pub IsMemory : LogMemory → Type 0
IsMemory v = IsMemoryUpTo OPEN_CHUNK_BLOCKS v

-- the device has all segments
abbrev pub HoldsVolume : DeviceState → LogMemory → Type 0
HoldsVolume d v = CHECKPOINT_SLOTS + SEGMENT_SECTORS * length v.usage.segments ≤ d.size

-- the files that the map hides are those without a name
abbrev pub AreHidden : MapValue → LogMap → Type 0
AreHidden map m = (n : ℕ) → n < FILE_NUMBERS → is_nameless m n ≡ is_hidden_in map n

-- Memory and device hold log map m, and the acknowledged checkpoint k stands
-- for m0; a block of pointers in memory may lead nowhere for a while.
pub record IsLoose (d : DeviceState) (v : LogMemory) (k : CheckpointValue) (m0 m : LogMap) : Type 0 where
  pub running : Running d (blocks_of v.dirty) (tables_of v) k m0 m (segment_in v.chunk) (chunk_in v.chunk)
  pub hidden : AreHidden v.map m
  pub segments : length v.usage.segments ≡ k.segments
  pub unit : v.usage.unit ≡ k.unit_power

-- and none does, which a commit asks for
pub record IsLog (d : DeviceState) (v : LogMemory) (k : CheckpointValue) (m0 m : LogMap) : Type 0 where
  pub running : Running d (blocks_of v.dirty) (tables_of v) k m0 m (segment_in v.chunk) (chunk_in v.chunk)
  pub hidden : AreHidden v.map m
  pub segments : length v.usage.segments ≡ k.segments
  pub unit : v.usage.unit ≡ k.unit_power
  pub tight : IsTight (blocks_of v.dirty)

-- ---- what parts of a commit do

-- the contents that a stop meanwhile leaves stand for what is acknowledged, on as many segments
abbrev pub Quiet : DeviceState → DeviceState → LogMemory → Type 0
Quiet d d' v = (k : CheckpointValue) (m0 m : LogMap) → d'.keeps_model → IsLog d v k m0 m → LeavesOnly d d' (λ c. StandsOn (shape_of k) c m0)

-- A part of a commit that is done, and placed at most so many blocks.
pub record GoesUpTo (most : ℕ) (d d' : DeviceState) (v v' : LogMemory) (placed : ℕ) : Type 0 where
  pub carries : Carries d d'
  pub memory : IsMemoryUpTo most v'
  pub segments : length v'.usage.segments ≡ length v.usage.segments
  pub room : room_of v ≤ room_of v' + placed
  pub no_failure : d'.failures ≡ d.failures
  pub emptied : (s : ℕ) → IsEmptied v.usage s → IsEmptied v'.usage s
  pub log : (k : CheckpointValue) (m0 m : LogMap) → d'.keeps_model → IsLog d v k m0 m → IsLog d' v' k m0 m
  pub quiet : Quiet d d' v

abbrev pub Goes : DeviceState → DeviceState → LogMemory → LogMemory → ℕ → Type 0
Goes d d' v v' placed = GoesUpTo OPEN_CHUNK_BLOCKS d d' v v' placed

-- One that a failure of the device ended: what is acknowledged stays.
pub record Stops (d d' : DeviceState) (v : LogMemory) : Type 0 where
  pub carries : Carries d d'
  pub cause : (k : CheckpointValue) (m0 m : LogMap) → d'.keeps_model → IsLog d v k m0 m → d.failed_orders < d'.failed_orders
  pub settled : (k : CheckpointValue) (m0 m : LogMap) → d'.keeps_model → IsLog d v k m0 m → IsSettled d' k m0
  pub quiet : Quiet d d' v

-- A block gets the first free place of its segment, in the chunk that is being written or in one that begins.
pub record Places (v v' : LogMemory) (name : BlockNameValue) (lives : Bool) (age place : ℕ) : Type 0 where
  pub map : v'.map ≡ v.map
  pub dirty : v'.dirty ≡ v.dirty
  pub middle : UsageTable
  pub begun : length v.chunk.names ≡ 0 → Begins v.usage middle v'.chunk.segment age
  pub went_on : 0 < length v.chunk.names
      → (middle ≡ v.usage) × (v'.chunk.segment ≡ v.chunk.segment) × (v'.chunk.start ≡ v.chunk.start)
  pub noted : Notes middle v'.usage v'.chunk.segment lives
  pub names : v'.chunk.names ≡ v.chunk.names ++ name ∷ []
  pub address : place ≡ CHECKPOINT_SLOTS + SEGMENT_SECTORS * v'.chunk.segment + used_of middle v'.chunk.segment
  pub opened : IsOpenChunk v'.chunk v'.usage

-- The part in use of the segment where the chunk stands is whole units.
abbrev pub EndsUnit : LogMemory → Type 0
EndsUnit v = used_of v.usage v.chunk.segment % 2 ^ v.usage.unit ≡ 0

-- The chunk has a name more, for no block, and its segment a sector more in use. No usage block is stale newly.
pub record PadsOnce (v v' : LogMemory) : Type 0 where
  pub map : v'.map ≡ v.map
  pub dirty : v'.dirty ≡ v.dirty
  pub some : 0 < length v.chunk.names
  pub room : used_of v.usage v.chunk.segment < SEGMENT_SECTORS
  pub names : v'.chunk.names ≡ v.chunk.names ++ usage_name (v.chunk.segment / BLOCK_SEGMENTS) ∷ []
  pub place : StaysInPlace v.chunk v'.chunk
  pub pads : Pads v.usage v'.usage v.chunk.segment
  pub stale : (j : ℕ) → stale_of v'.usage j ≡ stale_of v.usage j
  pub opened : IsOpenChunk v'.chunk v'.usage

-- or so many
pub data PadsChunk (v : LogMemory) : LogMemory → Type 0 where
  nothing : PadsChunk v v
  more : (w v' : LogMemory) → PadsChunk v w → PadsOnce w v' → PadsChunk v v'

-- All but the names of the chunk and what is in use of its segment is as it was.
pub record OnlyPads (v v' : LogMemory) : Type 0 where
  pub map : v'.map ≡ v.map
  pub dirty : v'.dirty ≡ v.dirty
  pub blocks : (j : ℕ) → (stale_of v'.usage j ≡ stale_of v.usage j) × (address_of v'.usage j ≡ address_of v.usage j)
  pub kept : (s : ℕ) → kept_of v'.usage s ≡ kept_of v.usage s
  pub size : length v'.usage.segments ≡ length v.usage.segments
  pub clean : clean_in v'.usage.segments ≡ clean_in v.usage.segments
  pub early : early_in v'.usage.segments ≡ early_in v.usage.segments
  pub unit : v'.usage.unit ≡ v.usage.unit

-- The inode map points to x at this place, if x is an inode, and to the others as before.
pub record IsPointedAt (map map' : MapValue) (x : Entry) (place : ℕ) : Type 0 where
  pub own : (n : ℕ) → x ≡ Inode n → address_in map' n ≡ place
  pub others : (n : ℕ) → (Inode n ≡ x → ⊥) → address_in map' n ≡ address_in map n
  pub hidden : map'.hidden ≡ map.hidden
  pub blocks : map'.blocks ≡ map.blocks

-- block j of the inode map has this address, and all else is as it was
pub record IsBlockAt (map map' : MapValue) (j place : ℕ) : Type 0 where
  pub block : IsSet (block_in map) (block_in map') j place
  pub addresses : map'.addresses ≡ map.addresses
  pub hidden : map'.hidden ≡ map.hidden

-- no block of the inode map is to be written
abbrev pub AreMapsOut : MapValue → Type 0
AreMapsOut map = (j : ℕ) → block_in map j ≡ 1 → ⊥
