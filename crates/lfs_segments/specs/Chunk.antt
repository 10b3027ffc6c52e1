-- The chunk that is being filled. Chunks of blocks behind a summary are those
-- of the Sprite LFS paper (1992, section 3.3), called partial segments there.
use Rattle.std.specs.Prelude.{◌≡◌, ◌<◌, ◌≤◌, ◌+◌, ◌-◌, ◌*◌, ◌/◌, ◌%◌, ◌==◌, true, cond, nat_lt, ℕ, suc, List, Option, Some, None}
use Rattle.std.specs.Prelude.{Result, OnOk, OnErr, map, length, get_or}
use Rattle.lfs_model.specs.declared.BlockKind.TheVariants as kind
use Rattle.lfs_model.specs.Entry.{Entry, entry_of}
use Rattle.lfs_model.specs.Summary.{BlockNameValue, IsPlaced, no_block}
use Rattle.lfs_model.specs.declared.limits.TheConstants.{BLOCK_SEGMENTS, CHECKPOINT_SLOTS, CHUNK_BLOCKS, SEGMENT_SECTORS}
use Rattle.lfs_model.specs.Counting.{segment_of}
use Rattle.lfs_model.specs.Device.{DeviceState, Carries, Elapses, BearsAll}
use Rattle.lfs_segments.specs.Table.{UsageTable, used_of, live_of, held_of, kept_of, stale_of}

pub record Chunk : Type 0 where
  -- the segment that it is written to
  pub segment : ℕ
  -- the place of its summary there
  pub start : ℕ
  -- the blocks that have a place in it
  pub names : List BlockNameValue

abbrev pub entries_of : Chunk → List Entry
entries_of c = map entry_of c.names

-- the address of its summary
abbrev pub summary_at : Chunk → ℕ
summary_at c = CHECKPOINT_SLOTS + SEGMENT_SECTORS * c.segment + c.start

-- the name of a usage block
abbrev pub usage_name : ℕ → BlockNameValue
usage_name j = record { file = 0; kind = kind.Usage; index = j }

-- the chunk is where it was, whatever its blocks are
pub record StaysInPlace (old new : Chunk) : Type 0 where
  pub segment : new.segment ≡ old.segment
  pub start : new.start ≡ old.start

-- A write is asked of the device, and nothing else; the result says whether it failed.
pub record AsksOneWrite {A E : Type 0} (d d' : DeviceState) (result : Result A E) : Type 0 where
  pub failed : OnErr result (d.failures < d'.failures)
  pub failed_order : OnErr result (d.failed_orders < d'.failed_orders)
  pub borne : OnErr result (BearsAll d)
  pub no_failure : OnOk result (d'.failures ≡ d.failures)
  pub carries : Carries d d'
  pub time : Elapses d d'
  pub told : OnOk result (length d'.told ≡ length d.told + 1)
  pub may_tell : OnErr result (length d'.told ≤ length d.told + 1)

-- a summary has room for these names, and may hold each of them
pub record IsChunk (names : List BlockNameValue) : Type 0 where
  pub room : length names ≤ CHUNK_BLOCKS
  pub each : (i : ℕ) → i < length names
      → IsPlaced (get_or names i no_block).kind (get_or names i no_block).file (get_or names i no_block).index

-- the chunk is the last of its segment, and starts where the acknowledged checkpoint needs nothing; once it has blocks, the usage block
-- of its segment differs from what the device has
pub record IsOpenChunk (c : Chunk) (t : UsageTable) : Type 0 where
  pub inside : c.segment < length t.segments
  pub used : used_of t c.segment ≡ c.start + suc (length c.names)
  pub free : kept_of t c.segment ≤ c.start
  pub last : t.last ≡ Some c.segment
  pub stale : 0 < length c.names → stale_of t (c.segment / BLOCK_SEGMENTS) ≡ true

-- A chunk more may begin in segment s: a summary and a block have room behind what is in use, and
-- something lives there or holds it.
pub record TakesChunk (t : UsageTable) (s : ℕ) : Type 0 where
  pub inside : s < length t.segments
  pub some : 0 < live_of t s + held_of t s
  pub room : used_of t s ≤ SEGMENT_SECTORS - 2

-- the acknowledged checkpoint needs nothing at an address
abbrev pub IsUnkeptBy : UsageTable → ℕ → Type 0
IsUnkeptBy t address = kept_of t (segment_of address) ≤ (address - CHECKPOINT_SLOTS) % SEGMENT_SECTORS

-- how many blocks more it takes, once it has begun
abbrev pub room_in : Chunk → ℕ
room_in c = cond (length c.names == 0) 0 (CHUNK_BLOCKS - (c.start + length c.names))

-- whether a chunk may begin behind the last one: how many may without a clean segment
abbrev pub room_behind : UsageTable → Option ℕ → ℕ
room_behind t None = 0
room_behind t (Some s) = cond (nat_lt (used_of t s) CHUNK_BLOCKS) 1 0

-- how many summaries are to come without a clean segment: one where the chunk has blocks, or another may begin behind the last
abbrev pub due_in : Chunk → UsageTable → ℕ
due_in c t = cond (length c.names == 0) (room_behind t t.last) 1
