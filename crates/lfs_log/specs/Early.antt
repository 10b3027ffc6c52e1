-- What is written between commits: full chunks of data blocks, in segments that the acknowledged checkpoint doesn't reach.
use Rattle.std.specs.Prelude.{◌≡◌, ◌<◌, ◌≤◌, ◌+◌, ℕ, [], length}
use Rattle.lfs_model.specs.Device.{DeviceState}
use Rattle.lfs_model.specs.declared.limits.TheConstants.{CHUNK_BLOCKS}
use Rattle.lfs_memory.specs.segments.Table.{kept_of, clean_in}
use Rattle.lfs_memory.specs.segments.Chunk.{room_behind}
use Rattle.lfs_memory.specs.segments.Early.{early_in}
use Rattle.lfs_memory.specs.inodes.Data.{data_count}
use Rattle.lfs_memory.specs.declared.memory.LogMemory.{LogMemory}
use Rattle.lfs_memory.specs.Memory.{Goes}
use Rattle.lfs_log.specs.Saving.{orders_for, segments_for}

-- how many blocks a chunk has that fills a segment
abbrev pub full_chunk : ℕ
full_chunk = CHUNK_BLOCKS

-- The acknowledged checkpoint reaches no sector of the segment that the next block goes to: the chunk that has begun stands in such a
-- one, and no chunk begins behind the last.
pub record IsFresh (v : LogMemory) : Type 0 where
  pub closed : v.chunk.names ≡ [] → room_behind v.usage v.usage.last ≡ 0
  pub begun : 0 < length v.chunk.names → kept_of v.usage v.chunk.segment ≡ 0

-- the chunk has begun, in such a segment
abbrev pub IsBegunFresh : LogMemory → Type 0
IsBegunFresh v = (0 < length v.chunk.names) × (kept_of v.usage v.chunk.segment ≡ 0)

-- blocks in memory, and those that were written between commits
abbrev pub blocks_due : LogMemory → ℕ
blocks_due v = length v.dirty.blocks + early_in v.usage.segments

-- So many blocks went out, each to a segment that the acknowledged checkpoint doesn't reach.
pub record GoesEarly (v v' : LogMemory) (placed : ℕ) : Type 0 where
  pub fresh : IsFresh v'
  pub fewer : length v'.dirty.blocks + placed ≡ length v.dirty.blocks
  pub due : blocks_due v' ≡ blocks_due v

-- Full chunks of data blocks went out: as many data blocks left memory as blocks. As many blocks are unsaved,
-- and the next commit takes fewer segments and gives fewer orders, by those that were taken and given here.
pub record WritesChunks (d d' : DeviceState) (v v' : LogMemory) : Type 0 where
  pub goes : (placed : ℕ) × Goes d d' v v' placed
  pub closed : v'.chunk.names ≡ []
  pub capacity : v'.dirty.capacity ≡ v.dirty.capacity
  pub fewer : length v'.dirty.blocks ≤ length v.dirty.blocks
  pub only_data : length v'.dirty.blocks + data_count v.dirty ≡ length v.dirty.blocks + data_count v'.dirty
  pub due : blocks_due v' ≡ blocks_due v
  pub taken : clean_in v.usage.segments + segments_for (length v'.dirty.blocks)
      ≤ clean_in v'.usage.segments + segments_for (length v.dirty.blocks)
  pub told : length d'.told + orders_for (length v'.dirty.blocks)
      ≤ length d.told + orders_for (length v.dirty.blocks)
