-- A file loses its last link: it is in memory alone, and its blocks hold their segments.
use Rattle.std.specs.Prelude.{◌≡◌, ◌<◌, ◌≤◌, ◌+◌, ◌/◌, ℕ, false, true, List, length, Some}
use Rattle.lfs_model.specs.declared.limits.TheConstants.{BLOCK_SEGMENTS}
use Rattle.lfs_model.specs.declared.Kind.{Kind}
use Rattle.lfs_model.specs.Checkpoint.{CheckpointValue}
use Rattle.lfs_model.specs.Device.{DeviceState}
use Rattle.lfs_model.specs.Encodes.{HasInode}
use Rattle.lfs_model.specs.Entry.{Entry, Inode}
use Rattle.lfs_model.specs.Running.{IsSet}
use Rattle.lfs_model.specs.Staging.{ChangesTo}
use Rattle.lfs_model.specs.Stands.{LogMap}
use Rattle.lfs_segments.specs.Table.{UsageTable, used_of, live_of, held_of, age_of, kept_of, address_of, stale_of, clean_in}
use Rattle.lfs_inodes.specs.Blocks.{blocks_of}
use Rattle.lfs_inodes.specs.MapValue.{address_in, is_hidden_in, block_in}
use Rattle.lfs_memory.specs.declared.memory.LogMemory.{LogMemory}
use Rattle.lfs_memory.specs.Memory.{IsMemory, IsLoose}
use Rattle.lfs_memory.specs.Present.{Looks}
use Rattle.lfs_memory.specs.Lifting.{IsInMemory}
use Rattle.lfs_memory.specs.Changing.{FitsHeader, headed, header_with, with_header}
use Rattle.lfs_memory.specs.Removing.{counts_in}

-- so many blocks of each segment live there no more, and hold it
pub record HidesCounts (old new : UsageTable) (counts : ℕ → ℕ) : Type 0 where
  pub used : (s : ℕ) → used_of new s ≡ used_of old s
  pub live : (s : ℕ) → live_of new s + counts s ≡ live_of old s
  pub held : (s : ℕ) → held_of new s ≡ counts s + held_of old s
  pub age : (s : ℕ) → age_of new s ≡ age_of old s
  pub kept : (s : ℕ) → kept_of new s ≡ kept_of old s
  pub last : new.last ≡ old.last
  pub unit : new.unit ≡ old.unit
  pub address : (j : ℕ) → address_of new j ≡ address_of old j
  pub changed : (s : ℕ) → 0 < counts s → stale_of new (s / BLOCK_SEGMENTS) ≡ true
  pub stale : (j : ℕ) → stale_of new j ≡ false → stale_of old j ≡ false
  pub size : length new.segments ≡ length old.segments
  pub clean : clean_in new.segments ≡ clean_in old.segments

-- the inode of file n, in memory, has this kind and size and no link; so many blocks of each segment are the file's own
pub record LosesLinks (v v' : LogMemory) (n : ℕ) (kind : Kind) (form size : ℕ) (counts : List ℕ) : Type 0 where
  pub usage : HidesCounts v.usage v'.usage (counts_in counts)
  pub addresses : v'.map.addresses ≡ v.map.addresses
  pub hidden : IsSet (is_hidden_in v.map) (is_hidden_in v'.map) n true
  pub blocks : v'.map.blocks ≡ v.map.blocks
  pub chunk : v'.chunk ≡ v.chunk
  pub capacity : v'.dirty.capacity ≡ v.dirty.capacity
  pub few : length v'.dirty.blocks ≤ length v.dirty.blocks
  pub old : List ℕ
  pub there : blocks_of v.dirty (Inode n) ≡ Some old
  pub changes : ChangesTo (blocks_of v.dirty) (blocks_of v'.dirty) (Inode n) (Some (headed kind form n 0 size old))

-- A call after which file n, which had a name, has no link.
pub record Hides (d d' : DeviceState) (v v' : LogMemory) (n : ℕ) (kind : Kind) (form size : ℕ) : Type 0 where
  pub looks : Looks d d'
  pub memory : IsMemory v'
  pub segments : length v'.usage.segments ≡ length v.usage.segments
  pub clean : clean_in v'.usage.segments ≡ clean_in v.usage.segments
  pub chunk : v'.chunk ≡ v.chunk
  pub capacity : v'.dirty.capacity ≡ v.dirty.capacity
  pub few : length v'.dirty.blocks ≤ length v.dirty.blocks + 1
  pub stay : (x : Entry) → IsInMemory v x → IsInMemory v' x
  pub hidden : IsSet (is_hidden_in v.map) (is_hidden_in v'.map) n true
  pub mapped : (j : ℕ) → block_in v.map j ≡ 1 → block_in v'.map j ≡ 1
  pub absent : (l : ℕ) → address_in v.map l ≡ 0 → address_in v'.map l ≡ 0
  pub log : (k : CheckpointValue) (m0 m : LogMap) → d'.keeps_model → IsLoose d v k m0 m → FitsHeader kind form 0 size
      → is_hidden_in v.map n ≡ false
      → IsLoose d' v' k m0 (with_header m n (Some (header_with kind form 0 size)))

-- Where memory and device hold a log map with file n, which has a name, a call of the device failed.
abbrev pub IsLinkExcused : DeviceState → DeviceState → LogMemory → ℕ → Type 0
IsLinkExcused d d' v n = (k : CheckpointValue) (m0 m : LogMap) → d'.keeps_model → IsLoose d v k m0 m → is_hidden_in v.map n ≡ false
    → HasInode m n → d.failures < d'.failures
