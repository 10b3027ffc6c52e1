-- A file goes with all its blocks, whether it has a name or not.
use Rattle.std.specs.Prelude.{◌≡◌, ◌<◌, ◌≤◌, ◌+◌, ◌/◌, ◌==◌, cond, not, nat_lt, ℕ, Bool, false, true, List, [], length, get_or, Some, None}
use Rattle.lfs_model.specs.declared.limits.TheConstants.{BLOCK_SEGMENTS}
use Rattle.lfs_model.specs.Checkpoint.{CheckpointValue}
use Rattle.lfs_model.specs.Cutting.{LeavesOut}
use Rattle.lfs_model.specs.Device.{DeviceState}
use Rattle.lfs_model.specs.Entry.{Entry}
use Rattle.lfs_model.specs.Memory.{file_of}
use Rattle.lfs_model.specs.Running.{IsSet}
use Rattle.lfs_model.specs.Stands.{LogMap}
use Rattle.lfs_segments.specs.Table.{UsageTable, used_of, live_of, held_of, age_of, kept_of, address_of, stale_of, clean_in}
use Rattle.lfs_inodes.specs.Blocks.{blocks_of}
use Rattle.lfs_inodes.specs.MapValue.{address_in, is_hidden_in, block_in}
use Rattle.lfs_memory.specs.declared.memory.LogMemory.{LogMemory}
use Rattle.lfs_memory.specs.Memory.{IsMemory, IsLoose}
use Rattle.lfs_memory.specs.Present.{Looks}
use Rattle.lfs_memory.specs.Lifting.{IsInMemory}

-- the log map without file n
abbrev pub without_file : ℕ → LogMap → LogMap
without_file n m = record {
  header = λ k. cond (k == n) None (m.header k);
  block = λ k i. cond (k == n) [] (m.block k i);
  version = m.version;
}

-- so many blocks can be taken from each segment, of those that live there or of those that hold it
abbrev pub counted_in : UsageTable → Bool → ℕ → ℕ
counted_in usage lives s = cond lives (live_of usage s) (held_of usage s)

abbrev pub AreCovered : UsageTable → Bool → List ℕ → Type 0
AreCovered usage lives counts = (s : ℕ) → get_or counts s 0 ≤ counted_in usage lives s

-- and not from this one
abbrev pub AreUncovered : UsageTable → Bool → List ℕ → Type 0
AreUncovered usage lives counts = (s : ℕ) × (counted_in usage lives s < get_or counts s 0)

-- so many blocks are taken from each segment
pub record TakesCounts (old new : UsageTable) (lives : Bool) (counts : ℕ → ℕ) : Type 0 where
  pub used : (s : ℕ) → used_of new s ≡ used_of old s
  pub live : (s : ℕ) → live_of new s + cond lives (counts s) 0 ≡ live_of old s
  pub held : (s : ℕ) → held_of new s + cond (not lives) (counts s) 0 ≡ held_of old s
  pub age : (s : ℕ) → age_of new s ≡ age_of old s
  pub kept : (s : ℕ) → kept_of new s ≡ kept_of old s
  pub last : new.last ≡ old.last
  pub unit : new.unit ≡ old.unit
  pub address : (j : ℕ) → address_of new j ≡ address_of old j
  pub changed : (s : ℕ) → 0 < counts s → stale_of new (s / BLOCK_SEGMENTS) ≡ true
  pub stale : (j : ℕ) → stale_of new j ≡ false → stale_of old j ≡ false
  pub size : length new.segments ≡ length old.segments
  pub clean : clean_in new.segments ≡ clean_in old.segments

-- from the segments below this one
abbrev pub counts_below : List ℕ → ℕ → ℕ → ℕ
counts_below counts end s = cond (nat_lt s end) (get_or counts s 0) 0

abbrev pub counts_in : List ℕ → ℕ → ℕ
counts_in counts s = get_or counts s 0

-- the file's blocks leave memory and the tables
pub record DropsFile (v v' : LogMemory) (n : ℕ) (lives : Bool) (counts : List ℕ) : Type 0 where
  pub usage : TakesCounts v.usage v'.usage lives (counts_in counts)
  pub dirty : LeavesOut (blocks_of v.dirty) (blocks_of v'.dirty) n
  pub few : length v'.dirty.blocks ≤ length v.dirty.blocks
  pub capacity : v'.dirty.capacity ≡ v.dirty.capacity
  pub chunk : v'.chunk ≡ v.chunk
  pub address : IsSet (address_in v.map) (address_in v'.map) n 0
  pub hidden : IsSet (is_hidden_in v.map) (is_hidden_in v'.map) n false
  pub blocks : v'.map.blocks ≡ v.map.blocks

-- A call after which file n is gone.
pub record RemovesFile (d d' : DeviceState) (v v' : LogMemory) (n : ℕ) : Type 0 where
  pub looks : Looks d d'
  pub memory : IsMemory v'
  pub segments : length v'.usage.segments ≡ length v.usage.segments
  pub clean : clean_in v'.usage.segments ≡ clean_in v.usage.segments
  pub used : (s : ℕ) → used_of v'.usage s ≡ used_of v.usage s
  pub kept : (s : ℕ) → kept_of v'.usage s ≡ kept_of v.usage s
  pub chunk : v'.chunk ≡ v.chunk
  pub capacity : v'.dirty.capacity ≡ v.dirty.capacity
  pub few : length v'.dirty.blocks ≤ length v.dirty.blocks
  pub stay : (x : Entry) → (file_of x ≡ Some n → ⊥) → IsInMemory v x → IsInMemory v' x
  pub hidden : IsSet (is_hidden_in v.map) (is_hidden_in v'.map) n false
  pub mapped : (j : ℕ) → block_in v.map j ≡ 1 → block_in v'.map j ≡ 1
  pub absent : (l : ℕ) → address_in v.map l ≡ 0 → address_in v'.map l ≡ 0
  pub log : (k : CheckpointValue) (m0 m : LogMap) → d'.keeps_model → IsLoose d v k m0 m → IsLoose d' v' k m0 (without_file n m)
