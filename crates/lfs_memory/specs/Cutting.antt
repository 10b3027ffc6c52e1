-- A file's blocks from one on go.
use Rattle.std.specs.Prelude.{◌≡◌, ◌<◌, ◌≤◌, ◌⊎◌, ◌+◌, ◌*◌, ◌==◌, ◌&&◌, nat_le, cond, ℕ, Bool, false, List, [], length, Some, None}
use Rattle.lfs_model.specs.declared.limits.TheConstants.{BLOCK_POINTERS, DIRECT_BLOCKS, FIRST_DOUBLE, SECTOR_LEN}
use Rattle.lfs_model.specs.Checkpoint.{CheckpointValue}
use Rattle.lfs_model.specs.Cutting.{is_past}
use Rattle.lfs_model.specs.Detaching.{IsCleared}
use Rattle.lfs_model.specs.Device.{DeviceState}
use Rattle.lfs_model.specs.Entry.{Entry, Leaf, Double, Inode}
use Rattle.lfs_model.specs.Laid.{HoldsInode}
use Rattle.lfs_model.specs.Memory.{file_of}
use Rattle.lfs_model.specs.Running.{Dirty}
use Rattle.lfs_model.specs.Staging.{IsAtAddress}
use Rattle.lfs_model.specs.Stands.{LogMap}
use Rattle.lfs_segments.specs.Table.{clean_in}
use Rattle.lfs_inodes.specs.Blocks.{TableValue, blocks_of}
use Rattle.lfs_inodes.specs.Clearing.{LeavesPast}
use Rattle.lfs_inodes.specs.MapValue.{address_in, block_in}
use Rattle.lfs_memory.specs.declared.memory.LogMemory.{LogMemory}
use Rattle.lfs_memory.specs.Memory.{IsMemory, IsLoose, tables_of}
use Rattle.lfs_memory.specs.Present.{Looks}
use Rattle.lfs_memory.specs.Lifting.{IsInMemory}
use Rattle.lfs_memory.specs.Removing.{TakesCounts, counts_in}

-- the log map without the blocks of file n from block `first` on
abbrev pub cut_from : ℕ → ℕ → LogMap → LogMap
cut_from n first m = record {
  header = m.header;
  block = λ k i. cond (k == n && nat_le first i) [] (m.block k i);
  version = m.version;
}

-- ---- what points to the blocks that go

-- leaf q is cut in part
pub record IsCutLeaf (first q : ℕ) : Type 0 where
  pub from : DIRECT_BLOCKS + BLOCK_POINTERS * q < first
  pub to : first < FIRST_DOUBLE + BLOCK_POINTERS * q

-- the block of x is in memory if it is stored
abbrev pub IsLiftedIfStored : LogMemory → Entry → Type 0
IsLiftedIfStored v x = IsInMemory v x ⊎ IsAtAddress (blocks_of v.dirty) (tables_of v) x 0

-- So are the blocks of pointers of file n of which a part stays; there is no leaf below a double root that isn't stored.
pub record HasEdge (v : LogMemory) (n first : ℕ) : Type 0 where
  pub double : FIRST_DOUBLE < first → IsLiftedIfStored v (Double n)
  pub leaf : (q : ℕ) → IsCutLeaf first q
      → IsLiftedIfStored v (Leaf n q) ⊎ ((1 ≤ q) × IsAtAddress (blocks_of v.dirty) (tables_of v) (Double n) 0)

-- so many of the pointers of an inode don't lead to what goes: to data blocks, to the single leaf, to the double root
pub record KeepsOfInode (first kept : ℕ) : Type 0 where
  pub few : kept ≤ DIRECT_BLOCKS + 2
  pub direct : first ≤ DIRECT_BLOCKS → kept ≡ first
  pub single : DIRECT_BLOCKS < first → first ≤ FIRST_DOUBLE → kept ≡ DIRECT_BLOCKS + 1
  pub whole : FIRST_DOUBLE < first → kept ≡ DIRECT_BLOCKS + 2

-- and so many of those of a double root
pub record KeepsOfRoot (first kept : ℕ) : Type 0 where
  pub few : kept ≤ BLOCK_POINTERS
  pub before : (q : ℕ) → q < kept → FIRST_DOUBLE + BLOCK_POINTERS * q < first
  pub reach : kept < BLOCK_POINTERS → first ≤ FIRST_DOUBLE + BLOCK_POINTERS * kept

-- ---- what happens in memory

-- what holds of the block of an entry in memory
pub record IsFormed (x : Entry) (bytes : List ℕ) : Type 0 where
  pub long : length bytes ≡ SECTOR_LEN
  pub inode : (n : ℕ) → x ≡ Inode n → HoldsInode n bytes

-- as many blocks stay, with as much room
pub record KeepsCount (old new : TableValue) : Type 0 where
  pub count : length new.blocks ≡ length old.blocks
  pub capacity : new.capacity ≡ old.capacity

-- the leaf of file n that is cut in part has no pointer to what goes, if it is in memory
pub record ClearsLeaf (old new : Dirty) (n first : ℕ) : Type 0 where
  pub cleared : (q : ℕ) (b : List ℕ) → IsCutLeaf first q → old (Leaf n q) ≡ Some b → length b ≡ SECTOR_LEN
      → (c : List ℕ) × (new (Leaf n q) ≡ Some c) × IsCleared (is_past n first) (Leaf n q) b c
  pub stay : (x : Entry) (b : List ℕ) → old x ≡ Some b → (c : List ℕ) × (new x ≡ Some c)
  pub absent : (x : Entry) → old x ≡ None → new x ≡ None
  pub others : (x : Entry) → ((q : ℕ) → IsCutLeaf first q → x ≡ Leaf n q → ⊥) → new x ≡ old x

-- no block of file n in memory has a pointer to what goes
pub record ClearsPointers (old new : Dirty) (n first : ℕ) : Type 0 where
  pub cleared : (x : Entry) (b : List ℕ) → is_past n first x ≡ false → file_of x ≡ Some n → old x ≡ Some b → IsFormed x b
      → (c : List ℕ) × (new x ≡ Some c) × IsCleared (is_past n first) x b c
  pub stay : (x : Entry) (b : List ℕ) → old x ≡ Some b → (c : List ℕ) × (new x ≡ Some c)
  pub absent : (x : Entry) → old x ≡ None → new x ≡ None
  pub others : (x : Entry) → (file_of x ≡ Some n → ⊥) → new x ≡ old x

-- the blocks of file n from block `first` on leave memory and the tables, so many in each segment
pub record DropsPast (v v' : LogMemory) (n first : ℕ) (lives : Bool) (counts : List ℕ) : Type 0 where
  pub usage : TakesCounts v.usage v'.usage lives (counts_in counts)
  pub middle : TableValue
  pub leaves : LeavesPast (blocks_of v.dirty) (blocks_of middle) n first
  pub clears : ClearsPointers (blocks_of middle) (blocks_of v'.dirty) n first
  pub few : length v'.dirty.blocks ≤ length v.dirty.blocks
  pub capacity : v'.dirty.capacity ≡ v.dirty.capacity
  pub chunk : v'.chunk ≡ v.chunk
  pub map : v'.map ≡ v.map

-- A call after which file n has no block from block `first` on.
pub record Cuts (d d' : DeviceState) (v v' : LogMemory) (n first : ℕ) : Type 0 where
  pub looks : Looks d d'
  pub memory : IsMemory v'
  pub segments : length v'.usage.segments ≡ length v.usage.segments
  pub clean : clean_in v'.usage.segments ≡ clean_in v.usage.segments
  pub chunk : v'.chunk ≡ v.chunk
  pub capacity : v'.dirty.capacity ≡ v.dirty.capacity
  pub few : length v'.dirty.blocks ≤ length v.dirty.blocks + 3
  pub stay : (x : Entry) → is_past n first x ≡ false → IsInMemory v x → IsInMemory v' x
  pub hidden : v'.map.hidden ≡ v.map.hidden
  pub mapped : (j : ℕ) → block_in v.map j ≡ 1 → block_in v'.map j ≡ 1
  pub absent : (l : ℕ) → address_in v.map l ≡ 0 → address_in v'.map l ≡ 0
  pub log : (k : CheckpointValue) (m0 m : LogMap) → d'.keeps_model → IsLoose d v k m0 m → IsLoose d' v' k m0 (cut_from n first m)
