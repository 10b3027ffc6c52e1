-- What changes of files in memory do, one block or header at a time.
use Rattle.std.specs.Prelude.{◌≡◌, ◌<◌, ◌≤◌, ◌+◌, ◌/◌, ◌%◌, ◌==◌, ◌&&◌, cond, not, ℕ, Bool, true, false, List, [], ◌∷◌, length, Option}
use Rattle.std.specs.Prelude.{Some, ◌++◌}
use Rattle.std.specs.Prelude.{drop}
use Rattle.lfs_model.specs.declared.limits.TheConstants.{FILE_NUMBERS, LAST_LEAF, SECTOR_LEN}
use Rattle.lfs_model.specs.declared.Kind.{Kind}
use Rattle.lfs_model.specs.Counting.{segment_of}
use Rattle.lfs_model.specs.Entry.{Entry, Data, Leaf, Inode, Header, word}
use Rattle.lfs_model.specs.Fields.{zeros, le32}
use Rattle.lfs_model.specs.Inode.{kind_byte}
use Rattle.lfs_model.specs.Memory.{parent, pointer}
use Rattle.lfs_model.specs.Running.{Dirty, IsSet, IsTight, Moves}
use Rattle.lfs_model.specs.Staging.{Fetches, ChangesTo}
use Rattle.lfs_model.specs.Stands.{LogMap}
pub use Rattle.lfs_files.specs.Headers.{FitsHeader}
use Rattle.lfs_segments.specs.Table.{UsageTable, live_of, held_of, clean_in}
use Rattle.lfs_segments.specs.Steps.{Lifts}
use Rattle.lfs_inodes.specs.declared.key.BlockKey.{BlockKey}
use Rattle.lfs_inodes.specs.Blocks.{TableValue, blocks_of}
use Rattle.lfs_inodes.specs.Empty.{IsEmptyBlock}
use Rattle.lfs_inodes.specs.MapValue.{address_in, is_hidden_in}
use Rattle.lfs_memory.specs.declared.memory.LogMemory.{LogMemory}
use Rattle.lfs_memory.specs.Memory.{IsMemory}

-- ---- log maps

-- a block of zeros alone isn't stored
unfoldable pub is_blank : List ℕ → Bool
is_blank [] = true
is_blank (b ∷ bytes) = (b == 0) && is_blank bytes

abbrev pub stored : List ℕ → List ℕ
stored bytes = cond (is_blank bytes) [] bytes

-- the log map with another block, and with another header
abbrev pub with_block : LogMap → ℕ → ℕ → List ℕ → LogMap
with_block m n i bytes = record { header = m.header; block = λ k l. cond ((k == n) && (l == i)) bytes (m.block k l); version = m.version }

abbrev pub with_header : LogMap → ℕ → Option Header → LogMap
with_header m n h = record { header = λ k. cond (k == n) h (m.header k); block = m.block; version = m.version }

-- ---- steps

-- the file of a key
abbrev pub file_in : BlockKey → ℕ
file_in key = key.code / 32768 % FILE_NUMBERS

-- what stays, where so many blocks may come into memory
pub record Stays (more : ℕ) (v v' : LogMemory) : Type 0 where
  pub memory : IsMemory v → IsMemory v'
  pub chunk : v'.chunk ≡ v.chunk
  pub segments : length v'.usage.segments ≡ length v.usage.segments
  pub clean : clean_in v'.usage.segments ≡ clean_in v.usage.segments
  pub capacity : v'.dirty.capacity ≡ v.dirty.capacity
  pub blocks : length v'.dirty.blocks ≤ length v.dirty.blocks + more

-- the block above x is in memory, and its pointer to x is this: 0 for no block, 1 for one in memory, else its address
abbrev pub IsPointedIn : Dirty → Entry → ℕ → Type 0
IsPointedIn dirty x address = (b : List ℕ) × (dirty (parent x) ≡ Some b) × (word b (pointer x) ≡ address)

-- the block above x is in memory
abbrev pub HasAbove : Dirty → Entry → Type 0
HasAbove dirty x = (b : List ℕ) × (dirty (parent x) ≡ Some b)

-- a block that lives at this address, or holds its segment, is counted there
pub record IsCountedThere (t : UsageTable) (address : ℕ) (lives : Bool) : Type 0 where
  pub inside : segment_of address < length t.segments
  pub live : lives ≡ true → 0 < live_of t (segment_of address)
  pub held : lives ≡ false → 0 < held_of t (segment_of address)

-- one that should be isn't
abbrev pub IsMiscounted : UsageTable → ℕ → Bool → Type 0
IsMiscounted t address lives = (2 ≤ address) × (IsCountedThere t address lives → ⊥)

-- it leaves its address, if it has one
pub record Departs (old new : UsageTable) (address : ℕ) (lives : Bool) : Type 0 where
  pub none : address < 2 → new ≡ old
  pub lifts : 2 ≤ address → Lifts old new (segment_of address) lives

-- The data block of file n that this pointer leads to is these bytes, in memory.
pub record Stores (v v' : LogMemory) (n : ℕ) (x : Entry) (address : ℕ) (bytes : List ℕ) : Type 0 where
  pub stays : Stays 1 v v'
  pub map : v'.map ≡ v.map
  pub departs : Departs v.usage v'.usage address (not (is_hidden_in v.map n))
  pub changes : address ≡ 1 → ChangesTo (blocks_of v.dirty) (blocks_of v'.dirty) x (Some bytes)
  pub comes : (address ≡ 1 → ⊥) → Fetches (blocks_of v.dirty) (blocks_of v'.dirty) x bytes

-- It is there no more.
pub record Drops (v v' : LogMemory) (n : ℕ) (x : Entry) (address : ℕ) : Type 0 where
  pub stays : Stays 0 v v'
  pub map : v'.map ≡ v.map
  pub departs : Departs v.usage v'.usage address (not (is_hidden_in v.map n))
  pub none : address ≡ 0 → v'.dirty ≡ v.dirty
  pub leaves : 0 < address → Moves (blocks_of v.dirty) (blocks_of v'.dirty) x 0

-- Data block i of file n, whose pointer this is, is these bytes.
pub record MakesBlock (v v' : LogMemory) (n i address : ℕ) (bytes : List ℕ) : Type 0 where
  pub stores : (bytes ≡ zeros SECTOR_LEN → ⊥) → Stores v v' n (Data n i) address bytes
  pub drops : bytes ≡ zeros SECTOR_LEN → Drops v v' n (Data n i) address

-- It is these bytes, whatever the pointer is.
pub record ChangesBlock (v v' : LogMemory) (n i : ℕ) (bytes : List ℕ) : Type 0 where
  pub address : ℕ
  pub pointed : IsPointedIn (blocks_of v.dirty) (Data n i) address
  pub puts : MakesBlock v v' n i address bytes

-- Its address isn't counted.
pub record IsBlockMiscounted (v : LogMemory) (n i : ℕ) : Type 0 where
  pub address : ℕ
  pub pointed : IsPointedIn (blocks_of v.dirty) (Data n i) address
  pub miscounted : IsMiscounted v.usage address (not (is_hidden_in v.map n))

-- An empty block of pointers comes into memory.
pub record Grows (v v' : LogMemory) (x : Entry) : Type 0 where
  pub stays : Stays 1 v v'
  pub map : v'.map ≡ v.map
  pub usage : v'.usage ≡ v.usage
  pub low : (n q : ℕ) → x ≡ Leaf n q → q ≤ LAST_LEAF
  pub comes : Fetches (blocks_of v.dirty) (blocks_of v'.dirty) x (zeros SECTOR_LEN)

-- Blocks of pointers that lead nowhere leave memory, one after the other.
pub data Prunes (old : TableValue) : TableValue → Type 0 where
  nothing : Prunes old old
  more : (t t' : TableValue) (x : Entry) → Prunes old t → IsEmptyBlock (blocks_of t) x → Moves (blocks_of t) (blocks_of t') x 0
      → Prunes old t'

-- All of them do.
pub record Tightens (v v' : LogMemory) : Type 0 where
  pub stays : Stays 0 v v'
  pub map : v'.map ≡ v.map
  pub usage : v'.usage ≡ v.usage
  pub prunes : Prunes v.dirty v'.dirty
  pub tight : IsTight (blocks_of v'.dirty)

-- ---- inodes

-- the inode of file n with another header
abbrev pub headed : Kind → ℕ → ℕ → ℕ → ℕ → List ℕ → List ℕ
headed kind form n links size bytes = (kind_byte kind ∷ []) ++ (form ∷ []) ++ zeros 2 ++ le32 n ++ le32 links ++ le32 size ++ drop 16 bytes

-- what it says
abbrev pub header_with : Kind → ℕ → ℕ → ℕ → Header
header_with kind form links size = record { kind = kind; form = form; links = links; size = size }

-- The inode of file n, in memory, has another header, and the same pointers.
pub record ChangesHeader (v v' : LogMemory) (n : ℕ) (kind : Kind) (form links size : ℕ) : Type 0 where
  pub stays : Stays 0 v v'
  pub map : v'.map ≡ v.map
  pub usage : v'.usage ≡ v.usage
  pub old : List ℕ
  pub there : blocks_of v.dirty (Inode n) ≡ Some old
  pub changes : ChangesTo (blocks_of v.dirty) (blocks_of v'.dirty) (Inode n) (Some (headed kind form n links size old))

-- File n is made, in memory, without a block.
pub record Creates (v v' : LogMemory) (n : ℕ) (kind : Kind) (form links size : ℕ) : Type 0 where
  pub stays : Stays 1 v v'
  pub usage : v'.usage ≡ v.usage
  pub address : IsSet (address_in v.map) (address_in v'.map) n 1
  pub hidden : IsSet (is_hidden_in v.map) (is_hidden_in v'.map) n (links == 0)
  pub blocks : v'.map.blocks ≡ v.map.blocks
  pub changes : ChangesTo (blocks_of v.dirty) (blocks_of v'.dirty) (Inode n) (Some (headed kind form n links size (zeros SECTOR_LEN)))
