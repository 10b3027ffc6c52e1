-- Changes of files, as the log runs: the blocks that will change come into memory as they are, from the inode down, and then change.
-- All of it is an own choice: blocks come into memory first, so that a read that fails leaves what there was.
use Rattle.std.specs.Prelude.{◌≡◌, ◌<◌, ◌≤◌, ◌/◌, ℕ, true, false, List, [], length, Option, Some, option_map}
use Rattle.lfs_model.specs.Entry.{Entry, Data, Leaf, Inode, Map, header, word}
use Rattle.lfs_model.specs.Changing.{IsWithBlock, IsWithHeader}
use Rattle.lfs_model.specs.Checkpoint.{CheckpointValue}
use Rattle.lfs_model.specs.Content.{block}
use Rattle.lfs_model.specs.Counting.{segment_of}
use Rattle.lfs_model.specs.Device.{DeviceState}
use Rattle.lfs_model.specs.Laid.{HoldsInode}
use Rattle.lfs_model.specs.Memory.{parent, pointer, patched, IsOfFile, IsPointers, is_nameless, is_shown}
use Rattle.lfs_model.specs.Running.{Dirty, IsTight, Tables, Running, Moves, IsLifted, IsReaddressed}
use Rattle.lfs_model.specs.Stands.{LogMap}
use Rattle.lfs_model.specs.declared.limits.TheConstants.{SECTOR_LEN, BLOCK_POINTERS, LAST_LEAF}
use Rattle.lfs_model.specs.Inode.{direct_word, pointer_words_end}

-- where a block stands, as its parent's block in memory says, or the inode map
pub record IsAtAddress (dirty : Dirty) (t : Tables) (x : Entry) (address : ℕ) : Type 0 where
  pub top : parent x ≡ x → t.at x ≡ address
  pub pointed : (parent x ≡ x → ⊥) → (b : List ℕ) × (dirty (parent x) ≡ Some b) × (word b (pointer x) ≡ address)
  pub low : (n q : ℕ) → x ≡ Leaf n q → q ≤ LAST_LEAF

-- x is in memory with these bytes, and its parent says so
pub record Fetches (old new : Dirty) (x : Entry) (bytes : List ℕ) : Type 0 where
  pub own : new x ≡ Some bytes
  pub patched : (parent x ≡ x → ⊥) → new (parent x) ≡ option_map (patched (pointer x) 1) (old (parent x))
  pub kept : (y : Entry) → (y ≡ x → ⊥) → (y ≡ parent x → ⊥) → new y ≡ old y

-- A block of a file is read and comes into memory; the inode map block of an inode that is shown will be written.
abbrev pub Fetching : Type 1
Fetching = (d : DeviceState) (dirty dirty' : Dirty) (t t' : Tables) (k : CheckpointValue) (m0 m : LogMap) (seg : ℕ)
    (chunk : Option (List Entry)) (x : Entry) (address : ℕ) (bytes : List ℕ)
    → Running d dirty t k m0 m seg chunk → IsOfFile x → IsAtAddress dirty t x address → 2 ≤ address → block d.content address ≡ bytes
    → ((n : ℕ) → x ≡ Inode n → is_shown m x ≡ true → t.at (Map (n / BLOCK_POINTERS)) ≡ 1)
    → Fetches dirty dirty' x bytes → IsLifted m t t' x 1 (segment_of address) → Running d dirty' t' k m0 m seg chunk

-- It stood on the device, it is in memory, and every other one stands where it stood.
abbrev pub FetchingTo : Type 1
FetchingTo = (d : DeviceState) (dirty dirty' : Dirty) (t t' : Tables) (k : CheckpointValue) (m0 m : LogMap) (seg : ℕ)
    (chunk : Option (List Entry)) (x : Entry) (address : ℕ) (bytes : List ℕ)
    → (w : Running d dirty t k m0 m seg chunk) → IsOfFile x → IsAtAddress dirty t x address → 2 ≤ address → block d.content address ≡ bytes
    → ((n : ℕ) → x ≡ Inode n → is_shown m x ≡ true → t.at (Map (n / BLOCK_POINTERS)) ≡ 1)
    → Fetches dirty dirty' x bytes → IsLifted m t t' x 1 (segment_of address)
    → (w' : Running d dirty' t' k m0 m seg chunk)
    × ((2 ≤ w.memory.at x) × (w'.memory.at x ≡ 1) × ((y : Entry) → (y ≡ x → ⊥) → w'.memory.at y ≡ w.memory.at y))

-- No block of pointers in memory is empty after it, if none was.
abbrev pub FetchingTight : Type 1
FetchingTight = (d : DeviceState) (dirty dirty' : Dirty) (t t' : Tables) (k : CheckpointValue) (m0 m : LogMap) (seg : ℕ)
    (chunk : Option (List Entry)) (x : Entry) (address : ℕ) (bytes : List ℕ)
    → Running d dirty t k m0 m seg chunk → IsOfFile x → IsAtAddress dirty t x address → 2 ≤ address → block d.content address ≡ bytes
    → ((n : ℕ) → x ≡ Inode n → is_shown m x ≡ true → t.at (Map (n / BLOCK_POINTERS)) ≡ 1)
    → Fetches dirty dirty' x bytes → IsLifted m t t' x 1 (segment_of address) → IsTight dirty → IsTight dirty'

-- An inode map block that is on the device will be written.
abbrev pub MapFetching : Type 1
MapFetching =
    (d : DeviceState) (dirty : Dirty) (t t' : Tables) (k : CheckpointValue) (m0 m : LogMap) (seg : ℕ) (chunk : Option (List Entry)) (j : ℕ)
    → Running d dirty t k m0 m seg chunk → 2 ≤ t.at (Map j) → IsLifted m t t' (Map j) 1 (segment_of (t.at (Map j)))
    → Running d dirty t' k m0 m seg chunk

-- One that isn't stored will be.
abbrev pub MapAdding : Type 1
MapAdding =
    (d : DeviceState) (dirty : Dirty) (t t' : Tables) (k : CheckpointValue) (m0 m : LogMap) (seg : ℕ) (chunk : Option (List Entry)) (j : ℕ)
    → Running d dirty t k m0 m seg chunk → t.at (Map j) ≡ 0 → IsReaddressed t t' (Map j) 1 → Running d dirty t' k m0 m seg chunk

-- Either way it is one that will be written, and every other block stands where it stood.
abbrev pub MapFetchingTo : Type 1
MapFetchingTo =
    (d : DeviceState) (dirty : Dirty) (t t' : Tables) (k : CheckpointValue) (m0 m : LogMap) (seg : ℕ) (chunk : Option (List Entry)) (j : ℕ)
    → (w : Running d dirty t k m0 m seg chunk) → 2 ≤ t.at (Map j) → IsLifted m t t' (Map j) 1 (segment_of (t.at (Map j)))
    → (w' : Running d dirty t' k m0 m seg chunk)
    × ((w'.memory.at (Map j) ≡ 1) × ((y : Entry) → (y ≡ Map j → ⊥) → w'.memory.at y ≡ w.memory.at y))

abbrev pub MapAddingTo : Type 1
MapAddingTo =
    (d : DeviceState) (dirty : Dirty) (t t' : Tables) (k : CheckpointValue) (m0 m : LogMap) (seg : ℕ) (chunk : Option (List Entry)) (j : ℕ)
    → (w : Running d dirty t k m0 m seg chunk) → t.at (Map j) ≡ 0 → IsReaddressed t t' (Map j) 1
    → (w' : Running d dirty t' k m0 m seg chunk)
    × ((w'.memory.at (Map j) ≡ 1) × ((y : Entry) → (y ≡ Map j → ⊥) → w'.memory.at y ≡ w.memory.at y))

-- x changes to this, or leaves memory
pub record ChangesTo (old new : Dirty) (x : Entry) (value : Option (List ℕ)) : Type 0 where
  pub own : new x ≡ value
  pub others : (y : Entry) → (y ≡ x → ⊥) → new y ≡ old y

-- ---- changes of files, one block at a time; the tables stay

-- a data block in memory is another
abbrev pub BlockRewriting : Type 1
BlockRewriting = (d : DeviceState) (dirty dirty' : Dirty) (t : Tables) (k : CheckpointValue) (m0 m m' : LogMap) (seg : ℕ)
    (chunk : Option (List Entry)) (n i : ℕ) (old bytes : List ℕ)
    → Running d dirty t k m0 m seg chunk → dirty (Data n i) ≡ Some old → length bytes ≡ SECTOR_LEN → IsWithBlock m n i bytes m'
    → ChangesTo dirty dirty' (Data n i) (Some bytes) → Running d dirty' t k m0 m' seg chunk

-- a data block where none was
abbrev pub BlockAdding : Type 1
BlockAdding = (d : DeviceState) (dirty dirty' : Dirty) (t : Tables) (k : CheckpointValue) (m0 m m' : LogMap) (seg : ℕ)
    (chunk : Option (List Entry)) (n i : ℕ) (bytes : List ℕ)
    → Running d dirty t k m0 m seg chunk → IsAtAddress dirty t (Data n i) 0 → length bytes ≡ SECTOR_LEN → IsWithBlock m n i bytes m'
    → Fetches dirty dirty' (Data n i) bytes → Running d dirty' t k m0 m' seg chunk

-- a data block in memory that is none
abbrev pub BlockRemoving : Type 1
BlockRemoving = (d : DeviceState) (dirty dirty' : Dirty) (t : Tables) (k : CheckpointValue) (m0 m m' : LogMap) (seg : ℕ)
    (chunk : Option (List Entry)) (n i : ℕ) (old : List ℕ)
    → Running d dirty t k m0 m seg chunk → dirty (Data n i) ≡ Some old → IsWithBlock m n i [] m'
    → Moves dirty dirty' (Data n i) 0 → Running d dirty' t k m0 m' seg chunk

-- an empty block of pointers where none was
abbrev pub PointersGrowing : Type 1
PointersGrowing = (d : DeviceState) (dirty dirty' : Dirty) (t : Tables) (k : CheckpointValue) (m0 m : LogMap) (seg : ℕ)
    (chunk : Option (List Entry)) (x : Entry) (bytes : List ℕ)
    → Running d dirty t k m0 m seg chunk → IsPointers x → IsAtAddress dirty t x 0 → length bytes ≡ SECTOR_LEN
    → ((w : ℕ) → w < BLOCK_POINTERS → word bytes w ≡ 0)
    → Fetches dirty dirty' x bytes → Running d dirty' t k m0 m seg chunk

-- a block of pointers that has become empty goes
abbrev pub PointersShrinking : Type 1
PointersShrinking = (d : DeviceState) (dirty dirty' : Dirty) (t : Tables) (k : CheckpointValue) (m0 m : LogMap) (seg : ℕ)
    (chunk : Option (List Entry)) (x : Entry) (bytes : List ℕ)
    → Running d dirty t k m0 m seg chunk → IsPointers x → dirty x ≡ Some bytes → ((w : ℕ) → w < BLOCK_POINTERS → word bytes w ≡ 0)
    → Moves dirty dirty' x 0 → Running d dirty' t k m0 m seg chunk

-- ---- headers

-- an inode in memory with another header and the same pointers; it has a name after it exactly where it had one
abbrev pub HeaderChanging : Type 1
HeaderChanging = (d : DeviceState) (dirty dirty' : Dirty) (t : Tables) (k : CheckpointValue) (m0 m m' : LogMap) (seg : ℕ)
    (chunk : Option (List Entry)) (n : ℕ) (old bytes : List ℕ)
    → Running d dirty t k m0 m seg chunk → dirty (Inode n) ≡ Some old → HoldsInode n bytes
    → ((w : ℕ) → direct_word ≤ w → w < pointer_words_end → word bytes w ≡ word old w)
    → IsWithHeader m n (Some (header bytes)) m' → is_nameless m' n ≡ is_nameless m n
    → (is_nameless m' n ≡ false → t.at (Map (n / BLOCK_POINTERS)) ≡ 1)
    → ChangesTo dirty dirty' (Inode n) (Some bytes) → Running d dirty' t k m0 m' seg chunk

-- a new file
abbrev pub FileCreating : Type 1
FileCreating = (d : DeviceState) (dirty dirty' : Dirty) (t t' : Tables) (k : CheckpointValue) (m0 m m' : LogMap) (seg : ℕ)
    (chunk : Option (List Entry)) (n : ℕ) (bytes : List ℕ)
    → Running d dirty t k m0 m seg chunk → t.at (Inode n) ≡ 0 → HoldsInode n bytes
    → ((w : ℕ) → direct_word ≤ w → w < pointer_words_end → word bytes w ≡ 0)
    → IsWithHeader m n (Some (header bytes)) m' → (is_nameless m' n ≡ false → t.at (Map (n / BLOCK_POINTERS)) ≡ 1)
    → ChangesTo dirty dirty' (Inode n) (Some bytes) → IsReaddressed t t' (Inode n) 1 → Running d dirty' t' k m0 m' seg chunk
