-- The one invariant of the log: what memory holds, and what stands on the device, is laid out for a log map.
-- All of it is an own choice: a single fact, so that every step of the log has one thing to keep.
use Rattle.std.specs.Prelude.{◌≡◌, ◌<◌, ◌≤◌, ◌↔◌, ◌+◌, ◌*◌, ◌-◌, ◌/◌, ◌%◌, ℕ, suc, List, [], length, get_or, Some, None}
use Rattle.lfs_model.specs.Entry.{Entry, Data, Leaf, Double, Inode, Map, Usage, header, word}
use Rattle.lfs_model.specs.Inode.{InodeValue, FitsInode, inode_sector, direct_word, single_word, double_word}
use Rattle.lfs_model.specs.Content.{Content, block}
use Rattle.lfs_model.specs.Reach.{row_by, segment_start}
use Rattle.lfs_model.specs.Stands.{LogMap}
use Rattle.lfs_model.specs.Encodes.{HasData, HasInode}
use Rattle.lfs_model.specs.Memory.{Memory, parent, IsOfFile, IsPointers, HasPointer, shown}
use Rattle.lfs_model.specs.declared.limits.TheConstants.{SECTOR_LEN, CHECKPOINT_SLOTS, SEGMENT_SECTORS, MOST_SEGMENTS, DIRECT_BLOCKS}
use Rattle.lfs_model.specs.declared.limits.TheConstants.{BLOCK_POINTERS, LAST_LEAF, MOST_LINKS}
use Rattle.lfs_model.specs.Checkpoint.{usage_blocks}

-- an inode of this number, which may have lost its last link
pub record HoldsInode (n : ℕ) (bytes : List ℕ) : Type 0 where
  pub value : InodeValue
  pub spelt : bytes ≡ inode_sector value
  pub fits : FitsInode (record value { links = 1 })
  pub links : value.links ≤ MOST_LINKS
  pub own : value.number ≡ n

module _ (m : LogMap) (A : Entry → ℕ) where
  pub record SpellsFile (n : ℕ) (bytes : List ℕ) : Type 0 where
    pub formed : HoldsInode n bytes
    pub header : m.header n ≡ Some (header bytes)
    pub direct : (i : ℕ) → i < DIRECT_BLOCKS → word bytes (direct_word + i) ≡ A (Data n i)
    pub single : word bytes single_word ≡ A (Leaf n 0)
    pub double : word bytes double_word ≡ A (Double n)

  -- the bytes are the block of an entry of a file, each pointer being what A gives the entry below
  abbrev pub SpellsBlock : List ℕ → Entry → Type 0
  SpellsBlock bytes (Data n i) = bytes ≡ m.block n i
  SpellsBlock bytes (Leaf n q) = (i : ℕ) → i < BLOCK_POINTERS → word bytes i ≡ A (Data n (DIRECT_BLOCKS + BLOCK_POINTERS * q + i))
  SpellsBlock bytes (Double n) = (q : ℕ) → q < BLOCK_POINTERS → word bytes q ≡ A (Leaf n (suc q))
  SpellsBlock bytes (Inode n) = SpellsFile n bytes
  SpellsBlock bytes (Map j) = Unit {0}
  SpellsBlock bytes (Usage j) = Unit {0}

-- An inode map block that isn't to be written is as the device has it: it gives each inode that is shown its address.
pub record IsMapped (m : LogMap) (M : Memory) (j : ℕ) : Type 0 where
  pub settled : (i : ℕ) → i < BLOCK_POINTERS → shown m M.at (Inode (BLOCK_POINTERS * j + i)) ≡ 1 → ⊥
  pub none : M.at (Map j) ≡ 0 → (i : ℕ) → i < BLOCK_POINTERS → shown m M.at (Inode (BLOCK_POINTERS * j + i)) ≡ 0
  pub long : 2 ≤ M.at (Map j) → length (M.bytes (Map j)) ≡ SECTOR_LEN
  pub spells : 2 ≤ M.at (Map j) → (i : ℕ) → i < BLOCK_POINTERS → word (M.bytes (Map j)) i ≡ shown m M.at (Inode (BLOCK_POINTERS * j + i))
  pub some : 2 ≤ M.at (Map j) → HasPointer (M.bytes (Map j))

-- `opened_at` is the segment whose summary isn't written yet; a number past the segments stands for none.
pub record IsLaid (e : Content) (m : LogMap) (M : Memory) (opened_at : ℕ) : Type 0 where
  pub size : segment_start M.segments ≤ length e
  pub few : M.segments ≤ MOST_SEGMENTS
  -- what has a block
  pub blocks : (n i : ℕ) → HasData m n i ↔ 0 < M.at (Data n i)
  pub inodes : (n : ℕ) → HasInode m n ↔ 0 < M.at (Inode n)
  pub down : (x : Entry) → 0 < M.at x → 0 < M.at (parent x)
  pub low : (n q : ℕ) → 0 < M.at (Leaf n q) → q ≤ LAST_LEAF
  pub some : (x : Entry) → IsPointers x → 2 ≤ M.at x → HasPointer (M.bytes x)
  -- what is in memory has the blocks above it there
  pub up : (x : Entry) → M.at x ≡ 1 → M.at (parent x) ≡ 1
  -- what the blocks are
  pub long : (x : Entry) → IsOfFile x → 0 < M.at x → length (M.bytes x) ≡ SECTOR_LEN
  pub spells : (x : Entry) → 0 < M.at x → SpellsBlock m M.at (M.bytes x) x
  pub mapped : (j : ℕ) → (M.at (Map j) ≡ 1 → ⊥) → IsMapped m M j
  pub usages : (j : ℕ) → (j < usage_blocks M.segments) ↔ 0 < M.at (Usage j)
  -- what the device has
  pub there : (x : Entry) → 2 ≤ M.at x → block e (M.at x) ≡ M.bytes x
  pub within : (x : Entry) → 2 ≤ M.at x → M.at x < segment_start M.segments
  pub named : (x : Entry) → 2 ≤ M.at x
      → get_or (M.rows ((M.at x - CHECKPOINT_SLOTS) / SEGMENT_SECTORS)) ((M.at x - CHECKPOINT_SLOTS) % SEGMENT_SECTORS) None ≡ Some x
  pub short : (s : ℕ) → length (M.rows s) ≤ SEGMENT_SECTORS
  pub first : (s : ℕ) → get_or (M.rows s) 0 None ≡ None
  pub sealed : (s : ℕ) → (s ≡ opened_at → ⊥) → row_by e (length (M.rows s)) s ≡ Some (M.rows s)
  pub past : (s : ℕ) → M.segments ≤ s → M.rows s ≡ []
