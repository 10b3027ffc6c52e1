-- Changes of a log map in memory, one block or header at a time; a call's changes are some of these, one after the other.
-- What changes is in memory, and so are the blocks above it.
-- All of it is an own choice: changes are told apart as finely as the proofs of the calls take them.
use Rattle.std.specs.Prelude.{◌≡◌, ◌<◌, ◌≤◌, ◌/◌, ℕ, false, List, [], length, Option, Some, None}
use Rattle.lfs_model.specs.Entry.{Entry, Data, Leaf, Inode, Map, Header, header, word}
use Rattle.lfs_model.specs.Content.{Content}
use Rattle.lfs_model.specs.Stands.{LogMap}
use Rattle.lfs_model.specs.Encodes.{HasInode}
use Rattle.lfs_model.specs.Memory.{Memory, parent, pointer, patched, file_of, IsPointers, is_nameless}
use Rattle.lfs_model.specs.Laid.{IsLaid, HoldsInode}
use Rattle.lfs_model.specs.Lifting.{IsTaken}
use Rattle.lfs_model.specs.declared.limits.TheConstants.{SECTOR_LEN, BLOCK_POINTERS, LAST_LEAF}
use Rattle.lfs_model.specs.Inode.{direct_word, pointer_words_end}

-- the log map with another block, or another header
pub record IsWithBlock (m : LogMap) (n i : ℕ) (bytes : List ℕ) (m' : LogMap) : Type 0 where
  pub header : (k : ℕ) → m'.header k ≡ m.header k
  pub own : m'.block n i ≡ bytes
  pub version : m'.version ≡ m.version
  pub others : (k l : ℕ) → (Data k l ≡ Data n i → ⊥) → m'.block k l ≡ m.block k l

pub record IsWithHeader (m : LogMap) (n : ℕ) (h : Option Header) (m' : LogMap) : Type 0 where
  pub own : m'.header n ≡ h
  pub version : m'.version ≡ m.version
  pub others : (k : ℕ) → (k ≡ n → ⊥) → m'.header k ≡ m.header k
  pub block : (k l : ℕ) → m'.block k l ≡ m.block k l

-- the entries, addresses and rows are as they were
pub record IsInPlace (M M' : Memory) : Type 0 where
  pub segments : M'.segments ≡ M.segments
  pub at : M'.at ≡ M.at
  pub rows : M'.rows ≡ M.rows

-- the block above x is in memory, and points to it with v; no other block changes but x
pub record IsPointed (M : Memory) (x : Entry) (v : ℕ) (M' : Memory) : Type 0 where
  pub above : M.at (parent x) ≡ 1
  pub patched : M'.bytes (parent x) ≡ patched (pointer x) v (M.bytes (parent x))
  pub kept : (y : Entry) → (y ≡ x → ⊥) → (y ≡ parent x → ⊥) → M'.bytes y ≡ M.bytes y

-- The inode map block of a file that has a name will be written.
abbrev pub WillBeMapped : LogMap → Memory → ℕ → Type 0
WillBeMapped m M n = is_nameless m n ≡ false → M.at (Map (n / BLOCK_POINTERS)) ≡ 1

-- a data block in memory is another
pub record IsRewriting (m : LogMap) (M : Memory) (n i : ℕ) (bytes : List ℕ) (m' : LogMap) (M' : Memory) : Type 0 where
  pub map : IsWithBlock m n i bytes m'
  pub place : IsInPlace M M'
  pub was : M.at (Data n i) ≡ 1
  pub long : length bytes ≡ SECTOR_LEN
  pub own : M'.bytes (Data n i) ≡ bytes
  pub kept : (y : Entry) → (y ≡ Data n i → ⊥) → M'.bytes y ≡ M.bytes y

abbrev pub Rewriting : Type 0
Rewriting = (e : Content) (m : LogMap) (M : Memory) (opened_at n i : ℕ) (bytes : List ℕ) (m' : LogMap) (M' : Memory)
    → IsLaid e m M opened_at → IsRewriting m M n i bytes m' M' → IsLaid e m' M' opened_at

-- a data block where none was
pub record IsAdding (m : LogMap) (M : Memory) (n i : ℕ) (bytes : List ℕ) (m' : LogMap) (M' : Memory) : Type 0 where
  pub map : IsWithBlock m n i bytes m'
  pub taken : IsTaken M (Data n i) 1 M'
  pub was : M.at (Data n i) ≡ 0
  pub pointed : IsPointed M (Data n i) 1 M'
  pub long : length bytes ≡ SECTOR_LEN
  pub own : M'.bytes (Data n i) ≡ bytes

abbrev pub Adding : Type 0
Adding = (e : Content) (m : LogMap) (M : Memory) (opened_at n i : ℕ) (bytes : List ℕ) (m' : LogMap) (M' : Memory) → IsLaid e m M opened_at
    → IsAdding m M n i bytes m' M' → IsLaid e m' M' opened_at

-- a data block, in memory or not, that is none
pub record IsRemoving (m : LogMap) (M : Memory) (n i : ℕ) (m' : LogMap) (M' : Memory) : Type 0 where
  pub map : IsWithBlock m n i [] m'
  pub taken : IsTaken M (Data n i) 0 M'
  pub was : 0 < M.at (Data n i)
  pub pointed : IsPointed M (Data n i) 0 M'

abbrev pub Removing : Type 0
Removing = (e : Content) (m : LogMap) (M : Memory) (opened_at n i : ℕ) (m' : LogMap) (M' : Memory) → IsLaid e m M opened_at
    → IsRemoving m M n i m' M' → IsLaid e m' M' opened_at

-- an empty block of pointers where none was
pub record IsGrowing (M : Memory) (x : Entry) (M' : Memory) : Type 0 where
  pub pointers : IsPointers x
  pub taken : IsTaken M x 1 M'
  pub was : M.at x ≡ 0
  pub low : (n q : ℕ) → x ≡ Leaf n q → q ≤ LAST_LEAF
  pub pointed : IsPointed M x 1 M'
  pub long : length (M'.bytes x) ≡ SECTOR_LEN
  pub empty : (i : ℕ) → i < BLOCK_POINTERS → word (M'.bytes x) i ≡ 0

abbrev pub Growing : Type 0
Growing = (e : Content) (m : LogMap) (M : Memory) (opened_at : ℕ) (x : Entry) (M' : Memory) → IsLaid e m M opened_at → IsGrowing M x M'
    → IsLaid e m M' opened_at

-- a block of pointers that has become empty goes
pub record IsShrinking (M : Memory) (x : Entry) (M' : Memory) : Type 0 where
  pub pointers : IsPointers x
  pub taken : IsTaken M x 0 M'
  pub was : M.at x ≡ 1
  pub pointed : IsPointed M x 0 M'
  pub empty : (i : ℕ) → i < BLOCK_POINTERS → word (M.bytes x) i ≡ 0

abbrev pub Shrinking : Type 0
Shrinking = (e : Content) (m : LogMap) (M : Memory) (opened_at : ℕ) (x : Entry) (M' : Memory) → IsLaid e m M opened_at → IsShrinking M x M'
    → IsLaid e m M' opened_at

-- an inode in memory with another header and the same pointers
pub record IsRelabeling (m : LogMap) (M : Memory) (n : ℕ) (m' : LogMap) (M' : Memory) : Type 0 where
  pub map : IsWithHeader m n (Some (header (M'.bytes (Inode n)))) m'
  pub place : IsInPlace M M'
  pub was : M.at (Inode n) ≡ 1
  pub mapped : WillBeMapped m' M n
  pub formed : HoldsInode n (M'.bytes (Inode n))
  pub words : (w : ℕ) → direct_word ≤ w → w < pointer_words_end → word (M'.bytes (Inode n)) w ≡ word (M.bytes (Inode n)) w
  pub kept : (y : Entry) → (y ≡ Inode n → ⊥) → M'.bytes y ≡ M.bytes y

abbrev pub Relabeling : Type 0
Relabeling = (e : Content) (m : LogMap) (M : Memory) (opened_at n : ℕ) (m' : LogMap) (M' : Memory) → IsLaid e m M opened_at
    → IsRelabeling m M n m' M' → IsLaid e m' M' opened_at

-- a new file, without blocks
pub record IsCreating (m : LogMap) (M : Memory) (n : ℕ) (m' : LogMap) (M' : Memory) : Type 0 where
  pub map : IsWithHeader m n (Some (header (M'.bytes (Inode n)))) m'
  pub taken : IsTaken M (Inode n) 1 M'
  pub was : M.at (Inode n) ≡ 0
  pub mapped : WillBeMapped m' M n
  pub formed : HoldsInode n (M'.bytes (Inode n))
  pub words : (w : ℕ) → direct_word ≤ w → w < pointer_words_end → word (M'.bytes (Inode n)) w ≡ 0
  pub kept : (y : Entry) → (y ≡ Inode n → ⊥) → M'.bytes y ≡ M.bytes y

abbrev pub Creating : Type 0
Creating = (e : Content) (m : LogMap) (M : Memory) (opened_at n : ℕ) (m' : LogMap) (M' : Memory) → IsLaid e m M opened_at
    → IsCreating m M n m' M' → IsLaid e m' M' opened_at

-- a file that is there no more, with all its blocks
pub record IsForgetting (m : LogMap) (M : Memory) (n : ℕ) (m' : LogMap) (M' : Memory) : Type 0 where
  pub header : m'.header n ≡ None
  pub headers : (k : ℕ) → (k ≡ n → ⊥) → m'.header k ≡ m.header k
  pub block : (i : ℕ) → m'.block n i ≡ []
  pub blocks : (k i : ℕ) → (k ≡ n → ⊥) → m'.block k i ≡ m.block k i
  pub version : m'.version ≡ m.version
  pub mapped : HasInode m n → WillBeMapped m M n
  pub segments : M'.segments ≡ M.segments
  pub gone : (x : Entry) → file_of x ≡ Some n → M'.at x ≡ 0
  pub others : (x : Entry) → (file_of x ≡ Some n → ⊥) → M'.at x ≡ M.at x
  pub kept : (x : Entry) → (file_of x ≡ Some n → ⊥) → M'.bytes x ≡ M.bytes x
  pub rows : M'.rows ≡ M.rows

abbrev pub Forgetting : Type 0
Forgetting = (e : Content) (m : LogMap) (M : Memory) (opened_at n : ℕ) (m' : LogMap) (M' : Memory) → IsLaid e m M opened_at
    → IsForgetting m M n m' M' → IsLaid e m' M' opened_at

-- What is read: a block at its address is the log map's, no address means no block, and an entry's address is its parent's pointer to it.
pub record IsRead (e : Content) (m : LogMap) (M : Memory) : Type 0 where
  pub block : (n i : ℕ) → 0 < M.at (Data n i) → M.bytes (Data n i) ≡ m.block n i
  pub no_block : (n i : ℕ) → M.at (Data n i) ≡ 0 → m.block n i ≡ []
  pub header : (n : ℕ) → 0 < M.at (Inode n) → m.header n ≡ Some (header (M.bytes (Inode n)))
  pub no_header : (n : ℕ) → M.at (Inode n) ≡ 0 → m.header n ≡ None
  pub pointer : (x : Entry) → (parent x ≡ x → ⊥) → ((n q : ℕ) → x ≡ Leaf n q → q ≤ LAST_LEAF) → 0 < M.at (parent x)
      → word (M.bytes (parent x)) (pointer x) ≡ M.at x
  pub no_pointer : (x : Entry) → M.at (parent x) ≡ 0 → M.at x ≡ 0

abbrev pub Reading : Type 0
Reading = (e : Content) (m : LogMap) (M : Memory) (opened_at : ℕ) → IsLaid e m M opened_at → IsRead e m M
