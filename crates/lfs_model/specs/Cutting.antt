-- The sets of entries that leave a file at once: its blocks from one on, and all of it.
use Rattle.std.specs.Prelude.{◌≡◌, ◌<◌, ◌+◌, ◌*◌, ◌/◌, ◌==◌, ◌&&◌, nat_le, ℕ, Bool, true, false, List, [], Option, Some, None}
use Rattle.lfs_model.specs.Checkpoint.{CheckpointValue}
use Rattle.lfs_model.specs.Content.{Content}
use Rattle.lfs_model.specs.Detaching.{is_of, IsDetachedFrom}
use Rattle.lfs_model.specs.Device.{DeviceState}
use Rattle.lfs_model.specs.Encodes.{HasInode}
use Rattle.lfs_model.specs.Entry.{Entry, Data, Leaf, Double, Inode, Map, Usage}
use Rattle.lfs_model.specs.Laid.{IsLaid}
use Rattle.lfs_model.specs.Memory.{Memory, parent, file_of, is_nameless, count_of}
use Rattle.lfs_model.specs.Running.{Dirty, Tables, Running}
use Rattle.lfs_model.specs.Stands.{LogMap}
use Rattle.lfs_model.specs.declared.limits.TheConstants.{DIRECT_BLOCKS, BLOCK_POINTERS, FIRST_DOUBLE}

-- the data blocks of file n from block `first` on, and the blocks of pointers that have only those below them
abbrev pub is_past : ℕ → ℕ → Entry → Bool
is_past n first (Data k i) = k == n && nat_le first i
is_past n first (Leaf k q) = k == n && nat_le first (DIRECT_BLOCKS + BLOCK_POINTERS * q)
is_past n first (Double k) = k == n && nat_le first FIRST_DOUBLE
is_past n first (Inode k) = false
is_past n first (Map j) = false
is_past n first (Usage j) = false

-- With the inode in memory, and the double root and the leaf in which the first of them is, what pointed to them from outside is in memory.
abbrev pub PastAbove : Type 0
PastAbove = (e : Content) (m : LogMap) (M : Memory) (opened_at n first : ℕ) → IsLaid e m M opened_at → M.at (Inode n) ≡ 1
    → (FIRST_DOUBLE < first → 0 < M.at (Double n) → M.at (Double n) ≡ 1)
    → ((q : ℕ) → DIRECT_BLOCKS + BLOCK_POINTERS * q < first → first < FIRST_DOUBLE + BLOCK_POINTERS * q → 0 < M.at (Leaf n q)
    → M.at (Leaf n q) ≡ 1)
    → (x : Entry) → is_past n first x ≡ true → 0 < M.at x → (parent x ≡ x → ⊥) → is_past n first (parent x) ≡ false → M.at (parent x) ≡ 1

-- the log map without a file
pub record IsWithoutFile (m : LogMap) (n : ℕ) (m' : LogMap) : Type 0 where
  pub header : m'.header n ≡ None
  pub headers : (k : ℕ) → (k ≡ n → ⊥) → m'.header k ≡ m.header k
  pub block : (i : ℕ) → m'.block n i ≡ []
  pub blocks : (k i : ℕ) → (k ≡ n → ⊥) → m'.block k i ≡ m.block k i
  pub version : m'.version ≡ m.version

-- the blocks in memory without a file's
pub record LeavesOut (old new : Dirty) (n : ℕ) : Type 0 where
  pub none : (x : Entry) → file_of x ≡ Some n → new x ≡ None
  pub kept : (x : Entry) → (file_of x ≡ Some n → ⊥) → new x ≡ old x

-- A file goes, with all its blocks, of which there were so many in each segment.
abbrev pub FileRemoving : Type 1
FileRemoving = (d : DeviceState) (dirty dirty' : Dirty) (t t' : Tables) (k : CheckpointValue) (m0 m m' : LogMap) (seg : ℕ)
    (chunk : Option (List Entry)) (n : ℕ) (counts : ℕ → ℕ)
    → (r : Running d dirty t k m0 m seg chunk) → (HasInode m n → is_nameless m n ≡ false → t.at (Map (n / BLOCK_POINTERS)) ≡ 1)
    → ((s : ℕ) → counts s ≡ count_of (is_of n) r.memory s)
    → IsWithoutFile m n m' → LeavesOut dirty dirty' n → IsDetachedFrom m t t' n (is_of n) counts → Running d dirty' t' k m0 m' seg chunk
