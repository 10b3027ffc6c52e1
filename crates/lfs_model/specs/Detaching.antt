-- Entries of one file that leave at once, with all that is below them: a
-- cut of a file, or a whole file; and a file that loses its last name.
use Rattle.std.specs.Prelude.{◌≡◌, ◌<◌, ◌≤◌, ◌+◌, ◌/◌, ◌==◌, ◌&&◌, cond, ℕ, Bool, true, false, List, [], length, Option, Some, None}
use Rattle.lfs_model.specs.Changing.{IsWithHeader, WillBeMapped}
use Rattle.lfs_model.specs.Checkpoint.{CheckpointValue}
use Rattle.lfs_model.specs.Content.{Content}
use Rattle.lfs_model.specs.Device.{DeviceState}
use Rattle.lfs_model.specs.Encodes.{HasInode}
use Rattle.lfs_model.specs.Entry.{Entry, Data, Leaf, Inode, Map, header, word}
use Rattle.lfs_model.specs.Laid.{IsLaid, HoldsInode}
use Rattle.lfs_model.specs.Memory.{Memory, parent, pointer, file_of, is_nameless, live_of, held_of, count_of}
use Rattle.lfs_model.specs.Running.{Dirty, Tables, Running}
use Rattle.lfs_model.specs.Staging.{ChangesTo}
use Rattle.lfs_model.specs.Stands.{LogMap}
use Rattle.lfs_model.specs.declared.limits.TheConstants.{SECTOR_LEN, BLOCK_POINTERS, LAST_LEAF, BLOCK_SEGMENTS}
use Rattle.lfs_model.specs.Inode.{direct_word, pointer_words_end}

-- the entries of a file
abbrev pub is_of : ℕ → Entry → Bool
is_of n x = elim (file_of x) [ None ↦ false | Some k ↦ k == n ]

-- a set of entries of file n that has all that is below each of them
pub record IsCut (n : ℕ) (gone : Entry → Bool) : Type 0 where
  pub of_file : (x : Entry) → gone x ≡ true → file_of x ≡ Some n
  pub below : (x : Entry) → gone (parent x) ≡ true → gone x ≡ true

-- the log map without them
pub record IsWithout (m : LogMap) (n : ℕ) (gone : Entry → Bool) (m' : LogMap) : Type 0 where
  pub header : m'.header n ≡ cond (gone (Inode n)) None (m.header n)
  pub headers : (k : ℕ) → (k ≡ n → ⊥) → m'.header k ≡ m.header k
  pub block : (i : ℕ) → m'.block n i ≡ cond (gone (Data n i)) [] (m.block n i)
  pub blocks : (k i : ℕ) → (k ≡ n → ⊥) → m'.block k i ≡ m.block k i
  pub version : m'.version ≡ m.version

-- the block of y, with no pointer to any of them
pub record IsCleared (gone : Entry → Bool) (y : Entry) (old new : List ℕ) : Type 0 where
  pub long : length new ≡ SECTOR_LEN
  pub same : (n i : ℕ) → y ≡ Data n i → new ≡ old
  pub pointers : (c : Entry) → parent c ≡ y → (c ≡ y → ⊥) → ((n q : ℕ) → c ≡ Leaf n q → q ≤ LAST_LEAF)
      → word new (pointer c) ≡ cond (gone c) 0 (word old (pointer c))
  pub formed : (n : ℕ) → y ≡ Inode n → HoldsInode n new
  pub header : (n : ℕ) → y ≡ Inode n → header new ≡ header old

-- they leave memory and the device; the blocks of the file that are in memory point to none of them, and all else is as it was
pub record IsDetaching (m : LogMap) (M : Memory) (n : ℕ) (gone : Entry → Bool) (m' : LogMap) (M' : Memory) : Type 0 where
  pub map : IsWithout m n gone m'
  pub cut : IsCut n gone
  -- what pointed to one of them from outside is in memory
  pub above : (x : Entry) → gone x ≡ true → 0 < M.at x → (parent x ≡ x → ⊥) → gone (parent x) ≡ false → M.at (parent x) ≡ 1
  pub mapped : gone (Inode n) ≡ true → HasInode m n → WillBeMapped m M n
  pub segments : M'.segments ≡ M.segments
  pub none : (x : Entry) → gone x ≡ true → M'.at x ≡ 0
  pub others : (x : Entry) → gone x ≡ false → M'.at x ≡ M.at x
  pub cleared : (x : Entry) → gone x ≡ false → file_of x ≡ Some n → M.at x ≡ 1 → IsCleared gone x (M.bytes x) (M'.bytes x)
  pub kept : (x : Entry) → gone x ≡ false → (file_of x ≡ Some n → M.at x ≡ 1 → ⊥) → M'.bytes x ≡ M.bytes x
  pub rows : M'.rows ≡ M.rows

abbrev pub Detaching : Type 0
Detaching = (e : Content) (m : LogMap) (M : Memory) (opened_at n : ℕ) (gone : Entry → Bool) (m' : LogMap) (M' : Memory)
    → IsLaid e m M opened_at → IsDetaching m M n gone m' M' → IsLaid e m' M' opened_at

-- Each count falls by those of them that it counted.
abbrev pub DetachedCounts : Type 0
DetachedCounts = (m : LogMap) (M : Memory) (n : ℕ) (gone : Entry → Bool) (m' : LogMap) (M' : Memory) → IsDetaching m M n gone m' M'
    → (is : Entry → Bool) (s : ℕ) → count_of is M' s + count_of (λ x. is x && gone x) M s ≡ count_of is M s

-- So the live counts fall by all of them, if the file has a name, and else the held counts; the other counts stay.
abbrev pub DetachedLive : Type 0
DetachedLive = (e : Content) (m : LogMap) (M : Memory) (opened_at n : ℕ) (gone : Entry → Bool) (m' : LogMap) (M' : Memory)
    → IsLaid e m M opened_at → IsDetaching m M n gone m' M'
    → (is_nameless m n ≡ false → (s : ℕ) → (live_of m' M' s + count_of gone M s ≡ live_of m M s) × (held_of m' M' s ≡ held_of m M s))
    × (is_nameless m n ≡ true → (s : ℕ) → (live_of m' M' s ≡ live_of m M s) × (held_of m' M' s + count_of gone M s ≡ held_of m M s))

-- ---- as the log runs

-- the blocks in memory without them
pub record Detaches (old new : Dirty) (n : ℕ) (gone : Entry → Bool) : Type 0 where
  pub none : (x : Entry) → gone x ≡ true → new x ≡ None
  pub absent : (x : Entry) → old x ≡ None → new x ≡ None
  pub cleared : (x : Entry) (b : List ℕ) → gone x ≡ false → file_of x ≡ Some n → old x ≡ Some b
      → (c : List ℕ) × (new x ≡ Some c) × IsCleared gone x b c
  pub kept : (x : Entry) → (file_of x ≡ Some n → ⊥) → new x ≡ old x

-- the tables without them, of which there were so many in each segment
pub record IsDetachedFrom (m : LogMap) (t t' : Tables) (n : ℕ) (gone : Entry → Bool) (counts : ℕ → ℕ) : Type 0 where
  pub none : (x : Entry) → parent x ≡ x → gone x ≡ true → t'.at x ≡ 0
  pub others : (x : Entry) → parent x ≡ x → gone x ≡ false → t'.at x ≡ t.at x
  pub used : (s : ℕ) → t'.used s ≡ t.used s
  pub named : is_nameless m n ≡ false → (s : ℕ) → (t'.live s + counts s ≡ t.live s) × (t'.held s ≡ t.held s)
  pub nameless : is_nameless m n ≡ true → (s : ℕ) → (t'.live s ≡ t.live s) × (t'.held s + counts s ≡ t.held s)
  pub age : (s : ℕ) → t'.age s ≡ t.age s
  pub kept : (s : ℕ) → t'.kept s ≡ t.kept s
  pub changed : (s : ℕ) → 0 < counts s → t'.stale (s / BLOCK_SEGMENTS) ≡ true
  pub stale : (j : ℕ) → t'.stale j ≡ false → t.stale j ≡ false

-- Entries of a file go.
abbrev pub FileCutting : Type 1
FileCutting = (d : DeviceState) (dirty dirty' : Dirty) (t t' : Tables) (k : CheckpointValue) (m0 m m' : LogMap) (seg : ℕ)
    (chunk : Option (List Entry)) (n : ℕ) (gone : Entry → Bool) (counts : ℕ → ℕ)
    → (r : Running d dirty t k m0 m seg chunk) → IsCut n gone
    → ((x : Entry) → gone x ≡ true → 0 < r.memory.at x → (parent x ≡ x → ⊥) → gone (parent x) ≡ false → r.memory.at (parent x) ≡ 1)
    → (gone (Inode n) ≡ true → HasInode m n → is_nameless m n ≡ false → t.at (Map (n / BLOCK_POINTERS)) ≡ 1)
    → ((s : ℕ) → counts s ≡ count_of gone r.memory s)
    → IsWithout m n gone m' → Detaches dirty dirty' n gone → IsDetachedFrom m t t' n gone counts → Running d dirty' t' k m0 m' seg chunk

-- ---- a file loses its last name: its blocks, so many in each segment, are live no more and hold it
pub record IsHeldFrom (t t' : Tables) (counts : ℕ → ℕ) : Type 0 where
  pub at : (x : Entry) → parent x ≡ x → t'.at x ≡ t.at x
  pub used : (s : ℕ) → t'.used s ≡ t.used s
  pub live : (s : ℕ) → t'.live s + counts s ≡ t.live s
  pub held : (s : ℕ) → t'.held s ≡ counts s + t.held s
  pub age : (s : ℕ) → t'.age s ≡ t.age s
  pub kept : (s : ℕ) → t'.kept s ≡ t.kept s
  pub changed : (s : ℕ) → 0 < counts s → t'.stale (s / BLOCK_SEGMENTS) ≡ true
  pub stale : (j : ℕ) → t'.stale j ≡ false → t.stale j ≡ false

abbrev pub LinkLosing : Type 1
LinkLosing = (d : DeviceState) (dirty dirty' : Dirty) (t t' : Tables) (k : CheckpointValue) (m0 m m' : LogMap) (seg : ℕ)
    (chunk : Option (List Entry)) (n : ℕ) (old bytes : List ℕ) (counts : ℕ → ℕ)
    → (r : Running d dirty t k m0 m seg chunk) → dirty (Inode n) ≡ Some old → HoldsInode n bytes
    → ((w : ℕ) → direct_word ≤ w → w < pointer_words_end → word bytes w ≡ word old w)
    → IsWithHeader m n (Some (header bytes)) m' → is_nameless m n ≡ false → is_nameless m' n ≡ true
    → ((s : ℕ) → counts s ≡ count_of (is_of n) r.memory s)
    → ChangesTo dirty dirty' (Inode n) (Some bytes) → IsHeldFrom t t' counts → Running d dirty' t' k m0 m' seg chunk
