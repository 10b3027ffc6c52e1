-- The log as it runs: what its tables and its table of blocks in memory have to do with the log's memory and the device.
-- All of it is an own choice: it says of the code's tables what the laws about memory need.
use Rattle.std.specs.Prelude.{◌≡◌, ◌<◌, ◌≤◌, ◌+◌, ◌*◌, ◌/◌, ◌%◌, ◌==◌, cond, ℕ, suc, Bool, true, false, List, ◌∷◌, ◌++◌, map, length}
use Rattle.std.specs.Prelude.{Option, Some, None, option_map}
use Rattle.lfs_model.specs.Entry.{Entry, Usage, half, word}
use Rattle.lfs_model.specs.Checkpoint.{CheckpointValue, unit_sectors, usage_blocks}
use Rattle.lfs_model.specs.Content.{Content}
use Rattle.lfs_model.specs.Device.{DeviceState}
use Rattle.lfs_model.specs.Reach.{Row, row_by}
use Rattle.lfs_model.specs.Stands.{LogMap}
use Rattle.lfs_model.specs.Memory.{Memory, parent, pointer, patched, IsOfFile, IsPointers, HasPointer, is_shown, is_held, live_of, held_of}
use Rattle.lfs_model.specs.Laid.{IsLaid}
use Rattle.lfs_model.specs.Settled.{IsSettled, IsFreeFrom}
use Rattle.lfs_model.specs.declared.limits.TheConstants.{SECTOR_LEN, SEGMENT_SECTORS, BLOCK_SEGMENTS}

-- the blocks of files in memory
abbrev pub Dirty : Type 0
Dirty = Entry → Option (List ℕ)

-- they are those that memory has not put in the log
pub record IsCached (dirty : Dirty) (M : Memory) : Type 0 where
  pub cached : (x : Entry) (b : List ℕ) → dirty x ≡ Some b → IsOfFile x × (M.at x ≡ 1) × (M.bytes x ≡ b)
  pub found : (x : Entry) → IsOfFile x → M.at x ≡ 1 → (b : List ℕ) × (dirty x ≡ Some b)

-- no block of pointers among them is empty, which a commit asks for
abbrev pub IsTight : Dirty → Type 0
IsTight dirty = (x : Entry) (b : List ℕ) → dirty x ≡ Some b → IsPointers x → HasPointer b

-- What memory holds besides blocks.
pub record Tables : Type 0 where
  -- the address of each inode, and of each block of the inode map and of the usage table: 0 for none, 1 for one that is to be written
  pub at : Entry → ℕ
  -- for each segment: the sectors in use, the live blocks, those that hold it besides, and its age
  pub used : ℕ → ℕ
  pub live : ℕ → ℕ
  pub held : ℕ → ℕ
  pub age : ℕ → ℕ
  -- how many of a segment's sectors were in use as the acknowledged checkpoint was written
  pub kept : ℕ → ℕ
  -- the usage blocks that aren't as the device has them
  pub stale : ℕ → Bool

pub record IsTables (t : Tables) (m : LogMap) (M : Memory) : Type 0 where
  pub at : (x : Entry) → parent x ≡ x → M.at x ≡ t.at x
  pub used : (s : ℕ) → t.used s ≡ length (M.rows s)
  pub live : (s : ℕ) → t.live s ≡ live_of m M s
  pub held : (s : ℕ) → t.held s ≡ held_of m M s

-- what the usage table of a commit says of a segment: nothing where nothing lives
abbrev pub used_saved : Tables → ℕ → ℕ
used_saved t s = cond (t.live s == 0) 0 (t.used s)

abbrev pub age_saved : Tables → ℕ → ℕ
age_saved t s = cond (t.live s == 0) 0 (t.age s)

-- the bytes are usage block j
pub record SpellsUsage (t : Tables) (j : ℕ) (bytes : List ℕ) : Type 0 where
  pub long : length bytes ≡ SECTOR_LEN
  pub used : (i : ℕ) → i < BLOCK_SEGMENTS → half bytes (4 * i) ≡ used_saved t (BLOCK_SEGMENTS * j + i)
  pub live : (i : ℕ) → i < BLOCK_SEGMENTS → half bytes (4 * i + 1) ≡ t.live (BLOCK_SEGMENTS * j + i)
  pub age : (i : ℕ) → i < BLOCK_SEGMENTS → word bytes (2 * i + 1) ≡ age_saved t (BLOCK_SEGMENTS * j + i)

-- The last chunk of the segment has these entries so far, and its summary isn't written yet. The
-- chunks before it are, and it starts where the acknowledged checkpoint needs nothing.
pub record IsOpenFrom (e : Content) (M : Memory) (t : Tables) (seg : ℕ) (es : List Entry) : Type 0 where
  pub inside : seg < M.segments
  pub before : Row
  pub row : M.rows seg ≡ before ++ None ∷ map Some es
  pub sealed : row_by e (length before) seg ≡ Some before
  pub free : t.kept seg ≤ length before

-- what is open: no segment, or one whose chunk has these entries so far
abbrev pub IsOpenAt : Content → Memory → Tables → ℕ → Option (List Entry) → Type 0
IsOpenAt e M t seg None = M.segments ≤ seg
IsOpenAt e M t seg (Some es) = IsOpenFrom e M t seg es

-- what is in use of each segment are whole units, but where the open chunk stands
abbrev pub AreWhole : CheckpointValue → Tables → ℕ → Type 0
AreWhole k t seg = (s : ℕ) → s < k.segments → (s ≡ seg → ⊥) → t.used s % unit_sectors k ≡ 0

-- The log: k is the acknowledged checkpoint, of the log map m0; m is the present log map; `chunk` are the entries of the chunk
-- that is being written to segment seg, if there is one.
pub record Running (d : DeviceState) (dirty : Dirty) (t : Tables) (k : CheckpointValue) (m0 m : LogMap) (seg : ℕ)
    (chunk : Option (List Entry)) : Type 0 where
  pub memory : Memory
  pub laid : IsLaid d.content m memory seg
  pub segments : memory.segments ≡ k.segments
  pub settled : IsSettled d k m0
  pub cached : IsCached dirty memory
  pub tables : IsTables t m memory
  pub fresh : (j : ℕ) → t.stale j ≡ false → j < usage_blocks k.segments → SpellsUsage t j (memory.bytes (Usage j))
  -- what was in use as the acknowledged checkpoint was written still is, and it needs no more
  pub part : (s : ℕ) → t.kept s ≤ t.used s
  pub whole : AreWhole k t seg
  pub kept : (s : ℕ) → s < k.segments → IsFreeFrom d.content k s (t.kept s)
  pub opened : IsOpenAt d.content memory t seg chunk

-- ---- what the tables and the blocks in memory do, one step at a time

-- one number of a table changes
pub record IsSet {X : Type 0} (old new : ℕ → X) (i : ℕ) (x : X) : Type 0 where
  pub own : new i ≡ x
  pub others : (j : ℕ) → (j ≡ i → ⊥) → new j ≡ old j

-- x is in memory, and nothing below it
pub record IsLowest (dirty : Dirty) (x : Entry) : Type 0 where
  pub bytes : List ℕ
  pub there : dirty x ≡ Some bytes
  pub lowest : (y : Entry) (b : List ℕ) → parent y ≡ x → dirty y ≡ Some b → y ≡ x

-- x leaves memory, and its parent points to this address
pub record Moves (old new : Dirty) (x : Entry) (address : ℕ) : Type 0 where
  pub gone : new x ≡ None
  pub patched : (parent x ≡ x → ⊥) → new (parent x) ≡ option_map (patched (pointer x) address) (old (parent x))
  pub kept : (y : Entry) → (y ≡ x → ⊥) → (y ≡ parent x → ⊥) → new y ≡ old y

-- a count goes up by one where this holds
abbrev pub CountsUp : Bool → (ℕ → ℕ) → (ℕ → ℕ) → ℕ → Type 0
CountsUp true old new s = IsSet old new s (suc (old s))
CountsUp false old new s = (i : ℕ) → new i ≡ old i

-- or down
abbrev pub CountsDown : Bool → (ℕ → ℕ) → (ℕ → ℕ) → ℕ → Type 0
CountsDown true old new s = CountsUp true new old s
CountsDown false old new s = (i : ℕ) → new i ≡ old i

-- where the address of x stands in the tables, it is this; the other addresses there stay
pub record IsAddressed (t t' : Tables) (x : Entry) (address : ℕ) : Type 0 where
  pub own : parent x ≡ x → t'.at x ≡ address
  pub others : (y : Entry) → parent y ≡ y → (y ≡ x → ⊥) → t'.at y ≡ t.at y

-- x gets the next place of segment s, whose usage block is stale from then on
pub record IsNoted (m : LogMap) (t t' : Tables) (x : Entry) (address s : ℕ) : Type 0 where
  pub at : IsAddressed t t' x address
  pub used : IsSet t.used t'.used s (suc (t.used s))
  pub live : CountsUp (is_shown m x) t.live t'.live s
  pub held : CountsUp (is_held m x) t.held t'.held s
  pub age : (i : ℕ) → (i ≡ s → ⊥) → t'.age i ≡ t.age i
  pub kept : (i : ℕ) → t'.kept i ≡ t.kept i
  pub stale : IsSet t.stale t'.stale (s / BLOCK_SEGMENTS) true

-- x leaves its address in segment s
pub record IsLifted (m : LogMap) (t t' : Tables) (x : Entry) (v s : ℕ) : Type 0 where
  pub at : IsAddressed t t' x v
  pub used : (i : ℕ) → t'.used i ≡ t.used i
  pub live : CountsDown (is_shown m x) t.live t'.live s
  pub held : CountsDown (is_held m x) t.held t'.held s
  pub age : (i : ℕ) → t'.age i ≡ t.age i
  pub kept : (i : ℕ) → t'.kept i ≡ t.kept i
  pub stale : IsSet t.stale t'.stale (s / BLOCK_SEGMENTS) true

-- segment s is taken from the clean ones, its first sector kept for a summary
pub record IsTakenFrom (t t' : Tables) (s : ℕ) : Type 0 where
  pub clean : t.used s ≡ 0
  pub at : (y : Entry) → t'.at y ≡ t.at y
  pub used : IsSet t.used t'.used s 1
  pub live : (i : ℕ) → t'.live i ≡ t.live i
  pub held : (i : ℕ) → t'.held i ≡ t.held i
  pub age : (i : ℕ) → (i ≡ s → ⊥) → t'.age i ≡ t.age i
  pub kept : (i : ℕ) → t'.kept i ≡ t.kept i
  pub stale : (j : ℕ) → t'.stale j ≡ t.stale j

-- a chunk more begins in segment s, whose next sector is kept for a summary
pub record GoesOnIn (t t' : Tables) (s : ℕ) : Type 0 where
  pub some : 0 < t.used s
  pub room : t.used s < SEGMENT_SECTORS
  pub at : (y : Entry) → t'.at y ≡ t.at y
  pub used : IsSet t.used t'.used s (suc (t.used s))
  pub live : (i : ℕ) → t'.live i ≡ t.live i
  pub held : (i : ℕ) → t'.held i ≡ t.held i
  pub age : (i : ℕ) → (i ≡ s → ⊥) → t'.age i ≡ t.age i
  pub kept : (i : ℕ) → t'.kept i ≡ t.kept i
  pub stale : IsSet t.stale t'.stale (s / BLOCK_SEGMENTS) true

-- a sector more of segment s is in use, for no block
pub record IsPadded (t t' : Tables) (s : ℕ) : Type 0 where
  pub at : (y : Entry) → t'.at y ≡ t.at y
  pub used : IsSet t.used t'.used s (suc (t.used s))
  pub live : (i : ℕ) → t'.live i ≡ t.live i
  pub held : (i : ℕ) → t'.held i ≡ t.held i
  pub age : (i : ℕ) → t'.age i ≡ t.age i
  pub kept : (i : ℕ) → t'.kept i ≡ t.kept i
  pub stale : IsSet t.stale t'.stale (s / BLOCK_SEGMENTS) true

-- usage block j is as the device has it
pub record IsFresh (t t' : Tables) (j : ℕ) : Type 0 where
  pub at : (y : Entry) → t'.at y ≡ t.at y
  pub used : (i : ℕ) → t'.used i ≡ t.used i
  pub live : (i : ℕ) → t'.live i ≡ t.live i
  pub held : (i : ℕ) → t'.held i ≡ t.held i
  pub age : (i : ℕ) → t'.age i ≡ t.age i
  pub kept : (i : ℕ) → t'.kept i ≡ t.kept i
  pub stale : IsSet t.stale t'.stale j false

-- only the address of x changes
pub record IsReaddressed (t t' : Tables) (x : Entry) (address : ℕ) : Type 0 where
  pub at : IsAddressed t t' x address
  pub used : (i : ℕ) → t'.used i ≡ t.used i
  pub live : (i : ℕ) → t'.live i ≡ t.live i
  pub held : (i : ℕ) → t'.held i ≡ t.held i
  pub age : (i : ℕ) → t'.age i ≡ t.age i
  pub kept : (i : ℕ) → t'.kept i ≡ t.kept i
  pub stale : (j : ℕ) → t'.stale j ≡ t.stale j
