-- A commit, one step at a time: blocks of files, of the inode map and of the usage table go to the open segment, which is sealed as it is
-- full and followed by another; and then the checkpoint.
-- That what changed goes to the log first, and the checkpoint last, is the
-- Sprite LFS paper's (1992, section 4.1); the steps are an own choice.
use Rattle.std.specs.Prelude.{◌≡◌, ◌<◌, ◌≤◌, ◌⊎◌, ◌+◌, ◌*◌, ◌-◌, ◌%◌, ◌==◌, ℕ, suc, true, false, List, [], ◌∷◌, ◌++◌, length, get_or}
use Rattle.std.specs.Prelude.{Option, Some, None}
use Rattle.lfs_model.specs.Entry.{Entry, Inode, Map, Usage, entries_in, word}
use Rattle.lfs_model.specs.Checkpoint.{CheckpointValue, checkpoint_in, is_last, layout_version, unit_sectors, usage_blocks}
use Rattle.lfs_model.specs.Device.{DeviceState, CrashWritesUnit, IsUntouched, put}
use Rattle.lfs_model.specs.Content.{Content}
use Rattle.lfs_model.specs.Decodes.{IsSized}
use Rattle.lfs_model.specs.Reach.{address, view, segment_start}
use Rattle.lfs_model.specs.Stands.{LogMap, used_in, live_in, age_in, count_up}
use Rattle.lfs_model.specs.Encodes.{IsLogMap}
use Rattle.lfs_model.specs.TreeOf.{dropped}
use Rattle.lfs_model.specs.Memory.{parent, IsPointers, HasPointer, shown}
use Rattle.lfs_model.specs.Counting.{segment_of}
use Rattle.lfs_model.specs.Settled.{IsSettled, IsPlanned}
use Rattle.lfs_model.specs.Running.{Dirty, IsTight, Tables, SpellsUsage, Running, IsLowest, Moves, IsNoted, IsLifted, IsTakenFrom, GoesOnIn}
use Rattle.lfs_model.specs.Running.{IsFresh, IsReaddressed, IsPadded, used_saved}
use Rattle.lfs_model.specs.declared.limits.TheConstants.{SECTOR_LEN, CHECKPOINT_SLOTS, SEGMENT_SECTORS, MOST_SEGMENTS, BLOCK_POINTERS}
use Rattle.lfs_model.specs.declared.limits.TheConstants.{BLOCK_SEGMENTS}

-- the first sector behind the used part of a segment
abbrev pub place_of : Tables → ℕ → ℕ
place_of t seg = segment_start seg + t.used seg

-- the device has these bytes at a sector from now on
pub record IsWritten (d d' : DeviceState) (at : ℕ) (bytes : List ℕ) : Type 0 where
  pub content : d'.content ≡ put d.content at bytes
  pub crash : CrashWritesUnit at bytes d d'
  pub unit : d'.unit ≡ d.unit

-- A clean segment is opened.
abbrev pub Beginning : Type 1
Beginning = (d : DeviceState) (dirty : Dirty) (t t' : Tables) (k : CheckpointValue) (m0 m : LogMap) (none s : ℕ)
    → Running d dirty t k m0 m none None → s < k.segments → IsTakenFrom t t' s → Running d dirty t' k m0 m s (Some [])

-- Or a chunk more begins in a segment that has room.
abbrev pub GoingOn : Type 1
GoingOn = (d : DeviceState) (dirty : Dirty) (t t' : Tables) (k : CheckpointValue) (m0 m : LogMap) (none s : ℕ)
    → Running d dirty t k m0 m none None → s < k.segments → GoesOnIn t t' s → Running d dirty t' k m0 m s (Some [])

-- Either way each block stands where it stood.
abbrev pub BeginningTo : Type 1
BeginningTo = (d : DeviceState) (dirty : Dirty) (t t' : Tables) (k : CheckpointValue) (m0 m : LogMap) (none s : ℕ)
    → (w : Running d dirty t k m0 m none None) → s < k.segments → IsTakenFrom t t' s
    → (w' : Running d dirty t' k m0 m s (Some [])) × ((y : Entry) → w'.memory.at y ≡ w.memory.at y)

abbrev pub GoingOnTo : Type 1
GoingOnTo = (d : DeviceState) (dirty : Dirty) (t t' : Tables) (k : CheckpointValue) (m0 m : LogMap) (none s : ℕ)
    → (w : Running d dirty t k m0 m none None) → s < k.segments → GoesOnIn t t' s
    → (w' : Running d dirty t' k m0 m s (Some [])) × ((y : Entry) → w'.memory.at y ≡ w.memory.at y)

-- The chunk names an entry more, whose block stands elsewhere or nowhere: a chunk that is to end on a unit.
abbrev pub PaddingChunk : Type 1
PaddingChunk = (d : DeviceState) (dirty : Dirty) (t t' : Tables) (k : CheckpointValue) (m0 m : LogMap)
    (seg : ℕ) (es : List Entry) (x : Entry)
    → Running d dirty t k m0 m seg (Some es) → t.used seg < SEGMENT_SECTORS → IsPadded t t' seg
    → Running d dirty t' k m0 m seg (Some (es ++ x ∷ []))

-- Each block stands where it stood.
abbrev pub PaddingTo : Type 1
PaddingTo = (d : DeviceState) (dirty : Dirty) (t t' : Tables) (k : CheckpointValue) (m0 m : LogMap)
    (seg : ℕ) (es : List Entry) (x : Entry)
    → (w : Running d dirty t k m0 m seg (Some es)) → t.used seg < SEGMENT_SECTORS → IsPadded t t' seg
    → (w' : Running d dirty t' k m0 m seg (Some (es ++ x ∷ []))) × ((y : Entry) → w'.memory.at y ≡ w.memory.at y)

-- A block of a file goes out.
abbrev pub Stepping : Type 1
Stepping = (d d' : DeviceState) (dirty dirty' : Dirty) (t t' : Tables) (k : CheckpointValue) (m0 m : LogMap) (seg : ℕ) (es : List Entry)
    (x : Entry) (bytes : List ℕ)
    → Running d dirty t k m0 m seg (Some es) → t.used seg < SEGMENT_SECTORS → IsLowest dirty x → dirty x ≡ Some bytes
    → (IsPointers x → HasPointer bytes)
    → IsWritten d d' (place_of t seg) bytes → Moves dirty dirty' x (place_of t seg) → IsNoted m t t' x (place_of t seg) seg
    → Running d' dirty' t' k m0 m seg (Some (es ++ x ∷ []))

-- It was in memory, its address is the place that it gets, and every other one stands where it stood.
abbrev pub SteppingTo : Type 1
SteppingTo = (d d' : DeviceState) (dirty dirty' : Dirty) (t t' : Tables) (k : CheckpointValue) (m0 m : LogMap) (seg : ℕ) (es : List Entry)
    (x : Entry) (bytes : List ℕ)
    → (w : Running d dirty t k m0 m seg (Some es)) → t.used seg < SEGMENT_SECTORS → IsLowest dirty x → dirty x ≡ Some bytes
    → (IsPointers x → HasPointer bytes)
    → IsWritten d d' (place_of t seg) bytes → Moves dirty dirty' x (place_of t seg) → IsNoted m t t' x (place_of t seg) seg
    → (w' : Running d' dirty' t' k m0 m seg (Some (es ++ x ∷ [])))
    × ((w.memory.at x ≡ 1) × (w'.memory.at x ≡ place_of t seg) × ((y : Entry) → (y ≡ x → ⊥) → w'.memory.at y ≡ w.memory.at y))

-- No block of pointers that is left becomes empty by that.
abbrev pub SteppingTight : Type 1
SteppingTight = (d : DeviceState) (dirty dirty' : Dirty) (t : Tables) (k : CheckpointValue) (m0 m : LogMap) (seg : ℕ) (es : List Entry)
    (x : Entry) (bytes : List ℕ)
    → Running d dirty t k m0 m seg (Some es) → t.used seg < SEGMENT_SECTORS → dirty x ≡ Some bytes → Moves dirty dirty' x (place_of t seg)
    → IsTight dirty → IsTight dirty'

-- the bytes are inode map block j
pub record SpellsMap (m : LogMap) (t : Tables) (j : ℕ) (bytes : List ℕ) : Type 0 where
  pub settled : (i : ℕ) → i < BLOCK_POINTERS → shown m t.at (Inode (BLOCK_POINTERS * j + i)) ≡ 1 → ⊥
  pub long : length bytes ≡ SECTOR_LEN
  pub spells : (i : ℕ) → i < BLOCK_POINTERS → word bytes i ≡ shown m t.at (Inode (BLOCK_POINTERS * j + i))
  pub some : HasPointer bytes

-- An inode map block goes out.
abbrev pub MapStepping : Type 1
MapStepping = (d d' : DeviceState) (dirty : Dirty) (t t' : Tables) (k : CheckpointValue) (m0 m : LogMap) (seg : ℕ) (es : List Entry) (j : ℕ)
    (bytes : List ℕ)
    → Running d dirty t k m0 m seg (Some es) → t.used seg < SEGMENT_SECTORS → t.at (Map j) ≡ 1 → SpellsMap m t j bytes
    → IsWritten d d' (place_of t seg) bytes → IsNoted m t t' (Map j) (place_of t seg) seg
    → Running d' dirty t' k m0 m seg (Some (es ++ Map j ∷ []))

-- One that shows no inode isn't stored.
abbrev pub MapDropping : Type 1
MapDropping =
    (d : DeviceState) (dirty : Dirty) (t t' : Tables) (k : CheckpointValue) (m0 m : LogMap) (seg : ℕ) (chunk : Option (List Entry)) (j : ℕ)
    → Running d dirty t k m0 m seg chunk → t.at (Map j) ≡ 1
    → ((i : ℕ) → i < BLOCK_POINTERS → shown m t.at (Inode (BLOCK_POINTERS * j + i)) ≡ 0)
    → IsReaddressed t t' (Map j) 0 → Running d dirty t' k m0 m seg chunk

-- A usage block that is stale is to be written, so it lives no more where it was.
abbrev pub UsageLeaving : Type 1
UsageLeaving =
    (d : DeviceState) (dirty : Dirty) (t t' : Tables) (k : CheckpointValue) (m0 m : LogMap) (seg : ℕ) (chunk : Option (List Entry)) (j : ℕ)
    → Running d dirty t k m0 m seg chunk → 2 ≤ t.at (Usage j) → t.stale j ≡ true → IsLifted m t t' (Usage j) 1 (segment_of (t.at (Usage j)))
    → Running d dirty t' k m0 m seg chunk

-- It gets its place before its bytes are known, for it may count itself.
abbrev pub UsageSettling : Type 1
UsageSettling = (d : DeviceState) (dirty : Dirty) (t t' : Tables) (k : CheckpointValue) (m0 m : LogMap) (seg : ℕ) (es : List Entry) (j : ℕ)
    → Running d dirty t k m0 m seg (Some es) → t.used seg < SEGMENT_SECTORS → t.at (Usage j) ≡ 1 → t.stale j ≡ true
    → IsNoted m t t' (Usage j) (place_of t seg) seg
    → Running d dirty t' k m0 m seg (Some (es ++ Usage j ∷ []))

-- the acknowledged checkpoint needs nothing at an address
abbrev pub IsUnkept : Tables → ℕ → Type 0
IsUnkept t at = t.kept (segment_of at) ≤ (at - CHECKPOINT_SLOTS) % SEGMENT_SECTORS

-- And it is written there, once all counts are final.
abbrev pub UsageFilling : Type 1
UsageFilling = (d d' : DeviceState) (dirty : Dirty) (t t' : Tables) (k : CheckpointValue) (m0 m : LogMap) (seg : ℕ)
    (chunk : Option (List Entry)) (j : ℕ) (bytes : List ℕ)
    → Running d dirty t k m0 m seg chunk → 2 ≤ t.at (Usage j) → IsUnkept t (t.at (Usage j)) → SpellsUsage t j bytes
    → IsWritten d d' (t.at (Usage j)) bytes → IsFresh t t' j → Running d' dirty t' k m0 m seg chunk

-- The open chunk's summary is written, at its start in the segment. It ends on a unit.
abbrev pub Closing : Type 1
Closing = (d d' : DeviceState) (dirty : Dirty) (t : Tables) (k : CheckpointValue) (m0 m : LogMap) (seg start : ℕ) (es : List Entry)
    (bytes : List ℕ) (none : ℕ)
    → Running d dirty t k m0 m seg (Some es) → t.used seg ≡ start + suc (length es) → t.used seg % unit_sectors k ≡ 0
    → entries_in bytes ≡ Some es → IsWritten d d' (segment_start seg + start) bytes → k.segments ≤ none
    → Running d' dirty t k m0 m none None

-- Each block stands where it stood.
abbrev pub ClosingTo : Type 1
ClosingTo = (d d' : DeviceState) (dirty : Dirty) (t : Tables) (k : CheckpointValue) (m0 m : LogMap) (seg start : ℕ) (es : List Entry)
    (bytes : List ℕ) (none : ℕ)
    → (w : Running d dirty t k m0 m seg (Some es)) → t.used seg ≡ start + suc (length es) → t.used seg % unit_sectors k ≡ 0
    → entries_in bytes ≡ Some es → IsWritten d d' (segment_start seg + start) bytes → k.segments ≤ none
    → (w' : Running d' dirty t k m0 m none None) × ((y : Entry) → w'.memory.at y ≡ w.memory.at y)

-- All is out: nothing is left in memory, and the usage table is on the device.
pub record IsOut (dirty : Dirty) (t : Tables) (segments : ℕ) : Type 0 where
  pub empty : (x : Entry) → dirty x ≡ None
  pub maps : (j : ℕ) → t.at (Map j) ≡ 1 → ⊥
  pub usages : (j : ℕ) → t.at (Usage j) ≡ 1 → ⊥
  pub fresh : (j : ℕ) → j < usage_blocks segments → t.stale j ≡ false

-- an eighth of the segments have no use by the usage table
abbrev pub ManyClean : Tables → ℕ → Type 0
ManyClean t segments = segments ≤ 8 * count_up (λ s. used_saved t s == 0) segments

-- the checkpoint that leads to all of it
pub record LeadsTo (t : Tables) (version : ℕ) (k next : CheckpointValue) : Type 0 where
  pub number : next.number ≡ k.number + 1
  pub segments : next.segments ≡ k.segments
  pub same : layout_version next ≡ version
  pub last : is_last (layout_version next) ≡ is_last (layout_version k)
  pub unit : next.unit_power ≡ k.unit_power
  pub map : (j : ℕ) → get_or next.map j 0 ≡ t.at (Map j)
  pub usage : (j : ℕ) → get_or next.usage j 0 ≡ t.at (Usage j)

-- So its slot may be written.
abbrev pub Planning : Type 1
Planning = (d : DeviceState) (dirty : Dirty) (t : Tables) (k next : CheckpointValue) (m0 m : LogMap) (none slot : ℕ) (bytes : List ℕ)
    → Running d dirty t k m0 m none None → IsLogMap (dropped m) → IsOut dirty t k.segments → ManyClean t k.segments
    → LeadsTo t m.version k next
    → checkpoint_in bytes ≡ Some next → slot ≡ next.number % 2 → IsPlanned k d.content slot bytes next (dropped m)

-- the segments where nothing lives and that nothing holds are clean, and what is in use is kept
pub record IsReleased (t t' : Tables) : Type 0 where
  pub at : (y : Entry) → t'.at y ≡ t.at y
  pub gone : (s : ℕ) → t.live s ≡ 0 → t.held s ≡ 0 → t'.used s ≡ 0
  pub used : (s : ℕ) → (0 < t.live s) ⊎ (0 < t.held s) → t'.used s ≡ t.used s
  pub live : (i : ℕ) → t'.live i ≡ t.live i
  pub held : (i : ℕ) → t'.held i ≡ t.held i
  pub age : (i : ℕ) → 0 < t.live i → t'.age i ≡ t.age i
  pub kept : (i : ℕ) → t'.kept i ≡ t'.used i
  pub stale : (j : ℕ) → t'.stale j ≡ t.stale j

-- And once it is acknowledged, the log runs on from there.
abbrev pub Resting : Type 1
Resting = (d d' : DeviceState) (dirty : Dirty) (t t' : Tables) (k next : CheckpointValue) (m0 m : LogMap) (none slot : ℕ) (bytes : List ℕ)
    → Running d dirty t k m0 m none None → IsOut dirty t k.segments → ManyClean t k.segments → LeadsTo t m.version k next → slot < 2
    → d'.content ≡ put d.content slot bytes
    → IsSettled d' next (dropped m) → IsReleased t t' → Running d' dirty t' next (dropped m) m none None

-- A call that leaves the content, and leaves no more to a stop, changes nothing of it.
abbrev pub Staying : Type 1
Staying = (d d' : DeviceState) (dirty : Dirty) (t : Tables) (k : CheckpointValue) (m0 m : LogMap) (seg : ℕ) (chunk : Option (List Entry))
    → Running d dirty t k m0 m seg chunk → IsUntouched d d' → d'.unit ≡ d.unit → Running d' dirty t k m0 m seg chunk

-- Each block stands where it stood.
abbrev pub StayingTo : Type 1
StayingTo =
    (d d' : DeviceState) (dirty : Dirty) (t : Tables) (k : CheckpointValue) (m0 m : LogMap) (seg : ℕ) (chunk : Option (List Entry))
    → (w : Running d dirty t k m0 m seg chunk) → IsUntouched d d' → d'.unit ≡ d.unit
    → (w' : Running d' dirty t k m0 m seg chunk) × ((y : Entry) → w'.memory.at y ≡ w.memory.at y)

-- What a mount puts into the tables: what the usage table and the inode map of the content say. A usage
-- block in which a segment where nothing lives has an age isn't as a commit would write it, so it is stale.
pub record IsMountedTables (c : Content) (k : CheckpointValue) (t : Tables) : Type 0 where
  pub at : (x : Entry) → parent x ≡ x → t.at x ≡ address c k x
  pub used : (s : ℕ) → t.used s ≡ used_in (view c k) s
  pub live : (s : ℕ) → t.live s ≡ live_in (view c k) s
  pub held : (s : ℕ) → t.held s ≡ 0
  pub age : (s : ℕ) → t.age s ≡ age_in (view c k) s
  pub kept : (s : ℕ) → t.kept s ≡ t.used s
  pub stale : (j i : ℕ) → t.stale j ≡ false → i < BLOCK_SEGMENTS → live_in (view c k) (BLOCK_SEGMENTS * j + i) ≡ 0
      → age_in (view c k) (BLOCK_SEGMENTS * j + i) ≡ 0

-- With nothing in memory, and once all that it found is durable, the log runs.
abbrev pub Starting : Type 1
Starting = (d : DeviceState) (t : Tables) (k : CheckpointValue) (m : LogMap) (none : ℕ) → k.segments ≤ MOST_SEGMENTS → IsSized d.content
    → IsSettled d k m → IsMountedTables d.content k t → k.segments ≤ none
    → Running d (λ x. None) t k m m none None
