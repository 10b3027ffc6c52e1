-- A commit's steps over memory and content: a block goes to the next sector of the open segment, and its parent points there.
-- Blocks gathered behind a summary that names them, at the end of the log: the Sprite LFS paper (1992, sections 3.1 and 3.3).
use Rattle.std.specs.Prelude.{◌≡◌, ◌<◌, ◌≤◌, ◌+◌, ◌*◌, ◌++◌, ℕ, Bool, List, [], ◌∷◌, length, map, Some, None}
use Rattle.lfs_model.specs.Entry.{Entry, Map, Usage, Inode, entries_in, word}
use Rattle.lfs_model.specs.Content.{Content, block}
use Rattle.lfs_model.specs.Device.{put}
use Rattle.lfs_model.specs.Reach.{Row, row_by, segment_start}
use Rattle.lfs_model.specs.Stands.{LogMap}
use Rattle.lfs_model.specs.Memory.{Memory, parent, pointer, patched, IsOfFile, IsPointers, HasPointer, shown, count_of}
use Rattle.lfs_model.specs.Laid.{IsLaid}
use Rattle.lfs_model.specs.declared.limits.TheConstants.{SECTOR_LEN, SEGMENT_SECTORS, BLOCK_POINTERS}

-- the next sector of the open segment
abbrev pub next_place : Memory → ℕ → ℕ
next_place M opened_at = segment_start opened_at + length (M.rows opened_at)

-- x gets that address in M'
pub record IsMoved (M : Memory) (opened_at : ℕ) (x : Entry) (M' : Memory) : Type 0 where
  pub was : M.at x ≡ 1
  pub begun : 0 < length (M.rows opened_at)
  pub room : length (M.rows opened_at) < SEGMENT_SECTORS
  pub opened : opened_at < M.segments
  pub segments : M'.segments ≡ M.segments
  pub at : M'.at x ≡ next_place M opened_at
  pub others : (y : Entry) → (y ≡ x → ⊥) → M'.at y ≡ M.at y
  pub row : M'.rows opened_at ≡ M.rows opened_at ++ Some x ∷ []
  pub rows : (s : ℕ) → (s ≡ opened_at → ⊥) → M'.rows s ≡ M.rows s

-- a block of a file goes out, with nothing below it in memory, and its parent is patched
pub record IsPlacing (M : Memory) (opened_at : ℕ) (x : Entry) (M' : Memory) : Type 0 where
  pub moved : IsMoved M opened_at x M'
  pub of_file : IsOfFile x
  pub lowest : (y : Entry) → parent y ≡ x → M.at y ≡ 1 → y ≡ x
  pub some : IsPointers x → HasPointer (M.bytes x)
  pub own : M'.bytes x ≡ M.bytes x
  pub patched : (parent x ≡ x → ⊥) → M'.bytes (parent x) ≡ patched (pointer x) (M'.at x) (M.bytes (parent x))
  pub kept : (y : Entry) → (y ≡ x → ⊥) → (y ≡ parent x → ⊥) → M'.bytes y ≡ M.bytes y

abbrev pub Placing : Type 0
Placing = (e : Content) (m : LogMap) (M : Memory) (opened_at : ℕ) (x : Entry) (M' : Memory) → IsLaid e m M opened_at
    → IsPlacing M opened_at x M'
    → IsLaid (put e (next_place M opened_at) (M.bytes x)) m M' opened_at

-- an inode map block goes out, once the inodes that it shows are out
pub record IsMapPlacing (m : LogMap) (M : Memory) (opened_at j : ℕ) (bytes : List ℕ) (M' : Memory) : Type 0 where
  pub moved : IsMoved M opened_at (Map j) M'
  pub settled : (i : ℕ) → i < BLOCK_POINTERS → shown m M.at (Inode (BLOCK_POINTERS * j + i)) ≡ 1 → ⊥
  pub long : length bytes ≡ SECTOR_LEN
  pub spells : (i : ℕ) → i < BLOCK_POINTERS → word bytes i ≡ shown m M.at (Inode (BLOCK_POINTERS * j + i))
  pub some : HasPointer bytes
  pub own : M'.bytes (Map j) ≡ bytes
  pub kept : (y : Entry) → (y ≡ Map j → ⊥) → M'.bytes y ≡ M.bytes y

abbrev pub MapPlacing : Type 0
MapPlacing = (e : Content) (m : LogMap) (M : Memory) (opened_at j : ℕ) (bytes : List ℕ) (M' : Memory) → IsLaid e m M opened_at
    → IsMapPlacing m M opened_at j bytes M'
    → IsLaid (put e (next_place M opened_at) bytes) m M' opened_at

-- an inode map block that shows no inode isn't stored
pub record IsMapLeaving (m : LogMap) (M : Memory) (j : ℕ) (M' : Memory) : Type 0 where
  pub was : M.at (Map j) ≡ 1
  pub none : (i : ℕ) → i < BLOCK_POINTERS → shown m M.at (Inode (BLOCK_POINTERS * j + i)) ≡ 0
  pub segments : M'.segments ≡ M.segments
  pub at : M'.at (Map j) ≡ 0
  pub others : (y : Entry) → (y ≡ Map j → ⊥) → M'.at y ≡ M.at y
  pub bytes : M'.bytes ≡ M.bytes
  pub rows : M'.rows ≡ M.rows

abbrev pub MapLeaving : Type 0
MapLeaving = (e : Content) (m : LogMap) (M : Memory) (opened_at j : ℕ) (M' : Memory) → IsLaid e m M opened_at → IsMapLeaving m M j M'
    → IsLaid e m M' opened_at

-- A usage block gets its place before it is written, for the usage blocks count themselves: until then it is what stands there.
pub record IsSettling (e : Content) (M : Memory) (opened_at j : ℕ) (M' : Memory) : Type 0 where
  pub moved : IsMoved M opened_at (Usage j) M'
  pub own : M'.bytes (Usage j) ≡ block e (next_place M opened_at)
  pub kept : (y : Entry) → (y ≡ Usage j → ⊥) → M'.bytes y ≡ M.bytes y

abbrev pub Settling : Type 0
Settling = (e : Content) (m : LogMap) (M : Memory) (opened_at j : ℕ) (M' : Memory) → IsLaid e m M opened_at → IsSettling e M opened_at j M'
    → IsLaid e m M' opened_at

-- And then it is written.
pub record IsFilling (M : Memory) (j : ℕ) (bytes : List ℕ) (M' : Memory) : Type 0 where
  pub was : 2 ≤ M.at (Usage j)
  pub segments : M'.segments ≡ M.segments
  pub at : M'.at ≡ M.at
  pub own : M'.bytes (Usage j) ≡ bytes
  pub kept : (y : Entry) → (y ≡ Usage j → ⊥) → M'.bytes y ≡ M.bytes y
  pub rows : M'.rows ≡ M.rows

abbrev pub Filling : Type 0
Filling = (e : Content) (m : LogMap) (M : Memory) (opened_at j : ℕ) (bytes : List ℕ) (M' : Memory) → IsLaid e m M opened_at
    → IsFilling M j bytes M'
    → IsLaid (put e (M.at (Usage j)) bytes) m M' opened_at

-- A clean segment is opened: its first sector is kept for the summary.
pub record IsOpening (M : Memory) (s : ℕ) (M' : Memory) : Type 0 where
  pub segments : M'.segments ≡ M.segments
  pub inside : s < M.segments
  pub at : M'.at ≡ M.at
  pub bytes : M'.bytes ≡ M.bytes
  pub none : M.rows s ≡ []
  pub row : M'.rows s ≡ None ∷ []
  pub rows : (t : ℕ) → (t ≡ s → ⊥) → M'.rows t ≡ M.rows t

abbrev pub Opening : Type 0
Opening = (e : Content) (m : LogMap) (M : Memory) (opened_at s : ℕ) (M' : Memory) → IsLaid e m M opened_at → M.segments ≤ opened_at
    → IsOpening M s M' → IsLaid e m M' s
    × ((is : Entry → Bool) (t : ℕ) → count_of is M' t ≡ count_of is M t)

-- A segment with room is opened again: its next sector is kept for a summary.
pub record IsReopening (M : Memory) (s : ℕ) (M' : Memory) : Type 0 where
  pub segments : M'.segments ≡ M.segments
  pub inside : s < M.segments
  pub at : M'.at ≡ M.at
  pub bytes : M'.bytes ≡ M.bytes
  pub some : 0 < length (M.rows s)
  pub room : length (M.rows s) < SEGMENT_SECTORS
  pub row : M'.rows s ≡ M.rows s ++ None ∷ []
  pub rows : (t : ℕ) → (t ≡ s → ⊥) → M'.rows t ≡ M.rows t

abbrev pub Reopening : Type 0
Reopening = (e : Content) (m : LogMap) (M : Memory) (opened_at s : ℕ) (M' : Memory) → IsLaid e m M opened_at → M.segments ≤ opened_at
    → IsReopening M s M' → IsLaid e m M' s
    × ((is : Entry → Bool) (t : ℕ) → count_of is M' t ≡ count_of is M t)

-- An entry more is named at the next sector of the open segment, to which no address leads.
pub record IsPadding (M : Memory) (opened_at : ℕ) (x : Entry) (M' : Memory) : Type 0 where
  pub segments : M'.segments ≡ M.segments
  pub inside : opened_at < M.segments
  pub at : M'.at ≡ M.at
  pub bytes : M'.bytes ≡ M.bytes
  pub some : 0 < length (M.rows opened_at)
  pub room : length (M.rows opened_at) < SEGMENT_SECTORS
  pub row : M'.rows opened_at ≡ M.rows opened_at ++ Some x ∷ []
  pub rows : (t : ℕ) → (t ≡ opened_at → ⊥) → M'.rows t ≡ M.rows t

abbrev pub Padding : Type 0
Padding = (e : Content) (m : LogMap) (M : Memory) (opened_at : ℕ) (x : Entry) (M' : Memory) → IsLaid e m M opened_at
    → IsPadding M opened_at x M' → IsLaid e m M' opened_at
    × ((is : Entry → Bool) (t : ℕ) → count_of is M' t ≡ count_of is M t)

-- The summary of the last chunk is written, behind the chunks before it: no segment is open.
abbrev pub Sealing : Type 0
Sealing = (e : Content) (m : LogMap) (M : Memory) (opened_at : ℕ) (before : Row) (bytes : List ℕ) (es : List Entry) → IsLaid e m M opened_at
    → opened_at < M.segments
    → M.rows opened_at ≡ before ++ None ∷ map Some es → row_by e (length before) opened_at ≡ Some before → entries_in bytes ≡ Some es
    → (none : ℕ) → M.segments ≤ none
    → IsLaid (put e (segment_start opened_at + length before) bytes) m M none
