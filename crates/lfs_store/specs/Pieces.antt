-- Bytes laid over the blocks of a file, cut off them, and read out of them, one block after the other.
use Rattle.std.specs.Prelude.{◌≡◌, ◌⊎◌, ◌<◌, ◌≤◌, ℕ, ◌+◌, ◌-◌, ◌*◌, ◌/◌, ◌%◌, max, min, List, [], ◌++◌, length, take, drop, Option}
use Rattle.std.specs.Prelude.{slice_index}
use Rattle.lfs_model.specs.declared.limits.TheConstants.{SECTOR_LEN}
use Rattle.lfs_model.specs.Bytes.{part}
use Rattle.lfs_model.specs.Changing.{IsWithBlock, IsWithHeader}
use Rattle.lfs_model.specs.Entry.{Header}
use Rattle.lfs_model.specs.Objects.{byte_in, Overlays, IsChangedAt, AreStoredWhole, WritesBytes, CutsBytes}
use Rattle.lfs_model.specs.Stands.{LogMap}
use Rattle.lfs_model.specs.TreeOf.{object}
pub use Rattle.lfs_files.specs.Files.{HoldsBlock}
use Rattle.lfs_cleaner.specs.log.memory.Changing.{stored}
use Rattle.lfs_cleaner.specs.log.memory.Cutting.{cut_from}

-- ---- one block

-- where a place of a file lies in its block at an index: 0 where it lies before, 512 where it lies behind
abbrev pub place_in_block : ℕ → ℕ → ℕ
place_in_block at index = min (at - SECTOR_LEN * index) SECTOR_LEN

-- those of the bytes w, which begin at a place of a file, that lie in its block at an index
abbrev pub piece : ℕ → List ℕ → ℕ → List ℕ
piece at w index = take (SECTOR_LEN - place_in_block at index) (drop (SECTOR_LEN * index - at) w)

-- the bytes between two places of a file that lie in its block at an index
abbrev pub part_of_block : ℕ → ℕ → ℕ → List ℕ → List ℕ
part_of_block from to index block = part block (place_in_block from index) (place_in_block to index - place_in_block from index)

-- a block of a file at an index, with the bytes w laid over the file from a place on
pub record BlockOverlays (at : ℕ) (w : List ℕ) (index : ℕ) (old new : List ℕ) : Type 0 where
  pub fits : place_in_block at index + length (piece at w index) ≤ SECTOR_LEN
  pub laid : Overlays (place_in_block at index) (piece at w index) (slice_index old) (slice_index new)

-- a block with zeros from a place on
pub record CutsTail (from : ℕ) (old new : List ℕ) : Type 0 where
  pub before : (k : ℕ) → k < from → slice_index new k ≡ slice_index old k
  pub zeros : (k : ℕ) → from ≤ k → slice_index new k ≡ 0

-- the bytes w, which begin at a place of a file, cover its block at an index whole
abbrev pub Covers : ℕ → List ℕ → ℕ → Type 0
Covers at w index = (at ≤ SECTOR_LEN * index) × (SECTOR_LEN * index + SECTOR_LEN ≤ at + length w)

-- What they are laid over: the block's bytes, or any where they cover it whole.
abbrev pub IsBeneath : LogMap → ℕ → ℕ → ℕ → List ℕ → List ℕ → Type 0
IsBeneath m n index at w old = HoldsBlock m n index old ⊎ Covers at w index

-- ---- reading

-- what is out of the bytes between two places of file n when its blocks below an index were read
pub record PartSoFar (m : LogMap) (n from to index : ℕ) (out : List ℕ) : Type 0 where
  pub long : length out ≡ min to (SECTOR_LEN * index) - from
  pub bytes : (j : ℕ) → j < length out → slice_index out j ≡ byte_in m n (from + j)

-- Before the first block it is nothing.
abbrev pub PartBegins : Type 0
PartBegins = (m : LogMap) (n from to : ℕ) → PartSoFar m n from to (from / SECTOR_LEN) []

-- A block adds the bytes that lie in it.
abbrev pub PartGoesOn : Type 0
PartGoesOn = (m : LogMap) (n from to index : ℕ) (out block : List ℕ) → from ≤ to → PartSoFar m n from to index out
    → HoldsBlock m n index block
    → PartSoFar m n from to (index + 1) (out ++ part_of_block from to index block)

-- With the last block it is the part of the object.
abbrev pub PartEnds : Type 0
PartEnds = (m : LogMap) (n : ℕ) (h : Header) (from to index : ℕ) (out : List ℕ) → to ≤ h.size → to ≤ SECTOR_LEN * index
    → PartSoFar m n from to index out
    → out ≡ part (object m n h) from (to - from)

-- So it is what is read of count bytes at o, where from and to are cut to the object.
abbrev pub PartRead : Type 0
PartRead = (m : LogMap) (n : ℕ) (h : Header) (o count index : ℕ) (out : List ℕ) → min (o + count) h.size ≤ SECTOR_LEN * index
    → PartSoFar m n (min o h.size) (min (o + count) h.size) index out → out ≡ part (object m n h) o count

-- ---- writing

-- file n with w laid over it from a place on, in its blocks below an index; its other blocks, and all other files, are as they were
pub record WriteSoFar (m m' : LogMap) (n at : ℕ) (w : List ℕ) (index : ℕ) : Type 0 where
  pub before : (p : ℕ) → p < at → byte_in m' n p ≡ byte_in m n p
  pub inside : (j : ℕ) → j < length w → at + j < SECTOR_LEN * index → byte_in m' n (at + j) ≡ slice_index w j
  pub behind : (p : ℕ) → at + length w ≤ p → byte_in m' n p ≡ byte_in m n p
  pub rest : (i : ℕ) → index ≤ i → m'.block n i ≡ m.block n i
  pub only : IsChangedAt m n m'
  pub whole : AreStoredWhole m n → AreStoredWhole m' n

-- Before the first block nothing is laid over.
abbrev pub WriteBegins : Type 0
WriteBegins = (m : LogMap) (n at : ℕ) (w : List ℕ) → WriteSoFar m m n at w (at / SECTOR_LEN)

-- A block with its piece laid over is stored, or isn't where it is zeros alone.
abbrev pub WriteGoesOn : Type 0
WriteGoesOn = (m m' m'' : LogMap) (n at index : ℕ) (w old new : List ℕ) → WriteSoFar m m' n at w index → IsBeneath m' n index at w old
    → BlockOverlays at w index old new → length new ≡ SECTOR_LEN → IsWithBlock m' n index (stored new) m''
    → WriteSoFar m m'' n at w (index + 1)

-- The file may get another header at any time.
abbrev pub WriteHeads : Type 0
WriteHeads = (m m' m'' : LogMap) (n at index : ℕ) (w : List ℕ) (h : Option Header) → WriteSoFar m m' n at w index → IsWithHeader m' n h m''
    → WriteSoFar m m'' n at w index

-- With the last block the bytes are written.
abbrev pub WriteIsDone : Type 0
WriteIsDone = (m m' : LogMap) (n at index : ℕ) (w : List ℕ) (h h' : Header) → WriteSoFar m m' n at w index
    → at + length w ≤ SECTOR_LEN * index
    → 0 < length w
    → h'.size ≡ max h.size (at + length w) → WritesBytes m m' n h h' at w

-- ---- cutting

-- file n without its blocks from one on; all other files are as they were
pub record CutSoFar (m m' : LogMap) (n first : ℕ) : Type 0 where
  pub below : (i : ℕ) → i < first → m'.block n i ≡ m.block n i
  pub gone : (i : ℕ) → first ≤ i → m'.block n i ≡ []
  pub only : IsChangedAt m n m'
  pub whole : AreStoredWhole m n → AreStoredWhole m' n

-- file n with blocks that end at a length, whatever its header says; all other files are as they were
pub record CutBlocks (m m' : LogMap) (n len : ℕ) : Type 0 where
  pub below : (i : ℕ) → SECTOR_LEN * i + SECTOR_LEN ≤ len → m'.block n i ≡ m.block n i
  pub last : (k : ℕ) → k < len % SECTOR_LEN → slice_index (m'.block n (len / SECTOR_LEN)) k ≡ slice_index (m.block n (len / SECTOR_LEN)) k
  pub zeros : (k : ℕ) → len % SECTOR_LEN ≤ k → slice_index (m'.block n (len / SECTOR_LEN)) k ≡ 0
  pub gone : (i : ℕ) → len ≤ SECTOR_LEN * i → m'.block n i ≡ []
  pub only : IsChangedAt m n m'
  pub whole : AreStoredWhole m n → AreStoredWhole m' n

abbrev pub CutBegins : Type 0
CutBegins = (m : LogMap) (n first : ℕ) → CutSoFar m (cut_from n first m) n first

-- The file may get another header before its last block is cut, and after.
abbrev pub CutHeads : Type 0
CutHeads = (m m' m'' : LogMap) (n first : ℕ) (h : Option Header) → CutSoFar m m' n first → IsWithHeader m' n h m'' → CutSoFar m m'' n first

abbrev pub CutBlocksHeads : Type 0
CutBlocksHeads = (m m' m'' : LogMap) (n len : ℕ) (h : Option Header) → CutBlocks m m' n len → IsWithHeader m' n h m''
    → CutBlocks m m'' n len

-- A length of whole blocks cuts none of them,
abbrev pub CutBetween : Type 0
CutBetween = (m m' : LogMap) (n len : ℕ) → len % SECTOR_LEN ≡ 0 → CutSoFar m m' n (len / SECTOR_LEN) → CutBlocks m m' n len

-- another one cuts the last,
abbrev pub CutInside : Type 0
CutInside = (m m' m'' : LogMap) (n len : ℕ) (old new : List ℕ) → 0 < len % SECTOR_LEN → CutSoFar m m' n (len / SECTOR_LEN + 1)
    → HoldsBlock m' n (len / SECTOR_LEN) old
    → CutsTail (len % SECTOR_LEN) old new → length new ≡ SECTOR_LEN → IsWithBlock m' n (len / SECTOR_LEN) (stored new) m''
    → CutBlocks m m'' n len

-- or finds that it isn't stored.
abbrev pub CutNone : Type 0
CutNone = (m m' : LogMap) (n len : ℕ) → 0 < len % SECTOR_LEN → CutSoFar m m' n (len / SECTOR_LEN + 1) → m'.block n (len / SECTOR_LEN) ≡ []
    → CutBlocks m m' n len

-- With a header of that size the file is cut.
abbrev pub CutIsDone : Type 0
CutIsDone = (m m' : LogMap) (n len : ℕ) (h h' : Header) → CutBlocks m m' n len → h'.size ≡ len → CutsBytes m m' n h h' len
