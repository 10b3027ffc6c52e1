-- What the layers above see of the files of a volume, with the draft of one call's changes.
use Rattle.std.specs.Prelude.{◌≡◌, ◌⊎◌, ◌<◌, ◌≤◌, ◌+◌, ◌-◌, ◌*◌, ◌/◌, ℕ, max, Bool, false, List, length, slice_index, Option, Some, None}
use Rattle.std.specs.Int.{div_ceil}
use Rattle.lfs_model.specs.declared.limits.TheConstants.{DIRECT_BLOCKS, MOST_ENTRIES, SECTOR_LEN}
use Rattle.lfs_model.specs.Bytes.{part}
use Rattle.lfs_model.specs.Changing.{IsWithHeader}
use Rattle.lfs_model.specs.Cutting.{is_past}
use Rattle.lfs_model.specs.Device.{DeviceState}
use Rattle.lfs_model.specs.Encodes.{IsLogMap}
use Rattle.lfs_model.specs.Entry as entry
use Rattle.lfs_model.specs.Entry.{Entry, Data, Inode}
use Rattle.lfs_model.specs.Memory.{parent}
use Rattle.lfs_model.specs.Objects.{IsChangedAt, AreStoredWhole, WritesBytes, CutsBytes}
use Rattle.lfs_model.specs.Stands.{LogMap}
use Rattle.lfs_model.specs.Totals.{IsCounted}
use Rattle.lfs_model.specs.Tree.{slot_len}
use Rattle.lfs_model.specs.TreeOf.{object}
use Rattle.lfs_files.specs.declared.header.Header.{Header}
use Rattle.lfs_files.specs.Headers.{FitsHeader, HeaderAnswer, as_header, reformed, resized}
use Rattle.lfs_files.specs.Looking.{Looks}

-- how many data blocks all files have, and how many others
pub record Counted : Type 0 where
  pub data_blocks : ℕ
  pub meta_blocks : ℕ

-- The files of a volume. S and D are the volume's own: what is staged, and the draft, as it keeps them.
pub record FilesState (S D : Type 0) : Type 1 where
  pub device : DeviceState
  -- whether a commit failed
  pub halted : Bool
  -- whether nothing changed since the acknowledged checkpoint
  pub saved : Bool
  pub staged : S
  pub draft : D
  -- the blocks of all files as they are staged, and with the draft
  pub totals : Counted
  pub drafted : Counted
  -- how many headers and blocks the draft changes
  pub headers : ℕ
  pub blocks : ℕ
  -- how many blocks of memory it asks for, with those of pointers and the inodes on the way to them
  pub asked : ℕ
  -- it changes nothing
  pub empty : Type 0
  -- what files lose by it, before headers and blocks change
  pub lost : Entry → Bool
  -- the log map that is staged, and it with the draft
  pub has : LogMap → LogMap → Type 0
  -- a log map that the draft may change
  pub fits : LogMap → Type 0

-- ---- files of a log map

-- the bytes are those of a file's block, zeros where it isn't stored
pub record HoldsBlock (m : LogMap) (n index : ℕ) (block : List ℕ) : Type 0 where
  pub long : length block ≡ SECTOR_LEN
  pub bytes : (k : ℕ) → slice_index block k ≡ slice_index (m.block n index) k

-- File n with w laid over it from a place on, and its header; all other files are as they were.
pub record WritesFile (m m' : LogMap) (n : ℕ) (h h' : Header) (at : ℕ) (w : List ℕ) : Type 0 where
  pub bytes : WritesBytes m m' n (as_header h) (as_header h') at w
  pub only : IsChangedAt m n m'
  pub whole : AreStoredWhole m n → AreStoredWhole m' n
  pub header : m'.header n ≡ Some (as_header h')

-- File n with another size: cut, or made longer with its blocks as they were; all other files are as they were.
pub record SizesFile (m m' : LogMap) (n : ℕ) (h h' : Header) (len : ℕ) : Type 0 where
  pub shorter : len < h.size → CutsBytes m m' n (as_header h) (as_header h') len
  pub longer : h.size ≤ len → IsLogMap m → m.header n ≡ Some (as_header h) → CutsBytes m m' n (as_header h) (as_header h') len
  pub below : (i : ℕ) → i < len / SECTOR_LEN → m'.block n i ≡ m.block n i
  pub only : IsChangedAt m n m'
  pub whole : AreStoredWhole m n → AreStoredWhole m' n
  pub header : m'.header n ≡ Some (as_header h')

-- File n is there with this header, in a log map that a volume may keep.
pub record HasFile (m : LogMap) (n : ℕ) (h : Header) : Type 0 where
  pub map : IsLogMap m
  pub there : m.header n ≡ Some (as_header h)

-- these are the totals of the log map
abbrev pub AreCounted : LogMap → Counted → Type 0
AreCounted m t = IsCounted m t.data_blocks t.meta_blocks

-- how many blocks of memory a header asks for, and one with as many bytes as a full directory of form 1 has: 257 blocks at most, a leaf of
-- pointers and what is above it for each 128 of them, and room for the map
abbrev pub asked_by_header : ℕ
asked_by_header = 6

abbrev pub asked_by_directory : ℕ
asked_by_directory = 274

-- What is lost is apart from file n: from its inode, and from each block that may be above one of its data blocks.
pub record IsApart (lost : Entry → Bool) (n : ℕ) : Type 0 where
  pub inode : lost (Inode n) ≡ false
  pub above : (i : ℕ) → lost (parent (Data n i)) ≡ false

module _ {S D : Type 0} (s s' : FilesState S D) where
  -- ---- reading

  -- A call that only reads.
  pub record Reads : Type 0 where
    pub looks : Looks s.device s'.device
    pub halted : s'.halted ≡ s.halted
    pub saved : s'.saved ≡ s.saved
    pub staged : s'.staged ≡ s.staged
    pub draft : s'.draft ≡ s.draft
    pub totals : s'.totals ≡ s.totals
    pub drafted : s'.drafted ≡ s.drafted
    pub headers : s'.headers ≡ s.headers
    pub blocks : s'.blocks ≡ s.blocks
    pub asked : s'.asked ≡ s.asked
    pub empty : s.empty → s'.empty
    pub lost : (x : Entry) → s'.lost x ≡ s.lost x
    pub has : (m m' : LogMap) → s.has m m' → s'.has m m'
    pub fits : (m : LogMap) → s.fits m → s'.fits m

  -- a call of the device failed, where there are files
  abbrev pub IsFault : Type 0
  IsFault = (m m' : LogMap) → s'.device.keeps_model → s.has m m' → s.device.failures < s'.device.failures

  -- what the inode of file n says
  abbrev pub TellsHeader : ℕ → Option Header → Type 0
  TellsHeader n found = (m m' : LogMap) → s'.device.keeps_model → s.has m m' → HeaderAnswer m' n found

  -- the bytes of block i of file n
  abbrev pub TellsBlock : ℕ → ℕ → List ℕ → Type 0
  TellsBlock n i out = (m m' : LogMap) → s'.device.keeps_model → s.has m m' → HoldsBlock m' n i out

  -- the bytes of file n from one place to another, both at most its size
  abbrev pub TellsPart : ℕ → ℕ → ℕ → List ℕ → Type 0
  TellsPart n from to bytes = (m m' : LogMap) → s'.device.keeps_model → s.has m m' → (head : entry.Header) → to ≤ head.size
      → bytes ≡ part (object m' n head) from (to - from)

  -- ---- changing the draft

  -- A call that changes no more than the draft.
  pub record Redrafts : Type 0 where
    pub looks : Looks s.device s'.device
    pub halted : s'.halted ≡ s.halted
    pub saved : s'.saved ≡ s.saved
    pub staged : s'.staged ≡ s.staged
    pub totals : s'.totals ≡ s.totals

  -- The totals with the draft stay those of the log map with it.
  abbrev pub Counts : Type 0
  Counts = (m a b : LogMap) → s'.device.keeps_model → s.has m a → s'.has m b → IsLogMap a → IsLogMap b → AreCounted a s.drafted
      → AreCounted b s'.drafted

module _ {S D : Type 0} where
  -- ---- writing

  -- The log map may be changed so: the file is there, and apart from what is
  -- lost; a file that isn't staged yet gets blocks below the 113th alone.
  pub record TakesWrite (s : FilesState S D) (m m' : LogMap) (n : ℕ) (h : Header) (at : ℕ) (w : List ℕ) : Type 0 where
    pub there : m'.header n ≡ Some (as_header h)
    pub apart : IsApart s.lost n
    pub within : m.header n ≡ None → at + length w ≤ DIRECT_BLOCKS * SECTOR_LEN
    pub header : FitsHeader h.kind h.form h.links (max h.size (at + length w))

  -- With the draft there is another log map, where bytes are laid over a file; its blocks around them are as they were.
  pub record HasWritten (s' : FilesState S D) (m m' : LogMap) (n : ℕ) (h h' : Header) (at : ℕ) (w : List ℕ) : Type 0 where
    pub map : LogMap
    pub has : s'.has m map
    pub file : WritesFile m' map n h h' at w
    pub around : (i : ℕ) → (i < at / SECTOR_LEN) ⊎ (div_ceil (at + length w) SECTOR_LEN ≤ i) → map.block n i ≡ m'.block n i

  -- A draft that lays bytes over a file.
  pub record Writes (s s' : FilesState S D) (n : ℕ) (head : Header) (at : ℕ) (w : List ℕ) : Type 0 where
    pub lost : (x : Entry) → s'.lost x ≡ s.lost x
    pub headers : s'.headers ≤ s.headers + 1
    pub blocks : s'.blocks ≤ s.blocks + (div_ceil (at + length w) SECTOR_LEN - at / SECTOR_LEN)
    pub fits : (m m' : LogMap) → s.has m m' → s.fits m → TakesWrite s m m' n head at w → s'.fits m
    pub file : (m m' : LogMap) → s'.device.keeps_model → s.has m m'
        → HasWritten s' m m' n head (resized head (max head.size (at + length w))) at w

  -- Bytes that come alone into a draft: it changes no block yet, and one
  -- header at most; and they are no more than a full directory's of form 1.
  pub record IsLoneWrite (s : FilesState S D) (w : List ℕ) : Type 0 where
    pub headers : s.headers ≤ 1
    pub blocks : s.blocks ≡ 0
    pub few : length w ≤ MOST_ENTRIES * slot_len 1

  -- ---- another form

  -- The log map may be changed so: the file is there, and apart from what is lost.
  pub record TakesReform (s : FilesState S D) (m' : LogMap) (n : ℕ) (h h' : Header) : Type 0 where
    pub there : m'.header n ≡ Some (as_header h)
    pub apart : IsApart s.lost n
    pub header : FitsHeader h'.kind h'.form h'.links h'.size

  -- With the draft there is another log map, where the file has another header and the blocks that it had.
  pub record HasReformed (s' : FilesState S D) (m m' : LogMap) (n : ℕ) (h' : Header) : Type 0 where
    pub map : LogMap
    pub has : s'.has m map
    pub file : IsWithHeader m' n (Some (as_header h')) map

  -- A draft that gives a file another form and another size. Behind an empty one it asks for no more than a header does.
  pub record Reforms (s s' : FilesState S D) (n : ℕ) (head : Header) (form size : ℕ) : Type 0 where
    pub lost : (x : Entry) → s'.lost x ≡ s.lost x
    pub headers : s'.headers ≤ s.headers + 1
    pub blocks : s'.blocks ≡ s.blocks
    pub asked : s.headers ≡ 0 → s.blocks ≡ 0 → s'.asked ≤ asked_by_header
    pub fits : (m m' : LogMap) → s.has m m' → s.fits m → TakesReform s m' n head (reformed head form size) → s'.fits m
    pub file : (m m' : LogMap) → s.has m m' → HasReformed s' m m' n (reformed head form size)

  -- The totals with the draft stay those of the log map with it, where the file was there.
  abbrev pub CountsReformed : FilesState S D → FilesState S D → ℕ → Header → Type 0
  CountsReformed s s' n head = (m a b : LogMap) → s.has m a → s'.has m b → a.header n ≡ Some (as_header head) → AreCounted a s.drafted
      → AreCounted b s'.drafted

  -- ---- cutting

  -- With the draft there is another log map, where a file has another size.
  pub record HasSized (s' : FilesState S D) (m m' : LogMap) (n : ℕ) (h h' : Header) (len : ℕ) : Type 0 where
    pub map : LogMap
    pub has : s'.has m map
    pub file : SizesFile m' map n h h' len

  -- A draft that gives a file another size, and does nothing else.
  pub record SetsLen (s s' : FilesState S D) (n : ℕ) (head : Header) (len : ℕ) : Type 0 where
    pub cut : len < head.size → (x : Entry) → s'.lost x ≡ is_past n (div_ceil len SECTOR_LEN) x
    pub kept : head.size ≤ len → (x : Entry) → s'.lost x ≡ false
    pub headers : s'.headers ≤ 1
    pub blocks : s'.blocks ≤ 1
    pub fits : (m m' : LogMap) → s.has m m' → m'.header n ≡ Some (as_header head) → FitsHeader head.kind head.form head.links len
        → s'.fits m
    pub file : (m m' : LogMap) → s'.device.keeps_model → s.has m m' → HasSized s' m m' n head (resized head len) len

  -- ---- cutting in the last block

  -- The log map may be changed so: the file is there, and apart from what
  -- is lost; one that isn't staged yet is cut below the 113th block alone.
  pub record TakesShrink (s : FilesState S D) (m m' : LogMap) (n : ℕ) (h : Header) (len : ℕ) : Type 0 where
    pub there : m'.header n ≡ Some (as_header h)
    pub apart : IsApart s.lost n
    pub within : m.header n ≡ None → len < DIRECT_BLOCKS * SECTOR_LEN
    pub header : FitsHeader h.kind h.form h.links len

  -- With the draft there is another log map, where the file is cut, if it was there with this header.
  pub record HasShrunk (s' : FilesState S D) (m m' : LogMap) (n : ℕ) (h : Header) (len : ℕ) : Type 0 where
    pub map : LogMap
    pub has : s'.has m map
    pub header : map.header n ≡ Some (as_header (resized h len))
    pub file : HasFile m' n h → SizesFile m' map n h (resized h len) len

  -- A draft that cuts a file in its last block, and loses nothing by it.
  pub record Shrinks (s s' : FilesState S D) (n : ℕ) (head : Header) (len : ℕ) : Type 0 where
    pub lost : (x : Entry) → s'.lost x ≡ s.lost x
    pub headers : s'.headers ≤ s.headers + 1
    pub blocks : s'.blocks ≤ s.blocks + 1
    pub fits : (m m' : LogMap) → s.has m m' → s.fits m → TakesShrink s m m' n head len → s'.fits m
    pub has : (m m' : LogMap) → s'.device.keeps_model → s.has m m' → HasShrunk s' m m' n head len
