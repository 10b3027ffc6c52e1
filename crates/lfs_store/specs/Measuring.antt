-- What is counted of a draft over a log.
use Rattle.std.specs.Prelude.{◌≡◌, ◌<◌, ◌≤◌, ◌+◌, ◌*◌, ℕ, Bool, true, false, min, Option, Some, None}
use Rattle.std.specs.Int.{div_ceil}
use Rattle.lfs_model.specs.declared.limits.TheConstants.{FILE_LEAVES, SECTOR_LEN}
use Rattle.lfs_model.specs.Checkpoint.{CheckpointValue}
use Rattle.lfs_model.specs.Device.{DeviceState}
use Rattle.lfs_model.specs.Encodes.{IsLogMap}
use Rattle.lfs_model.specs.Need.{pointers}
use Rattle.lfs_model.specs.Objects.{is_stored, has_leaf, one_if, stored_blocks}
use Rattle.lfs_model.specs.Stands.{LogMap}
use Rattle.lfs_cleaner.specs.log.memory.declared.batch.BlockEdit.{BlockEdit}
use Rattle.lfs_cleaner.specs.log.memory.declared.batch.Loss.{Loss}
use Rattle.lfs_cleaner.specs.log.memory.declared.changes.Changes.{Changes}
use Rattle.lfs_cleaner.specs.log.memory.Batch.{staged}
use Rattle.lfs_cleaner.specs.log.LogState.{LogState, Holds}
use Rattle.lfs_store.specs.declared.totals.Measure.{Measure}
use Rattle.lfs_store.specs.Reading.{KeepsBlock}
use Rattle.lfs_model.specs.Totals.{leaf_from, leaf_to, leaves_beside, leaves_in, stored_in, HasMeasure}

-- ---- a draft

-- whether block i of file n is stored after it; None: the block stays
abbrev pub SaysStored : Changes → ℕ → ℕ → Option Bool → Type 0
SaysStored c n i None = (m : LogMap) → (staged c m).block n i ≡ m.block n i
SaysStored c n i (Some found) = (m : LogMap) → is_stored (staged c m) n i ≡ found

-- an index is one from one on to another
abbrev pub IsBetween : ℕ → ℕ → ℕ → Type 0
IsBetween from to i = (from ≤ i) × (i < to)

-- an edit is none of such a block of file n
abbrev pub IsOff : ℕ → ℕ → ℕ → BlockEdit → Type 0
IsOff n from to e = e.number ≡ n → IsBetween from to e.index → ⊥

-- a loss takes none of its blocks before an index
abbrev pub KeepsBefore : Loss → ℕ → ℕ → Type 0
KeepsBefore x n to = (i : ℕ) → i < to → KeepsBlock x n i

-- after a draft those from one on to another are as they were
abbrev pub LeavesBlocks : Changes → ℕ → ℕ → ℕ → Type 0
LeavesBlocks c n from to = (i : ℕ) → IsBetween from to i → (m : LogMap) → (staged c m).block n i ≡ m.block n i

-- it stores one of leaf q: those from 112 to 239 are of leaf 0, and so on
abbrev pub StoresLeaf : Changes → ℕ → ℕ → Type 0
StoresLeaf c n q = (m : LogMap) → has_leaf (staged c m) n q ≡ true

-- Leaves first..end are those with a block at the indices from..to, before the end of a file of this size.
pub record IsLeafRange (size from to first end : ℕ) : Type 0 where
  pub ends : end ≡ leaf_to (min (div_ceil size SECTOR_LEN) to)
  pub begins : first ≡ min (leaf_from from) end

-- ---- over a log: what is counted is the log map that it holds, after the draft

-- file n has no block from a size on
abbrev pub EndsBy : LogMap → ℕ → ℕ → Type 0
EndsBy m n size = (i : ℕ) → size ≤ SECTOR_LEN * i → is_stored m n i ≡ false

module _ {D : Type 0} (state : D → DeviceState) where
  -- whether block i of file n is stored
  abbrev pub TellsStored : LogState D → LogState D → Changes → ℕ → ℕ → Bool → Type 0
  TellsStored h h' c n i found = (k : CheckpointValue) (m0 m : LogMap) → (state h'.device).keeps_model → Holds state h k m0 m
      → is_stored (staged c m) n i ≡ found

  -- whether a block below its leaf q of pointers is
  abbrev pub TellsLeaf : LogState D → LogState D → Changes → ℕ → ℕ → Bool → Type 0
  TellsLeaf h h' c n q found = (k : CheckpointValue) (m0 m : LogMap) → (state h'.device).keeps_model → Holds state h k m0 m
      → has_leaf (staged c m) n q ≡ found

  -- how many of its blocks from..to are
  abbrev pub CountsStored : LogState D → LogState D → Changes → ℕ → ℕ → ℕ → ℕ → Type 0
  CountsStored h h' c n from to count = (k : CheckpointValue) (m0 m : LogMap) → (state h'.device).keeps_model → Holds state h k m0 m
      → stored_in (staged c m) n from to ≡ count

  -- how many of its leaves from..to are
  abbrev pub CountsLeaves : LogState D → LogState D → Changes → ℕ → ℕ → ℕ → ℕ → Type 0
  CountsLeaves h h' c n from to count = (k : CheckpointValue) (m0 m : LogMap) → (state h'.device).keeps_model → Holds state h k m0 m
      → leaves_in (staged c m) n from to ≡ count

  -- whether its double root is stored, since a leaf below it is, where it has no block from a size on
  abbrev pub TellsDouble : LogState D → LogState D → Changes → ℕ → ℕ → Bool → Type 0
  TellsDouble h h' c n size found = (k : CheckpointValue) (m0 m : LogMap) → (state h'.device).keeps_model → Holds state h k m0 m
      → EndsBy (staged c m) n size
      → one_if found ≡ min (leaves_in (staged c m) n 1 FILE_LEAVES) 1

  -- its blocks of pointers with a block at the indices from..to, and its double root, where it has no block from a size on
  abbrev pub CountsPointers : LogState D → LogState D → Changes → ℕ → ℕ → ℕ → ℕ → ℕ → Type 0
  CountsPointers h h' c n size from to count = (k : CheckpointValue) (m0 m : LogMap) → (state h'.device).keeps_model → Holds state h k m0 m
      → EndsBy (staged c m) n size
      → count + leaves_beside (staged c m) n from to ≡ pointers (stored_blocks (staged c m) n)

  -- the blocks of file n: its data blocks from..to, its inode, its leaves of pointers with a block there, and its double root
  abbrev pub Measures : LogState D → LogState D → Changes → ℕ → ℕ → ℕ → Measure → Type 0
  Measures h h' c n from to found = (k : CheckpointValue) (m0 m : LogMap) → (state h'.device).keeps_model → Holds state h k m0 m
      → IsLogMap (staged c m) → HasMeasure (staged c m) n from to found.data_blocks found.meta_blocks
