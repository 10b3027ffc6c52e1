-- A file cut in its last block, in a draft over a log.
use Rattle.std.specs.Prelude.{◌≡◌, ◌<◌, ◌≤◌, ◌+◌, ◌/◌, ℕ, [], length}
use Rattle.lfs_model.specs.declared.limits.TheConstants.{SECTOR_LEN}
use Rattle.lfs_model.specs.Checkpoint.{CheckpointValue}
use Rattle.lfs_model.specs.Device.{DeviceState}
use Rattle.lfs_model.specs.Objects.{IsChangedAt}
use Rattle.lfs_model.specs.Stands.{LogMap}
use Rattle.lfs_cleaner.specs.log.memory.declared.changes.Changes.{Changes}
use Rattle.lfs_cleaner.specs.log.memory.Batch.{staged, FitsBatch}
use Rattle.lfs_cleaner.specs.log.LogState.{LogState, Holds}
use Rattle.lfs_store.specs.Drafting.{TakesBlock}
use Rattle.lfs_store.specs.Pieces.{CutBlocks}

-- file n has no block behind the one of this place
abbrev pub HasNoneBehind : LogMap → ℕ → ℕ → Type 0
HasNoneBehind m n len = (i : ℕ) → len / SECTOR_LEN < i → m.block n i ≡ []

module _ {D : Type 0} (state : D → DeviceState) where
  -- The block of this place ends there, and no other block changes.
  pub record ClearsTail (h h' : LogState D) (c c' : Changes) (n len : ℕ) : Type 0 where
    pub loss : c'.loss ≡ c.loss
    pub headers : c'.headers ≡ c.headers
    pub blocks : length c'.blocks.items ≤ length c.blocks.items + 1
    pub header : (m : LogMap) → (staged c' m).header n ≡ (staged c m).header n
    pub only : (m : LogMap) → IsChangedAt (staged c m) n (staged c' m)
    pub others : (m : LogMap) (i : ℕ) → (i ≡ len / SECTOR_LEN → ⊥) → (staged c' m).block n i ≡ (staged c m).block n i
    pub fits : (m : LogMap) → FitsBatch m c → TakesBlock c m n (len / SECTOR_LEN) → FitsBatch m c'
    pub file : (k : CheckpointValue) (m0 m : LogMap) → (state h'.device).keeps_model → Holds state h k m0 m
        → HasNoneBehind (staged c m) n len → CutBlocks (staged c m) (staged c' m) n len
