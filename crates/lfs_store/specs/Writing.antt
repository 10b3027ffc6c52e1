-- Bytes written to a file and cut off it, in a draft over a log.
use Rattle.std.specs.Prelude.{◌≡◌, ◌≤◌, ◌+◌, ℕ, List, [], length}
use Rattle.std.specs.Int.{div_ceil}
use Rattle.lfs_model.specs.declared.limits.TheConstants.{SECTOR_LEN}
use Rattle.lfs_model.specs.Checkpoint.{CheckpointValue}
use Rattle.lfs_model.specs.Device.{DeviceState}
use Rattle.lfs_model.specs.Encodes.{HasInode}
use Rattle.lfs_model.specs.Stands.{LogMap}
pub use Rattle.lfs_files.specs.Files.{SizesFile, WritesFile}
pub use Rattle.lfs_files.specs.Headers.{resized}
use Rattle.lfs_cleaner.specs.log.memory.declared.batch.Cut.{Cut}
use Rattle.lfs_cleaner.specs.log.memory.declared.batch.Loss.{Loss}
use Rattle.lfs_cleaner.specs.log.memory.declared.batch.Loss.TheVariants.{Blocks}
use Rattle.lfs_cleaner.specs.log.memory.declared.changes.Changes.{Changes}
use Rattle.lfs_cleaner.specs.log.memory.Batch.{staged, FitsBatch}
use Rattle.lfs_cleaner.specs.log.LogState.{LogState, Holds}
use Rattle.lfs_store.specs.Drafting.{TakesBlock}
use Rattle.lfs_store.specs.Pieces.{IsBeneath, WriteSoFar, CutBlocks}

-- ---- writing

module _ {D : Type 0} (state : D → DeviceState) where
  -- what the bytes of one block are laid over
  abbrev pub ReadsBeneath : LogState D → LogState D → Changes → ℕ → ℕ → ℕ → List ℕ → List ℕ → Type 0
  ReadsBeneath h h' c n index at w out = (k : CheckpointValue) (m0 m : LogMap) → (state h'.device).keeps_model → Holds state h k m0 m
      → IsBeneath (staged c m) n index at w out

  -- One block more has the bytes that lie in it.
  pub record WritesBlock (h h' : LogState D) (c c' : Changes) (n index at : ℕ) (w : List ℕ) : Type 0 where
    pub few : length c'.blocks.items ≤ length c.blocks.items + 1
    pub headers : c'.headers ≡ c.headers
    pub loss : c'.loss ≡ c.loss
    pub header : (m : LogMap) → (staged c' m).header n ≡ (staged c m).header n
    pub others : (m : LogMap) (i : ℕ) → (i ≡ index → ⊥) → (staged c' m).block n i ≡ (staged c m).block n i
    pub fits : (m : LogMap) → FitsBatch m c → TakesBlock c m n index → FitsBatch m c'
    pub goes_on : (k : CheckpointValue) (m0 m a : LogMap) → (state h'.device).keeps_model → Holds state h k m0 m
        → WriteSoFar a (staged c m) n at w index → WriteSoFar a (staged c' m) n at w (index + 1)

-- ---- cutting

-- the blocks of file n from one on go
pub record LosesFrom (x : Loss) (n first : ℕ) : Type 0 where
  pub cut : Cut
  pub loss : x ≡ Blocks cut
  pub number : cut.number ≡ n
  pub start : cut.first ≡ first

-- A draft that does no more than that.
pub record DraftsCut (c : Changes) (n len : ℕ) : Type 0 where
  pub lost : LosesFrom c.loss n (div_ceil len SECTOR_LEN)
  pub headers : c.headers.items ≡ []
  pub blocks : c.blocks.items ≡ []

module _ {D : Type 0} (state : D → DeviceState) where
  -- A draft that cuts the blocks of file n.
  pub record CutsDraft (h h' : LogState D) (c : Changes) (n len : ℕ) : Type 0 where
    pub loss : LosesFrom c.loss n (div_ceil len SECTOR_LEN)
    pub headers : c.headers.items ≡ []
    pub blocks : length c.blocks.items ≤ 1
    pub header : (m : LogMap) → (staged c m).header n ≡ m.header n
    pub fits : (m : LogMap) → HasInode m n → FitsBatch m c
    pub file : (k : CheckpointValue) (m0 m : LogMap) → (state h'.device).keeps_model → Holds state h k m0 m → CutBlocks m (staged c m) n len
