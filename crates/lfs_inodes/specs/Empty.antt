-- A block of pointers in memory that leads nowhere.
use Rattle.std.specs.Prelude.{◌≡◌, ◌<◌, ℕ, List, Some}
use Rattle.lfs_model.specs.Entry.{Entry, word}
use Rattle.lfs_model.specs.Memory.{IsPointers}
use Rattle.lfs_model.specs.Running.{Dirty}
use Rattle.lfs_layout.specs.declared.patch.TheConstants.{SECTOR_WORDS}

pub record IsEmptyBlock (dirty : Dirty) (x : Entry) : Type 0 where
  pub pointers : IsPointers x
  pub bytes : List ℕ
  pub there : dirty x ≡ Some bytes
  pub empty : (w : ℕ) → w < SECTOR_WORDS → word bytes w ≡ 0
