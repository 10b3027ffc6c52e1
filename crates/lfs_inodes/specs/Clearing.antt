-- What a cut takes from the blocks of a file in memory.
use Rattle.std.specs.Prelude.{◌≡◌, ◌+◌, ℕ, zero, suc, true, false, List, None}
use Rattle.lfs_model.specs.Cutting.{is_past}
use Rattle.lfs_model.specs.Entry.{Entry}
use Rattle.lfs_model.specs.Memory.{patched}
use Rattle.lfs_model.specs.Running.{Dirty}

-- the blocks in memory without the data blocks of a file from block `first`
-- on, and without the blocks of pointers that have only those below them
pub record LeavesPast (old new : Dirty) (n first : ℕ) : Type 0 where
  pub none : (x : Entry) → is_past n first x ≡ true → new x ≡ None
  pub kept : (x : Entry) → is_past n first x ≡ false → new x ≡ old x

-- the block with 0 at so many of its words, from word `first` on
unfoldable pub zeroed : ℕ → ℕ → List ℕ → List ℕ
zeroed first zero bytes = bytes
zeroed first (suc n) bytes = patched (first + n) 0 (zeroed first n bytes)
