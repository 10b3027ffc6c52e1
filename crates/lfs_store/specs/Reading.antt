-- What reads see of a draft over a log.
use Rattle.std.specs.Prelude.{◌≡◌, ◌<◌, ◌≤◌, ◌+◌, ◌-◌, ℕ, Bool, List, [], length, slice_index, Option, Some, None}
use Rattle.lfs_model.specs.Bytes.{part}
use Rattle.lfs_model.specs.Checkpoint.{CheckpointValue}
use Rattle.lfs_model.specs.Device.{DeviceState}
use Rattle.lfs_model.specs.Entry as entry
use Rattle.lfs_model.specs.Objects.{byte_in}
use Rattle.lfs_model.specs.Stands.{LogMap}
use Rattle.lfs_model.specs.TreeOf.{object}
use Rattle.lfs_cleaner.specs.log.memory.declared.batch.Loss.{Loss}
use Rattle.lfs_cleaner.specs.log.memory.declared.changes.Changes.{Changes}
use Rattle.lfs_cleaner.specs.log.memory.files.declared.header.Header.{Header}
use Rattle.lfs_cleaner.specs.log.memory.Batch.{lost, staged}
use Rattle.lfs_cleaner.specs.log.memory.Present.{HeaderAnswer, BlockAnswer}
use Rattle.lfs_cleaner.specs.log.LogState.{LogState, Holds, Reads}
use Rattle.lfs_store.specs.declared.store.Store.{Store}

-- ---- what a file loses

-- the header of file n after a loss; None: it stays
abbrev pub LosesHeader : Loss → ℕ → Option (Option Header) → Type 0
LosesHeader x n None = (m : LogMap) → (lost x m).header n ≡ m.header n
LosesHeader x n (Some found) = (m : LogMap) → HeaderAnswer (lost x m) n found

-- block i of file n goes, or stays
abbrev pub LosesBlock : Loss → ℕ → ℕ → Type 0
LosesBlock x n i = (m : LogMap) → (lost x m).block n i ≡ []

abbrev pub KeepsBlock : Loss → ℕ → ℕ → Type 0
KeepsBlock x n i = (m : LogMap) → (lost x m).block n i ≡ m.block n i

-- ---- a whole draft

-- the header of file n after it; None: it stays
abbrev pub SaysHeader : Changes → ℕ → Option (Option Header) → Type 0
SaysHeader c n None = (m : LogMap) → (staged c m).header n ≡ m.header n
SaysHeader c n (Some found) = (m : LogMap) → HeaderAnswer (staged c m) n found

-- block i of file n after it, and whether it is stored; None: it stays
abbrev pub SaysBlock : Changes → ℕ → ℕ → List ℕ → Option Bool → Type 0
SaysBlock c n i out None = (m : LogMap) → (staged c m).block n i ≡ m.block n i
SaysBlock c n i out (Some found) = (m : LogMap) → BlockAnswer (staged c m) n i out found

-- ---- over a log: what is read is that of the log map that it holds, after the draft
module _ {D : Type 0} (state : D → DeviceState) where
  -- A call that only reads: its log at most is read, and all else is as it was.
  pub record ReadsStore (old new : Store D) : Type 0 where
    pub log : Reads state old.log new.log
    pub draft : new.draft ≡ old.draft
    pub drafted : new.drafted ≡ old.drafted

  abbrev pub ReadsHeader : LogState D → LogState D → Changes → ℕ → Option Header → Type 0
  ReadsHeader h h' c n found = (k : CheckpointValue) (m0 m : LogMap) → (state h'.device).keeps_model → Holds state h k m0 m
      → HeaderAnswer (staged c m) n found

  abbrev pub ReadsBlock : LogState D → LogState D → Changes → ℕ → ℕ → List ℕ → Bool → Type 0
  ReadsBlock h h' c n i out found = (k : CheckpointValue) (m0 m : LogMap) → (state h'.device).keeps_model → Holds state h k m0 m
      → BlockAnswer (staged c m) n i out found

  -- bytes of file n from one place to another, both at most its size
  abbrev pub ReadsPart : LogState D → LogState D → Changes → ℕ → ℕ → ℕ → List ℕ → Type 0
  ReadsPart h h' c n from to bytes = (k : CheckpointValue) (m0 m : LogMap) → (state h'.device).keeps_model → Holds state h k m0 m
      → (head : entry.Header) → to ≤ head.size → bytes ≡ part (object (staged c m) n head) from (to - from)

  -- Behind bytes that are there come so many of file n, from this place on.
  pub record Appends (h h' : LogState D) (c : Changes) (n at len : ℕ) (old new : List ℕ) : Type 0 where
    pub long : length new ≡ length old + len
    pub kept : (j : ℕ) → j < length old → slice_index new j ≡ slice_index old j
    pub more : (k : CheckpointValue) (m0 m : LogMap) → (state h'.device).keeps_model → Holds state h k m0 m → (j : ℕ) → j < len
        → slice_index new (length old + j) ≡ byte_in (staged c m) n (at + j)
