-- What the layers above see of a store: the volume as its log has it, the draft of one call, and the totals with it.
use Rattle.std.specs.Prelude.{ℕ}
use Rattle.lfs_model.specs.Stands.{LogMap}
use Rattle.lfs_cleaner.specs.log.memory.Batch.{FitsBatch, IsNoChange, room_for, staged}
use Rattle.lfs_cleaner.specs.log.verify.declared.totals.BlockTotals.{BlockTotals}
use Rattle.lfs_cleaner.specs.log.LogState.{LogState}
use Rattle.lfs_store.specs.declared.draft.Draft.{Draft}
use Rattle.lfs_store.specs.declared.store.Store.{Store}

abbrev pub volume_of : {D : Type 0} → Store D → LogState D
volume_of s = s.log

abbrev pub draft_of : {D : Type 0} → Store D → Draft
draft_of s = s.draft

abbrev pub drafted_of : {D : Type 0} → Store D → BlockTotals
drafted_of s = s.drafted

-- ---- a draft

-- it changes nothing
abbrev pub IsEmpty : Draft → Type 0
IsEmpty d = IsNoChange d.changes

-- how many blocks of memory it asks for
abbrev pub asked_by : Draft → ℕ
asked_by d = room_for d.changes

-- a log map with it
abbrev pub with_draft : Draft → LogMap → LogMap
with_draft d m = staged d.changes m

-- a log map that it may change
abbrev pub Fits : Draft → LogMap → Type 0
Fits d m = FitsBatch m d.changes
