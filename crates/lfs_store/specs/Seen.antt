-- What the layers above see of a store.
use Rattle.std.specs.Prelude.{◌≡◌, length}
use Rattle.lfs_model.specs.Checkpoint.{CheckpointValue}
use Rattle.lfs_model.specs.Device.{DeviceState}
use Rattle.lfs_model.specs.Stands.{LogMap}
use Rattle.lfs_files.specs.Files.{Counted, FilesState}
use Rattle.lfs_cleaner.specs.log.memory.Batch.{FitsBatch, IsNoChange, is_lost, room_for, staged}
use Rattle.lfs_cleaner.specs.log.memory.declared.changes.Changes.{Changes}
use Rattle.lfs_cleaner.specs.log.LogState.{LogState, Holds}
use Rattle.lfs_store.specs.declared.draft.Draft.{Draft}
use Rattle.lfs_store.specs.declared.store.Store.{Store}
use Rattle.lfs_store.specs.StoreState.{draft_of, drafted_of, volume_of}
use Rattle.lfs_cleaner.specs.log.verify.declared.totals.BlockTotals.{BlockTotals}

-- totals as two numbers
abbrev pub counted_of : BlockTotals → Counted
counted_of t = record { data_blocks = t.data_blocks; meta_blocks = t.meta_blocks }

-- what is staged: all that is seen of the log but its device
abbrev pub StagedLog : Type 0
StagedLog = LogState (Unit {0})

abbrev pub staged_of : {D : Type 0} → LogState D → StagedLog
staged_of h = record {
  device = tt;
  halted = h.halted;
  number = h.number;
  version = h.version;
  upgraded = h.upgraded;
  saved = h.saved;
  unsaved = h.unsaved;
  totals = h.totals;
  segments = h.segments;
  clean = h.clean;
  emptied = h.emptied;
  waiting = h.waiting;
  file_data = h.file_data;
  usage = h.usage;
  inner = h.inner;
}

module _ {D : Type 0} (state : D → DeviceState) where
  -- The log holds log map m, and m' is it with the draft.
  pub record HasMap (h : LogState D) (c : Changes) (m m' : LogMap) : Type 0 where
    pub checkpoint : CheckpointValue
    pub acknowledged : LogMap
    pub holds : Holds state h checkpoint acknowledged m
    pub draft : m' ≡ staged c m

  -- a store as files with a draft
  abbrev pub state_of : LogState D → Draft → BlockTotals → FilesState StagedLog Draft
  state_of h d drafted = record {
    device = state h.device;
    halted = h.halted;
    saved = h.saved;
    staged = staged_of h;
    draft = d;
    totals = counted_of h.totals;
    drafted = counted_of drafted;
    headers = length d.changes.headers.items;
    blocks = length d.changes.blocks.items;
    asked = room_for d.changes;
    empty = IsNoChange d.changes;
    lost = is_lost d.changes.loss;
    has = HasMap h d.changes;
    fits = λ m. FitsBatch m d.changes;
  }

  abbrev pub files_of : Store D → FilesState StagedLog Draft
  files_of s = state_of (volume_of s) (draft_of s) (drafted_of s)
