-- What a batch of changes does to memory, whole or not at all.
use Rattle.std.specs.Prelude.{◌≡◌, ◌<◌, ◌≤◌, ◌+◌, ℕ, false, List, length, Result, OnOk, IsErrOf}
use Rattle.lfs_files.specs.declared.fault.LogFault.{LogFault}
use Rattle.lfs_files.specs.declared.fault.LogFault.TheVariants as fault
use Rattle.lfs_model.specs.Checkpoint.{CheckpointValue}
use Rattle.lfs_model.specs.Device.{DeviceState}
use Rattle.lfs_model.specs.Entry.{Entry}
use Rattle.lfs_model.specs.Stands.{LogMap}
use Rattle.lfs_segments.specs.Table.{clean_in}
use Rattle.lfs_inodes.specs.MapValue.{address_in, block_in}
use Rattle.lfs_memory.specs.declared.batch.BlockEdit.{BlockEdit}
use Rattle.lfs_memory.specs.declared.batch.HeaderEdit.{HeaderEdit}
use Rattle.lfs_memory.specs.declared.batch.Loss.{Loss}
use Rattle.lfs_memory.specs.declared.changes.Changes.{Changes}
use Rattle.lfs_memory.specs.declared.memory.LogMemory.{LogMemory}
use Rattle.lfs_memory.specs.Memory.{IsMemory, IsLoose}
use Rattle.lfs_memory.specs.Present.{Looks}
use Rattle.lfs_memory.specs.Lifting.{IsInMemory, Prepares}
use Rattle.lfs_memory.specs.Changing.{Tightens}
use Rattle.lfs_memory.specs.Removing.{RemovesFile}
use Rattle.lfs_memory.specs.Batch.{lost, is_lost, after_edits, FitsLoss, FitEdits, room_for, room_for_edits}
use Rattle.lfs_memory.specs.Preparing.{LacksRoom}

-- A call after which what a file loses is gone.
pub record Loses (d d' : DeviceState) (v v' : LogMemory) (loss : Loss) : Type 0 where
  pub looks : Looks d d'
  pub memory : IsMemory v'
  pub segments : length v'.usage.segments ≡ length v.usage.segments
  pub clean : clean_in v'.usage.segments ≡ clean_in v.usage.segments
  pub chunk : v'.chunk ≡ v.chunk
  pub capacity : v'.dirty.capacity ≡ v.dirty.capacity
  pub few : length v'.dirty.blocks ≤ length v.dirty.blocks + 3
  pub stay : (x : Entry) → is_lost loss x ≡ false → IsInMemory v x → IsInMemory v' x
  pub mapped : (j : ℕ) → block_in v.map j ≡ 1 → block_in v'.map j ≡ 1
  pub absent : (l : ℕ) → address_in v.map l ≡ 0 → address_in v'.map l ≡ 0
  pub log : (k : CheckpointValue) (m0 m : LogMap) → d'.keeps_model → IsLoose d v k m0 m → FitsLoss m loss → IsLoose d' v' k m0 (lost loss m)

-- where memory and device hold a log map that may lose this, a call of the device failed
abbrev pub IsLossExcused : DeviceState → DeviceState → LogMemory → Loss → Type 0
IsLossExcused d d' v loss = (k : CheckpointValue) (m0 m : LogMap) → d'.keeps_model → IsLoose d v k m0 m → FitsLoss m loss
    → d.failures < d'.failures

-- What holds of memory after a batch, be it staged or refused.
pub record StandsWithBatch (d d' : DeviceState) (v v' : LogMemory) (headers : List HeaderEdit) (blocks : List BlockEdit) : Type 0 where
  pub looks : Looks d d'
  pub memory : IsMemory v'
  pub segments : length v'.usage.segments ≡ length v.usage.segments
  pub clean : clean_in v'.usage.segments ≡ clean_in v.usage.segments
  pub chunk : v'.chunk ≡ v.chunk
  pub capacity : v'.dirty.capacity ≡ v.dirty.capacity
  pub few : length v'.dirty.blocks ≤ length v.dirty.blocks + room_for_edits headers blocks

-- The log map is the one with all changes.
pub record TakesBatch (d d' : DeviceState) (v v' : LogMemory) (loss : Loss) (headers : List HeaderEdit)
    (blocks : List BlockEdit) : Type 0 where
  pub stands : StandsWithBatch d d' v v' headers blocks
  pub log : (k : CheckpointValue) (m0 m : LogMap) → d'.keeps_model → IsLoose d v k m0 m → FitEdits m loss headers blocks
      → IsLoose d' v' k m0 (after_edits loss headers blocks m)

-- Or it is as it was.
pub record RefusesBatch (d d' : DeviceState) (v v' : LogMemory) (loss : Loss) (headers : List HeaderEdit)
    (blocks : List BlockEdit) : Type 0 where
  pub stands : StandsWithBatch d d' v v' headers blocks
  pub log : (k : CheckpointValue) (m0 m : LogMap) → d'.keeps_model → IsLoose d v k m0 m → FitEdits m loss headers blocks
      → IsLoose d' v' k m0 m

-- where memory and device hold a log map that the batch fits, a call of the device failed
abbrev pub IsBatchExcused : DeviceState → DeviceState → LogMemory → Loss → List HeaderEdit → List BlockEdit → Type 0
IsBatchExcused d d' v loss headers blocks = (k : CheckpointValue) (m0 m : LogMap) → d'.keeps_model → IsLoose d v k m0 m
    → FitEdits m loss headers blocks → d.failures < d'.failures

-- Why changes aren't staged: memory has no room for them, or a call of the device failed where they fit the log map.
pub record EndsStaging {T : Type 0} (d d' : DeviceState) (v : LogMemory) (c : Changes) (result : Result T LogFault) : Type 0 where
  pub full : IsErrOf result fault.Full → LacksRoom v (room_for c)
  pub failed : IsErrOf result fault.Device → IsBatchExcused d d' v c.loss c.headers.items c.blocks.items
  pub other : IsErrOf result fault.Halted → ⊥
  pub no_failure : OnOk result (d'.failures ≡ d.failures)

-- ---- and then the blocks of pointers in memory that lead nowhere leave it
abbrev pub StagesTight : DeviceState → DeviceState → LogMemory → LogMemory → Changes → Type 0
StagesTight d d' v v' c = (u : LogMemory) × TakesBatch d d' v u c.loss c.headers.items c.blocks.items × Tightens u v'

abbrev pub RefusesTight : DeviceState → DeviceState → LogMemory → LogMemory → Changes → Type 0
RefusesTight d d' v v' c = (u : LogMemory) × RefusesBatch d d' v u c.loss c.headers.items c.blocks.items × Tightens u v'

abbrev pub RemovesTight : DeviceState → DeviceState → LogMemory → LogMemory → ℕ → Type 0
RemovesTight d d' v v' n = (u : LogMemory) × RemovesFile d d' v u n × Tightens u v'

abbrev pub PreparesTight : DeviceState → DeviceState → LogMemory → LogMemory → Type 0
PreparesTight d d' v v' = (u : LogMemory) × Prepares d d' v u 0 × Tightens u v'
