-- What the steps of a commit promise by which blocks get places in the log, and how many orders they give the device.
use Rattle.std.specs.Prelude.{◌≡◌, ◌≤◌, ◌+◌, ℕ, Result, OnOk, OnErr}
use Rattle.lfs_device.specs.declared.device.DeviceFault.{DeviceFault}
use Rattle.lfs_model.specs.Device.{DeviceState}
use Rattle.lfs_model.specs.declared.limits.TheConstants.{CHUNK_BLOCKS}
use Rattle.lfs_memory.specs.declared.memory.LogMemory.{LogMemory}
use Rattle.lfs_memory.specs.Memory.{Goes, GoesUpTo, Stops, room_of}
use Rattle.lfs_memory.specs.Lifting.{IsInMemory}
use Rattle.lfs_memory.specs.segments.Table.{kept_of}
use Rattle.lfs_model.specs.Entry.{Entry}
use Rattle.lfs_log.specs.Telling.{orders_due}

-- Blocks are saved: so many places went to them at most, and so many orders, with those for summaries that may come.
pub record SavesBlocks (d d' : DeviceState) (v v' : LogMemory) (placed orders : ℕ) : Type 0 where
  pub goes : Goes d d' v v' placed
  pub tells : orders_due d' v' ≤ orders_due d v + orders

-- A failure of the device ended that, at the order behind those at the latest.
pub record StopsSaving (d d' : DeviceState) (v v' : LogMemory) (placed orders : ℕ) : Type 0 where
  pub stops : Stops d d' v
  pub room : room_of v ≤ room_of v' + placed
  pub tells : orders_due d' v' ≤ orders_due d v + orders + 1

-- the one or the other
pub record EndsSaving {T : Type 0} (d d' : DeviceState) (v v' : LogMemory) (placed orders : ℕ)
    (result : Result T DeviceFault) : Type 0 where
  pub done : OnOk result (SavesBlocks d d' v v' placed orders)
  pub stopped : OnErr result (StopsSaving d d' v v' placed orders)

-- A block is written to the next place, and the chunk may be full with it; or a failure of the device ended that.
pub record WritesNext {T : Type 0} (d d' : DeviceState) (v v' : LogMemory) (result : Result T DeviceFault) : Type 0 where
  pub done : OnOk result (GoesUpTo CHUNK_BLOCKS d d' v v' 1)
  pub stopped : OnErr result (Stops d d' v)
  pub room : room_of v ≤ room_of v' + 1
  pub tells : orders_due d' v' ≤ orders_due d v + 1

-- as many sectors of each segment are kept
abbrev pub KeepsKept : LogMemory → LogMemory → Type 0
KeepsKept v v' = (s : ℕ) → kept_of v'.usage s ≡ kept_of v.usage s

-- x isn't in memory any more, and no other block came in
pub record LeavesMemory (v v' : LogMemory) (x : Entry) : Type 0 where
  pub gone : IsInMemory v' x → ⊥
  pub only : (y : Entry) → IsInMemory v' y → IsInMemory v y
