-- A memory device as contracts see it.
use Rattle.std.specs.Prelude.{◌≡◌, false, List, None}
use Rattle.lfs_model.specs.Device.{AreSectors, DeviceState, Carries, Elapses, Only}
use Rattle.lfs_device.specs.Memory.{memory_state}
use Rattle.lfs_device.specs.Rows.{AreSpoilt, chosen_rows, states_of, stopped}
use Rattle.lfs_device.specs.Told.{orders_of}
use Rattle.lfs_device.specs.Units.{unit_of}
use Rattle.lfs_device.specs.declared.rows.Row.{Row}
use Rattle.lfs_device.specs.declared.rows.Left.{Left}
use Rattle.lfs_device.specs.declared.bench.Bench.{Bench}
use Rattle.lfs_device.specs.declared.memory.MemDevice.{MemDevice}

abbrev pub device_state : MemDevice → DeviceState
device_state d =
    memory_state (unit_of d.units) d.rows.items (states_of d.past.value) d.failed.value d.failed_orders.value
    (orders_of d.told.value) d.bench

-- what is kept of each sector
abbrev pub rows_of : MemDevice → List Row
rows_of d = d.rows.items

-- which calls fail
abbrev pub bench_of : MemDevice → Bench
bench_of d = d.bench

-- the device with other calls that fail, and nothing else changed
abbrev pub with_bench : Bench → MemDevice → MemDevice
with_bench bench d = record d { bench = bench }

-- The device stopped, and left what was chosen of each unsynced sector in order of number, and `rest` of those past the list. Where that is
-- `Bad`, no sector of the unit can be read. It goes on from there, and calls don't stop it any more.
pub record IsStopped (choices : List Left) (rest : Left) (old new : MemDevice) : Type 0 where
  pub rows : AreSpoilt (device_state old).unit (chosen_rows choices rest (rows_of old)) (rows_of new)
  pub by_sector : AreSectors (device_state old).unit → rows_of new ≡ stopped choices rest (rows_of old)
  pub chosen : (device_state old).may_leave (device_state new).content
  pub durable : Only (device_state new).content (device_state new)
  pub same_failures : (device_state new).failures ≡ (device_state old).failures
  pub same_orders : (device_state new).failed_orders ≡ (device_state old).failed_orders
  pub carries : Carries (device_state old) (device_state new)
  pub time : Elapses (device_state old) (device_state new)
  pub bench : bench_of new ≡ record (bench_of old) { stop = None; stopped = false }
  pub keeps : (device_state new).keeps_model
