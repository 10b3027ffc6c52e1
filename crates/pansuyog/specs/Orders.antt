-- What C is told of the orders of a device.
use Rattle.std.specs.Prelude.{◌≡◌, ◌⊎◌, ◌<◌, ◌≤◌, ◌++◌, ◌+◌, ◌-◌, ◌^◌, ℕ, ℤ, pos, List, [], Option, Some, None, length, drop}
use Rattle.std.specs.Prelude.{slice_index_or}
use Rattle.lfs_model.specs.declared.Order.{Order}
use Rattle.lfs_model.specs.declared.Order.TheVariants.{Write, Sync}
use Rattle.lfs_model.specs.declared.limits.TheConstants.{SECTOR_LEN}
use Rattle.lfs_fs.specs.Seen.{seen}
use Rattle.lfs_fs.specs.Volume.{IsStill}
use Rattle.lfs_volume.specs.Found.{by_volume}
use Rattle.lfs_queue.specs.Numbered.{HasNumber, IsNoneWaiting}
use Rattle.lfs_queue.specs.Queue.{IsEmptied, carried_of, queue_state, told_of}
use Rattle.lfs_queue.specs.declared.queue.QueueDevice.{QueueDevice}
use Rattle.pansuyog_calls.specs.Codes.{code_of_count, inval, no_order, not_mounted}
use Rattle.pansuyog.specs.Mounted.{MountedVolume, device_of}
use Rattle.pansuyog.specs.declared.handle.Source.{Source}
use Rattle.pansuyog.specs.declared.handle.Source.TheVariants.{Nothing, Image, Device}
use Rattle.pansuyog.specs.declared.handle.Volume.{Volume}
use Rattle.pansuyog.specs.declared.orders.Sector.{Sector}

-- the device of a source, if it has one
abbrev pub device_from : Source → Option QueueDevice
device_from Nothing = None
device_from (Image image) = None
device_from (Device device) = Some device

-- the device of a volume: that of the one that is mounted, or one that none is mounted on
abbrev pub device_by : Option MountedVolume → Source → Option QueueDevice
device_by (Some fs) source = Some (device_of fs)
device_by None source = device_from source

abbrev pub device_in : Volume → Option QueueDevice
device_in volume = device_by volume.fs volume.source

-- the orders that were carried out, and all that it was told, the newest first
abbrev pub carried_by : Option QueueDevice → List Order
carried_by (Some device) = carried_of device
carried_by None = []

abbrev pub told_by : Option QueueDevice → List Order
told_by (Some device) = told_of device
told_by None = []

-- What C is told of an order: 1 and its sector and bytes of a write, 0 of a sync. Where there is no room for the bytes it is told so.
abbrev pub TellsOrder : Order → ℤ → ℕ → ℕ → List ℕ → List ℕ → Type 0
TellsOrder Sync code sector_before sector before after = (code ≡ pos 0) × (sector ≡ sector_before) × (after ≡ before)
TellsOrder (Write at bytes) code sector_before sector before after =
    ((SECTOR_LEN ≤ length before) × (code ≡ pos 1) × (sector ≡ at) × (after ≡ bytes ++ drop SECTOR_LEN before))
    ⊎ ((length before < SECTOR_LEN) × (code ≡ inval) × (sector ≡ sector_before) × (after ≡ before))

-- C is told of the order that has a number among all that the device was told, or that none of this number waits.
pub data TellsNumber (told carried : List Order) (number : ℕ) (code : ℤ) (sector_before sector : ℕ) (before after : List ℕ) : Type 0 where
  is_told : (order : Order) → HasNumber told number order → TellsOrder order code sector_before sector before after
      → TellsNumber told carried number code sector_before sector before after
  is_none : code ≡ no_order → (number < 2 ^ 64 - 1 → IsNoneWaiting carried told number) → sector ≡ sector_before → after ≡ before
      → TellsNumber told carried number code sector_before sector before after

-- So many orders, from a number on, are writes to sectors that follow one another, and these are their bytes.
pub record AreRun (told : List Order) (number first n : ℕ) (out : List Sector) : Type 0 where
  pub room : n ≤ length out
  pub each : (i : ℕ) (none : Sector) → i < n → HasNumber told (number + i) (Write (first + i) (slice_index_or out i none).bytes)

-- C is told of the run of writes that begins with a number, of a sync of this number, or that there is none.
pub data TellsRun (told carried : List Order) (number : ℕ) (code : ℤ) (first_before first : ℕ) (before after : List Sector) : Type 0 where
  is_run : (n : ℕ) → 0 < n → code ≡ code_of_count n → AreRun told number first n after
      → TellsRun told carried number code first_before first before after
  is_sync : HasNumber told number Sync → code ≡ pos 0 → first ≡ first_before → after ≡ before
      → TellsRun told carried number code first_before first before after
  is_no_room : length before ≡ 0 → code ≡ inval → first ≡ first_before → after ≡ before
      → TellsRun told carried number code first_before first before after
  is_no_run : code ≡ no_order → (number < 2 ^ 64 - 1 → IsNoneWaiting carried told number) → first ≡ first_before → after ≡ before
      → TellsRun told carried number code first_before first before after

-- All orders that waited were carried out: the volume sees nothing of it.
abbrev pub CarriesOut : Option MountedVolume → Option MountedVolume → Source → Source → ℤ → Type 0
CarriesOut (Some old) (Some new) from to code =
    (code ≡ pos 0) × (to ≡ from) × IsEmptied (device_of old) (device_of new) × IsStill (by_volume queue_state) (seen old)
    (seen new)
CarriesOut None None (Device old) (Device new) code = (code ≡ pos 0) × IsEmptied old new
CarriesOut None None Nothing to code = (code ≡ not_mounted) × (to ≡ Nothing)
CarriesOut None None (Image image) to code = (code ≡ not_mounted) × (to ≡ Image image)
CarriesOut _ _ from to code = ⊥
