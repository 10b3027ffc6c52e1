-- Uses of a memory device as one of larger units, as sectors or those of its volume: where its own lie within these, what is said of it so
-- is said of the device itself.
use Rattle.std.specs.Prelude.{ℕ, Bool, Option, List}
use Rattle.lfs_model.specs.Device.{Carries, LieWithin, in_units}
use Rattle.lfs_device.specs.MemoryDevice.{device_state}
use Rattle.lfs_device.specs.declared.memory.MemDevice.{MemDevice}
use Rattle.lfs_script.specs.Noted.{Glance}
use Rattle.lfs_script.specs.Session.{SessionNoted}
use Rattle.lfs_script.specs.declared.script.StrictEnd.{StrictEnd}

-- The units of a device that `MemDevice::new` gives are sectors, which lie within any.
abbrev pub SessionsOfOwnUnits : Type 0
SessionsOfOwnUnits = (strict : Bool) (end : StrictEnd) (r r' w w' : Option (List ℕ)) (d d' : MemDevice) (s s' : List Glance)
    → (unit : ℕ → ℕ) → LieWithin (device_state d).unit unit
    → Carries (in_units unit (device_state d)) (in_units unit (device_state d'))
    → SessionNoted strict end r r' w w' (in_units unit (device_state d)) (in_units unit (device_state d')) s s'
    → SessionNoted strict end r r' w w' (device_state d) (device_state d') s s'
