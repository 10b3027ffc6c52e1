-- A device as the volume sees it that stands on it by some places.
use Rattle.lfs_model.specs.Device.{DeviceState}
use Rattle.lfs_places.specs.declared.Places.{Places}
use Rattle.lfs_places.specs.Placed.{placed}

-- what contracts see of such a device: the places of the volume, and the device
pub record AtPlaces (D : Type 0) : Type 0 where
  pub places : Places
  pub device : D

-- the device by its places, in its own units
abbrev pub by_places : {D : Type 0} → (D → DeviceState) → AtPlaces D → DeviceState
by_places state v = placed v.places (state v.device)
