-- A device as the volume sees it that was found on it.
use Rattle.std.specs.Prelude.{◌≡◌, ◌≤◌, false, Result, Ok, Err, Some}
use Rattle.lfs_model.specs.Device.{AllLeft, Carries, DeviceState}
use Rattle.lfs_places.specs.declared.Places.{Places}
use Rattle.lfs_places.specs.declared.Places.TheVariants.{New}
use Rattle.lfs_places.specs.Places.{least_size}
use Rattle.lfs_volume.specs.Finding.{found_places, holds_older}
use Rattle.lfs_volume.specs.Standing.{volume_at}

-- what contracts see of such a device: the places of the volume, the device, and the device as it was when the volume was found
pub record Found (D : Type 0) : Type 0 where
  pub places : Places
  pub device : D
  pub held : D

abbrev pub found_at : {D : Type 0} → Places → D → D → Found D
found_at places device held = record { places = places; device = device; held = held }

-- the device behind a search for a volume, with what else came of it
abbrev pub device_after : {D E : Type 0} → Result (Found D) (E × D) → D
device_after (Ok v) = v.device
device_after (Err e) = e.1

module _ {D : Type 0} (state : D → DeviceState) where
  -- a device as the volume sees it that was found on it
  abbrev pub by_volume : Found D → DeviceState
  by_volume v = volume_at state v.places v.held v.device

  -- The volume was found, and by the new places no checkpoint of an older version came to where the second slot was by the old ones.
  pub record IsFound (v : Found D) : Type 0 where
    pub size : least_size v.places ≤ (state v.device).size
    pub found : (state v.held).keeps_model → found_places (state v.held).size (state v.held).content ≡ Some v.places
    pub apart : v.places ≡ New → (state v.device).keeps_model → AllLeft (state v.device) (λ c. holds_older c 1 1 ≡ false)
    pub carries : Carries (state v.held) (state v.device)
