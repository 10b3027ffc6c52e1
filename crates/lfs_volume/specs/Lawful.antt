-- A device as the volume sees it that was found on it is lawful.
use Rattle.lfs_model.specs.Device.{DeviceState, IsLawful}
use Rattle.lfs_model.proofs.UnitStates.{units_lawful}
use Rattle.lfs_places.specs.Lawful.{placed_lawful}
use Rattle.lfs_places.specs.Placed.{placed}
use Rattle.lfs_places.specs.Places.{volume_content}
use Rattle.lfs_volume.specs.Found.{Found, by_volume}
use Rattle.lfs_volume.specs.Standing.{volume_units}

pub volume_lawful : {D : Type 0} (state : D → DeviceState) → ((d : D) → IsLawful (state d)) → (v : Found D)
    → IsLawful (by_volume state v)
volume_lawful state lawful v =
    units_lawful (volume_units v.places (volume_content v.places (state v.held).content)) (placed v.places (state v.device))
    (placed_lawful v.places (state v.device) (lawful v.device))
