-- A volume that is found on a device, and a device on which none is.
use Rattle.std.specs.Prelude.{◌≡◌, Some}
use Rattle.lfs_model.specs.Device.{DeviceState}
use Rattle.lfs_store.specs.log.verify.Take.{SyncsOnce}
use Rattle.lfs_store.specs.log.verify.declared.fault.MountFault.{MountFault}
use Rattle.lfs_volume.specs.Finding.{found_places}
use Rattle.lfs_volume.specs.Found.{Found}
use Rattle.lfs_fs.specs.Mounting.{IsMountFault, IsRefused}

-- The volume of the device was found, where it keeps its model. It was read, and synced once at most.
pub record IsFoundOn {D : Type 0} (state : D → DeviceState) (device : D) (v : Found D) : Type 0 where
  pub held : v.held ≡ v.device
  pub places : (state v.device).keeps_model → found_places (state device).size (state device).content ≡ Some v.places
  pub looks : SyncsOnce (state device) (state v.device)
  pub no_failure : (state v.device).failures ≡ (state device).failures

-- None was, for this fault, and the device was read, and synced once at most.
pub record IsNotFound (old new : DeviceState) (fault : MountFault) : Type 0 where
  pub cause : IsMountFault old new fault
  pub reason : IsRefused old new fault
  pub looks : SyncsOnce old new
