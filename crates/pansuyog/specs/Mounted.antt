-- A mounted volume over a device of orders on which it was found.
use Rattle.lfs_fs.specs.Seen.{seen}
use Rattle.lfs_fs.specs.declared.fs.Fs.{Fs}
use Rattle.lfs_volume.specs.Found.{Found}
use Rattle.lfs_places.specs.declared.Places.{Places}
use Rattle.lfs_queue.specs.declared.queue.QueueDevice.{QueueDevice}

abbrev pub MountedVolume : Type 0
MountedVolume = Fs (Found QueueDevice)

abbrev pub device_of : MountedVolume → QueueDevice
device_of fs = (seen fs).log.device.device

abbrev pub places_of : MountedVolume → Places
places_of fs = (seen fs).log.device.places
