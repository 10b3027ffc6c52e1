-- Which calls of C a device with room leaves no ground to refuse.
use Rattle.std.specs.Prelude.{◌≡◌, ◌<◌, ◌+◌, ℤ, false, negsuc, Some, length}
use Rattle.lfs_model.specs.Call.{Call}
use Rattle.lfs_model.specs.Run.{Point}
use Rattle.lfs_fs.specs.Seen.{seen}
use Rattle.lfs_fs.specs.Volume.{IsAt, most_orders, segments_of}
use Rattle.lfs_volume.specs.Found.{by_volume}
use Rattle.lfs_queue.specs.Queue.{borne_by, queue_state, told_of}
use Rattle.pansuyog_calls.specs.Codes.{device_failed}
use Rattle.pansuyog.specs.Mounted.{MountedVolume, device_of}
use Rattle.pansuyog.specs.Serving.{ServesCall}
use Rattle.pansuyog.specs.declared.handle.Volume.{Volume}

-- the number of a volume that is halted
abbrev pub halted : ℤ
halted = negsuc 19

-- A volume is mounted and runs, and its device has room for more orders than the call may tell it.
pub record HasRoomFor (volume : Volume) (call : Call) : Type 0 where
  pub fs : MountedVolume
  pub mounted : volume.fs ≡ Some fs
  pub running : (seen fs).log.halted ≡ false
  pub point : Point
  pub at : IsAt (by_volume queue_state) (seen fs) point
  pub room : length (told_of (device_of fs)) + most_orders call (segments_of (seen fs)) < borne_by (device_of fs)

-- So the call is answered neither by the number of a failed call of the device nor by that of a halted volume.
abbrev pub CallsAreAvailable : Type 0
CallsAreAvailable = (old new : Volume) (call : Call) (code : ℤ) → ServesCall old new call code → HasRoomFor old call
    → (code ≡ device_failed → ⊥) × (code ≡ halted → ⊥)
