-- What the taking of a file as a device does to what a volume holds.
use Rattle.std.specs.Prelude.{◌≡◌, ◌≢◌, ◌⊎◌, ℤ, pos, Some, None}
use Rattle.lfs_device.specs.FileDevice.{state_of_file}
use Rattle.lfs_device.specs.declared.file.FileDeviceIn.{FileDeviceIn}
use Rattle.lfs_device.specs.declared.world.World.{Ghosts}
use Rattle.pansuyog_calls.specs.Codes.{already_mounted, device_failed, in_use, lock_failed, no_memory}
use Rattle.pansuyog_calls.specs.declared.access.Access.{Access}
use Rattle.pansuyog_calls.specs.declared.volume.VolumeIn.{VolumeIn}

-- A device over a file of which no call was made is held in the place of what was, and so much access is had. Or nothing changes: a volume
-- is mounted, another program has the file, a call of the system failed, or there is no memory for the device.
pub data Takes {W : Type 0} {world : Ghosts W} (access : Access) (old new : VolumeIn (FileDeviceIn W world)) (code : ℤ) : Type 0 where
  is_taken : (device : FileDeviceIn W world) → old.fs ≡ None → code ≡ pos 0 → new.fs ≡ None → new.device ≡ Some device
      → (state_of_file device).moment ≡ 0 → (state_of_file device).failures ≡ 0 → (state_of_file device).keeps_model
      → new.access ≡ access → new.listing ≡ old.listing → new.recorder ≡ None → Takes access old new code
  is_mounted : old.fs ≢ None → code ≡ already_mounted → new ≡ old → Takes access old new code
  is_refused : old.fs ≡ None → (code ≡ in_use) ⊎ (code ≡ lock_failed) ⊎ (code ≡ device_failed) ⊎ (code ≡ no_memory) → new ≡ old
      → Takes access old new code
