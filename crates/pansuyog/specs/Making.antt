-- What a mount and the making of a volume are of.
use Rattle.std.specs.Prelude.{◌≡◌, ◌≢◌, ◌<◌, ◌≤◌, ◌+◌, ◌*◌, ℕ, ℤ, pos, [], ◌∷◌, length, Option, Some, None, Result, Ok, Err}
use Rattle.lfs_model.specs.Checkpoint.{IsSectorVersion, IsSegmentCount}
use Rattle.lfs_model.specs.Device.{Carries, IsUntouched, LeavesOnly, Only}
use Rattle.lfs_model.specs.Image.{IsNew}
use Rattle.lfs_model.specs.Tree.{Dir, new_form}
use Rattle.lfs_model.specs.TreeOf.{Stands}
use Rattle.lfs_model.specs.Volume.{mounted}
use Rattle.lfs_model.specs.declared.limits.TheConstants.{CHECKPOINT_SLOTS, SEGMENT_SECTORS}
use Rattle.lfs_format.specs.Making.{IsMaking, MayStand}
use Rattle.lfs_format.specs.Shape.{unit_power_of}
use Rattle.lfs_format.specs.declared.shape.Shape.{Shape}
use Rattle.lfs_format.specs.declared.fault.FormatFault.{FormatFault}
use Rattle.lfs_format.specs.declared.fault.FormatFault.TheVariants as format_fault
use Rattle.lfs_fs.specs.Mounting.{FindsState, IsRefused, MountsFs}
use Rattle.lfs_fs.specs.Seen.{seen}
use Rattle.lfs_fs.specs.Finding.{IsFoundOn}
use Rattle.lfs_volume.specs.Standing.{in_volume}
use Rattle.lfs_volume.specs.Found.{Found, by_volume}
use Rattle.lfs_queue.specs.Images.{cells_of}
use Rattle.lfs_queue.specs.Queue.{IsRoomier, due_of, queue_state, room_of, start_of, told_of}
use Rattle.lfs_queue.specs.declared.image.Image.{Image as Given}
use Rattle.lfs_queue.specs.declared.queue.QueueDevice.{QueueDevice}
use Rattle.lfs_store.specs.log.verify.declared.fault.MountFault.{MountFault}
use Rattle.lfs_store.specs.log.verify.declared.fault.MountFault.TheVariants as mount_fault
use Rattle.pansuyog_calls.specs.Codes.{already_mounted, code_of_format_fault, code_of_mount_fault, inval, no_memory, not_mounted}
use Rattle.pansuyog_calls.specs.Making as calls
use Rattle.pansuyog.specs.Mounted.{MountedVolume, device_of}
use Rattle.pansuyog.specs.declared.handle.Source.{Source}
use Rattle.pansuyog.specs.declared.handle.Source.TheVariants.{Nothing, Image, Device}
use Rattle.pansuyog.specs.declared.handle.Volume.{Volume}

-- A device that holds the sectors that were given, and was told nothing, with room for so many orders.
pub record IsNewDevice (image : Given) (room : ℕ) (device : QueueDevice) : Type 0 where
  pub start : start_of device ≡ cells_of image
  pub told : told_of device ≡ []
  pub reserved : room ≤ room_of device

-- A device that was there, with room for so many orders besides those that wait.
pub record IsReserved (was : QueueDevice) (room : ℕ) (device : QueueDevice) : Type 0 where
  pub same : IsRoomier was device
  pub reserved : length (due_of device) + room ≤ room_of device

-- the device that is taken from a source
abbrev pub IsTaken : Source → ℕ → QueueDevice → Type 0
IsTaken Nothing room device = ⊥
IsTaken (Image image) room device = IsNewDevice image room device
IsTaken (Device was) room device = IsReserved was room device

-- Why none is: a volume is mounted, nothing was given, or memory is refused. Sectors that were given are gone then, and a device stays.
pub data IsNotTaken (old new : Volume) (code : ℤ) : Type 0 where
  is_mounted : old.fs ≢ None → code ≡ already_mounted → new ≡ old → IsNotTaken old new code
  is_nothing : old.source ≡ Nothing → code ≡ inval → new ≡ old → IsNotTaken old new code
  is_refused : old.fs ≡ None → code ≡ no_memory → new.fs ≡ None → new.source ≡ Nothing → new.listing ≡ old.listing
      → new.recorder ≡ old.recorder → IsNotTaken old new code
  is_full : (was device : QueueDevice) → old.fs ≡ None → old.source ≡ Device was → code ≡ no_memory → new.fs ≡ None
      → new.source ≡ Device device → IsRoomier was device → new.listing ≡ old.listing → new.recorder ≡ old.recorder
      → IsNotTaken old new code

-- A volume is mounted over such a device. It keeps its model, and no call of it fails.
pub record MountsIn (device : Found QueueDevice) (fs : MountedVolume) : Type 0 where
  pub mounts : MountsFs (by_volume queue_state) device fs
  pub only : FindsState (by_volume queue_state) device fs
  pub durable : Only (by_volume queue_state device).content (by_volume queue_state (seen fs).log.device)
  pub no_failure : (by_volume queue_state (seen fs).log.device).failures ≡ (by_volume queue_state device).failures
  pub untouched : IsUntouched (by_volume queue_state device) (by_volume queue_state (seen fs).log.device)
  pub carries : Carries (by_volume queue_state device) (by_volume queue_state (seen fs).log.device)
  pub any_moment : LeavesOnly (by_volume queue_state device) (by_volume queue_state (seen fs).log.device)
      (by_volume queue_state device).may_leave

-- The device's volume is mounted, over the device that is in it then.
abbrev pub Mounts : QueueDevice → MountedVolume → Type 0
Mounts device fs = (put : Found QueueDevice) × IsFoundOn queue_state device put × MountsIn put fs

-- It isn't, for this fault.
pub record IsNotMounted (old new : QueueDevice) (fault : MountFault) : Type 0 where
  pub reason : IsRefused (in_volume queue_state old old) (in_volume queue_state old new) fault
  pub untouched : IsUntouched (in_volume queue_state old old) (in_volume queue_state old new)
  pub carries : Carries (in_volume queue_state old old) (in_volume queue_state old new)
  pub any_moment : LeavesOnly (in_volume queue_state old old) (in_volume queue_state old new) (in_volume queue_state old old).may_leave

-- The number of a fault. A call of a queue device fails only where memory for an order is refused.
abbrev pub code_of_mounting : MountFault → ℤ
code_of_mounting mount_fault.Device = no_memory
code_of_mounting fault = code_of_mount_fault fault

abbrev pub MountsOn : QueueDevice → Option MountedVolume → Source → ℤ → Type 0
MountsOn device (Some fs) Nothing code = (code ≡ pos 0) × Mounts device fs
MountsOn device None (Device after) code = (fault : MountFault) × (code ≡ code_of_mounting fault) × IsNotMounted device after fault
MountsOn device fs source code = ⊥

-- A mount from what a volume holds: it was done or refused on a device that was taken, and no recorder is there; or none was taken.
pub data MountsFrom (old new : Volume) (room : ℕ) (code : ℤ) : Type 0 where
  is_tried : (device : QueueDevice) → old.fs ≡ None → IsTaken old.source room device → MountsOn device new.fs new.source code
      → new.listing ≡ old.listing → new.recorder ≡ None → MountsFrom old new room code
  is_not_tried : IsNotTaken old new code → MountsFrom old new room code

-- What an empty volume of so many segments was to be made on, by what came of it.
abbrev pub IsMade : ℕ → ℕ → QueueDevice → QueueDevice → Result (Unit {0}) FormatFault → Type 0
IsMade segments version old new (Ok done) =
    IsNew version segments 0 (queue_state new).content × Only (queue_state new).content (queue_state new)
    × Stands (queue_state new).content (mounted version ((1, Dir (new_form version) []) ∷ []))
IsMade segments version old new (Err format_fault.Inval) = ¬ (IsSegmentCount segments × IsSectorVersion version) × (new ≡ old)
IsMade segments version old new (Err format_fault.TooSmall) =
    IsSegmentCount segments × IsSectorVersion version × ((queue_state old).size < CHECKPOINT_SLOTS + SEGMENT_SECTORS * segments)
    × (new ≡ old)
IsMade segments version old new (Err format_fault.Device) = (queue_state old).failures < (queue_state new).failures

abbrev pub code_of_making : Result (Unit {0}) FormatFault → ℤ
code_of_making (Ok done) = pos 0
code_of_making (Err format_fault.Device) = no_memory
code_of_making (Err fault) = code_of_format_fault fault

-- An empty volume was to be made on a device.
pub record Makes (segments version : ℕ) (old new : QueueDevice) (code : ℤ) : Type 0 where
  pub outcome : Result (Unit {0}) FormatFault
  pub number : code ≡ code_of_making outcome
  pub made : IsMade segments version old new outcome
  pub carries : Carries (queue_state old) (queue_state new)
  pub any_moment : LeavesOnly (queue_state old) (queue_state new) (MayStand version segments 0 (queue_state old))

-- What an empty volume of a shape was to be made on, by what came of it.
abbrev pub IsMadeWith : Shape → QueueDevice → QueueDevice → Result (Unit {0}) FormatFault → Type 0
IsMadeWith shape old new outcome = calls.IsMadeWith queue_state shape old new outcome

-- An empty volume of a shape was to be made on a device.
pub record MakesWith (shape : Shape) (old new : QueueDevice) (code : ℤ) : Type 0 where
  pub outcome : Result (Unit {0}) FormatFault
  pub number : code ≡ code_of_making outcome
  pub made : IsMadeWith shape old new outcome
  pub making : IsMaking shape.version shape.segments (unit_power_of shape.unit) (queue_state old) (queue_state new)

abbrev pub MakesOn : (QueueDevice → QueueDevice → ℤ → Type 0) → QueueDevice → Option MountedVolume → Source → ℤ → Type 0
MakesOn Makes device None (Device after) code = Makes device after code
MakesOn Makes device fs source code = ⊥

-- An empty volume was to be made, and so it was tried, on a device that was taken, and no recorder is there; or none was taken.
pub data MakesBy (Makes : QueueDevice → QueueDevice → ℤ → Type 0) (old new : Volume) (room : ℕ) (code : ℤ) : Type 0 where
  was_tried : (device : QueueDevice) → old.fs ≡ None → IsTaken old.source room device
      → MakesOn Makes device new.fs new.source code → new.listing ≡ old.listing → new.recorder ≡ None
      → MakesBy Makes old new room code
  was_not_tried : IsNotTaken old new code → MakesBy Makes old new room code

abbrev pub MakesFrom : Volume → Volume → ℕ → ℕ → ℕ → ℤ → Type 0
MakesFrom old new room segments version code = MakesBy (Makes segments version) old new room code

abbrev pub MakesFromWith : Shape → Volume → Volume → ℕ → ℤ → Type 0
MakesFromWith shape old new room code = MakesBy (MakesWith shape) old new room code

-- What an unmounting leaves: the device that was in the volume.
abbrev pub Unmounts : Option MountedVolume → Source → Source → ℤ → Type 0
Unmounts (Some fs) old new code = (code ≡ pos 0) × (new ≡ Device (device_of fs))
Unmounts None old new code = (code ≡ not_mounted) × (new ≡ old)
