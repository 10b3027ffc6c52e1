-- What a mount and the making of a volume are of.
use Rattle.std.specs.Prelude.{◌≡◌, ◌↔◌, ◌<◌, ◌+◌, ◌*◌, ℕ, ℤ, pos, [], ◌∷◌, Result, Ok, Err}
use Rattle.lfs_model.specs.Checkpoint.{IsSectorVersion, IsSegmentCount}
use Rattle.lfs_model.specs.Device.{Carries, DeviceState, IsUntouched, LeavesOnly, Only}
use Rattle.lfs_model.specs.Image.{IsNew}
use Rattle.lfs_model.specs.Reach.{segment_start}
use Rattle.lfs_model.specs.Tree.{Dir, new_form}
use Rattle.lfs_model.specs.TreeOf.{Stands}
use Rattle.lfs_model.specs.Volume.{mounted}
use Rattle.lfs_model.specs.declared.limits.TheConstants.{CHECKPOINT_SLOTS, SEGMENT_SECTORS}
use Rattle.lfs_format.specs.Making.{HasMade, IsMaking, MayStand, places_by}
use Rattle.lfs_format.specs.Shape.{IsShape, unit_power_of}
use Rattle.lfs_format.specs.declared.shape.Shape.{Shape}
use Rattle.lfs_format.specs.declared.fault.FormatFault.{FormatFault}
use Rattle.lfs_format.specs.declared.fault.FormatFault.TheVariants as format_fault
use Rattle.lfs_places.specs.Places.{volume_size}
use Rattle.lfs_fs.specs.Mounting.{FindsState, IsRefused, MountsFs}
use Rattle.lfs_fs.specs.Seen.{seen}
use Rattle.lfs_fs.specs.declared.fs.Fs.{Fs}
use Rattle.lfs_store.specs.log.verify.declared.fault.MountFault.{MountFault}
use Rattle.pansuyog_calls.specs.Codes.{code_of_format_fault}

abbrev pub code_of_making : Result (Unit {0}) FormatFault → ℤ
code_of_making (Ok done) = pos 0
code_of_making (Err fault) = code_of_format_fault fault

-- an empty volume of so many segments stands on a device, and a stop leaves nothing else
pub record IsEmptyVolume (segments version : ℕ) (d : DeviceState) : Type 0 where
  pub image : IsNew version segments 0 d.content
  pub durable : Only d.content d
  pub volume : Stands d.content (mounted version ((1, Dir (new_form version) []) ∷ []))

-- a shape by its numbers, in the order in which C passes them
abbrev pub shape_by : ℕ → ℕ → ℕ → ℕ → Shape
shape_by segments version segment_sectors unit =
    record { segments = segments; version = version; segment_sectors = segment_sectors; unit = unit }

-- So many sectors a volume of a shape takes: a device with fewer is too small. It is none where there is no volume of it.
pub record HasSectors (shape : Shape) (sectors : ℕ) : Type 0 where
  pub fits : IsShape shape → (size : ℕ)
      → size < sectors ↔ (volume_size (places_by shape.version) size < segment_start shape.segments)
  pub none : (IsShape shape → ⊥) → sectors ≡ 0

module _ {D : Type 0} (state : D → DeviceState) where
  -- The device's volume is mounted, over the device that is in it then.
  pub record Mounts (device : D) (fs : Fs D) : Type 0 where
    pub mounts : MountsFs state device fs
    pub only : FindsState state device fs
    pub durable : (state (seen fs).log.device).keeps_model → Only (state device).content (state (seen fs).log.device)
    pub no_failure : (state (seen fs).log.device).failures ≡ (state device).failures
    pub untouched : IsUntouched (state device) (state (seen fs).log.device)
    pub carries : Carries (state device) (state (seen fs).log.device)
    pub any_moment : LeavesOnly (state device) (state (seen fs).log.device) (state device).may_leave

  -- It isn't, for this fault.
  pub record IsNotMounted (old new : D) (fault : MountFault) : Type 0 where
    pub reason : IsRefused (state old) (state new) fault
    pub untouched : IsUntouched (state old) (state new)
    pub carries : Carries (state old) (state new)
    pub any_moment : LeavesOnly (state old) (state new) (state old).may_leave

  -- What an empty volume of so many segments was to be made on, by what came of it.
  abbrev pub IsMade : ℕ → ℕ → D → D → Result (Unit {0}) FormatFault → Type 0
  IsMade segments version old new (Ok done) = (state new).keeps_model → IsEmptyVolume segments version (state new)
  IsMade segments version old new (Err format_fault.Inval) = ¬ (IsSegmentCount segments × IsSectorVersion version) × (new ≡ old)
  IsMade segments version old new (Err format_fault.TooSmall) =
      IsSegmentCount segments × IsSectorVersion version × ((state old).size < CHECKPOINT_SLOTS + SEGMENT_SECTORS * segments) × (new ≡ old)
  IsMade segments version old new (Err format_fault.Device) = (state old).failures < (state new).failures

  -- An empty volume was to be made on a device.
  pub record Makes (segments version : ℕ) (old new : D) (code : ℤ) : Type 0 where
    pub outcome : Result (Unit {0}) FormatFault
    pub number : code ≡ code_of_making outcome
    pub made : IsMade segments version old new outcome
    pub carries : Carries (state old) (state new)
    pub any_moment : (state new).keeps_model → LeavesOnly (state old) (state new) (MayStand version segments 0 (state old))

  -- What an empty volume of a shape was to be made on, by what came of it.
  abbrev pub IsMadeWith : Shape → D → D → Result (Unit {0}) FormatFault → Type 0
  IsMadeWith shape old new (Ok done) = HasMade shape.version shape.segments (unit_power_of shape.unit) (state old) (state new)
  IsMadeWith shape old new (Err format_fault.Inval) = ¬ (IsShape shape) × (new ≡ old)
  IsMadeWith shape old new (Err format_fault.TooSmall) =
      IsShape shape × (volume_size (places_by shape.version) (state old).size < segment_start shape.segments) × (new ≡ old)
  IsMadeWith shape old new (Err format_fault.Device) = (state old).failures < (state new).failures

  -- An empty volume of a shape was to be made on a device, whatever its units are.
  pub record MakesWith (shape : Shape) (old new : D) (code : ℤ) : Type 0 where
    pub outcome : Result (Unit {0}) FormatFault
    pub number : code ≡ code_of_making outcome
    pub made : IsMadeWith shape old new outcome
    pub making : IsMaking shape.version shape.segments (unit_power_of shape.unit) (state old) (state new)
