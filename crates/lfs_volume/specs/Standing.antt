-- A device as a volume sees it that stands on it, by the places of that volume and in its units. All of it is an own choice.
use Rattle.std.specs.Prelude.{◌≡◌, ℕ, ◌/◌, Option, Some, None}
use Rattle.lfs_model.specs.Checkpoint.{CheckpointValue, unit_sectors}
use Rattle.lfs_model.specs.Content.{Content, newest}
use Rattle.lfs_model.specs.Device.{DeviceState, in_units, lose}
use Rattle.lfs_model.specs.UnitLaws.{units_of}
use Rattle.lfs_places.specs.declared.Places.{Places}
use Rattle.lfs_places.specs.declared.Places.TheVariants.{Old, New}
use Rattle.lfs_places.specs.Placed.{placed}
use Rattle.lfs_places.specs.Places.{place_of, volume_content}
use Rattle.lfs_volume.specs.Finding.{found_places}

-- how many sectors a unit has in the volume of a checkpoint, and one where there is none
abbrev pub unit_length : Option CheckpointValue → ℕ
unit_length None = 1
unit_length (Some k) = unit_sectors k

-- The units of a volume that has this content. By the new places they are those of the device, which have so many sectors each.
abbrev pub volume_units : Places → Content → ℕ → ℕ
volume_units Old content = units_of content
volume_units New content = λ sector. place_of New sector / unit_length (newest content)

-- what a device has in place of each of its contents
abbrev pub IsShown : (Content → Content) → (Content → Type 0) → Content → Type 0
IsShown shown left content = (whole : Content) × left whole × (content ≡ shown whole)

-- the content without its slots
abbrev pub no_slots : Content → Content
no_slots content = lose (lose content 0) 1

-- a device whose slots can't be read
abbrev pub without_slots : DeviceState → DeviceState
without_slots d = record d {
  content = no_slots d.content;
  may_leave = IsShown no_slots d.may_leave;
  left_since = λ t. IsShown no_slots (d.left_since t);
  left_until = λ t u. IsShown no_slots (d.left_until t u);
  start = no_slots d.start;
}

module _ {D : Type 0} (state : D → DeviceState) where
  -- a device by these places, in the units of the volume that another held by them
  abbrev pub volume_at : Places → D → D → DeviceState
  volume_at places held device =
      in_units (volume_units places (volume_content places (state held).content)) (placed places (state device))

  abbrev pub in_found : Option Places → D → D → DeviceState
  in_found (Some places) held device = volume_at places held device
  in_found None held device = without_slots (state device)

  -- The same by the places where the other held its volume. Where it held none, no slot counts.
  abbrev pub in_volume : D → D → DeviceState
  in_volume held device = in_found (found_places (state held).size (state held).content) held device
