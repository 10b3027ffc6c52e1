-- The laws of places.
use Rattle.std.specs.Prelude.{◌≡◌, ◌<◌, ◌*◌, ◌/◌, ℕ, List, length}
use Rattle.lfs_model.specs.Content.{Content}
use Rattle.lfs_model.specs.Device.{LieWithin, cell_at}
use Rattle.lfs_model.specs.UnitLaws.{unit_by}
use Rattle.lfs_model.specs.declared.Order.{Order}
use Rattle.lfs_places.specs.declared.Places.{Places}
use Rattle.lfs_places.specs.declared.Places.TheVariants.{Old, New}
use Rattle.lfs_places.specs.declared.limits.TheConstants.{SECOND_SLOT}
use Rattle.lfs_places.specs.Placed.{volume_orders}
use Rattle.lfs_places.specs.Places.{place_of, volume_content, volume_sector, volume_size}

-- What the volume has in a sector stands on the device at the place of that sector.
abbrev pub CellsStand : Type 0
CellsStand = (places : Places) (content : Content) (sector : ℕ)
    → cell_at (volume_content places content) sector ≡ cell_at content (place_of places sector)

-- A volume has so many sectors.
abbrev pub SizesStand : Type 0
SizesStand = (places : Places) (content : Content) → length (volume_content places content) ≡ volume_size places (length content)

-- Each place is that of one sector.
abbrev pub PlacesLeadBack : Type 0
PlacesLeadBack = (places : Places) (sector : ℕ) → volume_sector places (place_of places sector) ≡ sector

-- By the old places each sector stands at its own number, and a volume has all of a device's content.
pub record OldChangeNothing : Type 0 where
  pub place : (sector : ℕ) → place_of Old sector ≡ sector
  pub sector : (place : ℕ) → volume_sector Old place ≡ place
  pub size : (size : ℕ) → volume_size Old size ≡ size
  pub content : (content : Content) → volume_content Old content ≡ content
  pub orders : (orders : List Order) → volume_orders Old orders ≡ orders

-- By the new places what lies in one unit of p sectors of the device lies in one unit of the volume, where units of the volume are made of
-- those of the device, and those fill the sectors before the second slot.
abbrev pub DeviceUnits : Type 0
DeviceUnits = (p u g h : ℕ) → 0 < p → u ≡ p * g → SECOND_SLOT ≡ p * h → LieWithin (λ sector. place_of New sector / p) (unit_by u)

-- So they do where those of the device lie within units of p sectors.
abbrev pub PlacedUnits : Type 0
PlacedUnits = (p u g h : ℕ) → 0 < p → u ≡ p * g → SECOND_SLOT ≡ p * h → (unit : ℕ → ℕ) → LieWithin unit (λ k. k / p)
    → LieWithin (λ sector. unit (place_of New sector)) (unit_by u)
