-- A device as the volume sees it that stands on it by one of the places.
use Rattle.std.specs.Prelude.{◌≡◌, List, map}
use Rattle.lfs_model.specs.Content.{Content}
use Rattle.lfs_model.specs.Device.{DeviceState}
use Rattle.lfs_model.specs.declared.Order.{Order}
use Rattle.lfs_model.specs.declared.Order.TheVariants.{Write, Sync}
use Rattle.lfs_places.specs.declared.Places.{Places}
use Rattle.lfs_places.specs.Places.{place_of, volume_content, volume_sector, volume_size}

-- an order to the device as one to the volume
abbrev pub volume_order : Places → Order → Order
volume_order places (Write place bytes) = Write (volume_sector places place) bytes
volume_order places Sync = Sync

abbrev pub volume_orders : Places → List Order → List Order
volume_orders places orders = map (volume_order places) orders

-- what the volume has of one of these contents of the device
abbrev pub IsOfOne : Places → (Content → Type 0) → Content → Type 0
IsOfOne places left content = (whole : Content) × left whole × (content ≡ volume_content places whole)

-- A device by these places. Where it has too few sectors for them, those that it lacks can't be read.
abbrev pub placed : Places → DeviceState → DeviceState
placed places d = record d {
  size = volume_size places d.size;
  content = volume_content places d.content;
  may_leave = IsOfOne places d.may_leave;
  left_since = λ t. IsOfOne places (d.left_since t);
  left_until = λ t u. IsOfOne places (d.left_until t u);
  unit = λ sector. d.unit (place_of places sector);
  start = volume_content places d.start;
  told = volume_orders places d.told;
}
