-- The sectors that C gives of a device.
use Rattle.std.specs.Prelude.{◌≡◌, ◌⊎◌, ◌<◌, ◌+◌, ◌/◌, ℕ, ℤ, pos, List, Some, length, get_or, []}
use Rattle.std.specs.Simd.{first_chunks}
use Rattle.lfs_model.specs.Device.{Cell, SameOutside, cell_at}
use Rattle.lfs_model.specs.declared.limits.TheConstants.{SECTOR_LEN}
use Rattle.lfs_queue.specs.Images.{cells_of}
use Rattle.pansuyog_calls.specs.Codes.{inval}
use Rattle.pansuyog.specs.declared.handle.Source.{Source}
use Rattle.pansuyog.specs.declared.handle.Source.TheVariants.{Nothing, Image, Device}

-- sectors are being given, and these were
abbrev pub HoldsCells : Source → List Cell → Type 0
HoldsCells (Image image) cells = cells_of image ≡ cells
HoldsCells _ cells = ⊥

-- the whole sectors of some bytes
abbrev pub sectors_in : List ℕ → List (List ℕ)
sectors_in bytes = first_chunks SECTOR_LEN (length bytes / SECTOR_LEN) bytes

-- The first n of these sectors were given, for those of a device from one on; all others are as they were.
pub record AreGiven (first n : ℕ) (sectors : List (List ℕ)) (old new : List Cell) : Type 0 where
  pub others : SameOutside first n old new
  pub given : (i : ℕ) → i < n → cell_at new (first + i) ≡ Some (get_or sectors i [])

-- Sectors are given to a source that takes some, where they are all within the device.
abbrev pub Gives : Source → Source → ℕ → List (List ℕ) → ℤ → Type 0
Gives (Image old) (Image new) first sectors code =
    ((code ≡ pos 0) × AreGiven first (length sectors) sectors (cells_of old) (cells_of new))
    ⊎ ((code ≡ inval) × (length (cells_of old) < first + length sectors) × (new ≡ old))
Gives (Image old) _ first sectors code = ⊥
Gives Nothing new first sectors code = (code ≡ inval) × (new ≡ Nothing)
Gives (Device device) new first sectors code = (code ≡ inval) × (new ≡ Device device)
