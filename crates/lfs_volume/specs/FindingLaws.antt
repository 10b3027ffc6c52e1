-- What places tell of a volume, and that they stay.
use Rattle.std.specs.Prelude.{◌≡◌, ℕ, true, false, Some}
use Rattle.std.specs.List.{AllByRecursion}
use Rattle.lfs_model.specs.Checkpoint.{CheckpointValue, is_last, layout_version}
use Rattle.lfs_model.specs.Content.{Content, newest}
use Rattle.lfs_model.specs.Device.{DeviceState, IsSector}
use Rattle.lfs_model.specs.UnitLaws.{shape_in}
use Rattle.lfs_places.specs.declared.Places.{Places}
use Rattle.lfs_places.specs.declared.Places.TheVariants.{Old, New}
use Rattle.lfs_places.specs.Places.{volume_content}
use Rattle.lfs_volume.specs.Finding.{found_places, holds_older}
use Rattle.lfs_volume.specs.Standing.{volume_units}

-- By the old places stands a volume of a version before the last.
abbrev pub OldAreOlder : Type 0
OldAreOlder = (n : ℕ) (c : Content) → AllByRecursion IsSector c → found_places n c ≡ Some Old → (k : CheckpointValue)
    → newest (volume_content Old c) ≡ Some k → is_last (layout_version k) ≡ false

-- By the new places stands one of the last version.
abbrev pub NewAreLast : Type 0
NewAreLast = (n : ℕ) (c : Content) → found_places n c ≡ Some New → (k : CheckpointValue) → newest (volume_content New c) ≡ Some k
    → is_last (layout_version k) ≡ true

-- A volume stays where it stands: a content is found by the same places as an earlier one, where the volume has the shape that it had. By
-- the new places no checkpoint of an older version came to where the second slot was by the old ones.
abbrev pub PlacesStay : Type 0
PlacesStay = (n : ℕ) (places : Places) (b c : Content) → AllByRecursion IsSector b → AllByRecursion IsSector c
    → found_places n b ≡ Some places → (places ≡ New → holds_older c 1 1 ≡ false)
    → shape_in (volume_content places c) ≡ shape_in (volume_content places b) → (k : CheckpointValue)
    → newest (volume_content places b) ≡ Some k → found_places n c ≡ Some places

-- a volume that stands where another stood, in the same units
pub record StandsAsOn (d first : DeviceState) : Type 0 where
  pub places : found_places d.size d.content ≡ found_places first.size first.content
  pub units : (places : Places) → found_places first.size first.content ≡ Some places
      → volume_units places (volume_content places d.content) ≡ volume_units places (volume_content places first.content)

-- by the new places no checkpoint of an older version came to where the second slot was by the old ones
abbrev pub StaysApart : DeviceState → DeviceState → Type 0
StaysApart old new = found_places old.size old.content ≡ Some New → holds_older new.content 1 1 ≡ false
