-- What a content that stands for a log map tells a writer.
-- All of it is an own choice: it joins what a reader follows to what a writer lays out.
use Rattle.std.specs.Prelude.{◌≡◌, ℕ, List, length, Some}
use Rattle.lfs_model.specs.Checkpoint.{CheckpointValue}
use Rattle.lfs_model.specs.Content.{Content}
use Rattle.lfs_model.specs.Device.{cell_at}
use Rattle.lfs_model.specs.Reach.{address}
use Rattle.lfs_model.specs.Stands.{LogMap, StandsAt}
use Rattle.lfs_model.specs.Encodes.{IsLogMap, Encodes}
use Rattle.lfs_model.specs.declared.limits.TheConstants.{SECTOR_LEN}

-- the device's sectors have 512 bytes
abbrev pub IsSized : Content → Type 0
IsSized c = (at : ℕ) (bytes : List ℕ) → cell_at c at ≡ Some bytes → length bytes ≡ SECTOR_LEN

abbrev pub Decoding : Type 0
Decoding = (c : Content) (k : CheckpointValue) (m : LogMap) → IsSized c → StandsAt c k m → IsLogMap m × Encodes c k (address c k) m
