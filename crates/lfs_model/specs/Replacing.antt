-- Data blocks on the device that are replaced or go without being read.
use Rattle.std.specs.Prelude.{◌≡◌, ◌≤◌, ℕ, List, [], length, Option}
use Rattle.lfs_model.specs.Changing.{IsWithBlock}
use Rattle.lfs_model.specs.Checkpoint.{CheckpointValue}
use Rattle.lfs_model.specs.Counting.{segment_of}
use Rattle.lfs_model.specs.Device.{DeviceState}
use Rattle.lfs_model.specs.Entry.{Entry, Data}
use Rattle.lfs_model.specs.Running.{Dirty, Tables, Running, Moves, IsLifted}
use Rattle.lfs_model.specs.Staging.{IsAtAddress, Fetches}
use Rattle.lfs_model.specs.Stands.{LogMap}
use Rattle.lfs_model.specs.declared.limits.TheConstants.{SECTOR_LEN}

-- A data block on the device is another, which is in memory.
abbrev pub BlockReplacing : Type 1
BlockReplacing = (d : DeviceState) (dirty dirty' : Dirty) (t t' : Tables) (k : CheckpointValue) (m0 m m' : LogMap) (seg : ℕ)
    (chunk : Option (List Entry)) (n i address : ℕ) (bytes : List ℕ)
    → Running d dirty t k m0 m seg chunk → IsAtAddress dirty t (Data n i) address → 2 ≤ address → length bytes ≡ SECTOR_LEN
    → IsWithBlock m n i bytes m'
    → Fetches dirty dirty' (Data n i) bytes → IsLifted m t t' (Data n i) 1 (segment_of address) → Running d dirty' t' k m0 m' seg chunk

-- A data block on the device is none.
abbrev pub BlockLeaving : Type 1
BlockLeaving = (d : DeviceState) (dirty dirty' : Dirty) (t t' : Tables) (k : CheckpointValue) (m0 m m' : LogMap) (seg : ℕ)
    (chunk : Option (List Entry)) (n i address : ℕ)
    → Running d dirty t k m0 m seg chunk → IsAtAddress dirty t (Data n i) address → 2 ≤ address → IsWithBlock m n i [] m'
    → Moves dirty dirty' (Data n i) 0 → IsLifted m t t' (Data n i) 1 (segment_of address) → Running d dirty' t' k m0 m' seg chunk
