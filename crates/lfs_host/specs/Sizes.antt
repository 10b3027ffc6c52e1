-- How many segments hold a size in bytes. The command line is an own choice.
use Rattle.std.specs.Prelude.{◌≡◌, ◌<◌, ◌≤◌, ◌*◌, ◌⊎◌, ℕ}
use Rattle.lfs_model.specs.Checkpoint.{IsSegmentCount}
use Rattle.lfs_model.specs.declared.limits.TheConstants.{MOST_SEGMENTS, SECTOR_LEN, SEGMENT_SECTORS}

-- so many segments have room for so many bytes
abbrev pub Holds : ℕ → ℕ → Type 0
Holds bytes segments = bytes ≤ SECTOR_LEN * (SEGMENT_SECTORS * segments)

-- the least number that a volume may have, and that has room for the bytes
pub record IsLeastCount (bytes segments : ℕ) : Type 0 where
  pub count : IsSegmentCount segments
  pub holds : Holds bytes segments
  pub least : (fewer : ℕ) → IsSegmentCount fewer → Holds bytes fewer → segments ≤ fewer

-- there are no bytes, or more than any volume holds
abbrev pub HoldsNone : ℕ → Type 0
HoldsNone bytes = (bytes ≡ 0) ⊎ (SECTOR_LEN * (SEGMENT_SECTORS * MOST_SEGMENTS) < bytes)
