-- The blocks of the usage table as they are written.
use Rattle.std.specs.Prelude.{◌≡◌, ◌<◌, ◌+◌, ◌*◌, ℕ, List, [], length, get_or}
use Rattle.lfs_model.specs.Usage.{no_use, usage_of}
use Rattle.lfs_model.specs.declared.limits.TheConstants.{BLOCK_SEGMENTS, SECTOR_LEN, USAGE_BLOCKS}
use Rattle.lfs_segments.specs.Table.{SegmentNumbers, no_segment}
use Rattle.lfs_segments.specs.Steps.{saved}

-- each block has what a checkpoint says of its segments
pub record AreSpelled (blocks : List (List ℕ)) (segments : List SegmentNumbers) : Type 0 where
  pub count : length blocks ≡ USAGE_BLOCKS
  pub long : (j : ℕ) → j < USAGE_BLOCKS → length (get_or blocks j []) ≡ SECTOR_LEN
  pub each : (j i : ℕ) → j < USAGE_BLOCKS → i < BLOCK_SEGMENTS
      → get_or (usage_of (get_or blocks j [])) i no_use ≡ saved (get_or segments (BLOCK_SEGMENTS * j + i) no_segment)
