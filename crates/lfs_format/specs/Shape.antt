-- What volumes may be made: their segments, the version of their layout, and the sectors of a segment and of a unit.
-- All of it is an own choice.
use Rattle.std.specs.Prelude.{◌≡◌, ◌≤◌, ◌^◌, ◌==◌, cond, ℕ}
use Rattle.lfs_model.specs.Checkpoint.{IsSegmentCount, IsVersion, most_unit_power}
use Rattle.lfs_model.specs.declared.limits.TheConstants.{SEGMENT_SECTORS}
use Rattle.lfs_format.specs.declared.shape.Shape.{Shape}

-- the logarithm to base 2 of how many sectors a unit has, where that is a power of 2 in 1..=64
abbrev pub unit_power_of : ℕ → ℕ
unit_power_of unit = cond (unit == 2) 1 (cond (unit == 4) 2 (cond (unit == 8) 3 (cond (unit == 16) 4 (cond (unit == 32) 5
    (cond (unit == 64) 6 0)))))

pub record IsShape (s : Shape) : Type 0 where
  pub count : IsSegmentCount s.segments
  pub version : IsVersion s.version
  pub segment : s.segment_sectors ≡ SEGMENT_SECTORS
  pub unit : 2 ^ unit_power_of s.unit ≡ s.unit
  -- a unit of the first two versions is a sector
  pub few : unit_power_of s.unit ≤ most_unit_power s.version
