-- What two usage tables of a volume, an older and a newer one, say of a segment.
use Rattle.std.specs.Prelude.{◌≡◌, ◌≢◌, ◌<◌, ◌-◌, ◌^◌}
use Rattle.lfs_model.specs.Usage.{SegmentUse}

-- a segment that was used is used still, and was written for no checkpoint in between: the last age
-- stands for more than one
pub record StaysUsed (own now : SegmentUse) : Type 0 where
  pub used : own.used ≢ 0 → now.used ≢ 0
  pub age : own.used ≢ 0 → now.age ≡ own.age
  pub single : own.used ≢ 0 → own.age < 2 ^ 32 - 1
