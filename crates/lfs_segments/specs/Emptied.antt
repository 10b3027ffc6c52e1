-- What a pass makes of its victims.
use Rattle.std.specs.Prelude.{◌≡◌, ◌<◌, ℕ}
use Rattle.lfs_segments.specs.Table.{UsageTable, used_of, live_of, held_of, kept_of}

-- Nothing lives in the segment and nothing holds it, but it isn't clean before a checkpoint is acknowledged that doesn't use it.
pub record IsEmptied (t : UsageTable) (s : ℕ) : Type 0 where
  pub used : 0 < used_of t s
  pub before : kept_of t s ≡ used_of t s
  pub live : live_of t s ≡ 0
  pub held : held_of t s ≡ 0
