-- What stands in segments since the acknowledged checkpoint: the blocks that were written between commits, and the sectors that were taken.
use Rattle.std.specs.Prelude.{◌≡◌, ◌+◌, ◌-◌, ◌==◌, cond, ℕ, List, sum_by}
use Rattle.lfs_segments.specs.Table.{SegmentNumbers, UsageTable, used_of, kept_of, clean_in}

-- the blocks of a segment of which nothing is kept: no acknowledged checkpoint reaches them
abbrev pub early_of : SegmentNumbers → ℕ
early_of n = cond (n.kept == 0) (n.live + n.held) 0

unfoldable pub early_in : List SegmentNumbers → ℕ
early_in segments = sum_by early_of segments

abbrev pub taken_of : SegmentNumbers → ℕ
taken_of n = n.used - n.kept

unfoldable pub taken_in : List SegmentNumbers → ℕ
taken_in segments = sum_by taken_of segments

-- the numbers that are kept beside the table are those that it sums up to
pub record AreTotals (segments : List SegmentNumbers) (clean early taken : ℕ) : Type 0 where
  pub clean_ones : clean ≡ clean_in segments
  pub early_ones : early ≡ early_in segments
  pub taken_ones : taken ≡ taken_in segments

-- no sector was taken since the acknowledged checkpoint
abbrev pub AreUntaken : UsageTable → Type 0
AreUntaken t = (s : ℕ) → kept_of t s ≡ used_of t s
