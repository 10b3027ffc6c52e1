-- What is known of each segment of a volume, and where the blocks of its usage table stand.
-- The segment usage table is that of the Sprite LFS paper (1992, section 3.6).
use Rattle.std.specs.Prelude.{Option, ◌≡◌, ◌≤◌, ◌+◌, ◌-◌, ◌==◌, ℕ, Bool, false, List, length, get_or}
use Rattle.lfs_model.specs.Stands.{count_up}
use Rattle.lfs_model.specs.declared.limits.TheConstants.{MOST_SEGMENTS, MOST_UNIT_POWER, SEGMENT_SECTORS, USAGE_BLOCKS}

pub record SegmentNumbers : Type 0 where
  pub used : ℕ
  pub live : ℕ
  pub held : ℕ
  pub age : ℕ
  -- how many of its sectors were in use as the acknowledged checkpoint was written
  pub kept : ℕ

abbrev pub no_segment : SegmentNumbers
no_segment = record { used = 0; live = 0; held = 0; age = 0; kept = 0 }

pub record PlaceInSegment : Type 0 where
  pub address : ℕ
  pub stale : Bool

abbrev pub no_place : PlaceInSegment
no_place = record { address = 0; stale = false }

pub record UsageTable : Type 0 where
  pub segments : List SegmentNumbers
  pub blocks : List PlaceInSegment
  -- the segment in which the last chunk begun stands; none before the first one
  pub last : Option ℕ
  -- the logarithm to base 2 of how many sectors a unit of the volume has
  pub unit : ℕ

-- the numbers of a segment, none past the last
abbrev pub used_of : UsageTable → ℕ → ℕ
used_of t s = (get_or t.segments s no_segment).used

abbrev pub live_of : UsageTable → ℕ → ℕ
live_of t s = (get_or t.segments s no_segment).live

abbrev pub held_of : UsageTable → ℕ → ℕ
held_of t s = (get_or t.segments s no_segment).held

abbrev pub age_of : UsageTable → ℕ → ℕ
age_of t s = (get_or t.segments s no_segment).age

abbrev pub kept_of : UsageTable → ℕ → ℕ
kept_of t s = (get_or t.segments s no_segment).kept

-- where usage block j stands, and whether it differs from what the device has
abbrev pub address_of : UsageTable → ℕ → ℕ
address_of t j = (get_or t.blocks j no_place).address

abbrev pub stale_of : UsageTable → ℕ → Bool
stale_of t j = (get_or t.blocks j no_place).stale

-- how many segments are clean
abbrev pub is_clean_in : List SegmentNumbers → ℕ → Bool
is_clean_in segments s = (get_or segments s no_segment).used == 0

unfoldable pub clean_in : List SegmentNumbers → ℕ
clean_in segments = count_up (is_clean_in segments) (length segments)

-- what the numbers of a segment may be: beside its blocks it has a summary
pub record FitsSegment (n : SegmentNumbers) : Type 0 where
  pub used : n.used ≤ SEGMENT_SECTORS
  pub fewer : n.live + n.held ≤ n.used - 1
  pub kept : n.kept ≤ n.used

pub record FitsTable (t : UsageTable) : Type 0 where
  pub few : length t.segments ≤ MOST_SEGMENTS
  pub blocks : length t.blocks ≡ USAGE_BLOCKS
  pub unit : t.unit ≤ MOST_UNIT_POWER
  pub each : (s : ℕ) → FitsSegment (get_or t.segments s no_segment)
