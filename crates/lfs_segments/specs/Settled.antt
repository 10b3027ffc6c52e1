-- Which segments have other numbers once a checkpoint is acknowledged, and a list of them.
use Rattle.std.specs.Prelude.{◌≡◌, ◌<◌, ◌≤◌, ◌==◌, ◌&&◌, ℕ, Bool, false, List, length, get_or}
use Rattle.lfs_segments.specs.declared.releasing.TheConstants.{ROOM}
use Rattle.lfs_segments.specs.declared.releasing.Unsettled.{Unsettled}
use Rattle.lfs_segments.specs.Table.{SegmentNumbers, no_segment}
use Rattle.lfs_segments.specs.Steps.{released}

-- the numbers stay as they are
abbrev pub is_settled : SegmentNumbers → Bool
is_settled n = ((released n).used == n.used) && ((released n).kept == n.kept)

-- the segment stands in the list
pub record IsListed (l : Unsettled) (s : ℕ) : Type 0 where
  pub at : ℕ
  pub low : at < l.count
  pub is : get_or l.segments at 0 ≡ s

-- The list has each segment whose numbers change, unless it has no room left.
pub record ListsUnsettled (l : Unsettled) (segments : List SegmentNumbers) : Type 0 where
  pub size : length l.segments ≡ ROOM
  pub few : l.count ≤ ROOM
  pub inside : (i : ℕ) → i < l.count → get_or l.segments i 0 < length segments
  pub all : l.count < ROOM → (s : ℕ) → is_settled (get_or segments s no_segment) ≡ false → IsListed l s
