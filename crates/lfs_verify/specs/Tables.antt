-- Tables of segments in memory: how many sectors of each are in use, and how many of these are live.
-- All of it is an own choice.
use Rattle.std.specs.Prelude.{◌≡◌, ◌<◌, ◌≤◌, ◌↔◌, ◌==◌, ℕ, Bool, List, length, get_or}
use Rattle.lfs_model.specs.declared.limits.TheConstants.{SEGMENT_SECTORS}
use Rattle.lfs_model.specs.Reach.{View}
use Rattle.lfs_model.specs.Stands.{AreNamed, AreCounted, used_in, live_in, count_up}
use Rattle.lfs_verify.specs.Walk.{Walked, IsBounded}
use Rattle.lfs_verify.specs.Labels.{IsSectorNamed, marked_count}
use Rattle.lfs_verify.specs.declared.order.TheConstants.{ALL_STEPS}

-- a table of the sectors in use, as the usage blocks have them
pub record IsUsedTable (v : View) (used : List ℕ) : Type 0 where
  pub size : length used ≡ v.checkpoint.segments
  pub each : (s : ℕ) → s < v.checkpoint.segments → get_or used s 0 ≡ used_in v s
  pub fit : (s : ℕ) → used_in v s ≤ SEGMENT_SECTORS
  pub past : (s : ℕ) → v.checkpoint.segments ≤ s → used_in v s ≡ 0

-- a table of the live ones
pub record IsLiveTable (v : View) (live : List ℕ) : Type 0 where
  pub size : length live ≡ v.checkpoint.segments
  pub each : (s : ℕ) → s < v.checkpoint.segments → get_or live s 0 ≡ live_in v s

-- how many of the first n segments are clean by a table
abbrev pub is_unused : List ℕ → ℕ → Bool
is_unused used s = get_or used s 0 == 0

unfoldable pub clean_count : List ℕ → ℕ → ℕ
clean_count used n = count_up (is_unused used) n

-- each sector that is marked has its label
abbrev pub AreSectorsNamed : View → List ℕ → Type 0
AreSectorsNamed v marks = (s o : ℕ) → s < v.checkpoint.segments → o < 64 → IsSectorNamed v marks s o

-- the labels are those of the entries that were reached where each sector's mark is that of its label
abbrev pub NamedByMarks : Type 0
NamedByMarks = (v : View) (marks : List ℕ) → Walked v marks ALL_STEPS → IsBounded v → AreNamed v ↔ AreSectorsNamed v marks

-- what is live was counted right where the marks say so
abbrev pub CountedByMarks : Type 0
CountedByMarks = (v : View) (marks live : List ℕ) → Walked v marks ALL_STEPS → IsBounded v → IsLiveTable v live
    → AreCounted v ↔ ((s : ℕ) → s < length live → get_or live s 0 ≡ marked_count marks s SEGMENT_SECTORS)
