-- Tables in memory of what the usage blocks say.
-- All of it is an own choice.
use Rattle.std.specs.Prelude.{◌≡◌, ◌<◌, ◌+◌, ◌*◌, ℕ, List, length, get_or}
use Rattle.lfs_model.specs.Reach.{View}
use Rattle.lfs_model.specs.Stands.{used_in, live_in}
use Rattle.lfs_model.specs.Usage.{SegmentUse, no_use}

-- the first n entries of a usage block stand from this place on, as far as the tables go, and all before is as it was
pub record CopiesUses (uses : List SegmentUse) (used live used_then live_then : List ℕ) (at n : ℕ) : Type 0 where
  pub used_own : (i : ℕ) → i < n → at + i < length used → get_or used_then (at + i) 0 ≡ (get_or uses i no_use).used
  pub live_own : (i : ℕ) → i < n → at + i < length used → get_or live_then (at + i) 0 ≡ (get_or uses i no_use).live
  pub used_before : (s : ℕ) → s < at → get_or used_then s 0 ≡ get_or used s 0
  pub live_before : (s : ℕ) → s < at → get_or live_then s 0 ≡ get_or live s 0
  pub used_size : length used_then ≡ length used
  pub live_size : length live_then ≡ length live

-- the tables have what the first usage blocks say of their segments
abbrev pub SaysUpTo : View → List ℕ → List ℕ → ℕ → Type 0
SaysUpTo v used live blocks = (s : ℕ) → s < 64 * blocks → s < v.checkpoint.segments
    → (get_or used s 0 ≡ used_in v s) × (get_or live s 0 ≡ live_in v s)

-- and what all say
abbrev pub SaysAll : View → List ℕ → List ℕ → Type 0
SaysAll v used live = (s : ℕ) → s < v.checkpoint.segments → (get_or used s 0 ≡ used_in v s) × (get_or live s 0 ≡ live_in v s)
