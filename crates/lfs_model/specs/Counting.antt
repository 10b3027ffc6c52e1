-- How the counts of live blocks change, of all entries of which a test holds.
-- The counts are those of the segment usage table of the Sprite LFS paper (1992, section 3.6), in blocks instead of bytes.
use Rattle.std.specs.Prelude.{◌≡◌, ◌≤◌, ◌-◌, ◌/◌, ℕ, suc, Bool, true, false}
use Rattle.lfs_model.specs.Entry.{Entry}
use Rattle.lfs_model.specs.Content.{Content}
use Rattle.lfs_model.specs.Stands.{LogMap}
use Rattle.lfs_model.specs.Memory.{Memory, count_of}
use Rattle.lfs_model.specs.Laid.{IsLaid}
use Rattle.lfs_model.specs.Placing.{IsMoved}
use Rattle.lfs_model.specs.Lifting.{IsTaken}
use Rattle.lfs_model.specs.declared.limits.TheConstants.{CHECKPOINT_SLOTS, SEGMENT_SECTORS}

-- the segment of an address
abbrev pub segment_of : ℕ → ℕ
segment_of at = (at - CHECKPOINT_SLOTS) / SEGMENT_SECTORS

-- As x goes to the open segment, that one's count goes up by one if x is one of those that are counted.
abbrev pub MovedCounts : Type 0
MovedCounts = (e : Content) (m : LogMap) (M : Memory) (opened_at : ℕ) (x : Entry) (M' : Memory) → IsLaid e m M opened_at
    → IsMoved M opened_at x M'
    → (is : Entry → Bool)
    → (is x ≡ true → count_of is M' opened_at ≡ suc (count_of is M opened_at))
    × ((s : ℕ) → (s ≡ opened_at → ⊥) → count_of is M' s ≡ count_of is M s)
    × (is x ≡ false → (s : ℕ) → count_of is M' s ≡ count_of is M s)

-- As x leaves its address, its segment's count goes down by one if x is one of those.
abbrev pub TakenCounts : Type 0
TakenCounts = (e : Content) (m : LogMap) (M : Memory) (opened_at : ℕ) (x : Entry) (v : ℕ) (M' : Memory) → IsLaid e m M opened_at
    → 2 ≤ M.at x → IsTaken M x v M'
    → (is : Entry → Bool)
    → (is x ≡ true → count_of is M (segment_of (M.at x)) ≡ suc (count_of is M' (segment_of (M.at x))))
    × ((s : ℕ) → (s ≡ segment_of (M.at x) → ⊥) → count_of is M' s ≡ count_of is M s)
    × (is x ≡ false → (s : ℕ) → count_of is M' s ≡ count_of is M s)

-- What had no address takes none from a count.
abbrev pub UnplacedCounts : Type 0
UnplacedCounts = (e : Content) (m : LogMap) (M : Memory) (opened_at : ℕ) (x : Entry) (v : ℕ) (M' : Memory) → IsLaid e m M opened_at
    → M.at x ≤ 1 → IsTaken M x v M' → (is : Entry → Bool) (s : ℕ) → count_of is M' s ≡ count_of is M s

-- One entry more is counted: its segment's count goes up by one, if it has an address.
abbrev pub OneMoreCounted : Type 0
OneMoreCounted = (e : Content) (m : LogMap) (M : Memory) (opened_at : ℕ) (x : Entry) → IsLaid e m M opened_at
    → (is more : Entry → Bool) → is x ≡ false → more x ≡ true → ((y : Entry) → (y ≡ x → ⊥) → more y ≡ is y)
    → (2 ≤ M.at x → count_of more M (segment_of (M.at x)) ≡ suc (count_of is M (segment_of (M.at x))))
    × ((s : ℕ) → (2 ≤ M.at x → s ≡ segment_of (M.at x) → ⊥) → count_of more M s ≡ count_of is M s)
