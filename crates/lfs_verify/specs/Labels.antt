-- The marks against the summaries, a sector at a time.
-- All of it is an own choice.
use Rattle.std.specs.Prelude.{◌≡◌, ◌<◌, ◌≤◌, ◌⊎◌, ◌+◌, ◌*◌, ℕ, suc, Bool, nat_lt, List, length, get_or, Option, Some}
use Rattle.lfs_model.specs.Entry.{Entry, entry_of}
use Rattle.lfs_model.specs.Reach.{View, Row, place_in}
use Rattle.lfs_model.specs.Stands.{count_up}
use Rattle.lfs_model.specs.Summary.{BlockNameValue, no_block}
use Rattle.lfs_verify.specs.Walk.{InBounds, step_of}

-- a sector that is marked has, in this row of its segment, the label of the entry that reached it
abbrev pub IsNamedIn : Option Row → List ℕ → ℕ → ℕ → Type 0
IsNamedIn row marks s o = (p : ℕ) → get_or marks (2 + 64 * s + o) 0 ≡ suc p → (e : Entry) × (place_in row o ≡ Some e) × (step_of e ≡ p)
    × InBounds e

-- and in the row that the segment has
abbrev pub IsSectorNamed : View → List ℕ → ℕ → ℕ → Type 0
IsSectorNamed v marks s o = IsNamedIn (v.row s) marks s o

-- a sector of this label has, if any, the mark of the entry that the label names
abbrev pub HasStep : ℕ → Entry → Type 0
HasStep mark e = (p : ℕ) → mark ≡ suc p → step_of e ≡ p

-- a sector isn't marked, or has the mark that its label gives by this table
abbrev pub Agrees : List ℕ → List ℕ → ℕ → Type 0
Agrees marks labels at = (get_or marks at 0 ≡ 0) ⊎ (get_or marks at 0 ≡ get_or labels at 0)

-- the marks of the first n names of a chunk stand from this place on, and all else is as it was
pub record PutsLabels (names : List BlockNameValue) (old new : List ℕ) (at n : ℕ) : Type 0 where
  pub own : (i : ℕ) → i < n → get_or new (at + i) 0 ≡ suc (step_of (entry_of (get_or names i no_block)))
  pub before : (j : ℕ) → j < at → get_or new j 0 ≡ get_or old j 0
  pub after : (j : ℕ) → at + n ≤ j → get_or new j 0 ≡ get_or old j 0
  pub size : length new ≡ length old

-- The marks that the labels of this row of a segment give: each is that of a label, and marks that are those of labels agree with them.
pub record HasLabels (row : Option Row) (labels : List ℕ) (s : ℕ) : Type 0 where
  pub named : (o : ℕ) → o < 64 → IsNamedIn row labels s o
  pub all : (marks : List ℕ) → ((o : ℕ) → o < 64 → IsNamedIn row marks s o) → (o : ℕ) → o < 64 → Agrees marks labels (2 + 64 * s + o)

-- and those of all segments
pub record HasAllLabels (v : View) (labels : List ℕ) : Type 0 where
  pub size : length labels ≡ 2 + 64 * v.checkpoint.segments
  pub each : (s : ℕ) → s < v.checkpoint.segments → HasLabels (v.row s) labels s

abbrev pub is_marked : List ℕ → ℕ → ℕ → Bool
is_marked marks s o = nat_lt 0 (get_or marks (2 + 64 * s + o) 0)

-- how many of a segment's first n sectors are marked
unfoldable pub marked_count : List ℕ → ℕ → ℕ → ℕ
marked_count marks s n = count_up (is_marked marks s) n
