-- Numbers that are named, and directories that are reached, by tables.
-- All of it is an own choice.
use Rattle.std.specs.Prelude.{◌≡◌, ◌≢◌, ◌<◌, ◌≤◌, ◌+◌, ℕ, Bool, true, List, get_or, slice_index, Option, Some, None, MatchBool}
use Rattle.lfs_model.specs.declared.limits.TheConstants.{FILE_NUMBERS}
use Rattle.lfs_files.specs.declared.header.Header.{Header}
use Rattle.lfs_tree.specs.Naming.{NamesValue, is_directory_kind, leads}

-- what stands at number n is named so often: the root never, a directory once, all else at least once
abbrev pub FitsNames : Option Header → ℕ → ℕ → Type 0
FitsNames None n count = Unit {0}
FitsNames (Some h) n count = (n ≡ 1 → count ≡ 0) × (n ≢ 1 → 0 < count) × (n ≢ 1 → is_directory_kind h.kind ≡ true → count ≡ 1)

abbrev pub AreNamesFit : List (Option Header) → NamesValue → Type 0
AreNamesFit headers t = (n : ℕ) → n < FILE_NUMBERS → FitsNames (get_or headers n None) n (slice_index t.counts n)

-- from number n one comes to the root, by going up
pub data Climbs (up : ℕ → ℕ) : ℕ → Type 0 where
  root : Climbs up 1
  more : (n : ℕ) → Climbs up (up n) → Climbs up n

-- from each directory one does
abbrev pub AllClimb : List (Option Header) → List ℕ → Type 0
AllClimb headers up = (n : ℕ) → 1 ≤ n → n < FILE_NUMBERS → leads headers n ≡ true → Climbs (slice_index up) n

-- Each number with a mark comes to the root; marks are below this one.
pub record Marked (up : List ℕ) (marks : List ℕ) (limit : ℕ) : Type 0 where
  pub climbs : (n : ℕ) → 0 < slice_index marks n → Climbs (slice_index up) n
  pub low : (n : ℕ) → slice_index marks n < limit
  pub root : slice_index marks 1 ≡ 1

-- A number and all on the way up from it get marks, or one doesn't come to the root from it.
abbrev pub MarksUp : List ℕ → List ℕ → ℕ → Bool → Type 0
MarksUp up marks start reached =
    MatchBool reached (Marked up marks (start + 1) × (0 < slice_index marks start)) (Climbs (slice_index up) start → ⊥)

-- The same of a directory; another number is passed by.
abbrev pub MarksDirectory : List (Option Header) → List ℕ → List ℕ → ℕ → Bool → Type 0
MarksDirectory headers up marks n reached =
    MatchBool reached (Marked up marks (n + 1) × (leads headers n ≡ true → Climbs (slice_index up) n))
    ((leads headers n ≡ true) × (Climbs (slice_index up) n → ⊥))
