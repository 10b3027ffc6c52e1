-- The links of inodes, by tables, and the room that the tree needs.
-- All of it is an own choice.
use Rattle.std.specs.Prelude.{◌≡◌, ◌<◌, ◌≤◌, ◌+◌, ◌*◌, cond, ℕ, List, get_or, slice_index, Option, Some, None}
use Rattle.lfs_model.specs.declared.limits.TheConstants.{FILE_NUMBERS, LEAST_NEED, NEED_OF_META, NEED_OF_SEGMENT}
use Rattle.lfs_files.specs.declared.header.Header.{Header}
use Rattle.lfs_tree.specs.Naming.{NamesValue, is_directory_kind}

-- it has as many links as it should, where it is named so often and gives so many directories
abbrev pub FitsLinks : Option Header → ℕ → ℕ → Type 0
FitsLinks None count below = Unit {0}
FitsLinks (Some h) count below = h.links ≡ cond (is_directory_kind h.kind) (2 + below) count

abbrev pub AreLinksFit : List (Option Header) → NamesValue → Type 0
AreLinksFit headers t = (n : ℕ) → n < FILE_NUMBERS → FitsLinks (get_or headers n None) (slice_index t.counts n) (slice_index t.below n)

-- so many blocks of data and others are within the limit of so many segments
abbrev pub FitsSpace : ℕ → ℕ → ℕ → Type 0
FitsSpace blocks others segments = blocks + NEED_OF_META * others + LEAST_NEED ≤ NEED_OF_SEGMENT * segments
