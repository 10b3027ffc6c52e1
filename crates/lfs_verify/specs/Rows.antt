-- A segment's used part as whole chunks.
-- All of it is an own choice.
use Rattle.std.specs.Prelude.{◌≡◌, ◌+◌, ◌*◌, ℕ, List, [], length, take, drop, Option, Some}
use Rattle.lfs_model.specs.Content.{Content}
use Rattle.lfs_model.specs.Device.{Cell}
use Rattle.lfs_model.specs.Entry.{Entry, entries_in}
use Rattle.lfs_model.specs.Reach.{Row, chunks}

abbrev pub HasRow : Option Row → Type 0
HasRow x = (q : Row) × (x ≡ Some q)

-- a summary of n entries
abbrev pub IsSummaryOf : List ℕ → ℕ → Type 0
IsSummaryOf bytes n = (es : List Entry) × (entries_in bytes ≡ Some es) × (length es ≡ n)

-- the sectors of a segment's used part
unfoldable pub part : Content → ℕ → ℕ → List Cell
part c used segment = take used (drop (2 + 64 * segment) c)

-- the chunks from a place on
unfoldable pub from : Content → ℕ → ℕ → ℕ → Option Row
unfolding part
from c used segment at = chunks [] (drop at (part c used segment))
