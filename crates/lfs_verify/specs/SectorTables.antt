-- Tables in memory by sector.
-- All of it is an own choice.
use Rattle.std.specs.Prelude.{◌≡◌, ℕ, List, length}

-- The labels and the marks keep their length.
pub record KeepsSectors (labels_old labels_new marks_old marks_new : List ℕ) : Type 0 where
  pub labels : length labels_new ≡ length labels_old
  pub marks : length marks_new ≡ length marks_old
