-- How many segments a pass of the cleaner emptied, and in how many nothing lives.
use Rattle.std.specs.Prelude.{◌==◌, ◌&&◌, not, ℕ, Bool, List, length, get_or}
use Rattle.lfs_model.specs.Stands.{count_up}
use Rattle.lfs_segments.specs.Table.{SegmentNumbers, no_segment}
use Rattle.lfs_segments.specs.Steps.{saved, is_empty}

-- nothing lives in it and nothing holds it, but it is in use, and was before the acknowledged checkpoint
abbrev pub is_emptied : SegmentNumbers → Bool
is_emptied n = not (n.used == 0) && ((n.kept == n.used) && is_empty n)

unfoldable pub emptied_in : List SegmentNumbers → ℕ
emptied_in segments = count_up (λ s. is_emptied (get_or segments s no_segment)) (length segments)

-- a checkpoint has it as clean
abbrev pub is_spare : SegmentNumbers → Bool
is_spare n = (saved n).used == 0

unfoldable pub spare_in : List SegmentNumbers → ℕ
spare_in segments = count_up (λ s. is_spare (get_or segments s no_segment)) (length segments)
