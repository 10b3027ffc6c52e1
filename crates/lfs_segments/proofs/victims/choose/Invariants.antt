use Rattle.std.proofs.Common.{◌≡◌, ◌≤◌, ◌*◌, length}
use Rattle.std.specs.Prelude.{sum_by}
use Rattle.lfs_segments.specs.Victims.{load_of}
use Rattle.lfs_segments.proofs.Choosing.{Picked}
use Rattle.lfs_segments.proofs.Gaining.{Tried}
use Rattle.lfs_segments.proofs.victims.choose.Given as goal

abbrev pub invariant-loop-others : goal.invariant-loop-others
invariant-loop-others l =
    Picked l.usage l.preference l.last l.chosen.items × Tried l.usage l.meta l.wanted l.chosen.items l.best l.count
    × (length l.chosen.items ≡ l.others)
    × (l.blocks ≡ sum_by (load_of l.usage) l.chosen.items)
    × (l.blocks ≤ 64 * l.others)
