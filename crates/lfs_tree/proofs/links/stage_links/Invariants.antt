use Rattle.std.proofs.Common.{◌<◌, ℕ, None, get_or, slice_index}
use Rattle.lfs_tree.specs.Linking.{FitsLinks}
use Rattle.lfs_tree.proofs.links.stage_links.Given as goal

abbrev pub invariant-loop-number : goal.invariant-loop-number
invariant-loop-number l = (n : ℕ) → n < l.number
    → FitsLinks (get_or l.headers n None) (slice_index l.tables.counts n) (slice_index l.tables.below n)
