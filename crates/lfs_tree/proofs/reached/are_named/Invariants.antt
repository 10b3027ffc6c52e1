use Rattle.std.proofs.Common.{◌<◌, ℕ, None, get_or, slice_index}
use Rattle.lfs_tree.specs.Reaching.{FitsNames}
use Rattle.lfs_tree.proofs.reached.are_named.Given as goal

abbrev pub invariant-loop-number : goal.invariant-loop-number
invariant-loop-number l = (n : ℕ) → n < l.number → FitsNames (get_or l.headers n None) n (slice_index l.tables.counts n)
