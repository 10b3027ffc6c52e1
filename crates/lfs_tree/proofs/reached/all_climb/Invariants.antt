use Rattle.std.proofs.Common.{◌≡◌, ◌<◌, ◌≤◌, ℕ, true, slice_index}
use Rattle.lfs_tree.specs.Naming.{leads}
use Rattle.lfs_tree.specs.Reaching.{Climbs, Marked}
use Rattle.lfs_tree.proofs.reached.all_climb.Given as goal

abbrev pub invariant-loop-number : goal.invariant-loop-number
invariant-loop-number l = record {
  marked : Marked l.tables.up l.marks l.number;
  all : (n : ℕ) → 1 ≤ n → n < l.number → leads l.headers n ≡ true → Climbs (slice_index l.tables.up) n;
}
