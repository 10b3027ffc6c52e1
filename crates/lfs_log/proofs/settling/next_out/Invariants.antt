use Rattle.std.proofs.Common.{◌≡◌, ◌<◌, ℕ, true}
use Rattle.lfs_memory.specs.segments.Table.{stale_of}
use Rattle.lfs_log.specs.Settling.{IsAnew, blocks_in}
use Rattle.lfs_log.proofs.settling.next_out.Given as goal

abbrev pub invariant-loop-index : goal.invariant-loop-index
invariant-loop-index l = ((j : ℕ) → j < l.index → stale_of l.usage j ≡ true → IsAnew l.usage j) × (l.index-end ≡ blocks_in l.usage)
