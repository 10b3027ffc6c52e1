use Rattle.std.proofs.Common.{◌≡◌, ◌<◌, ℕ, get_or, length}
use Rattle.lfs_memory.specs.segments.Table.{address_of}
use Rattle.lfs_log.proofs.publishing.usage_blocks.Given as goal

abbrev pub invariant-loop-index : goal.invariant-loop-index
invariant-loop-index l = record {
  size : length l.blocks ≡ 16;
  written : (j : ℕ) → j < l.index → get_or l.blocks j 0 ≡ address_of l.usage j;
}
