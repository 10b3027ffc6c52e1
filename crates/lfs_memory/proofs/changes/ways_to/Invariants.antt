use Rattle.std.proofs.Common.{◌≡◌, ◌≤◌, ◌+◌, ◌*◌, drop}
use Rattle.lfs_memory.specs.Preparing.{ways, ways_from}
use Rattle.lfs_memory.proofs.changes.ways_to.Given as goal

abbrev pub invariant-loop-block : goal.invariant-loop-block
invariant-loop-block l = (l.ways + ways_from l.before (drop l.block-index l.blocks) ≡ ways l.blocks) × (l.ways ≤ 3 * l.block-index)
