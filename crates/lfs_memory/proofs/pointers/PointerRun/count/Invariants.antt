use Rattle.std.proofs.Common.{◌≡◌, ◌≤◌, ◌+◌}
use Rattle.lfs_memory.specs.Pointers.{pointer_in, blocks_in}
use Rattle.lfs_memory.proofs.pointers.PointerRun.count.Given as goal

abbrev pub invariant-loop-index : goal.invariant-loop-index
invariant-loop-index l = record {
  few : l.count + l.from ≤ l.index;
  value : blocks_in (pointer_in l.self) l.from l.index ≡ l.count;
}
