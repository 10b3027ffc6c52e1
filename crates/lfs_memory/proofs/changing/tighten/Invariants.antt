use Rattle.std.proofs.Common.{◌≡◌, ◌≤◌, length}
use Rattle.lfs_memory.specs.Changing.{Prunes}
use Rattle.lfs_memory.proofs.changing.tighten.Given as goal

abbrev pub invariant-loop-key : goal.invariant-loop-key
invariant-loop-key l = record {
  prunes : Prunes l.initial.memory.dirty l.memory.dirty;
  map : l.memory.map ≡ l.initial.memory.map;
  usage : l.memory.usage ≡ l.initial.memory.usage;
  chunk : l.memory.chunk ≡ l.initial.memory.chunk;
  capacity : l.memory.dirty.capacity ≡ l.initial.memory.dirty.capacity;
  blocks : length l.memory.dirty.blocks ≤ length l.initial.memory.dirty.blocks;
}

abbrev pub decreases-loop-key : goal.decreases-loop-key
decreases-loop-key l = length l.memory.dirty.blocks
