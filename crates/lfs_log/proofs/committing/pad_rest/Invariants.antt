use Rattle.std.proofs.Common.{◌≡◌, ◌+◌}
use Rattle.lfs_memory.specs.segments.Table.{used_of}
use Rattle.lfs_memory.specs.Memory.{PadsChunk}
use Rattle.lfs_log.proofs.committing.pad_rest.Given as goal

abbrev pub invariant-loop : goal.invariant-loop
invariant-loop l = record {
  pads : PadsChunk l.initial.memory l.memory;
  used : used_of l.memory.usage l.memory.chunk.segment ≡ used_of l.initial.memory.usage l.initial.memory.chunk.segment + l.counter;
}
