use Rattle.lfs_memory.specs.segments.Chunk.{IsOpenChunk}
use Rattle.lfs_device_tests.proofs.segments.fill.Given as goal

abbrev pub invariant-loop-index : goal.invariant-loop-index
invariant-loop-index l = IsOpenChunk l.chunk l.usage
