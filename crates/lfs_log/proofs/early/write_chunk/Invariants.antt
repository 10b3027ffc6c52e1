use Rattle.std.proofs.Common.{◌≡◌, ◌+◌}
use Rattle.lfs_memory.specs.inodes.Data.{data_count}
use Rattle.lfs_log.specs.Early.{GoesEarly}
use Rattle.lfs_log.specs.Placing.{SavesBlocks}
use Rattle.lfs_log.proofs.early.write_chunk.Given as goal

abbrev pub invariant-loop : goal.invariant-loop
invariant-loop g l = record {
  saves : SavesBlocks (g.D.SectorDevice.state l.initial.device) (g.D.SectorDevice.state l.device) l.initial.memory l.memory
      l.counter l.counter;
  early : GoesEarly l.initial.memory l.memory l.counter;
  left : data_count l.memory.dirty + l.counter ≡ data_count l.initial.memory.dirty;
  capacity : l.memory.dirty.capacity ≡ l.initial.memory.dirty.capacity;
}
