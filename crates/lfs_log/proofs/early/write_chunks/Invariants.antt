use Rattle.std.proofs.Common.{◌≡◌, ◌<◌, ◌≤◌, ◌⊎◌, length}
use Rattle.lfs_memory.specs.segments.Table.{clean_in}
use Rattle.lfs_memory.specs.inodes.Data.{data_count}
use Rattle.lfs_log.specs.Early.{WritesChunks, full_chunk}
use Rattle.lfs_log.specs.Thresholds.{reserve_of}
use Rattle.lfs_log.proofs.early.write_chunks.Given as goal

abbrev pub invariant-loop-memory : goal.invariant-loop-memory
invariant-loop-memory g l = record {
  chunks : WritesChunks (g.D.SectorDevice.state l.initial.device) (g.D.SectorDevice.state l.device) l.initial.memory l.memory;
  reserve : ((l.device ≡ l.initial.device) × (l.memory ≡ l.initial.memory))
      ⊎ (reserve_of (length l.memory.usage.segments) ≤ clean_in l.memory.usage.segments);
  idle : data_count l.initial.memory.dirty < full_chunk → (l.device ≡ l.initial.device) × (l.memory ≡ l.initial.memory);
}

abbrev pub decreases-loop-memory : goal.decreases-loop-memory
decreases-loop-memory g l = length l.memory.dirty.blocks
