use Rattle.std.proofs.Common.{◌≡◌, ◌≤◌, length, ◌-◌}
use Rattle.lfs_log.specs.Placing.{SavesBlocks}
use Rattle.lfs_log.proofs.placing.save_files.Given as goal

abbrev pub invariant-loop-key : goal.invariant-loop-key
invariant-loop-key g l = record {
  saves : SavesBlocks (g.D.SectorDevice.state l.initial.device) (g.D.SectorDevice.state l.device) l.initial.memory l.memory
      (length l.initial.memory.dirty.blocks - length l.memory.dirty.blocks) (length l.initial.memory.dirty.blocks
      - length l.memory.dirty.blocks);
  capacity : l.memory.dirty.capacity ≡ l.initial.memory.dirty.capacity;
  fewer : length l.memory.dirty.blocks ≤ length l.initial.memory.dirty.blocks;
}

abbrev pub decreases-loop-key : goal.decreases-loop-key
decreases-loop-key g l = length l.memory.dirty.blocks
