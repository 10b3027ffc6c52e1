use Rattle.std.proofs.Common.{◌≡◌, ◌≢◌, ◌<◌, ℕ}
use Rattle.lfs_memory.specs.inodes.MapValue.{IsMap, block_in}
use Rattle.lfs_log.specs.Placing.{SavesBlocks}
use Rattle.lfs_log.proofs.mapping.save_map.Given as goal

abbrev pub invariant-loop-index : goal.invariant-loop-index
invariant-loop-index g l = record {
  saves : SavesBlocks (g.D.SectorDevice.state l.initial.device) (g.D.SectorDevice.state l.device) l.initial.memory l.memory
      l.index l.index;
  known : (j : ℕ) → j < l.index → block_in l.memory.map j ≢ 1;
  long : 0 < l.index → IsMap l.memory.map;
  dirty : l.memory.dirty ≡ l.initial.memory.dirty;
}
