use Rattle.std.proofs.Common.{◌≡◌, ◌<◌, ◌≤◌, ◌+◌, ℕ, length, false}
use Rattle.lfs_memory.specs.segments.Table.{address_of, stale_of}
use Rattle.lfs_memory.specs.Memory.{Goes}
use Rattle.lfs_log.specs.Settling.{AreAnew, blocks_in}
use Rattle.lfs_log.proofs.settling.fill_usage.Given as goal

abbrev pub invariant-loop-index : goal.invariant-loop-index
invariant-loop-index g l =
    let old = g.D.SectorDevice.state l.initial.device in
    let now = g.D.SectorDevice.state l.device in
    record {
      goes : Goes old now l.initial.memory l.memory 0;
      end : l.index-end ≡ blocks_in l.initial.memory.usage;
      anew : AreAnew l.memory.usage;
      fresh : (j : ℕ) → j < l.index → stale_of l.memory.usage j ≡ false;
      segments : l.memory.usage.segments ≡ l.initial.memory.usage.segments;
      address : (j : ℕ) → address_of l.memory.usage j ≡ address_of l.initial.memory.usage j;
      map : l.memory.map ≡ l.initial.memory.map;
      dirty : l.memory.dirty ≡ l.initial.memory.dirty;
      chunk : l.memory.chunk ≡ l.initial.memory.chunk;
      told : length now.told ≤ length old.told + l.index;
    }
