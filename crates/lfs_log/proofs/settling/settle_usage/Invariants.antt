use Rattle.std.proofs.Common.{◌≡◌, ◌≤◌, ◌+◌}
use Rattle.lfs_log.proofs.UsageCounts.{out_count}
use Rattle.lfs_log.specs.Placing.{SavesBlocks}
use Rattle.lfs_log.proofs.settling.settle_usage.Given as goal

abbrev pub invariant-loop-round : goal.invariant-loop-round
invariant-loop-round g l =
    let old = g.D.SectorDevice.state l.initial.device in
    let now = g.D.SectorDevice.state l.device in
    record {
      saves : SavesBlocks old now l.initial.memory l.memory l.round 0;
      left : out_count l.memory.usage + l.round ≤ 16;
      map : l.memory.map ≡ l.initial.memory.map;
      dirty : l.memory.dirty ≡ l.initial.memory.dirty;
    }
