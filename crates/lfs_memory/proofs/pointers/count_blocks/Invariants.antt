use Rattle.std.proofs.Common.{◌≤◌, ◌-◌}
use Rattle.lfs_memory.specs.Pointers.{KeepsRun}
use Rattle.lfs_memory.proofs.PointerRuns.{CountedTo}
use Rattle.lfs_memory.proofs.pointers.count_blocks.Given as goal

abbrev pub invariant-loop-at : goal.invariant-loop-at
invariant-loop-at g l =
    let old = g.D.SectorDevice.state l.initial.device in
    let now = g.D.SectorDevice.state l.device in
    record {
      most : l.at ≤ l.to;
      kept : KeepsRun now l.memory l.kept;
      counted : CountedTo old now l.memory l.number l.from l.at l.count;
    }

abbrev pub decreases-loop-at : goal.decreases-loop-at
decreases-loop-at g l = l.to - l.at
