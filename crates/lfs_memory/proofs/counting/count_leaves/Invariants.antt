use Rattle.std.proofs.Common.{◌≡◌}
use Rattle.lfs_memory.specs.Present.{Looks}
use Rattle.lfs_memory.specs.Counting.{CountsLeaves}
use Rattle.lfs_memory.proofs.counting.count_leaves.Given as goal

abbrev pub invariant-loop-index : goal.invariant-loop-index
invariant-loop-index g l =
    let old = g.D.SectorDevice.state l.initial.device in
    let now = g.D.SectorDevice.state l.device in
    record {
      counts : CountsLeaves old now l.memory l.tail.number l.root l.index l.tail.first l.initial.counts l.counts;
      looks : Looks old now;
      no_failure : now.failures ≡ old.failures;
    }
