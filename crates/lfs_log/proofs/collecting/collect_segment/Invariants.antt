use Rattle.std.proofs.Common.{◌≡◌, ◌≤◌, ◌-◌}
use Rattle.lfs_memory.specs.segments.Table.{used_of}
use Rattle.lfs_log.specs.Collecting.{Collects}
use Rattle.lfs_log.proofs.Collected.{ListsTo}
use Rattle.lfs_log.proofs.collecting.collect_segment.Given as goal

abbrev pub invariant-loop-at : goal.invariant-loop-at
invariant-loop-at g l =
    let old = g.D.SectorDevice.state l.initial.device in
    let now = g.D.SectorDevice.state l.device in
    record {
      collects : Collects old now l.initial.memory l.memory l.initial.keys l.keys l.at;
      no_failure : now.failures ≡ old.failures;
      lists : ListsTo old now l.initial.memory l.memory l.segment l.used l.at l.keys.keys;
      within : l.at ≤ l.used;
      used_is : l.used ≡ used_of l.initial.memory.usage l.segment;
      few : l.used ≤ 64;
    }

abbrev pub decreases-loop-at : goal.decreases-loop-at
decreases-loop-at g l = l.used - l.at
