use Rattle.std.proofs.Common.{◌≡◌, ◌*◌}
use Rattle.lfs_log.specs.Collecting.{Collects, ListsEach}
use Rattle.lfs_log.proofs.collecting.collect_keys.Given as goal

abbrev pub invariant-loop-victim : goal.invariant-loop-victim
invariant-loop-victim g l =
    let old = g.D.SectorDevice.state l.initial.device in
    let now = g.D.SectorDevice.state l.device in
    record {
      collects : Collects old now l.initial.memory l.memory l.initial.keys l.keys (64 * l.victim-index);
      no_failure : now.failures ≡ old.failures;
      lists : ListsEach old now l.initial.memory l.memory l.victims l.victim-index l.keys.keys;
    }
