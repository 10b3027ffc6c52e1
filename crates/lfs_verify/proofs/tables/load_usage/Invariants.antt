use Rattle.std.proofs.Common.{◌≡◌}
use Rattle.lfs_verify.specs.Take.{Looks}
use Rattle.lfs_verify.specs.Loading.{IsUsageUpTo, SaysUsage}
use Rattle.lfs_verify.proofs.tables.load_usage.Given as goal

abbrev pub invariant-loop-index : goal.invariant-loop-index
invariant-loop-index g l =
    let old = g.D.SectorDevice.state l.initial.device in
    let now = g.D.SectorDevice.state l.device in
    record {
      upto : IsUsageUpTo l.index l.checkpoint.segments l.usage;
      says : now.keeps_model → SaysUsage old.content l.checkpoint l.index l.usage;
      unit : l.usage.unit ≡ l.initial.usage.unit;
      looks : Looks old now;
      no_failure : now.failures ≡ old.failures;
    }
