use Rattle.std.proofs.Common.{◌≡◌}
use Rattle.lfs_verify.specs.Take.{Looks}
use Rattle.lfs_verify.specs.Loading.{IsMapUpTo, SaysMap}
use Rattle.lfs_verify.proofs.tables.load_map.Given as goal

abbrev pub invariant-loop-index : goal.invariant-loop-index
invariant-loop-index g l =
    let old = g.D.SectorDevice.state l.initial.device in
    let now = g.D.SectorDevice.state l.device in
    record {
      upto : IsMapUpTo l.index l.map;
      says : now.keeps_model → SaysMap old.content l.checkpoint l.index l.map;
      looks : Looks old now;
      no_failure : now.failures ≡ old.failures;
    }
