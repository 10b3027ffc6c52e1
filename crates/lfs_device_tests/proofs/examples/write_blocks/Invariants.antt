use Rattle.std.proofs.Common.{◌≡◌, ◌+◌, ◌++◌, Some, length, map, take, drop}
use Rattle.lfs_model.specs.Device.{ComesFrom, SameOutside}
use Rattle.lfs_model.proofs.Moments.{Run}
use Rattle.lfs_device_tests.proofs.examples.write_blocks.Given as goal

abbrev pub invariant-loop-i : goal.invariant-loop-i
invariant-loop-i g l =
    let old = g.D.SectorDevice.state l.initial.device in
    let now = g.D.SectorDevice.state l.device in
    record {
      run : Run old now (ComesFrom old (SameOutside l.first (length l.blocks)));
      content : now.keeps_model
          → now.content ≡ take l.first old.content ++ map Some (take l.i l.blocks) ++ drop (l.first + l.i) old.content;
      failures : now.failures ≡ old.failures;
    }
