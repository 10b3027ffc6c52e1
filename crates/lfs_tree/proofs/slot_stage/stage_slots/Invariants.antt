use Rattle.std.proofs.Common.{◌≡◌}
use Rattle.lfs_model.specs.Checkpoint.{CheckpointValue}
use Rattle.lfs_model.specs.Stands.{LogMap}
use Rattle.lfs_verify.specs.Take.{Looks}
use Rattle.lfs_tree.specs.Naming.{AreEmpty}
use Rattle.lfs_tree.specs.Objects.{AreNamed}
use Rattle.lfs_tree.specs.Reading.{Leads, Sees, TellsHeaders}
use Rattle.lfs_tree.proofs.slot_stage.stage_slots.Given as goal

abbrev pub invariant-loop-number : goal.invariant-loop-number
invariant-loop-number g l =
    let old = g.D.SectorDevice.state l.initial.device in
    let now = g.D.SectorDevice.state l.device in
    record {
      looks : Looks old now;
      no_failure : now.failures ≡ old.failures;
      named : (k : CheckpointValue) (m : LogMap) → Sees old now k m → Leads old.content k l.map → TellsHeaders m l.headers 4096
          → AreEmpty l.initial.tables → AreNamed m l.headers l.tables l.number;
    }
