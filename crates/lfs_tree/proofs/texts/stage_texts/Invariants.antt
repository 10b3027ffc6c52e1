use Rattle.std.proofs.Common.{◌≡◌, ◌<◌, ℕ}
use Rattle.lfs_model.specs.Checkpoint.{CheckpointValue}
use Rattle.lfs_model.specs.Stands.{LogMap}
use Rattle.lfs_verify.specs.Take.{Looks}
use Rattle.lfs_tree.specs.Reading.{Leads, Sees, TellsHeaders}
use Rattle.lfs_tree.specs.Texts.{IsGoodText}
use Rattle.lfs_tree.proofs.texts.stage_texts.Given as goal

abbrev pub invariant-loop-number : goal.invariant-loop-number
invariant-loop-number g l =
    let old = g.D.SectorDevice.state l.initial.device in
    let now = g.D.SectorDevice.state l.device in
    record {
      looks : Looks old now;
      no_failure : now.failures ≡ old.failures;
      good : (k : CheckpointValue) (m : LogMap) → Sees old now k m → Leads old.content k l.map → TellsHeaders m l.headers 4096 → (n : ℕ)
          → n < l.number → IsGoodText m n;
    }
