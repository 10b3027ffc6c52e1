use Rattle.std.specs.Prelude.{min}
use Rattle.std.proofs.Common.{◌≡◌, ◌*◌, ℕ}
use Rattle.lfs_model.specs.Checkpoint.{CheckpointValue}
use Rattle.lfs_model.specs.Content.{block}
use Rattle.lfs_model.specs.Entry.{Inode}
use Rattle.lfs_model.specs.Reach.{address}
use Rattle.lfs_model.specs.Stands.{LogMap}
use Rattle.lfs_verify.specs.Take.{Looks}
use Rattle.lfs_tree.specs.Reading.{Sees}
use Rattle.lfs_tree.specs.Texts.{HasNoZero}
use Rattle.lfs_tree.proofs.texts.check_bytes.Given as goal

abbrev pub invariant-loop-index : goal.invariant-loop-index
invariant-loop-index g l =
    let old = g.D.SectorDevice.state l.initial.device in
    let now = g.D.SectorDevice.state l.device in
    record {
      looks : Looks old now;
      no_failure : now.failures ≡ old.failures;
      none : (k : CheckpointValue) (m : LogMap) (n : ℕ) → Sees old now k m → l.inode ≡ block old.content (address old.content k (Inode n))
          → HasNoZero m n (min (512 * l.index) l.size);
    }
