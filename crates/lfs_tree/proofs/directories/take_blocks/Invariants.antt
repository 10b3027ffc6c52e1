use Rattle.std.proofs.Common.{◌≡◌, ◌<◌, ◌+◌, ◌*◌, [], drop}
use Rattle.lfs_model.specs.Checkpoint.{CheckpointValue}
use Rattle.lfs_model.specs.Content.{block}
use Rattle.lfs_model.specs.Entry.{Inode}
use Rattle.lfs_model.specs.Reach.{address}
use Rattle.lfs_model.specs.Stands.{LogMap}
use Rattle.lfs_dirs.specs.Directory.{per_block, slot_count, slots_at}
use Rattle.lfs_verify.specs.Take.{Looks}
use Rattle.lfs_tree.specs.Naming.{Base, IsTaken}
use Rattle.lfs_tree.specs.Reading.{Sees}
use Rattle.lfs_tree.proofs.directories.take_blocks.Given as goal

abbrev pub invariant-loop-index : goal.invariant-loop-index
invariant-loop-index g l =
    let old = g.D.SectorDevice.state l.initial.device in
    let now = g.D.SectorDevice.state l.device in
    record {
      low : per_block l.fn.header.form * l.index < slot_count l.fn.header + per_block l.fn.header.form;
      looks : Looks old now;
      no_failure : now.failures ≡ old.failures;
      taken : (k : CheckpointValue) (m : LogMap) → Sees old now k m
          → l.inode ≡ block old.content (address old.content k (Inode l.fn.directory.value))
          → (base : Base) → IsTaken l.fn.header.form l.headers l.fn.directory.value base [] l.initial.names l.initial.tables
          → IsTaken l.fn.header.form l.headers l.fn.directory.value base
          (drop (per_block l.fn.header.form * l.index) (slots_at m l.fn.directory.value l.fn.header)) l.names l.tables;
    }

abbrev pub decreases-loop-index : goal.decreases-loop-index
decreases-loop-index g l = l.index
