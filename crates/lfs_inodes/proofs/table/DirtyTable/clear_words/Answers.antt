use Rattle.std.proofs.Common.{◌∙◌, refl, ap}
use Rattle.lfs_inodes.specs.Key.{entry_of}
use Rattle.lfs_inodes.proofs.Zeroed.{zeroes_first, zeroes_next}
use Rattle.lfs_inodes.proofs.table.DirtyTable.clear_words.Goals as goal

pub loop-i-init : goal.loop-i-init
loop-i-init c =
    record { changed = zeroes_first c.args.first (entry_of c.args.key); length = refl; capacity = refl }

pub loop-i-preserved : goal.loop-i-preserved
loop-i-preserved c = record {
  changed = zeroes_next c.args.first (entry_of c.args.key) c.loop-i.i c.loop-i.invariant.changed c.patch.ensures.changed;
  length = c.patch.ensures.length ∙ c.loop-i.invariant.length;
  capacity = ap (λ t. t.capacity) c.patch.ensures.patched ∙ c.loop-i.invariant.capacity;
}
