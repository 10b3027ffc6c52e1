use Rattle.std.proofs.Common.{◌≡◌, ◌∙◌, true, false, ap, arith, sym}
use Rattle.lfs_model.specs.Cutting.{is_past}
use Rattle.lfs_inodes.specs.Code.{entry_at}
use Rattle.lfs_inodes.proofs.Leaving.{leaves_ends, leaves_out}
use Rattle.lfs_inodes.proofs.table.DirtyTable.forget_past.Goals as goal

pub loop-at-preserved-then-is_past : goal.loop-at-preserved-then-is_past
loop-at-preserved-then-is_past c =
    let n = c.args.file in
    let first = c.args.first in
    leaves_out
    (λ x on off. let bad : true ≡ false = sym on ∙ off in absurd cc) (omega arith) c.loop-at.invariant
    (ap (λ m. is_past n first (entry_at m)) c.key_at.ensures.number ∙ sym c.if-is_past.ensures) c.remove_at.ensures.removed
    c.remove_at.ensures.changed c.remove_at.ensures.codes

pub returns : goal.returns
returns c =
    record {
      leaves = record {
        none = leaves_ends c.loop-at-test.false c.loop-at.invariant;
        kept = c.loop-at.invariant.kept;
      };
      few = c.loop-at.invariant.few;
      capacity = c.loop-at.invariant.capacity;
    }
