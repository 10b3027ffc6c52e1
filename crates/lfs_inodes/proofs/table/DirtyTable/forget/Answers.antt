use Rattle.std.proofs.Common.{◌/◌, ◌%◌, ◌∙◌, ap, arith, sym}
use Rattle.lfs_inodes.proofs.Leaving.{file_named, leaves_ends, leaves_out}
use Rattle.lfs_inodes.proofs.table.DirtyTable.forget.Goals as goal

pub loop-at-preserved-then-file : goal.loop-at-preserved-then-file
loop-at-preserved-then-file c =
    let n = c.args.file in
    leaves_out (λ x on off. off on) (omega arith) c.loop-at.invariant
    (file_named _ n (ap (λ m. m / 32768 % 4096) c.key_at.ensures.number ∙ sym c.file.ensures.file ∙ c.if-file.true))
    c.remove_at.ensures.removed c.remove_at.ensures.changed c.remove_at.ensures.codes

pub returns : goal.returns
returns c =
    record {
      leaves = record {
        none = leaves_ends c.loop-at-test.false c.loop-at.invariant;
        kept = c.loop-at.invariant.kept;
      };
      few = c.loop-at.invariant.few;
      capacity = c.loop-at.invariant.capacity;
    }
