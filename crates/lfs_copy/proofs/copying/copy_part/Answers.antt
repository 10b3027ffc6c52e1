use Rattle.std.proofs.Common.{refl, rules}
use Rattle.lfs_model.specs.Call.{Pread}
use Rattle.lfs_model.specs.declared.limits.TheConstants.{LONGEST_TRANSFER}
use Rattle.lfs_copy.proofs.Both.{get_refused}
use Rattle.lfs_copy.proofs.Copies.{part_copied, part_not_written}
use Rattle.lfs_copy.proofs.copying.copy_part.Goals as goal

pub returns-in-Err : goal.returns-in-Err
returns-in-Err g c =
    get_refused _ (Pread c.args.source c.args.offset LONGEST_TRANSFER) c.in-Err.fault c.in-Err.ensures refl

pub returns-in-Ok-pwrite : goal.returns-in-Ok-pwrite
returns-in-Ok-pwrite g c =
    part_copied _ _ _ _ c.as_slice.ensures.value c.in-Ok.ensures c.in-Ok-pwrite.ensures (search rules)

pub returns : goal.returns
returns g c =
    part_not_written _ _ c.in-Err-pwrite.fault c.as_slice.ensures.value c.in-Ok.ensures c.in-Err-pwrite.ensures
