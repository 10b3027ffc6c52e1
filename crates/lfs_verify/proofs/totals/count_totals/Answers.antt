use Rattle.std.proofs.Common.{arith, length}
use Rattle.lfs_verify.proofs.MarkTotals.{counts_by_marks}
use Rattle.lfs_verify.proofs.Occurrences.{above_fewer}
use Rattle.lfs_verify.proofs.totals.count_totals.Goals as goal

pub overflow_sub-result : goal.overflow_sub-result
overflow_sub-result c = let fewer = above_fewer c.args.marks.now 536624 48 (length c.args.marks.now) (omega arith) in omega (arith, fewer)

pub returns : goal.returns
returns c = counts_by_marks _ _ _ c.count_above-data_blocks.ensures c.count_above-all.ensures
