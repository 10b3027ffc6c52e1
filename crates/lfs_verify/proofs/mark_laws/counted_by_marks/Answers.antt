use Rattle.lfs_verify.proofs.Sectors.{counted_by_marks}
use Rattle.lfs_verify.proofs.mark_laws.counted_by_marks.Goals as goal

pub returns : goal.returns
returns c = counted_by_marks
