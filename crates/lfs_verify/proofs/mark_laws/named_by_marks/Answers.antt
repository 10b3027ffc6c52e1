use Rattle.lfs_verify.proofs.Sectors.{named_by_marks}
use Rattle.lfs_verify.proofs.mark_laws.named_by_marks.Goals as goal

pub returns : goal.returns
returns c = named_by_marks
