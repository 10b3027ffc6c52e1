use Rattle.lfs_model.proofs.SummaryPlaces.{one_summary}
use Rattle.lfs_layout.proofs.summary.one_summary_spelling.Goals as goal

pub returns : goal.returns
returns c a b p q e = one_summary a b p q e
