use Rattle.lfs_model.proofs.LineTexts.{one_line}
use Rattle.lfs_model.proofs.laws.texts_have_one_line.Goals as goal

pub returns : goal.returns
returns c = one_line
