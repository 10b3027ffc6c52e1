use Rattle.lfs_model.proofs.LineTexts.{lines_in_turn}
use Rattle.lfs_model.proofs.laws.lines_in_turn.Goals as goal

pub returns : goal.returns
returns c = lines_in_turn
