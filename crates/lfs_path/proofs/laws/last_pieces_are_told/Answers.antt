use Rattle.lfs_path.proofs.LastPieces.{last_says}
use Rattle.lfs_path.proofs.laws.last_pieces_are_told.Goals as goal

pub returns : goal.returns
returns c = last_says
