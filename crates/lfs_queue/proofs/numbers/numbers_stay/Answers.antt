use Rattle.lfs_queue.proofs.Numbering.{number_stays}
use Rattle.lfs_queue.proofs.numbers.numbers_stay.Goals as goal

pub returns : goal.returns
returns c = number_stays
