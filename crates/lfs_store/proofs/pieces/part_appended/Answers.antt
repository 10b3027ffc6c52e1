use Rattle.lfs_store.proofs.PiecesRead.{part_begins, part_goes_on, part_ends, part_read}
use Rattle.lfs_store.proofs.pieces.part_appended.Goals as goal

pub returns-clause-begins : goal.returns-clause-begins
returns-clause-begins c = part_begins

pub returns-clause-goes_on : goal.returns-clause-goes_on
returns-clause-goes_on c = part_goes_on

pub returns-clause-ends : goal.returns-clause-ends
returns-clause-ends c = part_ends

pub returns-clause-read : goal.returns-clause-read
returns-clause-read c = part_read
