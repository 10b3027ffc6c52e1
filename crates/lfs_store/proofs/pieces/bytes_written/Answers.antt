use Rattle.lfs_store.proofs.PiecesWritten.{write_begins, write_goes_on, write_heads, write_is_done}
use Rattle.lfs_store.proofs.pieces.bytes_written.Goals as goal

pub returns-clause-begins : goal.returns-clause-begins
returns-clause-begins c = write_begins

pub returns-clause-goes_on : goal.returns-clause-goes_on
returns-clause-goes_on c = write_goes_on

pub returns-clause-heads : goal.returns-clause-heads
returns-clause-heads c = write_heads

pub returns-clause-done : goal.returns-clause-done
returns-clause-done c = write_is_done
