use Rattle.lfs_store.proofs.PiecesCut.{cut_begins, cut_heads, cut_between, cut_inside, cut_none, cut_blocks_heads, cut_is_done}
use Rattle.lfs_store.proofs.pieces.bytes_cut.Goals as goal

pub returns-clause-begins : goal.returns-clause-begins
returns-clause-begins c = cut_begins

pub returns-clause-heads : goal.returns-clause-heads
returns-clause-heads c = cut_heads

pub returns-clause-between : goal.returns-clause-between
returns-clause-between c = cut_between

pub returns-clause-inside : goal.returns-clause-inside
returns-clause-inside c = cut_inside

pub returns-clause-none : goal.returns-clause-none
returns-clause-none c = cut_none

pub returns-clause-heads_after : goal.returns-clause-heads_after
returns-clause-heads_after c = cut_blocks_heads

pub returns-clause-done : goal.returns-clause-done
returns-clause-done c = cut_is_done
