use Rattle.lfs_queue.proofs.Sequences.{done_leaves_told, told_are_done}
use Rattle.lfs_queue.proofs.stops.done_leaves_told.Goals as goal

pub returns-clause-leaves : goal.returns-clause-leaves
returns-clause-leaves c = done_leaves_told

pub returns-clause-as_told : goal.returns-clause-as_told
returns-clause-as_told c = told_are_done
