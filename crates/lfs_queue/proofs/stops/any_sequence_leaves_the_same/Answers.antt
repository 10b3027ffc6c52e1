use Rattle.lfs_queue.proofs.Sequences.{any_sequence_leaves, fewer_leave_no_more}
use Rattle.lfs_queue.proofs.stops.any_sequence_leaves_the_same.Goals as goal

pub returns-clause-same : goal.returns-clause-same
returns-clause-same c = any_sequence_leaves

pub returns-clause-fewer : goal.returns-clause-fewer
returns-clause-fewer c = fewer_leave_no_more
