use Rattle.lfs_queue.proofs.Beginnings.{moments_are_behind, stops_are_behind}
use Rattle.lfs_queue.proofs.stops.stops_are_behind.Goals as goal

pub returns-clause-now : goal.returns-clause-now
returns-clause-now c = stops_are_behind

pub returns-clause-since : goal.returns-clause-since
returns-clause-since c = moments_are_behind
