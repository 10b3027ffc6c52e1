use Rattle.lfs_queue.proofs.Sequences.{last_is_enough}
use Rattle.lfs_queue.proofs.stops.last_write_is_enough.Goals as goal

pub returns : goal.returns
returns c = last_is_enough
