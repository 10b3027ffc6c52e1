use Rattle.lfs_queue.proofs.Numbering.{taken_begin}
use Rattle.lfs_queue.proofs.numbers.taken_orders_begin.Goals as goal

pub returns : goal.returns
returns c = taken_begin
