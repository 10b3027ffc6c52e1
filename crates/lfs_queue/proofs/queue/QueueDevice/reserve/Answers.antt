use Rattle.std.proofs.Common.{arith}
use Rattle.lfs_queue.specs.Orders.{done_of}
use Rattle.lfs_queue.proofs.Numbering.{length_onto}
use Rattle.lfs_queue.proofs.queue.QueueDevice.reserve.Goals as goal

pub returns-in-Ok-clause-bears : goal.returns-in-Ok-clause-bears
returns-in-Ok-clause-bears c n few =
    let all = length_onto c.reserve.new.self.items (done_of c.args.self.now.done.value) in
    omega (arith, few, all, c.in-Ok.ensures.ok)
