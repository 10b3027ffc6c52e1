use Rattle.std.specs.Prelude.{◌≡◌, length}
use Rattle.lfs_queue.specs.Queue.{told_of}
use Rattle.pansuyog.specs.Orders.{AreRun}
use Rattle.pansuyog.proofs.orders.put_run.Given as goal

abbrev pub invariant-loop-place : goal.invariant-loop-place
invariant-loop-place l = AreRun (told_of l.device) l.number l.first l.place l.out × (length l.out ≡ length l.initial.out)
