use Rattle.std.proofs.Common.{take}
use Rattle.lfs_queue.specs.Carrying.{IsCarried}
use Rattle.lfs_queue.proofs.carrying.carry.Given as goal

abbrev pub invariant-loop-order : goal.invariant-loop-order
invariant-loop-order g l =
    IsCarried (g.D.SectorDevice.state l.initial.device) (g.D.SectorDevice.state l.device) (take l.order-index l.orders)
