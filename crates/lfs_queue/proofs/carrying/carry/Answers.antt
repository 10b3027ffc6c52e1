use Rattle.std.proofs.Common.{◌<◌, length, arith}
use Rattle.lfs_queue.proofs.Carried.{carried_none, carried_next, failed_here, within}
use Rattle.lfs_queue.proofs.carrying.carry.Goals as goal

pub loop-order-init : goal.loop-order-init
loop-order-init g c = carried_none (g.met.D.SectorDevice.lawful c.args.device.now)

pub carry_one-requires : goal.carry_one-requires
carry_one-requires g c =
    let lt : c.loop-order.order-index < length c.args.orders.now = omega arith in
    within c.args.orders.now c.loop-order.order-index _ lt c.loop-order.invariant.carries.size (c.requires c.loop-order.order-index lt)

pub loop-order-preserved : goal.loop-order-preserved
loop-order-preserved g c =
    let lt : c.loop-order.order-index < length c.args.orders.now = omega arith in
    carried_next c.args.orders.now c.loop-order.order-index _ lt c.loop-order.invariant c.carry_one.ensures.carries c.carry_one.ensures.time
    c.in_ok-carry_one.ensures.no_failure c.in_ok-carry_one.ensures.told c.in_ok-carry_one.ensures.goes_on

pub returns-in_err-carry_one-clause-stopped : goal.returns-in_err-carry_one-clause-stopped
returns-in_err-carry_one-clause-stopped g c =
    let lt : c.loop-order.order-index < length c.args.orders.now = omega arith in
    failed_here c.from_residual.result
    c.args.orders.now c.loop-order.order-index _ lt c.loop-order.invariant c.in_err-carry_one.ensures.carries
    c.in_err-carry_one.ensures.time c.in_err-carry_one.ensures.failed c.in_err-carry_one.ensures.failed_order
    c.in_err-carry_one.ensures.may_tell c.in_err-carry_one.ensures.left
