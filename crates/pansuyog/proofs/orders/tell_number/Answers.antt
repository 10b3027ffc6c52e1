use Rattle.std.proofs.Common.{rules}
use Rattle.pansuyog.specs.Orders.{is_told}
use Rattle.pansuyog.proofs.orders.tell_number.Goals as goal

pub returns-in-Some : goal.returns-in-Some
returns-in-Some c = is_told c.in-Some.order.now c.in-Some.ensures.waits (search rules)
