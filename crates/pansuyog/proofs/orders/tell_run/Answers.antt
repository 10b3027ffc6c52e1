use Rattle.std.proofs.Common.{rules}
use Rattle.pansuyog.specs.Orders.{is_run}
use Rattle.pansuyog.proofs.orders.tell_run.Goals as goal

pub returns-else-is_empty : goal.returns-else-is_empty
returns-else-is_empty c = is_run c.put_run.result c.put_run.ensures.some (search rules) c.put_run.ensures.run
