use Rattle.std.proofs.Common.{◌∙◌, ap, List}
use Rattle.lfs_queue.specs.Orders.{onto}
use Rattle.lfs_model.specs.declared.Order.{Order}
use Rattle.lfs_queue.proofs.Queues.{told_at_end}
use Rattle.lfs_queue.proofs.queue.put_last.Goals as goal

pub returns-in-Ok-clause-told : goal.returns-in-Ok-clause-told
returns-in-Ok-clause-told c = λ told. ap (λ (l : List Order). onto l told) c.in-Ok.ensures.items
    ∙ told_at_end c.args.queue.now.items c.args.order told
