use Rattle.std.proofs.Common.{ap, sym, ◌∙◌, rules}
use Rattle.pansuyog.specs.Orders.{device_in}
use Rattle.pansuyog.specs.declared.handle.Volume.{Volume}
use Rattle.pansuyog.proofs.Tells.{number_by}
use Rattle.pansuyog.proofs.orders.pansuyog_order.Goals as goal

pub returns-in-Some-clause-told : goal.returns-in-Some-clause-told
returns-in-Some-clause-told c =
    number_by (sym (ap (λ (v : Volume). device_in v) c.volume.ensures.value) ∙ c.in-Some.ensures.some) _ (search rules)
