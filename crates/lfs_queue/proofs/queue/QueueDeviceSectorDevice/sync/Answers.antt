use Rattle.std.proofs.Common.{List, ap, arith}
use Rattle.lfs_model.specs.declared.Order.{Order}
use Rattle.lfs_queue.specs.Orders.{done_of, onto}
use Rattle.lfs_queue.proofs.Syncs.{all_told, full_carries, order_carries, synced_untouched}
use Rattle.lfs_queue.proofs.queue.QueueDeviceSectorDevice.sync.Goals as goal

pub returns-in-Ok-clause-untouched : goal.returns-in-Ok-clause-untouched
returns-in-Ok-clause-untouched c = synced_untouched _ _ _ _ _ _ _ (c.in-Ok.ensures.told _)

pub returns-in-Ok-clause-carries : goal.returns-in-Ok-clause-carries
returns-in-Ok-clause-carries c =
    order_carries _ _ _ _ _ _ _ _ (c.in-Ok.ensures.told _) (let room = c.put_last.ensures.room in omega (arith, room))

pub returns-in-Err-clause-borne : goal.returns-in-Err-clause-borne
returns-in-Err-clause-borne c = λ orders bears.
    let d = c.args.self.now in
    let all = all_told d.queue.items (done_of d.done.value) _ c.in-Err.ensures.fails in
    omega (arith, bears, all)

pub returns-in-Err-clause-carries : goal.returns-in-Err-clause-carries
returns-in-Err-clause-carries c =
    let d = c.args.self.now in
    full_carries _ _ _ _ _ _ _ (ap (λ (l : List Order). onto l (done_of d.done.value)) c.in-Err.ensures.full) c.add_one.ensures
    (let room = c.put_last.ensures.room in omega (arith, room))
    (all_told d.queue.items (done_of d.done.value) _ c.in-Err.ensures.fails)
