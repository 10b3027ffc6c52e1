-- What is told of a volume's device, if it has one.
use Rattle.std.proofs.Common.{◌≡◌, ℕ, ℤ, List, Option, Some, sym, subst}
use Rattle.lfs_queue.specs.Queue.{carried_of, told_of}
use Rattle.lfs_queue.specs.declared.queue.QueueDevice.{QueueDevice}
use Rattle.pansuyog.specs.Orders.{TellsNumber, TellsRun, carried_by, told_by}
use Rattle.pansuyog.specs.declared.orders.Sector.{Sector}

pub number_by : {device : Option QueueDevice} {d : QueueDevice} → device ≡ Some d
    → {number : ℕ} (code : ℤ) {sector_before sector : ℕ} {before after : List ℕ}
    → TellsNumber (told_of d) (carried_of d) number code sector_before sector before after
    → TellsNumber (told_by device) (carried_by device) number code sector_before sector before after
number_by is {number} code {sector_before} {sector} {before} {after} tells =
    subst (λ (o : Option QueueDevice). TellsNumber (told_by o) (carried_by o) number code sector_before sector before after) (sym is) tells

pub run_by : {device : Option QueueDevice} {d : QueueDevice} → device ≡ Some d
    → {number : ℕ} (code : ℤ) {first_before first : ℕ} {before after : List Sector}
    → TellsRun (told_of d) (carried_of d) number code first_before first before after
    → TellsRun (told_by device) (carried_by device) number code first_before first before after
run_by is {number} code {first_before} {first} {before} {after} tells =
    subst (λ (o : Option QueueDevice). TellsRun (told_by o) (carried_by o) number code first_before first before after) (sym is) tells
