-- What was told is what was sent, and then what is kept.
use Rattle.std.proofs.Common.{◌≡◌, ℕ, true, false, List, [], ◌∷◌, refl, sym, subst, arith}
use Rattle.lfs_model.specs.declared.Order.{Order}
use Rattle.lfs_model.specs.declared.Order.TheVariants as order
use Rattle.lfs_device.specs.Event.{Event, Called, Kept, Shown, WriteRefused, SyncRefused, calls_made, kept}
use Rattle.lfs_device.specs.HostCall.{Length, Read, Write, Sync}
use Rattle.lfs_device.specs.InOrder.{AreInOrder, orders_told}
use Rattle.lfs_device.specs.Runs.{IsEmpty, Run, Takes, no_run, taken}
use Rattle.lfs_device.specs.Sent.{AreSent, AreSentOrKept, Gathers, none, one_more}
use Rattle.lfs_device.proofs.KeptRuns.{has_own}

-- where nothing is kept, all was sent
taken_some : (run : Run) (sector : ℕ) (bytes : List ℕ) → Takes run sector → IsEmpty (taken run sector bytes) → ⊥
taken_some run sector bytes takes empty =
    let own = has_own run.first sector run.ahead bytes run.sectors takes in
    let low = own.low in let high = own.high in absurd (omega (arith, low, high, empty))

all_sent : {before orders : List Order} {run : Run} → Gathers before run orders → IsEmpty run
    → (orders ≡ before) × (run ≡ no_run)
all_sent none empty = (refl, refl)
all_sent (one_more {run} sector bytes takes more) empty = absurd (taken_some run sector bytes takes empty)

pub sent_or_kept : (n : ℕ) (events : List Event) → AreInOrder n events
    → AreSentOrKept (calls_made events) (kept events) (orders_told events)
sent_or_kept n [] is = ([], refl, none)
sent_or_kept n (Called (Length told) ∷ events) is = sent_or_kept n events is.1
sent_or_kept n (Called (Read offset bytes done) ∷ events) is = sent_or_kept n events is.1
sent_or_kept n (Called (Write offset bytes true) ∷ events) is =
    let before = sent_or_kept n events is.1 in
    (orders_told events, (kept events, before.0, is.0.1, is.0.2, before.2, before.1), none)
sent_or_kept n (Called (Write offset bytes false) ∷ events) is = sent_or_kept n events is.1
sent_or_kept n (Called (Sync true) ∷ events) is =
    let before = sent_or_kept n events is.1 in
    let all = all_sent before.2 is.0 in (
      order.Sync ∷ orders_told events,
      (orders_told events, refl, subst (AreSent (calls_made events)) (sym all.0) before.1),
      subst (λ (run : Run). Gathers (order.Sync ∷ orders_told events) run (order.Sync ∷ orders_told events)) (sym all.1) none,
    )
sent_or_kept n (Called (Sync false) ∷ events) is = sent_or_kept n events is.1
sent_or_kept n (Kept sector bytes ∷ events) is =
    let before = sent_or_kept n events is.3 in
    (before.0, before.1, one_more sector bytes is.2 before.2)
sent_or_kept n (Shown sector bytes ∷ events) is = sent_or_kept n events is.2
sent_or_kept n (WriteRefused sector bytes ∷ events) is = sent_or_kept n events is.2
sent_or_kept n (SyncRefused ∷ events) is = sent_or_kept n events is.1
