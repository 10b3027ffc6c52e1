-- In which order runs are taken, sent and synced, and where the calls of the system lie.
use Rattle.std.specs.Prelude.{◌≡◌, ℕ, ◌*◌, ◌/◌, ◌%◌, ◌<◌, true, false, List, [], ◌∷◌, length}
use Rattle.std.specs.List.{concat}
use Rattle.std.proofs.Math.Nat.{ℕ_set}
use Rattle.std.proofs.Math.Bridge.{le_prop}
use mathlib.Core.List.{is_set}
use Rattle.lfs_model.specs.Device.{AreSectorBytes}
use Rattle.lfs_model.specs.declared.Order.{Order}
use Rattle.lfs_model.specs.declared.Order.TheVariants as order
use Rattle.lfs_model.specs.declared.limits.TheConstants.{SECTOR_LEN}
use Rattle.lfs_model.proofs.Cells.{bytes_prop}
use Rattle.lfs_device.specs.Event.{Event, Called, Kept, Shown, WriteRefused, SyncRefused, kept}
use Rattle.lfs_device.specs.File.{AreWhole}
use Rattle.lfs_device.specs.History.{calls_of}
use Rattle.lfs_device.specs.HostCall.{HostCall, Length, Read, Write, Sync}
use Rattle.lfs_device.specs.Runs.{Run, IsEmpty, IsOf, Takes, bytes_of, GoesOn-prop, IsOf-prop}

-- the offset at which one of n sectors begins
pub record IsSectorOffset (n offset : ℕ) : Type 0 where
  pub begins : offset % SECTOR_LEN ≡ 0
  pub within : offset < SECTOR_LEN * n

-- A call of the system while this run is kept. A read is of a sector that isn't kept, a write, be it done or failed, has the whole run,
-- each sector in its place, and a sync comes only where nothing is kept.
abbrev pub IsInOrder : ℕ → Run → HostCall → Type 0
IsInOrder n run (Length told) = Unit {0}
IsInOrder n run (Read offset bytes done) = IsSectorOffset n offset × (IsOf run (offset / SECTOR_LEN) → ⊥)
IsInOrder n run (Write offset bytes done) =
    (0 < length run.sectors) × (offset ≡ SECTOR_LEN * run.first) × (bytes ≡ concat run.sectors)
IsInOrder n run (Sync done) = IsEmpty run

-- the last thing done was to send a run, and it failed
abbrev pub SendingFailed : List Event → Type 0
SendingFailed [] = ⊥
SendingFailed (Called (Length told) ∷ events) = ⊥
SendingFailed (Called (Read offset bytes done) ∷ events) = ⊥
SendingFailed (Called (Write offset bytes true) ∷ events) = ⊥
SendingFailed (Called (Write offset bytes false) ∷ events) = Unit {0}
SendingFailed (Called (Sync done) ∷ events) = ⊥
SendingFailed (Kept sector bytes ∷ events) = ⊥
SendingFailed (Shown sector bytes ∷ events) = ⊥
SendingFailed (WriteRefused sector bytes ∷ events) = ⊥
SendingFailed (SyncRefused ∷ events) = ⊥

-- Each was done in its turn. The run takes each write that was taken, a sector that was read from it has the bytes that were shown, and a
-- write or a sync was refused only right after a run couldn't be sent.
abbrev pub AreInOrder : ℕ → List Event → Type 0
AreInOrder n [] = Unit {0}
AreInOrder n (Called call ∷ events) = IsInOrder n (kept events) call × AreInOrder n events
AreInOrder n (Kept sector bytes ∷ events) = (sector < n) × AreSectorBytes bytes × Takes (kept events) sector × AreInOrder n events
AreInOrder n (Shown sector bytes ∷ events) =
    IsOf (kept events) sector × (bytes ≡ bytes_of (kept events) sector) × AreInOrder n events
AreInOrder n (WriteRefused sector bytes ∷ events) = AreSectorBytes bytes × SendingFailed events × AreInOrder n events
AreInOrder n (SyncRefused ∷ events) = SendingFailed events × AreInOrder n events

-- the orders that were told: each write that was taken, and each sync that the system did
abbrev pub orders_told : List Event → List Order
orders_told [] = []
orders_told (Called (Length told) ∷ events) = orders_told events
orders_told (Called (Read offset bytes done) ∷ events) = orders_told events
orders_told (Called (Write offset bytes done) ∷ events) = orders_told events
orders_told (Called (Sync true) ∷ events) = order.Sync ∷ orders_told events
orders_told (Called (Sync false) ∷ events) = orders_told events
orders_told (Kept sector bytes ∷ events) = order.Write sector bytes ∷ orders_told events
orders_told (Shown sector bytes ∷ events) = orders_told events
orders_told (WriteRefused sector bytes ∷ events) = orders_told events
orders_told (SyncRefused ∷ events) = orders_told events

-- each fact has one proof
offset_prop : (n offset : ℕ) → IsProp (IsSectorOffset n offset)
offset_prop n offset = hlevel (ℕ_set, le_prop)

in_order_prop : (n : ℕ) (run : Run) (call : HostCall) → IsProp (IsInOrder n run call)
in_order_prop n run (Length told) = Prim.hlevel
in_order_prop n run (Read offset bytes done) = Prim.hlevel (offset_prop)
in_order_prop n run (Write offset bytes done) = Prim.hlevel (ℕ_set, le_prop, is_set ℕ_set)
in_order_prop n run (Sync done) = Prim.hlevel (ℕ_set)

failed_prop : (events : List Event) → IsProp (SendingFailed events)
failed_prop [] = Prim.hlevel
failed_prop (Called (Length told) ∷ events) = Prim.hlevel
failed_prop (Called (Read offset bytes done) ∷ events) = Prim.hlevel
failed_prop (Called (Write offset bytes true) ∷ events) = Prim.hlevel
failed_prop (Called (Write offset bytes false) ∷ events) = Prim.hlevel
failed_prop (Called (Sync done) ∷ events) = Prim.hlevel
failed_prop (Kept sector bytes ∷ events) = Prim.hlevel
failed_prop (Shown sector bytes ∷ events) = Prim.hlevel
failed_prop (WriteRefused sector bytes ∷ events) = Prim.hlevel
failed_prop (SyncRefused ∷ events) = Prim.hlevel

pub AreInOrder-prop : (n : ℕ) (events : List Event) → IsProp (AreInOrder n events)
AreInOrder-prop n [] = Prim.hlevel
AreInOrder-prop n (Called call ∷ events) = Prim.hlevel (in_order_prop, AreInOrder-prop n events)
AreInOrder-prop n (Kept sector bytes ∷ events) = Prim.hlevel (le_prop, bytes_prop, GoesOn-prop, AreInOrder-prop n events)
AreInOrder-prop n (Shown sector bytes ∷ events) = Prim.hlevel (IsOf-prop, is_set ℕ_set, AreInOrder-prop n events)
AreInOrder-prop n (WriteRefused sector bytes ∷ events) = Prim.hlevel (bytes_prop, failed_prop events, AreInOrder-prop n events)
AreInOrder-prop n (SyncRefused ∷ events) = Prim.hlevel (failed_prop events, AreInOrder-prop n events)

-- so what was written were sectors
pub in_order_whole : (n : ℕ) (events : List Event) → AreInOrder n events → AreWhole (calls_of events)
in_order_whole n [] is = tt
in_order_whole n (Called (Length told) ∷ events) is = in_order_whole n events is.1
in_order_whole n (Called (Read offset bytes true) ∷ events) is = in_order_whole n events is.1
in_order_whole n (Called (Read offset bytes false) ∷ events) is = in_order_whole n events is.1
in_order_whole n (Called (Write offset bytes done) ∷ events) is = in_order_whole n events is.1
in_order_whole n (Called (Sync true) ∷ events) is = in_order_whole n events is.1
in_order_whole n (Called (Sync false) ∷ events) is = in_order_whole n events is.1
in_order_whole n (Kept sector bytes ∷ events) is = (is.1, in_order_whole n events is.3)
in_order_whole n (Shown sector bytes ∷ events) is = in_order_whole n events is.2
in_order_whole n (WriteRefused sector bytes ∷ events) is = (is.0, in_order_whole n events is.2)
in_order_whole n (SyncRefused ∷ events) is = in_order_whole n events is.1
