-- A device that is given orders, and what a stop leaves of it.
use Rattle.std.specs.Prelude.{◌≡◌, ◌⊎◌, ℕ, ◌<◌, ◌≤◌, List, ◌∷◌, length, take, get_or}
use Rattle.lfs_model.specs.Device.{Cell, DeviceState, Carries, LeavesOnly, LieWithin, MayTell}
use Rattle.lfs_queue.specs.Orders.{onto, content_after, MayLeave, LeftSince}
use Rattle.lfs_model.specs.declared.Order.{Order}
use Rattle.lfs_model.specs.declared.Order.TheVariants.{Write, Sync}

-- the sector of a write is one of so many
abbrev pub IsWithin : ℕ → Order → Type 0
IsWithin size (Write sector bytes) = sector < size
IsWithin size Sync = Unit {0}

-- The device begins with a sector for each of start. These hold what the orders make of start, and a stop leaves nothing in them that the
-- orders don't let it leave, where sectors are written by these units.
pub record IsAsTold (unit : ℕ → ℕ) (start : List Cell) (told : List Order) (d : DeviceState) : Type 0 where
  pub size : length start ≤ d.size
  pub content : take (length start) d.content ≡ content_after start told
  pub left : (c : List Cell) → d.may_leave c → MayLeave unit start told (take (length start) c)

-- an order was carried out: the units are any that the device's own lie within
abbrev pub GoesOn : DeviceState → DeviceState → Order → Type 0
GoesOn old new order = (unit : ℕ → ℕ) → LieWithin new.unit unit → new.keeps_model → (start : List Cell) (told : List Order)
    → IsAsTold unit start told old → IsAsTold unit start (order ∷ told) new

-- an order failed: a stop leaves what it lets it leave, or what the orders before do
abbrev pub LeftBy : DeviceState → DeviceState → Order → Type 0
LeftBy old new order = (unit : ℕ → ℕ) → LieWithin new.unit unit → (start : List Cell) (told : List Order) → IsAsTold unit start told old
    → (c : List Cell) → new.may_leave c
    → MayLeave unit start (order ∷ told) (take (length start) c) ⊎ MayLeave unit start told (take (length start) c)

-- All of the orders, the oldest first, were carried out.
pub record IsCarried (old new : DeviceState) (orders : List Order) : Type 0 where
  pub carries : Carries old new
  pub failures : new.failures ≡ old.failures
  pub failed_orders : new.failed_orders ≡ old.failed_orders
  pub told : new.told ≡ onto orders old.told
  pub as_told : (unit : ℕ → ℕ) → LieWithin new.unit unit → new.keeps_model → (start : List Cell) (told : List Order)
      → IsAsTold unit start told old → IsAsTold unit start (onto orders told) new
  -- a stop at any moment meanwhile leaves what one behind some beginning of them may leave
  pub moments : (unit : ℕ → ℕ) → LieWithin new.unit unit → new.keeps_model → (start : List Cell) (told : List Order)
      → IsAsTold unit start told old
      → LeavesOnly old new (λ c. LeftSince unit start (onto orders told) (length told) (take (length start) c))

-- Those before one of them were carried out, and that one failed.
pub record IsCarriedUpTo (old new : DeviceState) (orders : List Order) : Type 0 where
  -- which one failed
  pub mid : ℕ
  pub few : mid < length orders
  pub carries : Carries old new
  pub failed : old.failures < new.failures
  pub failed_order : old.failed_orders < new.failed_orders
  pub told : MayTell (get_or orders mid Sync) (onto (take mid orders) old.told) new.told
  -- a stop then leaves what one behind it may leave, or behind those before it
  pub left : (unit : ℕ → ℕ) → LieWithin new.unit unit → new.keeps_model → (start : List Cell) (told : List Order)
      → IsAsTold unit start told old → (c : List Cell) → new.may_leave c
      → MayLeave unit start (get_or orders mid Sync ∷ onto (take mid orders) told) (take (length start) c)
      ⊎ MayLeave unit start (onto (take mid orders) told) (take (length start) c)
  -- a stop at any moment meanwhile leaves what one behind some beginning of them, up to it, may leave
  pub moments : (unit : ℕ → ℕ) → LieWithin new.unit unit → new.keeps_model → (start : List Cell) (told : List Order)
      → IsAsTold unit start told old
      → LeavesOnly old new (λ c.
      LeftSince unit start (get_or orders mid Sync ∷ onto (take mid orders) told) (length told) (take (length start) c))
