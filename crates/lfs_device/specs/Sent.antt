-- What the orders that a file device was told have to do with the calls of the system.
use Rattle.std.specs.Prelude.{◌≡◌, ℕ, ◌*◌, true, false, List, [], ◌∷◌}
use Rattle.std.specs.List.{concat}
use Rattle.lfs_model.specs.declared.Order.{Order}
use Rattle.lfs_model.specs.declared.Order.TheVariants as order
use Rattle.lfs_model.specs.declared.limits.TheConstants.{SECTOR_LEN}
use Rattle.lfs_device.specs.HostCall.{HostCall, Length, Read, Write, Sync}
use Rattle.lfs_device.specs.Runs.{Run, Takes, no_run, taken}

-- the orders are those before, and then writes of which this run was made, one after the other: each goes on with it, or replaces what it
-- had of that sector
pub data Gathers (before : List Order) : Run → List Order → Type 0 where
  none : Gathers before no_run before
  one_more : {run : Run} {orders : List Order} (sector : ℕ) (bytes : List ℕ) → Takes run sector → Gathers before run orders
      → Gathers before (taken run sector bytes) (order.Write sector bytes ∷ orders)

-- The orders are what these calls made, each in its turn: a write that the system did has a run whole, in its place, and a sync is one that
-- the system did.
abbrev pub AreSent : List HostCall → List Order → Type 0
AreSent [] orders = orders ≡ []
AreSent (Length told ∷ calls) orders = AreSent calls orders
AreSent (Read offset bytes done ∷ calls) orders = AreSent calls orders
AreSent (Write offset bytes true ∷ calls) orders =
    (run : Run) × (before : List Order) × (offset ≡ SECTOR_LEN * run.first) × (bytes ≡ concat run.sectors)
    × Gathers before run orders × AreSent calls before
AreSent (Write offset bytes false ∷ calls) orders = AreSent calls orders
AreSent (Sync true ∷ calls) orders = (before : List Order) × (orders ≡ order.Sync ∷ before) × AreSent calls before
AreSent (Sync false ∷ calls) orders = AreSent calls orders

-- The orders are what these calls made, and then the writes of which the run was made that is kept.
abbrev pub AreSentOrKept : List HostCall → Run → List Order → Type 0
AreSentOrKept calls run orders = (sent : List Order) × AreSent calls sent × Gathers sent run orders
