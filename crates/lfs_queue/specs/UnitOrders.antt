-- What orders let a stop leave, by the units of a device: the laws.
use Rattle.std.specs.Prelude.{◌≡◌, ◌↔◌, ℕ, List, [], ◌∷◌, length}
use Rattle.lfs_model.specs.Device.{AreSectors, Cell, DeviceState, LieWithin, MayWrite}
use Rattle.lfs_queue.specs.Carrying.{IsAsTold}
use Rattle.lfs_queue.specs.Orders.{content_after, MayLeave}
use Rattle.lfs_model.specs.declared.Order.{Order}
use Rattle.lfs_model.specs.declared.Order.TheVariants.{Write, Sync}

-- what a stop after these orders may leave where each sector is by itself
abbrev pub LeavesSectors : List Cell → List Order → List Cell → Type 0
LeavesSectors start [] c = c ≡ start
LeavesSectors start (Write sector bytes ∷ told) c = (d : List Cell) × LeavesSectors start told d × MayWrite sector bytes d c
LeavesSectors start (Sync ∷ told) c = c ≡ content_after start told

-- Where units are sectors, a stop may leave just that.
abbrev pub LeavesOfOne : Type 0
LeavesOfOne = (unit : ℕ → ℕ) → AreSectors unit → (start : List Cell) (told : List Order) (c : List Cell)
    → MayLeave unit start told c ↔ LeavesSectors start told c

-- With larger units it may leave all that it may with smaller ones.
abbrev pub LeavesWithin : Type 0
LeavesWithin = (unit within : ℕ → ℕ) → LieWithin unit within → (start : List Cell) (told : List Order) (c : List Cell)
    → MayLeave unit start told c → MayLeave within start told c

-- What is said of a device that is as it was told, where it has no more sectors than start.
pub record IsWholeAsTold (unit : ℕ → ℕ) (start : List Cell) (told : List Order) (d : DeviceState) : Type 0 where
  pub content : d.content ≡ content_after start told
  pub left : (c : List Cell) → d.may_leave c → MayLeave unit start told c

abbrev pub AsToldOfWhole : DeviceState → Type 0
AsToldOfWhole d = (unit : ℕ → ℕ) (start : List Cell) (told : List Order) → length start ≡ d.size
    → IsAsTold unit start told d ↔ IsWholeAsTold unit start told d
