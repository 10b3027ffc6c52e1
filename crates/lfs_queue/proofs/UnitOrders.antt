-- What orders let a stop leave, by units.
use Rattle.std.proofs.Common.{◌≡◌, ◌≤◌, ℕ, List, [], ◌∷◌, length, take, sym, ◌∙◌, subst, arith}
use Rattle.std.proofs.lemmas.List.{take_all}
use Rattle.lfs_model.specs.Device.{AreSectors, Cell, DeviceState, IsLawful, LieWithin}
use Rattle.lfs_model.specs.declared.Order.{Order}
use Rattle.lfs_model.specs.declared.Order.TheVariants.{Write, Sync}
use Rattle.lfs_model.proofs.UnitWrites.{to_sector, to_unit, units_within}
use Rattle.lfs_queue.specs.Orders.{MayLeave}
use Rattle.lfs_queue.specs.UnitOrders.{AsToldOfWhole, LeavesOfOne, LeavesSectors, LeavesWithin}

module _ (unit : ℕ → ℕ) (start : List Cell) where
  leaves_sectors : AreSectors unit → (told : List Order) (c : List Cell) → MayLeave unit start told c → LeavesSectors start told c
  leaves_sectors sectors [] c left = left
  leaves_sectors sectors (Write sector bytes ∷ told) c left = (
    left.0,
    leaves_sectors sectors told left.0 left.1,
    to_sector unit sector (λ k e. sectors k sector e) bytes left.0 c left.2,
  )
  leaves_sectors sectors (Sync ∷ told) c left = left

  leaves_units : (told : List Order) (c : List Cell) → LeavesSectors start told c → MayLeave unit start told c
  leaves_units [] c left = left
  leaves_units (Write sector bytes ∷ told) c left =
      (left.0, leaves_units told left.0 left.1, to_unit unit sector bytes left.0 c left.2)
  leaves_units (Sync ∷ told) c left = left

  larger : (within : ℕ → ℕ) → LieWithin unit within → (told : List Order) (c : List Cell) → MayLeave unit start told c
      → MayLeave within start told c
  larger within lie [] c left = left
  larger within lie (Write sector bytes ∷ told) c left =
      (left.0, larger within lie told left.0 left.1, units_within unit within lie sector bytes left.0 c left.2)
  larger within lie (Sync ∷ told) c left = left

pub leaves_of_one : LeavesOfOne
leaves_of_one unit sectors start told c = (leaves_sectors unit start sectors told c, leaves_units unit start told c)

pub leaves_within : LeavesWithin
leaves_within unit within lie start told c left = larger unit start within lie told c left

-- all of a content that is no longer
whole : (start c : List Cell) → length c ≤ length start → take (length start) c ≡ c
whole start c short = take_all (length start) c short

pub as_told_of_whole : (d : DeviceState) → IsLawful d → AsToldOfWhole d
as_told_of_whole d lawful unit start told long = (
  λ is. record {
    content = sym now ∙ is.content;
    left = λ c left. subst (MayLeave unit start told) (each c left) (is.left c left);
  },
  λ is. record {
    size = omega (arith, long);
    content = now ∙ is.content;
    left = λ c left. subst (MayLeave unit start told) (sym (each c left)) (is.left c left);
  },
)
  where
    now : take (length start) d.content ≡ d.content
    now = whole start d.content (let size = lawful.size in omega (arith, size, long))

    each : (c : List Cell) → d.may_leave c → take (length start) c ≡ c
    each c left = whole start c (let size = lawful.sizes c left in omega (arith, size, long))
