-- What the orders to a device make of it, and what a stop leaves.
use Rattle.std.specs.Prelude.{◌≡◌, ℕ, ◌+◌, ◌^◌, ◌<◌, ◌≤◌, Some, List, [], ◌∷◌, length, refl}
use Rattle.std.specs.List.{AllByRecursion}
use Rattle.std.proofs.Common.{sym, ◌∙◌, ap, subst, length-set}
use Rattle.lfs_model.specs.Device.{Cell, put, MayWriteUnit, left_new, IsSector, AreSectorBytes, DeviceState, IsLawful}
use Rattle.lfs_model.proofs.Cells.{all_set, bytes_prop}
use Rattle.lfs_model.proofs.UnitWrites.{to_unit, unit_cells}
use Rattle.lfs_model.specs.Past.{AtSince, AtUntil}
use Rattle.lfs_model.proofs.Pasts.{counts_at, earlier_at, only_at, until_end}
use Rattle.lfs_model.specs.declared.Order.{Order}
use Rattle.lfs_model.specs.declared.Order.TheVariants.{Write, Sync}
use Rattle.lfs_queue.specs.declared.order.Done.{Done, Nothing, Then'}
use Rattle.lfs_queue.specs.declared.order.Count.{Count, Zero, Next'}

-- orders, the oldest first, after those that were told before, the newest first
abbrev pub onto : List Order → List Order → List Order
onto [] told = told
onto (order ∷ orders) told = onto orders (order ∷ told)

-- what was carried out, the newest first
abbrev pub done_of : Done → List Order
done_of Nothing = []
done_of (Then' orders mark before) = onto orders.value.items (done_of before)

abbrev pub count : Count → ℕ
count Zero = 0
count (Next' mark before) = count before + 1

-- what a device holds after these orders, the newest first
abbrev pub content_after : List Cell → List Order → List Cell
content_after start [] = start
content_after start (Write sector bytes ∷ told) = put (content_after start told) sector bytes
content_after start (Sync ∷ told) = content_after start told

-- where sectors are written by these units
module _ (unit : ℕ → ℕ) (start : List Cell) where
  -- what a stop after these orders may leave
  abbrev pub MayLeave : List Order → List Cell → Type 0
  MayLeave [] c = c ≡ start
  MayLeave (Write sector bytes ∷ told) c = (d : List Cell) × MayLeave told d × MayWriteUnit unit sector bytes d c
  MayLeave (Sync ∷ told) c = c ≡ content_after start told

  -- what a stop after one of these orders, from the t-th on, might have left
  abbrev pub LeftSince : List Order → ℕ → List Cell → Type 0
  LeftSince = AtSince MayLeave

-- a device of n sectors that bears so many orders
abbrev pub queue_state_of : (ℕ → ℕ) → ℕ → List Cell → List Order → ℕ → ℕ → DeviceState
queue_state_of unit n start told failed most = record {
  size = n;
  content = content_after start told;
  may_leave = MayLeave unit start told;
  moment = length told;
  left_since = LeftSince unit start told;
  left_until = AtUntil (MayLeave unit start) told;
  unit = unit;
  failures = failed;
  failed_orders = failed;
  keeps_model = Unit {0};
  kept_until = λ u. Unit {0};
  start = start;
  told = told;
  bears = λ orders. orders ≤ most;
}

-- the bytes of each write are a sector's
abbrev pub AreWhole : List Order → Type 0
AreWhole [] = Unit {0}
AreWhole (Write sector bytes ∷ told) = AreSectorBytes bytes × AreWhole told
AreWhole (Sync ∷ told) = AreWhole told

pub AreWhole-prop : (told : List Order) → IsProp (AreWhole told)
AreWhole-prop [] = Prim.hlevel
AreWhole-prop (Write sector bytes ∷ told) = Prim.hlevel (bytes_prop, AreWhole-prop told)
AreWhole-prop (Sync ∷ told) = AreWhole-prop told

module _ (start : List Cell) where
  pub size_after : (told : List Order) → length (content_after start told) ≡ length start
  size_after [] = refl
  size_after (Write sector bytes ∷ told) = length-set (content_after start told) sector _ ∙ size_after told
  size_after (Sync ∷ told) = size_after told

  pub cells_after : AllByRecursion IsSector start → (told : List Order) → AreWhole told → AllByRecursion IsSector (content_after start told)
  cells_after starts [] whole = starts
  cells_after starts (Write sector bytes ∷ told) whole =
      all_set IsSector (content_after start told) sector (Some bytes) whole.0 (cells_after starts told whole.1)
  cells_after starts (Sync ∷ told) whole = cells_after starts told whole

module _ (unit : ℕ → ℕ) (start : List Cell) where
  pub sizes_left : (told : List Order) (c : List Cell) → MayLeave unit start told c → length c ≡ length start
  sizes_left [] c left = ap (λ (l : List Cell). length l) left
  sizes_left (Write sector bytes ∷ told) c left = (let may = left.2 in may.size) ∙ sizes_left told left.0 left.1
  sizes_left (Sync ∷ told) c left = ap (λ (l : List Cell). length l) left ∙ size_after start told

  cells_left : AllByRecursion IsSector start → (told : List Order) → AreWhole told → (c : List Cell) → MayLeave unit start told c
      → AllByRecursion IsSector c
  cells_left starts [] whole c left = subst (AllByRecursion IsSector) (sym left) starts
  cells_left starts (Write sector bytes ∷ told) whole c left =
      unit_cells unit sector bytes left.0 c whole.0 (cells_left starts told whole.1 left.0 left.1) left.2
  cells_left starts (Sync ∷ told) whole c left = subst (AllByRecursion IsSector) (sym left) (cells_after start starts told whole)

  pub present_left : (told : List Order) → MayLeave unit start told (content_after start told)
  present_left [] = refl
  present_left (Write sector bytes ∷ told) = (content_after start told, present_left told, to_unit unit sector bytes _ _ (left_new refl))
  present_left (Sync ∷ told) = refl

pub queue_lawful : (unit : ℕ → ℕ) (n : ℕ) (start : List Cell) (told : List Order) (failed most : ℕ) → n < 2 ^ 32 → length start ≡ n
    → AllByRecursion IsSector start → AreWhole told → IsLawful (queue_state_of unit n start told failed most)
queue_lawful unit n start told failed most fits sized starts whole = record {
  fits = fits;
  size = size_after start told ∙ sized;
  sizes = λ c left. sizes_left unit start told c left ∙ sized;
  now = cells_after start starts told whole;
  cells = cells_left unit start starts told whole;
  present = λ keeps. present_left unit start told;
  counts_now = counts_at (MayLeave unit start) told;
  only_now = only_at (MayLeave unit start) told;
  kept_now = (λ kept. kept, λ keeps. keeps);
  kept_earlier = λ t u le kept. kept;
  until_now = λ t c le. until_end (MayLeave unit start) told t c;
  earlier = earlier_at (MayLeave unit start) told;
}
