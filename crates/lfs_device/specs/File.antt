-- A file as contracts see it: a device of the model, in so far as its answers were such a device's.
use Rattle.std.specs.Prelude.{◌≡◌, ℕ, ◌+◌, ◌^◌, ◌<◌, Some, List, [], ◌∷◌, length, refl}
use Rattle.std.specs.List.{AllByRecursion}
use Rattle.std.proofs.Common.{sym, ◌∙◌, ap, subst, length-set}
use Rattle.lfs_model.specs.Device.{Cell, cell_at, put, MayWriteUnit, left_old, left_new}
use Rattle.lfs_model.specs.Device.{IsSector, AreSectorBytes, DeviceState, IsLawful}
use Rattle.lfs_model.specs.Past.{AtSince, AtUntil, HoldsUntil}
use Rattle.lfs_model.proofs.Pasts.{counts_at, earlier_at, holds_earlier, holds_end, only_at, until_end}
use Rattle.lfs_model.specs.declared.Order.{Order}
use Rattle.lfs_model.specs.declared.Order.TheVariants as order
use Rattle.lfs_model.proofs.Cells.{all_set}
use Rattle.lfs_model.proofs.UnitWrites.{to_unit, unit_cells}
use Rattle.lfs_device.specs.Fate.{Fate}
use Rattle.lfs_device.specs.History.{Call, Given, Written, Refused, Synced, FailedRead, FailedSync}

module _ {n : ℕ} (fate : Fate n) where
  -- what the file holds after these calls
  abbrev pub content_after : List Call → List Cell
  content_after [] = fate.content
  content_after (Given sector bytes ∷ calls) = content_after calls
  content_after (Written sector bytes ∷ calls) = put (content_after calls) sector bytes
  content_after (Refused sector bytes ∷ calls) = content_after calls
  content_after (Synced ∷ calls) = content_after calls
  content_after (FailedRead ∷ calls) = content_after calls
  content_after (FailedSync ∷ calls) = content_after calls

  -- what a stop after these calls may leave
  abbrev pub MayLeave : List Call → List Cell → Type 0
  MayLeave [] c = fate.left c
  MayLeave (Given sector bytes ∷ calls) c = MayLeave calls c
  MayLeave (Written sector bytes ∷ calls) c = (d : List Cell) × MayLeave calls d × MayWriteUnit fate.unit sector bytes d c
  MayLeave (Refused sector bytes ∷ calls) c = (d : List Cell) × MayLeave calls d × MayWriteUnit fate.unit sector bytes d c
  MayLeave (Synced ∷ calls) c = c ≡ content_after calls
  MayLeave (FailedRead ∷ calls) c = MayLeave calls c
  MayLeave (FailedSync ∷ calls) c = MayLeave calls c

  -- what a stop after one of these calls, from the t-th on, might have left
  abbrev pub LeftSince : List Call → ℕ → List Cell → Type 0
  LeftSince = AtSince MayLeave

  -- each read that succeeded gave what the file holds by this reckoning
  abbrev pub AreAnswers : List Call → Type 0
  AreAnswers [] = Unit {0}
  AreAnswers (Given sector bytes ∷ calls) = AreAnswers calls × (cell_at (content_after calls) sector ≡ Some bytes)
  AreAnswers (Written sector bytes ∷ calls) = AreAnswers calls
  AreAnswers (Refused sector bytes ∷ calls) = AreAnswers calls
  AreAnswers (Synced ∷ calls) = AreAnswers calls
  AreAnswers (FailedRead ∷ calls) = AreAnswers calls
  AreAnswers (FailedSync ∷ calls) = AreAnswers calls

abbrev pub failures_in : List Call → ℕ
failures_in [] = 0
failures_in (Given sector bytes ∷ calls) = failures_in calls
failures_in (Written sector bytes ∷ calls) = failures_in calls
failures_in (Refused sector bytes ∷ calls) = failures_in calls + 1
failures_in (Synced ∷ calls) = failures_in calls
failures_in (FailedRead ∷ calls) = failures_in calls + 1
failures_in (FailedSync ∷ calls) = failures_in calls + 1

-- how many of them were writes and syncs
abbrev pub failed_orders_in : List Call → ℕ
failed_orders_in [] = 0
failed_orders_in (Given sector bytes ∷ calls) = failed_orders_in calls
failed_orders_in (Written sector bytes ∷ calls) = failed_orders_in calls
failed_orders_in (Refused sector bytes ∷ calls) = failed_orders_in calls + 1
failed_orders_in (Synced ∷ calls) = failed_orders_in calls
failed_orders_in (FailedRead ∷ calls) = failed_orders_in calls
failed_orders_in (FailedSync ∷ calls) = failed_orders_in calls + 1

-- the writes and syncs that succeeded
abbrev pub orders_in : List Call → List Order
orders_in [] = []
orders_in (Given sector bytes ∷ calls) = orders_in calls
orders_in (Written sector bytes ∷ calls) = order.Write sector bytes ∷ orders_in calls
orders_in (Refused sector bytes ∷ calls) = orders_in calls
orders_in (Synced ∷ calls) = order.Sync ∷ orders_in calls
orders_in (FailedRead ∷ calls) = orders_in calls
orders_in (FailedSync ∷ calls) = orders_in calls

abbrev pub file_state : (n : ℕ) → Fate n → List Call → DeviceState
file_state n fate calls = record {
  size = n;
  content = content_after fate calls;
  may_leave = MayLeave fate calls;
  moment = length calls;
  left_since = LeftSince fate calls;
  left_until = AtUntil (MayLeave fate) calls;
  unit = fate.unit;
  failures = failures_in calls;
  failed_orders = failed_orders_in calls;
  keeps_model = AreAnswers fate calls;
  kept_until = HoldsUntil (AreAnswers fate) calls;
  start = fate.content;
  told = orders_in calls;
  bears = λ n. ⊥;
}

-- the bytes of each write are a sector's
abbrev pub AreWhole : List Call → Type 0
AreWhole [] = Unit {0}
AreWhole (Written sector bytes ∷ calls) = AreSectorBytes bytes × AreWhole calls
AreWhole (Refused sector bytes ∷ calls) = AreSectorBytes bytes × AreWhole calls
AreWhole (call ∷ calls) = AreWhole calls

module _ {n : ℕ} (fate : Fate n) where
  pub size_after : (calls : List Call) → length (content_after fate calls) ≡ n
  size_after [] = fate.size
  size_after (Given sector bytes ∷ calls) = size_after calls
  size_after (Written sector bytes ∷ calls) = length-set (content_after fate calls) sector _ ∙ size_after calls
  size_after (Refused sector bytes ∷ calls) = size_after calls
  size_after (Synced ∷ calls) = size_after calls
  size_after (FailedRead ∷ calls) = size_after calls
  size_after (FailedSync ∷ calls) = size_after calls

  cells_after : (calls : List Call) → AreWhole calls → AllByRecursion IsSector (content_after fate calls)
  cells_after [] whole = fate.now
  cells_after (Given sector bytes ∷ calls) whole = cells_after calls whole
  cells_after (Written sector bytes ∷ calls) whole =
      all_set IsSector (content_after fate calls) sector (Some bytes) whole.0 (cells_after calls whole.1)
  cells_after (Refused sector bytes ∷ calls) whole = cells_after calls whole.1
  cells_after (Synced ∷ calls) whole = cells_after calls whole
  cells_after (FailedRead ∷ calls) whole = cells_after calls whole
  cells_after (FailedSync ∷ calls) whole = cells_after calls whole

  sizes_left : (calls : List Call) (c : List Cell) → MayLeave fate calls c → length c ≡ n
  sizes_left [] c left = fate.sizes c left
  sizes_left (Given sector bytes ∷ calls) c left = sizes_left calls c left
  sizes_left (Written sector bytes ∷ calls) c left = (let may = left.2 in may.size) ∙ sizes_left calls left.0 left.1
  sizes_left (Refused sector bytes ∷ calls) c left = (let may = left.2 in may.size) ∙ sizes_left calls left.0 left.1
  sizes_left (Synced ∷ calls) c left = ap (λ (l : List Cell). length l) left ∙ size_after calls
  sizes_left (FailedRead ∷ calls) c left = sizes_left calls c left
  sizes_left (FailedSync ∷ calls) c left = sizes_left calls c left

  cells_left : (calls : List Call) → AreWhole calls → (c : List Cell) → MayLeave fate calls c → AllByRecursion IsSector c
  cells_left [] whole c left = fate.cells c left
  cells_left (Given sector bytes ∷ calls) whole c left = cells_left calls whole c left
  cells_left (Written sector bytes ∷ calls) whole c left =
      unit_cells fate.unit sector bytes left.0 c whole.0 (cells_left calls whole.1 left.0 left.1) left.2
  cells_left (Refused sector bytes ∷ calls) whole c left =
      unit_cells fate.unit sector bytes left.0 c whole.0 (cells_left calls whole.1 left.0 left.1) left.2
  cells_left (Synced ∷ calls) whole c left = subst (AllByRecursion IsSector) (sym left) (cells_after calls whole)
  cells_left (FailedRead ∷ calls) whole c left = cells_left calls whole c left
  cells_left (FailedSync ∷ calls) whole c left = cells_left calls whole c left

  pub present_left : (calls : List Call) → MayLeave fate calls (content_after fate calls)
  present_left [] = fate.present
  present_left (Given sector bytes ∷ calls) = present_left calls
  present_left (Written sector bytes ∷ calls) =
      (content_after fate calls, present_left calls, to_unit fate.unit sector bytes _ _ (left_new refl))
  present_left (Refused sector bytes ∷ calls) = (
    content_after fate calls,
    present_left calls,
    to_unit fate.unit sector bytes _ _ (left_old refl),
  )
  present_left (Synced ∷ calls) = refl
  present_left (FailedRead ∷ calls) = present_left calls
  present_left (FailedSync ∷ calls) = present_left calls

-- those before a call were answers too
pub answered : {n : ℕ} (fate : Fate n) (call : Call) (calls : List Call) → AreAnswers fate (call ∷ calls) → AreAnswers fate calls
answered fate (Given sector bytes) calls are = are.0
answered fate (Written sector bytes) calls are = are
answered fate (Refused sector bytes) calls are = are
answered fate Synced calls are = are
answered fate FailedRead calls are = are
answered fate FailedSync calls are = are

pub file_lawful : (n : ℕ) (fate : Fate n) (calls : List Call) → n < 2 ^ 32 → AreWhole calls → IsLawful (file_state n fate calls)
file_lawful n fate calls fits whole = record {
  fits = fits;
  size = size_after fate calls;
  sizes = sizes_left fate calls;
  now = cells_after fate calls whole;
  cells = cells_left fate calls whole;
  present = λ keeps. present_left fate calls;
  counts_now = counts_at (MayLeave fate) calls;
  only_now = only_at (MayLeave fate) calls;
  kept_now = holds_end (AreAnswers fate) (answered fate) calls;
  kept_earlier = holds_earlier (AreAnswers fate) calls;
  until_now = λ t c le. until_end (MayLeave fate) calls t c;
  earlier = earlier_at (MayLeave fate) calls;
}
