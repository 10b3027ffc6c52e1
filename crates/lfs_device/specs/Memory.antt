-- A memory device as contracts see it.
use Rattle.std.specs.Prelude.{◌≡◌, ◌⊎◌, ℕ, zero, suc, ◌^◌, ◌<◌, ◌≤◌, None, List, [], ◌∷◌, length, slice_index_or, map, refl}
use Rattle.std.specs.List.{AllByRecursion, AllByRecursion-prop}
use Rattle.std.proofs.Common.{inl, inr, sym, subst, arith}
use Rattle.std.proofs.lemmas.List.{length-map}
use Rattle.lfs_model.specs.Device.{Cell, DeviceState, IsSector, IsLawful, cell_at}
use Rattle.lfs_model.specs.declared.Order.{Order}
use Rattle.lfs_model.proofs.Cells.{sector_prop}
use Rattle.lfs_device.specs.Bench.{HasNoFault}
use Rattle.lfs_device.specs.declared.bench.Bench.{Bench}
use Rattle.lfs_device.specs.declared.rows.Row.{Row}
use Rattle.lfs_device.specs.declared.rows.Count.{Count}
use Rattle.lfs_device.specs.Rows.{IsSectorRow, AreSectorRows, row_at, CellLeft, CanLeave, PassedThrough}
use Rattle.lfs_device.specs.Rows.{present_of, LeftBetween, LeftIn, count}
use Rattle.lfs_device.specs.Rows.{left_synced, left_present, left_spoilt, left_written, left_before}

-- the first of these states
abbrev pub first_of : List Row → List (List Row) → List Row
first_of rows [] = rows
first_of rows (before ∷ past) = first_of before past

abbrev pub memory_state : (ℕ → ℕ) → List Row → List (List Row) → Count → Count → List Order → Bench → DeviceState
memory_state unit rows past failed failed_orders told bench = record {
  size = length rows;
  content = map present_of rows;
  may_leave = CanLeave unit rows (PassedThrough unit past);
  moment = length past;
  left_since = λ t c. CanLeave unit rows (PassedThrough unit past) c ⊎ LeftIn unit past t c;
  left_until = LeftBetween unit (rows ∷ past);
  unit = unit;
  failures = count failed;
  failed_orders = count failed_orders;
  keeps_model = Unit {0};
  kept_until = λ u. Unit {0};
  start = map present_of (first_of rows past);
  told = told;
  bears = λ n. HasNoFault bench;
}

-- the content, sector by sector
pub present_at : (rows : List Row) (k : ℕ) → cell_at (map present_of rows) k ≡ (row_at rows k).present
present_at [] k = refl
present_at (row ∷ rows) zero = refl
present_at (row ∷ rows) (suc k) = present_at rows k

pub present : (unit : ℕ → ℕ) (rows : List Row) (Before : ℕ → Cell → Type 0) → CanLeave unit rows Before (map present_of rows)
present unit rows Before = record { size = length-map rows present_of; each = λ k. left_present (present_at rows k) }

-- what holds at each place, holds of each
pub all_at : {X : Type 0} (P : X → Type 0) (xs : List X) (d : X) → ((k : ℕ) → P (slice_index_or xs k d)) → AllByRecursion P xs
all_at P [] d each = tt
all_at P (x ∷ xs) d each = (each 0, all_at P xs d (λ k. each (suc k)))

-- the states before now come to an end
ended : (unit : ℕ → ℕ) (past : List (List Row)) (t : ℕ) (c : List Cell) → LeftIn unit past t c → t < length past
ended unit [] t c left = absurd left
ended unit (rows ∷ past) t c (inl here) = omega (arith, here.0)
ended unit (rows ∷ past) t c (inr there) = omega (arith, ended unit past t c there)

cells_now : (rows : List Row) → AreSectorRows rows → AllByRecursion IsSector (map present_of rows)
cells_now [] whole = tt
cells_now (row ∷ rows) whole = (whole.0.present, cells_now rows whole.1)

pub cell_left : {row : Row} {Touched : Type 0} {Before : Cell → Type 0} (x : Cell) → IsSectorRow row → (Before x → IsSector x)
    → CellLeft row Touched Before x → IsSector x
cell_left x whole are (left_synced is) = subst IsSector (sym is) whole.synced
cell_left x whole are (left_present is) = subst IsSector (sym is) whole.present
cell_left x whole are (left_spoilt touched is) = subst IsSector (sym is) tt
cell_left x whole are (left_written some is) = subst IsSector (sym is) whole.written
cell_left x whole are (left_before some before) = are before

pub whole_at : (rows : List Row) (k : ℕ) → AreSectorRows rows → IsSectorRow (row_at rows k)
whole_at [] k whole = record { present = tt; synced = tt; written = tt }
whole_at (row ∷ rows) zero whole = whole.0
whole_at (row ∷ rows) (suc k) whole = whole_at rows k whole.1

cells_reached : (unit : ℕ → ℕ) (past : List (List Row)) → AllByRecursion AreSectorRows past → (k : ℕ) (x : Cell)
    → PassedThrough unit past k x → IsSector x
cells_reached unit [] whole k x reached = absurd reached
cells_reached unit (rows ∷ past) whole k x reached = cell_left x (whole_at rows k whole.0) (cells_reached unit past whole.1 k x) reached

cells_left : (unit : ℕ → ℕ) (rows : List Row) (past : List (List Row)) → AreSectorRows rows → AllByRecursion AreSectorRows past
    → (c : List Cell) → CanLeave unit rows (PassedThrough unit past) c → AllByRecursion IsSector c
cells_left unit rows past whole were_whole c left =
    all_at IsSector c None (λ k.
    cell_left (cell_at c k) (whole_at rows k whole) (cells_reached unit past were_whole k (cell_at c k)) (left.each k))

pub AreWhole-prop : (rows : List Row) → IsProp (AreSectorRows rows)
AreWhole-prop rows = AllByRecursion-prop IsSectorRow (λ row. Prim.hlevel (sector_prop)) rows

pub AreAllWhole-prop : (past : List (List Row)) → IsProp (AllByRecursion AreSectorRows past)
AreAllWhole-prop past = AllByRecursion-prop AreSectorRows AreWhole-prop past

earlier_memory : (unit : ℕ → ℕ) (past : List (List Row)) (t u : ℕ) (c : List Cell) → t ≤ u → LeftIn unit past u c → LeftIn unit past t c
earlier_memory unit [] t u c le left = left
earlier_memory unit (rows ∷ past) t u c le (inl now) = inl ((let was = now.0 in omega (arith, le, was)), now.1)
earlier_memory unit (rows ∷ past) t u c le (inr then') = inr (earlier_memory unit past t u c le then')

-- what a stop might have left up to now
between_in : (unit : ℕ → ℕ) (past : List (List Row)) (t u : ℕ) (c : List Cell) → LeftBetween unit past t u c → LeftIn unit past t c
between_in unit [] t u c left = absurd left
between_in unit (rows ∷ past) t u c (inl here) = inl (here.0, here.2)
between_in unit (rows ∷ past) t u c (inr there) = inr (between_in unit past t u c there)

in_between : (unit : ℕ → ℕ) (past : List (List Row)) (t u : ℕ) (c : List Cell) → length past ≤ u → LeftIn unit past t c
    → LeftBetween unit past t u c
in_between unit [] t u c le left = absurd left
in_between unit (rows ∷ past) t u c le (inl here) = inl (here.0, omega (arith, le), here.1)
in_between unit (rows ∷ past) t u c le (inr there) = inr (in_between unit past t u c (omega (arith, le)) there)

between_now : (unit : ℕ → ℕ) (rows : List Row) (past : List (List Row)) (t : ℕ) (c : List Cell)
    → LeftBetween unit (rows ∷ past) t (length past) c → CanLeave unit rows (PassedThrough unit past) c ⊎ LeftIn unit past t c
between_now unit rows past t c (inl here) = inl here.2
between_now unit rows past t c (inr there) = inr (between_in unit past t (length past) c there)

now_between : (unit : ℕ → ℕ) (rows : List Row) (past : List (List Row)) (t : ℕ) (c : List Cell) → t ≤ length past
    → CanLeave unit rows (PassedThrough unit past) c ⊎ LeftIn unit past t c → LeftBetween unit (rows ∷ past) t (length past) c
now_between unit rows past t c le (inl here) = inl (le, omega arith, here)
now_between unit rows past t c le (inr there) = inr (in_between unit past t (length past) c (omega arith) there)

pub memory_lawful : (unit : ℕ → ℕ) (rows : List Row) (past : List (List Row)) (failed failed_orders : Count) (told : List Order)
    (bench : Bench) → length rows < 2 ^ 32
    → AreSectorRows rows → AllByRecursion AreSectorRows past → IsLawful (memory_state unit rows past failed failed_orders told bench)
memory_lawful unit rows past failed failed_orders told bench fits whole were_whole = record {
  fits = fits;
  size = length-map rows present_of;
  sizes = λ c left. left.size;
  now = cells_now rows whole;
  cells = cells_left unit rows past whole were_whole;
  present = λ kept. present unit rows (PassedThrough unit past);
  counts_now = λ t c le now. inl now;
  only_now = λ c left. elim left
      [ inl now ↦ now | inr was ↦ (let late : length past < length past = ended unit past (length past) c was in absurd (omega arith)) ];
  kept_now = (λ kept. kept, λ keeps. keeps);
  kept_earlier = λ t u le kept. kept;
  until_now = λ t c le. (between_now unit rows past t c, now_between unit rows past t c le);
  earlier = λ t u c le left. elim left [ inl now ↦ inl now | inr was ↦ inr (earlier_memory unit past t u c le was) ];
}
