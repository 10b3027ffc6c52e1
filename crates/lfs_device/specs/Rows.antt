-- What a stop leaves of the sectors that a memory device keeps.
use Rattle.std.specs.Prelude.{◌≡◌, ◌⊎◌, ℕ, ◌+◌, ◌≤◌, None, List, [], ◌∷◌, length, slice_index_or, drop, is_none, if◌then◌else◌, IsSome}
use Rattle.std.specs.List.{AllByRecursion}
use Rattle.lfs_model.specs.Device.{Cell, IsSector, cell_at}
use Rattle.lfs_device.specs.declared.rows.Row.{Row}
use Rattle.lfs_device.specs.declared.rows.Left.{Left}
use Rattle.lfs_device.specs.declared.rows.Left.TheVariants.{Old, New, Bad}
use Rattle.lfs_device.specs.declared.rows.Past.{Past, Start, Then'}
use Rattle.lfs_device.specs.declared.rows.Count.{Count, Zero, Next'}

-- a sector that holds this and is synced
abbrev pub stands_at : Cell → Row
stands_at cell = record { present = cell; synced = cell; written = None }

-- what is kept of a sector; what is none is synced and can't be read
abbrev pub row_at : List Row → ℕ → Row
row_at rows k = slice_index_or rows k (stands_at None)

-- some sector of the unit was written since the last sync, done or failed
abbrev pub IsTouched : (ℕ → ℕ) → List Row → ℕ → Type 0
IsTouched unit rows k = (j : ℕ) × (unit j ≡ unit k) × IsSome (row_at rows j).written

-- A stop leaves of a sector what it held at the last sync, what it holds, or, where its unit was touched since, nothing that can be read.
-- Where it was written itself, that may also be the bytes of the last write, or what a stop might have left before that write.
pub data CellLeft (row : Row) (Touched : Type 0) (Before : Cell → Type 0) (c : Cell) : Type 0 where
  left_synced : c ≡ row.synced → CellLeft row Touched Before c
  left_present : c ≡ row.present → CellLeft row Touched Before c
  left_spoilt : Touched → c ≡ None → CellLeft row Touched Before c
  left_written : IsSome row.written → c ≡ row.written → CellLeft row Touched Before c
  left_before : IsSome row.written → Before c → CellLeft row Touched Before c

-- what is kept of a sector is a sector's
pub record IsSectorRow (row : Row) : Type 0 where
  pub present : IsSector row.present
  pub synced : IsSector row.synced
  pub written : IsSector row.written

abbrev pub AreSectorRows : List Row → Type 0
AreSectorRows rows = AllByRecursion IsSectorRow rows

-- what a stop leaves of each sector of these rows
abbrev pub After : (ℕ → ℕ) → List Row → (ℕ → Cell → Type 0) → ℕ → Cell → Type 0
After unit rows Before k = CellLeft (row_at rows k) (IsTouched unit rows k) (Before k)

-- each sector by itself
pub record CanLeave (unit : ℕ → ℕ) (rows : List Row) (Before : ℕ → Cell → Type 0) (c : List Cell) : Type 0 where
  pub size : length c ≡ length rows
  pub each : (k : ℕ) → After unit rows Before k (cell_at c k)

-- and of each sector in the last of these states
abbrev pub PassedThrough : (ℕ → ℕ) → List (List Row) → ℕ → Cell → Type 0
PassedThrough unit [] k c = ⊥
PassedThrough unit (rows ∷ past) k c = CellLeft (row_at rows k) (IsTouched unit rows k) (PassedThrough unit past k) c

abbrev pub present_of : Row → Cell
present_of row = row.present

-- after a sync
abbrev pub settled : Row → Row
settled row = stands_at row.present

-- what a stop leaves of an unsynced sector
abbrev pub chosen : Left → Row → Cell
chosen Old row = row.synced
chosen New row = row.written
chosen Bad row = None

abbrev pub first_or : Left → List Left → Left
first_or rest [] = rest
first_or rest (choice ∷ choices) = choice

-- after a stop where units are sectors, with a choice for each unsynced sector in order, and one for those past the list
abbrev pub stopped : List Left → Left → List Row → List Row
stopped choices rest [] = []
stopped choices rest (row ∷ rows) =
    if is_none row.written
    then stands_at row.present ∷ stopped choices rest rows
    else stands_at (chosen (first_or rest choices) row) ∷ stopped (drop 1 choices) rest rows

-- the sector before units are spoilt: it stays unsynced where its choice is `Bad`
abbrev pub chosen_row : Left → Row → Row
chosen_row Old row = stands_at row.synced
chosen_row New row = stands_at row.written
chosen_row Bad row = row

abbrev pub chosen_rows : List Left → Left → List Row → List Row
chosen_rows choices rest [] = []
chosen_rows choices rest (row ∷ rows) =
    if is_none row.written
    then stands_at row.present ∷ chosen_rows choices rest rows
    else chosen_row (first_or rest choices) row ∷ chosen_rows (drop 1 choices) rest rows

-- a sector can't be read where its unit was touched, and is as it was elsewhere
abbrev pub IsSpoilt : (ℕ → ℕ) → List Row → ℕ → Row → Type 0
IsSpoilt unit rows k row =
    (IsTouched unit rows k × (row ≡ stands_at None)) ⊎ ((IsTouched unit rows k → ⊥) × (row ≡ row_at rows k))

-- each sector of each unit that was touched is spoilt
pub record AreSpoilt (unit : ℕ → ℕ) (old new : List Row) : Type 0 where
  pub size : length new ≡ length old
  pub each : (k : ℕ) → IsSpoilt unit old k (row_at new k)

-- the sectors of the unit of this one can't be read, and the others are as they were
pub record IsUnitLost (unit : ℕ → ℕ) (sector : ℕ) (old new : List Row) : Type 0 where
  pub size : length new ≡ length old
  pub own : (k : ℕ) → unit k ≡ unit sector → row_at new k ≡ stands_at None
  pub others : (k : ℕ) → (unit k ≡ unit sector → ⊥) → row_at new k ≡ row_at old k

-- the states before the present one, the last one first
abbrev pub states_of : Past → List (List Row)
states_of Start = []
states_of (Then' rows mark before) = rows.value.items ∷ states_of before

-- a stop in one of these states, from the t-th on, might have left the content
abbrev pub LeftIn : (ℕ → ℕ) → List (List Row) → ℕ → List Cell → Type 0
LeftIn unit [] t c = ⊥
LeftIn unit (rows ∷ past) t c = ((t ≤ length past) × CanLeave unit rows (PassedThrough unit past) c) ⊎ LeftIn unit past t c

-- and so one in a state from the t-th to the u-th
abbrev pub LeftBetween : (ℕ → ℕ) → List (List Row) → ℕ → ℕ → List Cell → Type 0
LeftBetween unit [] t u c = ⊥
LeftBetween unit (rows ∷ past) t u c =
    ((t ≤ length past) × (length past ≤ u) × CanLeave unit rows (PassedThrough unit past) c) ⊎ LeftBetween unit past t u c

abbrev pub count : Count → ℕ
count Zero = 0
count (Next' mark before) = count before + 1
