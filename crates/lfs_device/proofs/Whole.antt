-- The rows of a memory device stay those of sectors.
use Rattle.std.proofs.Common.{◌≡◌, ◌<◌, ◌^◌, ℕ, zero, suc, List, [], ◌∷◌, length, map, replicate, sym, subst}
use Rattle.std.proofs.Common.{arith, length-set}
use Rattle.std.specs.Prelude.{slice_set, slice_index_or}
use Rattle.lfs_model.specs.Device.{Cell, IsSector}
use Rattle.lfs_model.proofs.Cells.{all_same, all_set}
use Rattle.lfs_device.specs.declared.rows.Row.{Row}
use Rattle.lfs_device.specs.Rows.{IsSectorRow, AreSectorRows, stands_at, settled}

pub whole_at : (x : Cell) → IsSector x → IsSectorRow (stands_at x)
whole_at x has = record { present = has; synced = has; written = tt }

pub whole_row : (rows : List Row) (s : ℕ) {row : Row} → row ≡ slice_index_or rows s row → AreSectorRows rows → s < length rows
    → IsSectorRow row
whole_row [] s is whole lt = absurd (omega arith)
whole_row (r ∷ rows) zero is whole lt = subst IsSectorRow (sym is) whole.0
whole_row (r ∷ rows) (suc s) {row} is whole lt = whole_row rows s is whole.1 (omega arith)

pub whole_set : (rows : List Row) (s : ℕ) (row : Row) → IsSectorRow row → AreSectorRows rows → AreSectorRows (slice_set rows s row)
whole_set rows s row has whole = all_set IsSectorRow rows s row has whole

whole_settled : (rows : List Row) → AreSectorRows rows → AreSectorRows (map settled rows)
whole_settled [] whole = tt
whole_settled (row ∷ rows) whole = (whole_at row.present whole.0.present, whole_settled rows whole.1)

pub whole_after_sync : (old : List Row) {new : List Row} → new ≡ map settled old → AreSectorRows old → AreSectorRows new
whole_after_sync old is whole = subst AreSectorRows (sym is) (whole_settled old whole)

pub whole_if_new : (n : ℕ) (x : Cell) {rows : List Row} → IsSector x → rows ≡ replicate n (stands_at x) → AreSectorRows rows
whole_if_new n x has is = subst AreSectorRows (sym is) (all_same IsSectorRow n (stands_at x) (whole_at x has))

pub fits_set : (rows : List Row) (s : ℕ) (row : Row) → length rows < 2 ^ 32 → length (slice_set rows s row) < 2 ^ 32
fits_set rows s row fits = omega (arith, fits, length-set rows s row)
