-- Which sectors of a memory device are unsynced.
use Rattle.std.specs.Prelude.{◌≡◌, ◌<◌, ◌≤◌, ◌+◌, ℕ, Bool, false, None, List, [], ◌∷◌, length, slice_index_or, is_none, nat_eq}
use Rattle.std.specs.Prelude.{if◌then◌else◌}
use Rattle.std.specs.List.{All, list_any}
use Rattle.std.proofs.Props.{props}
use Rattle.lfs_device.specs.Rows.{stands_at, settled}
use Rattle.lfs_device.specs.declared.rows.Row.{Row}

-- whether a number is among these
abbrev pub is_listed : ℕ → List ℕ → Bool
is_listed k listed = list_any (nat_eq k) listed

-- nothing was written to the k-th sector since the last sync; what is no sector is synced
abbrev pub IsSyncedAt : List Row → ℕ → Type 0
IsSyncedAt rows k = settled (slice_index_or rows k (stands_at None)) ≡ slice_index_or rows k (stands_at None)

-- of a sector, 1 where it was written since the last sync
abbrev pub written_once : Row → ℕ
written_once row = if is_none row.written then 0 else 1

-- how many sectors were
abbrev pub written_count : List Row → ℕ
written_count [] = 0
written_count (row ∷ rows) = written_once row + written_count rows

-- The sectors that aren't among these numbers are synced, and there are no more numbers than sectors that were written.
pub record IsUnsyncedList (listed : List ℕ) (rows : List Row) : Type 0 where
  pub within : All (λ s. s < length rows) listed
  pub others : (k : ℕ) → is_listed k listed ≡ false → IsSyncedAt rows k
  pub few : length listed ≤ written_count rows

pub IsUnsyncedList-prop : (listed : List ℕ) (rows : List Row) → IsProp (IsUnsyncedList listed rows)
IsUnsyncedList-prop listed rows = Prim.hlevel props
