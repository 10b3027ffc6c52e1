-- Runs: sectors that follow one another and go out together.
use Rattle.std.specs.Prelude.{◌≡◌, ℕ, zero, suc, ◌+◌, ◌-◌, ◌<◌, ◌≤◌, min, List, [], ◌∷◌, length, take, drop, slice_index_or}
use Rattle.std.proofs.Common.{ap}
use Rattle.std.proofs.Math.Nat.{ℕ_set}
use Rattle.std.proofs.Math.Bridge.{le_prop}
use mathlib.Core.List.{is_set}
use Rattle.lfs_device.specs.declared.unsent.TheConstants.{LONGEST_RUN}

-- the bytes of each, from the first on, and for how many more there is room before it; where there are none there is no run
pub record Run : Type 0 where
  pub first : ℕ
  pub sectors : List (List ℕ)
  pub ahead : ℕ

abbrev pub no_run : Run
no_run = record { first = 0; sectors = []; ahead = 1 }

abbrev pub IsEmpty : Run → Type 0
IsEmpty run = length run.sectors ≡ 0

-- a sector is one of the run's
pub record IsOf (run : Run) (sector : ℕ) : Type 0 where
  pub low : run.first ≤ sector
  pub high : sector < run.first + length run.sectors

-- and these are its bytes
abbrev pub bytes_of : Run → ℕ → List ℕ
bytes_of run sector = slice_index_or run.sectors (sector - run.first) []

-- a sector is one of the run's, or the one before them or behind them, and there is room for it
pub record GoesOn (run : Run) (sector : ℕ) : Type 0 where
  pub low : run.first ≤ sector + 1
  pub high : sector ≤ run.first + length run.sectors
  pub before : run.first ≤ sector + run.ahead
  pub behind : sector + run.ahead < run.first + LONGEST_RUN

-- A write of the sector goes on with the run. Where there is none, each begins one.
abbrev pub Takes : Run → ℕ → Type 0
Takes run sector = 0 < length run.sectors → GoesOn run sector

-- these bytes in the place of the k-th sector, or behind all
abbrev pub placed : ℕ → List ℕ → List (List ℕ) → List (List ℕ)
placed zero bytes [] = bytes ∷ []
placed zero bytes (old ∷ sectors) = bytes ∷ sectors
placed (suc k) bytes [] = []
placed (suc k) bytes (old ∷ sectors) = old ∷ placed k bytes sectors

abbrev pub first_of : ℕ → List (List ℕ) → ℕ → ℕ
first_of first [] sector = sector
first_of first (bytes ∷ sectors) sector = first

-- where the run begins, which this sector does where there is none
abbrev pub first_with : Run → ℕ → ℕ
first_with run sector = first_of run.first run.sectors sector

-- these bytes before all, for a sector before the first, or else in the place of the k-th
abbrev pub added : ℕ → ℕ → List ℕ → List (List ℕ) → List (List ℕ)
added zero k bytes sectors = placed k bytes sectors
added (suc before) k bytes sectors = bytes ∷ sectors

-- the run with these bytes in a sector that it takes
abbrev pub taken : Run → ℕ → List ℕ → Run
taken run sector bytes = record {
  first = min sector (first_with run sector);
  sectors = added (first_with run sector - sector) (sector - first_with run sector) bytes run.sectors;
  ahead = run.ahead - (first_with run sector - sector);
}

-- so many sectors of this length, one behind the other
abbrev pub sectors_in : ℕ → ℕ → List ℕ → List (List ℕ)
sectors_in len zero bytes = []
sectors_in len (suc count) bytes = take len bytes ∷ sectors_in len count (drop len bytes)

-- each fact has one proof
pub IsOf-prop : (run : Run) (sector : ℕ) → IsProp (IsOf run sector)
IsOf-prop run sector = hlevel (ℕ_set, le_prop)

pub GoesOn-prop : (run : Run) (sector : ℕ) → IsProp (GoesOn run sector)
GoesOn-prop run sector = hlevel (ℕ_set, le_prop)

pub Run-set : IsSet Run
Run-set a b p q = λ i j. record {
  first = ℕ_set a.first b.first (ap (λ (run : Run). run.first) p) (ap (λ (run : Run). run.first) q) i j;
  sectors = is_set (is_set ℕ_set) a.sectors b.sectors (ap (λ (run : Run). run.sectors) p) (ap (λ (run : Run). run.sectors) q) i j;
  ahead = ℕ_set a.ahead b.ahead (ap (λ (run : Run). run.ahead) p) (ap (λ (run : Run). run.ahead) q) i j;
}
