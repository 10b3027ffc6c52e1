-- That each cell of a content is a sector's, and its length.
use Rattle.std.proofs.Common.{◌≡◌, ℕ, zero, suc, ◌<◌, Some, None, List, [], ◌∷◌, length, replicate, sym, ◌∙◌, ap, subst, length-set, arith}
use Rattle.std.specs.Prelude.{slice_set, slice_index}
use Rattle.std.specs.List.{AllByRecursion}
use Rattle.std.proofs.Math.Nat.{ℕ_set}
use Rattle.std.proofs.Math.Bridge.{le_prop}
use Rattle.std.proofs.lemmas.List.{length-replicate}
use Rattle.lfs_model.specs.Device.{Cell, cell_at, MayWrite, left_old, left_new, left_bad, IsSector, AreSectorBytes}

pub bytes_prop : (bytes : List ℕ) → IsProp (AreSectorBytes bytes)
bytes_prop bytes = hlevel (ℕ_set, le_prop)

pub sector_prop : (x : Cell) → IsProp (IsSector x)
sector_prop None = hlevel
sector_prop (Some bytes) = bytes_prop bytes

pub all_same : {X : Type 0} (P : X → Type 0) (n : ℕ) (x : X) → P x → AllByRecursion P (replicate n x)
all_same P zero x has = tt
all_same P (suc n) x has = (has, all_same P n x has)

pub all_set : {X : Type 0} (P : X → Type 0) (xs : List X) (i : ℕ) (x : X) → P x → AllByRecursion P xs → AllByRecursion P (slice_set xs i x)
all_set P [] i x has all = tt
all_set P (y ∷ xs) zero x has all = (has, all.1)
all_set P (y ∷ xs) (suc i) x has all = (all.0, all_set P xs i x has all.1)

zero_at : (n i : ℕ) → slice_index (replicate n 0) i < 256
zero_at zero i = omega arith
zero_at (suc n) zero = omega arith
zero_at (suc n) (suc i) = zero_at n i

pub zeros_are_bytes : AreSectorBytes (replicate 512 0)
zeros_are_bytes = record { size = length-replicate {A = ℕ} 512 0; each = zero_at 512 }

-- the cell at a place is a sector's
pub sector_at : (content : List Cell) (k : ℕ) → AllByRecursion IsSector content → IsSector (cell_at content k)
sector_at [] k all = tt
sector_at (x ∷ content) zero all = all.0
sector_at (x ∷ content) (suc k) all = sector_at content k all.1

pub size_written : (sector : ℕ) (bytes : List ℕ) (d c : List Cell) → MayWrite sector bytes d c → length c ≡ length d
size_written sector bytes d c (left_old is) = ap (λ (l : List Cell). length l) is
size_written sector bytes d c (left_new is) = ap (λ (l : List Cell). length l) is ∙ length-set d sector _
size_written sector bytes d c (left_bad is) = ap (λ (l : List Cell). length l) is ∙ length-set d sector _

pub cells_written : (sector : ℕ) (bytes : List ℕ) (d c : List Cell) → AreSectorBytes bytes → AllByRecursion IsSector d
    → MayWrite sector bytes d c → AllByRecursion IsSector c
cells_written sector bytes d c has all (left_old is) = subst (AllByRecursion IsSector) (sym is) all
cells_written sector bytes d c has all (left_new is) =
    subst (AllByRecursion IsSector) (sym is) (all_set IsSector d sector (Some bytes) has all)
cells_written sector bytes d c has all (left_bad is) = subst (AllByRecursion IsSector) (sym is) (all_set IsSector d sector None tt all)
