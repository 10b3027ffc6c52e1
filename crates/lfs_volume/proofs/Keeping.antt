-- What calls of a device leave of the volume that was found on it.
use Rattle.std.proofs.Common.{◌≡◌, inl, inr, ◌⊎◌, ◌≤◌, ℕ, zero, suc, List, Some, None, false, ◌∙◌, ap, arith, subst}
use Rattle.std.proofs.lemmas.Bool.{cases_eq}
use Rattle.lfs_model.specs.Checkpoint.{checkpoint_in}
use Rattle.lfs_model.specs.Content.{Content, bytes_of, with_parity}
use Rattle.lfs_model.specs.Device.{AllLeft, Carries, Cell, CrashWritesUnit, DeviceState, IsUntouched, MayWriteUnit, cell_at}
use Rattle.lfs_model.proofs.Moments.{carries_none, carries_then}
use Rattle.lfs_places.specs.declared.Places.{Places}
use Rattle.lfs_places.specs.declared.Places.TheVariants.{New}
use Rattle.lfs_places.specs.Places.{least_size, place_of}
use Rattle.lfs_volume.specs.Finding.{found_places, holds_older, is_older}
use Rattle.lfs_volume.specs.Found.{IsFound, found_at}
use Rattle.lfs_volume.proofs.Slots.{none_older}

-- sector 1 is no part of a volume by the new places
beside_first : (sector : ℕ) → 1 ≡ place_of New sector → ⊥
beside_first zero e = omega (arith, e)
beside_first (suc zero) e = omega (arith, e)
beside_first (suc (suc k)) e = omega (arith, e)

-- so a write of the volume leaves it, or spoils it
apart_written : (unit : ℕ → ℕ) (sector : ℕ) (bytes : List ℕ) (b c : Content) → holds_older b 1 1 ≡ false
    → MayWriteUnit unit (place_of New sector) bytes b c → holds_older c 1 1 ≡ false
apart_written unit sector bytes b c before may = elim (cases_eq (unit 1) (unit (place_of New sector))) [
  | inl same ↦ go (may.beside 1 same (beside_first sector))
  | inr other ↦ go (inl (may.others 1 other))
]
  where
    go : (cell_at c 1 ≡ cell_at b 1) ⊎ (cell_at c 1 ≡ None) → holds_older c 1 1 ≡ false
    go (inl is) = ap (λ (x : Cell). is_older (with_parity 1 (checkpoint_in (bytes_of x)))) is ∙ before
    go (inr none) = none_older c 1 1 none

module _ {D : Type 0} (state : D → DeviceState) (places : Places) (held : D) where
  -- as it is found
  pub first_found : ((state held).keeps_model → found_places (state held).size (state held).content ≡ Some places)
      → (places ≡ New → (state held).keeps_model → AllLeft (state held) (λ c. holds_older c 1 1 ≡ false))
      → least_size places ≤ (state held).size → IsFound state (found_at places held held)
  first_found found apart size = record { size = size; found = found; apart = apart; carries = carries_none }

  module _ (old new : D) (is : IsFound state (found_at places old held)) (carries : Carries (state old) (state new)) where
    goes : (places ≡ New → (state new).keeps_model → AllLeft (state new) (λ c. holds_older c 1 1 ≡ false))
        → IsFound state (found_at places new held)
    goes apart = record { size = rw carries.size is.size; found = is.found; apart = apart; carries = carries_then is.carries carries }

    -- a call that writes nothing
    pub still_found : IsUntouched (state old) (state new) → IsFound state (found_at places new held)
    still_found same = goes (λ by_new keeps c left. is.apart by_new (carries.kept_before keeps) c (same.crash c left))

    -- a write of the volume
    pub found_written : (sector : ℕ) (bytes : List ℕ) → CrashWritesUnit (place_of places sector) bytes (state old) (state new)
        → IsFound state (found_at places new held)
    found_written sector bytes crash = goes (λ by_new keeps c left.
        let from = crash c left in
        apart_written (state old).unit sector bytes from.0 c (is.apart by_new (carries.kept_before keeps) from.0 from.1)
        (subst (λ (p : Places). MayWriteUnit (state old).unit (place_of p sector) bytes from.0 c) by_new from.2))
