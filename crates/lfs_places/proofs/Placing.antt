-- Where the sectors of a volume stand, and what writes to a device make of what a volume has of it.
use Rattle.std.proofs.Common.{◌≡◌, inl, inr, ◌<◌, ◌≤◌, ℕ, zero, suc, List, length, Some, None, sym, ◌∙◌}
use Rattle.std.proofs.Common.{ap, arith, length-set, get_or-set_same, get_or-set_other}
use Rattle.std.proofs.lemmas.Bool.{cases_eq}
use Rattle.std.proofs.lemmas.List.{ext_get_or}
use Rattle.lfs_model.specs.Content.{Content}
use Rattle.lfs_model.specs.Device.{MayWriteUnit, cell_at, put}
use Rattle.lfs_places.specs.declared.Places.{Places}
use Rattle.lfs_places.specs.declared.Places.TheVariants.{Old, New}
use Rattle.lfs_places.specs.Lawful.{cells_stand, one_place, sizes_stand}
use Rattle.lfs_places.specs.Places.{least_size, place_of, volume_content, volume_size}

module _ (places : Places) where
  -- no two sectors stand at one place
  pub apart : (j k : ℕ) → (j ≡ k → ⊥) → place_of places j ≡ place_of places k → ⊥
  apart j k ne same = ne (one_place places j k same)

pub place_inside : (places : Places) (sector size : ℕ) → least_size places ≤ size → sector < volume_size places size
    → place_of places sector < size
place_inside Old sector size least inside = inside
place_inside New zero size least inside = omega (arith, least)
place_inside New (suc zero) size least inside = omega (arith, least)
place_inside New (suc (suc k)) size least inside = omega (arith, least, inside)

module _ (places : Places) (sector : ℕ) (bytes : List ℕ) where
  -- a write
  module _ (old : Content) (least : least_size places ≤ length old) (inside : sector < volume_size places (length old)) where
    put_cell : (k : ℕ) → cell_at (volume_content places (put old (place_of places sector) bytes)) k
        ≡ cell_at (put (volume_content places old) sector bytes) k
    put_cell k = cells_stand places (put old (place_of places sector) bytes) k ∙ elim (cases_eq k sector) [
      | inl e ↦ ap (λ (j : ℕ). cell_at (put old (place_of places sector) bytes) (place_of places j)) e
          ∙ get_or-set_same old (place_of places sector) (Some bytes) None (place_inside places sector (length old) least inside)
          ∙ sym (get_or-set_same (volume_content places old) sector (Some bytes) None
          (let size = sizes_stand places old in omega (arith, size, inside)))
          ∙ sym (ap (λ (j : ℕ). cell_at (put (volume_content places old) sector bytes) j) e)
      | inr ne ↦ get_or-set_other old (place_of places sector) (place_of places k) (Some bytes) None (apart places k sector ne)
          ∙ sym (cells_stand places old k)
          ∙ sym (get_or-set_other (volume_content places old) sector k (Some bytes) None ne)
    ]

    pub put_placed : volume_content places (put old (place_of places sector) bytes) ≡ put (volume_content places old) sector bytes
    put_placed = ext_get_or None _ _
        (sizes_stand places (put old (place_of places sector) bytes)
        ∙ ap (volume_size places) (length-set old (place_of places sector) (Some bytes)) ∙ sym (sizes_stand places old)
        ∙ sym (length-set (volume_content places old) sector (Some bytes)))
        (λ k lt. put_cell k)

  -- what a stop within it, or one that fails, may make of it
  pub may_placed : (unit : ℕ → ℕ) (old new : Content) → MayWriteUnit unit (place_of places sector) bytes old new
      → MayWriteUnit (λ k. unit (place_of places k)) sector bytes (volume_content places old) (volume_content places new)
  may_placed unit old new may = record {
    size = sizes_stand places new ∙ ap (volume_size places) may.size ∙ sym (sizes_stand places old);
    own = elim may.own [
      | inl is ↦ inl (same sector is)
      | inr (inl is) ↦ inr (inl (cells_stand places new sector ∙ is))
      | inr (inr is) ↦ inr (inr (cells_stand places new sector ∙ is))
    ];
    beside = λ k e ne. elim (may.beside (place_of places k) e (apart places k sector ne)) [
      | inl is ↦ inl (same k is)
      | inr is ↦ inr (cells_stand places new k ∙ is)
    ];
    others = λ k ne. same k (may.others (place_of places k) ne);
  }
    where
      same : (k : ℕ) → cell_at new (place_of places k) ≡ cell_at old (place_of places k)
          → cell_at (volume_content places new) k ≡ cell_at (volume_content places old) k
      same k is = cells_stand places new k ∙ is ∙ sym (cells_stand places old k)
