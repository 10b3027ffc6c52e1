-- Units of the device lie within those of the volume.
use Rattle.std.proofs.Common.{◌≡◌, inl, inr, ◌<◌, ◌+◌, ◌*◌, ◌/◌, ℕ, zero, suc, refl, sym, ◌∙◌, ap, arith}
use Rattle.std.proofs.lemmas.Bool.{cases_lt}
use Rattle.std.proofs.Math.Nat.{div-div-eq-div-mul, div-eq_of_eq-mul_right, mul-add, mul-add-div, zero-div}
use Rattle.lfs_model.specs.UnitLaws.{unit_by}
use Rattle.lfs_places.specs.declared.Places.TheVariants.{New}
use Rattle.lfs_places.specs.Places.{place_of}
use Rattle.lfs_places.specs.PlaceLaws.{DeviceUnits, PlacedUnits}

module _ (p g h : ℕ) (some : 0 < p) (fills : 128 ≡ p * h) where
  far : 0 < h
  far = elim (cases_lt 0 h) [
    | inl lt ↦ lt
    | inr le ↦ (let none : h ≡ 0 = omega (arith, le) in
        let z : 128 ≡ p * 0 = fills ∙ ap (λ (n : ℕ). p * n) none in
        absurd (omega (arith, z)))
  ]

  first_unit : 0 / p ≡ 0
  first_unit = zero-div p

  second_unit : 128 / p ≡ h
  second_unit = div-eq_of_eq-mul_right some fills

  segment_unit : (k : ℕ) → (256 + k) / p ≡ h + h + k / p
  segment_unit k =
      ap (λ (n : ℕ). n / p) (let two = mul-add p h h in let r : 256 + k ≡ p * (h + h) + k = omega (arith, two, fills) in r)
      ∙ mul-add-div some (h + h) k

  same_units : (a b : ℕ) → place_of New a / p ≡ place_of New b / p → unit_by (p * g) a ≡ unit_by (p * g) b
  same_units zero zero e = refl
  same_units zero (suc zero) e = absurd (omega (arith, e, first_unit, second_unit, far))
  same_units zero (suc (suc k)) e = absurd (let t = segment_unit k in omega (arith, e, first_unit, t, far))
  same_units (suc zero) zero e = absurd (omega (arith, e, first_unit, second_unit, far))
  same_units (suc zero) (suc zero) e = refl
  same_units (suc zero) (suc (suc k)) e = absurd (let t = segment_unit k in omega (arith, e, second_unit, t, far))
  same_units (suc (suc j)) zero e = absurd (let t = segment_unit j in omega (arith, e, first_unit, t, far))
  same_units (suc (suc j)) (suc zero) e = absurd (let t = segment_unit j in omega (arith, e, second_unit, t, far))
  same_units (suc (suc j)) (suc (suc k)) e =
      let t = segment_unit j in
      let t' = segment_unit k in
      let same : j / p ≡ k / p = omega (arith, e, t, t') in
      ap (λ (n : ℕ). 2 + n) (sym (div-div-eq-div-mul j p g) ∙ ap (λ (n : ℕ). n / g) same ∙ div-div-eq-div-mul k p g)

pub device_units : DeviceUnits
device_units p u g h some is fills a b e =
    ap (λ (n : ℕ). unit_by n a) is ∙ same_units p g h some fills a b e ∙ sym (ap (λ (n : ℕ). unit_by n b) is)

pub placed_units : PlacedUnits
placed_units p u g h some is fills unit within a b same =
    device_units p u g h some is fills a b (within (place_of New a) (place_of New b) same)
