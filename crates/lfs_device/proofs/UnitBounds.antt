-- Where the units of a memory device begin and end.
use Rattle.std.proofs.Common.{◌≡◌, ◌<◌, ◌≤◌, ◌+◌, ◌-◌, ◌*◌, ◌/◌, ◌%◌, inl, inr, ℕ, zero, suc, ltb, refl, sym, ◌∙◌, ap, arith, div-one}
use Rattle.std.proofs.Common.{le-div_iff_mul-le, div-lt_iff_lt-mul, div-add-mod', add-mul, one-mul}
use Rattle.std.proofs.lemmas.Bool.{cases_lt, lt-ltb, le-ltb, cond-true, cond-false}
use Rattle.lfs_model.specs.Device.{AreSectors}
use Rattle.lfs_model.specs.UnitLaws.{unit_by}
use Rattle.lfs_device.specs.Units.{unit_from}

module _ (u f : ℕ) where
  below_first : (k : ℕ) → k < f → unit_from u f k ≡ k
  below_first k lt = cond-true (ltb k f) k (f + (k - f) / u) (lt-ltb k f lt)

  from_first : (k : ℕ) → f ≤ k → unit_from u f k ≡ f + (k - f) / u
  from_first k le = cond-false (ltb k f) k (f + (k - f) / u) (le-ltb k f le)

  -- From the sector f on, each unit lies between multiples of u.
  module _ (some : 0 < u) (s : ℕ) (le : f ≤ s) where
    pub begins : s - (s - f) % u ≡ f + (s - f) / u * u
    begins = let whole = div-add-mod' (s - f) u in omega (arith, whole, le)

    pub lies : (k : ℕ) → unit_from u f k ≡ unit_from u f s → (f + (s - f) / u * u ≤ k) × (k < f + (s - f) / u * u + u)
    lies k same = elim (cases_lt k f) [
      | inl low ↦ absurd (let a = below_first k low in let b = from_first s le in omega (arith, a, b, same, low))
      | inr high ↦
          let a = from_first k high in
          let b = from_first s le in
          let e : (k - f) / u ≡ (s - f) / u = omega (arith, a, b, same) in
          let from : (s - f) / u * u ≤ k - f = (le-div_iff_mul-le some).0 (omega (arith, e)) in
          let to : k - f < ((s - f) / u + 1) * u = (div-lt_iff_lt-mul some).0 (omega (arith, e)) in
          let times = add-mul ((s - f) / u) 1 u in
          let once = one-mul u in
          (omega (arith, from, high), omega (arith, to, times, once, high))
    ]

    pub lies_back : (k : ℕ) → f + (s - f) / u * u ≤ k → k < f + (s - f) / u * u + u → unit_from u f k ≡ unit_from u f s
    lies_back k from to =
        let times = add-mul ((s - f) / u) 1 u in
        let once = one-mul u in
        let high : f ≤ k = omega (arith, from) in
        let low : (s - f) / u ≤ (k - f) / u = (le-div_iff_mul-le some).1 (omega (arith, from)) in
        let top : (k - f) / u < (s - f) / u + 1 = (div-lt_iff_lt-mul some).1 (omega (arith, to, times, once)) in
        let a = from_first k high in
        let b = from_first s le in
        omega (arith, a, b, low, top)

-- units of one sector
pub one_is : (f k : ℕ) → unit_from 1 f k ≡ k
one_is f k = elim (cases_lt k f) [
  | inl low ↦ below_first 1 f k low
  | inr high ↦ (let a = from_first 1 f k high in let b = div-one (k - f) in omega (arith, a, b, high))
]

pub are_sectors : (f : ℕ) → AreSectors (unit_from 1 f)
are_sectors f j k same = sym (one_is f j) ∙ same ∙ one_is f k

-- the units of a volume
pub unit_from_two : (u k : ℕ) → unit_from u 2 k ≡ unit_by u k
unit_from_two u zero = refl
unit_from_two u (suc zero) = refl
unit_from_two u (suc (suc k)) =
    from_first u 2 (suc (suc k)) (omega arith) ∙ ap (λ (n : ℕ). 2 + n / u) (let e : suc (suc k) - 2 ≡ k = omega arith in e)
