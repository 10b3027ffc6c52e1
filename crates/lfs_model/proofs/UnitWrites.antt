-- Units of several sectors.
use Rattle.std.proofs.Common.{◌≡◌, ◌⊎◌, inl, inr, ◌<◌, ◌≤◌, ◌+◌, ◌-◌, ◌*◌, ◌/◌, ℕ, zero, suc, List}
use Rattle.std.proofs.Common.{[], ◌∷◌, length, set, Some, None, refl, sym, ◌∙◌}
use Rattle.std.proofs.Common.{ap, ap₂, subst, arith, length-set, get_or-set_same, get_or-set_other}
use Rattle.std.specs.List.{AllByRecursion}
use Rattle.std.proofs.lemmas.Bool.{cases_eq, cases_lt}
use Rattle.std.proofs.lemmas.List.{ext_get_or}
use Rattle.std.proofs.Math.Nat.{le-div_iff_mul-le, add-mul, mul_assoc}
use Rattle.lfs_model.specs.Checkpoint.{CheckpointValue, checkpoint_in}
use Rattle.lfs_model.specs.Content.{Content, bytes_of, newest, newer, with_parity}
use Rattle.lfs_model.specs.Device.{AreSectorBytes, Cell}
use Rattle.lfs_model.specs.Device.{LieWithin, IsSector, MayWrite, MayWriteUnit}
use Rattle.lfs_model.specs.Device.{cell_at, left_bad, left_new, left_old, put}
use Rattle.lfs_model.specs.Reach.{view, segment_start}
use Rattle.lfs_model.specs.Stands.{LogMap, StandsLog, Protected, used_in}
use Rattle.lfs_model.specs.Crash.{Keeps, IsFreeSector}
use Rattle.lfs_model.specs.UnitLaws.{unit_by, UnitOfOne, UnitsWithin, CrashWithin, CrashOfSectors, FreeUnitWrites, AlignedFree}
use Rattle.lfs_model.proofs.Cells.{sector_at}
use Rattle.lfs_model.proofs.Crash.{free_writes}

-- past the end there is nothing
past_end : (c : List Cell) (k : ℕ) → length c ≤ k → cell_at c k ≡ None
past_end [] k le = refl
past_end (x ∷ c) zero le = absurd (omega (arith, le))
past_end (x ∷ c) (suc k) le = past_end c k (omega (arith, le))

-- a sector that is a unit by itself
module _ (unit : ℕ → ℕ) (sector : ℕ) (alone : (k : ℕ) → unit k ≡ unit sector → k ≡ sector) (bytes : List ℕ) (old new : List Cell) where
  same_elsewhere : MayWriteUnit unit sector bytes old new → (k : ℕ) → (k ≡ sector → ⊥) → cell_at new k ≡ cell_at old k
  same_elsewhere may k ne = may.others k (λ e. ne (alone k e))

  as_it_was : MayWriteUnit unit sector bytes old new → cell_at new sector ≡ cell_at old sector → new ≡ old
  as_it_was may is = ext_get_or None new old may.size
      (λ i lt. elim (cases_eq i sector) [
        | inl e ↦ ap (λ (j : ℕ). cell_at new j) e ∙ is ∙ sym (ap (λ (j : ℕ). cell_at old j) e)
        | inr ne ↦ same_elsewhere may i ne
      ])

  with_cell : MayWriteUnit unit sector bytes old new → sector < length old → (x : Cell) → cell_at new sector ≡ x → new ≡ set old sector x
  with_cell may inside x is = ext_get_or None new (set old sector x) (may.size ∙ sym (length-set old sector x))
      (λ i lt. elim (cases_eq i sector) [
        | inl e ↦ ap (λ (j : ℕ). cell_at new j) e ∙ is ∙ sym (get_or-set_same old sector x None inside)
            ∙ sym (ap (λ (j : ℕ). cell_at (set old sector x) j) e)
        | inr ne ↦ same_elsewhere may i ne ∙ sym (get_or-set_other old sector i x None ne)
      ])

  -- a sector past the end is as it was
  pub to_sector : MayWriteUnit unit sector bytes old new → MayWrite sector bytes old new
  to_sector may = elim (cases_lt sector (length old)) [
    | inl inside ↦ elim may.own [
      | inl is ↦ left_old (as_it_was may is)
      | inr (inl is) ↦ left_new (with_cell may inside (Some bytes) is)
      | inr (inr is) ↦ left_bad (with_cell may inside None is)
    ]
    | inr past ↦ left_old (as_it_was may
        (past_end new sector (let size = may.size in omega (arith, size, past)) ∙ sym (past_end old sector past)))
  ]

-- a write to a sector alone is one whatever the units are
module _ (unit : ℕ → ℕ) (sector : ℕ) (bytes : List ℕ) (old new : List Cell) where
  set_elsewhere : (x : Cell) → new ≡ set old sector x → (k : ℕ) → (k ≡ sector → ⊥) → cell_at new k ≡ cell_at old k
  set_elsewhere x is k ne = ap (λ (l : List Cell). cell_at l k) is ∙ get_or-set_other old sector k x None ne

  set_own : (x : Cell) → new ≡ set old sector x → (cell_at new sector ≡ cell_at old sector) ⊎ (cell_at new sector ≡ x)
  set_own x is = elim (cases_lt sector (length old)) [
    | inl inside ↦ inr (ap (λ (l : List Cell). cell_at l sector) is ∙ get_or-set_same old sector x None inside)
    | inr past ↦ inl (past_end new sector
        (let size = ap (λ (l : List Cell). length l) is in let same = length-set old sector x in omega (arith, size, same, past))
        ∙ sym (past_end old sector past))
  ]

  pub to_unit : MayWrite sector bytes old new → MayWriteUnit unit sector bytes old new
  to_unit (left_old is) = record {
    size = ap (λ (l : List Cell). length l) is;
    own = inl (ap (λ (l : List Cell). cell_at l sector) is);
    beside = λ k e ne. inl (ap (λ (l : List Cell). cell_at l k) is);
    others = λ k ne. ap (λ (l : List Cell). cell_at l k) is;
  }
  to_unit (left_new is) = record {
    size = ap (λ (l : List Cell). length l) is ∙ length-set old sector _;
    own = elim (set_own (Some bytes) is) [ inl same ↦ inl same | inr new ↦ inr (inl new) ];
    beside = λ k e ne. inl (set_elsewhere (Some bytes) is k ne);
    others = λ k ne. set_elsewhere (Some bytes) is k (λ e. ne (ap unit e));
  }
  to_unit (left_bad is) = record {
    size = ap (λ (l : List Cell). length l) is ∙ length-set old sector _;
    own = elim (set_own None is) [ inl same ↦ inl same | inr bad ↦ inr (inr bad) ];
    beside = λ k e ne. inl (set_elsewhere None is k ne);
    others = λ k ne. set_elsewhere None is k (λ e. ne (ap unit e));
  }

-- each cell is a sector's
all_cells : (c : List Cell) → ((k : ℕ) → IsSector (cell_at c k)) → AllByRecursion IsSector c
all_cells [] each = tt
all_cells (x ∷ c) each = (each 0, all_cells c (λ k. each (suc k)))

pub unit_cells : (unit : ℕ → ℕ) (sector : ℕ) (bytes : List ℕ) (d c : List Cell) → AreSectorBytes bytes → AllByRecursion IsSector d
    → MayWriteUnit unit sector bytes d c → AllByRecursion IsSector c
unit_cells unit sector bytes d c has all may = all_cells c each
  where
    was : (k : ℕ) → cell_at c k ≡ cell_at d k → IsSector (cell_at c k)
    was k is = subst IsSector (sym is) (sector_at d k all)

    each : (k : ℕ) → IsSector (cell_at c k)
    each k = elim (cases_eq k sector) [
      | inl e ↦ subst (λ (j : ℕ). IsSector (cell_at c j)) (sym e) (elim may.own [
        | inl is ↦ was sector is
        | inr (inl is) ↦ subst IsSector (sym is) has
        | inr (inr is) ↦ subst IsSector (sym is) tt
      ])
      | inr ne ↦ elim (cases_eq (unit k) (unit sector)) [
        | inl same ↦ elim (may.beside k same ne) [ inl is ↦ was k is | inr is ↦ subst IsSector (sym is) tt ]
        | inr other ↦ was k (may.others k other)
      ]
    ]

pub unit_of_one : UnitOfOne
unit_of_one unit sector alone bytes old new = (to_sector unit sector alone bytes old new, to_unit unit sector bytes old new)

pub units_within : UnitsWithin
units_within unit within lie sector bytes old new may = record {
  size = may.size;
  own = may.own;
  beside = λ k e ne. elim (cases_eq (unit k) (unit sector)) [
    | inl same ↦ may.beside k same ne
    | inr other ↦ inl (may.others k other)
  ];
  others = λ k ne. may.others k (λ e. ne (lie k sector e));
}

pub crash_within : CrashWithin
crash_within unit old new sector bytes same crash c left =
    let lie : LieWithin old.unit unit = subst (λ (u : ℕ → ℕ). LieWithin u unit) same left.0 in
    let from = crash c left.1 in
    (from.0, (lie, from.1), units_within old.unit unit lie sector bytes from.0 c from.2)

pub crash_of_sectors : CrashOfSectors
crash_of_sectors old new sector bytes sectors crash c left =
    let from = crash c left in
    (from.0, from.1, to_sector old.unit sector (λ k e. sectors k sector e) bytes from.0 c from.2)

-- ---- what the acknowledged checkpoint needs
newest_by : (c d : Content) → cell_at d 0 ≡ cell_at c 0 → cell_at d 1 ≡ cell_at c 1 → newest d ≡ newest c
newest_by c d first second =
    ap₂ (λ (x y : Cell). newer (with_parity 0 (checkpoint_in (bytes_of x))) (with_parity 1 (checkpoint_in (bytes_of y)))) first second

module _ (c : Content) (m : LogMap) (s : StandsLog c m) where
  itself : Keeps c s.checkpoint c
  itself = record { size = refl; newest = s.newest; same = λ at protected. refl }

  -- else a write of two contents would be the same
  unprotected : (p : ℕ) → IsFreeSector c s.checkpoint p → Protected (view c s.checkpoint) p → ⊥
  unprotected p free protected =
      let size = s.stands.holds.size in
      let is = free.is in
      let within = free.within in
      let below = free.below in
      let inside : p < length c = omega (arith, size, is, within, below) in
      let one : Keeps c s.checkpoint (put c p []) = free_writes c m s p [] free c (put c p []) itself (left_new refl) in
      let two : Keeps c s.checkpoint (put c p (0 ∷ [])) = free_writes c m s p (0 ∷ []) free c (put c p (0 ∷ [])) itself (left_new refl) in
      let a : cell_at (put c p []) p ≡ cell_at c p = one.same p protected in
      let b : cell_at (put c p (0 ∷ [])) p ≡ cell_at c p = two.same p protected in
      let a' : cell_at (put c p []) p ≡ Some [] = get_or-set_same c p (Some []) None inside in
      let b' : cell_at (put c p (0 ∷ [])) p ≡ Some (0 ∷ []) = get_or-set_same c p (Some (0 ∷ [])) None inside in
      let bad = sym a' ∙ a ∙ sym b ∙ b' in
      cc

  module _ (unit : ℕ → ℕ) (at : ℕ) (bytes : List ℕ) (free : (j : ℕ) → unit j ≡ unit at → IsFreeSector c s.checkpoint j) (d d' : Content)
      (keeps : Keeps c s.checkpoint d) (may : MayWriteUnit unit at bytes d d') where
    slot_elsewhere : (p : ℕ) → p < 2 → unit p ≡ unit at → ⊥
    slot_elsewhere p low e = let f = free p e in let is = f.is in omega (arith, is, low)

    pub unit_keeps : Keeps c s.checkpoint d'
    unit_keeps = record {
      size = may.size ∙ keeps.size;
      newest = newest_by d d' (may.others 0 (slot_elsewhere 0 (omega arith))) (may.others 1 (slot_elsewhere 1 (omega arith))) ∙
          keeps.newest;
      same = λ p protected. elim (cases_eq (unit p) (unit at)) [
        | inl e ↦ absurd (unprotected p (free p e) protected)
        | inr ne ↦ may.others p ne ∙ keeps.same p protected
      ];
    }

pub free_unit_writes : FreeUnitWrites
free_unit_writes unit c m s at bytes free d d' keeps may = unit_keeps c m s unit at bytes free d d' keeps may

-- ---- units behind a used part
unit_above : (u x : ℕ) → unit_by u (2 + x) ≡ 2 + x / u
unit_above u x = ap (unit_by u) (let e : 2 + x ≡ suc (suc x) = omega arith in e)

-- where a stretch begins and ends on unit boundaries, so does the unit of each sector of it lie within
within_units : (u f e at j : ℕ) → 0 < u → f * u ≤ at → at < e * u → j / u ≡ at / u → (f * u ≤ j) × (j < e * u)
within_units u f e at j some low high same = (low_too, high_too)
  where
    low_too : f * u ≤ j
    low_too = (le-div_iff_mul-le some).0 (let q = (le-div_iff_mul-le some).1 low in omega (arith, q, same))

    high_too : j < e * u
    high_too = elim (cases_lt j (e * u)) [
      | inl lt ↦ lt
      | inr le ↦ (let q = (le-div_iff_mul-le some).1 le in
          let back : e * u ≤ at = (le-div_iff_mul-le some).0 (omega (arith, q, same)) in absurd (omega (arith, back, high)))
    ]

module _ (u e f : ℕ) (c : Content) (k : CheckpointValue) (s place : ℕ) (some : 0 < u) (fills : e * u ≡ 64)
    (ends : used_in (view c k) s ≡ f * u)
    (low : used_in (view c k) s ≤ place) (high : place < 64) (below : s < k.segments) where
  times : (x : ℕ) → (s * e + x) * u ≡ 64 * s + x * u
  times x = add-mul (s * e) x u ∙ ap (λ (n : ℕ). n + x * u) (mul_assoc s e u ∙ ap (λ (n : ℕ). s * n) fills)
      ∙ (let r : s * 64 + x * u ≡ 64 * s + x * u = omega arith in r)

  first : (s * e + f) * u ≤ 64 * s + place
  first = let t = times f in omega (arith, t, ends, low)

  last : 64 * s + place < (s * e + e) * u
  last = let t = times e in omega (arith, t, fills, high)

  pub free_in : (j : ℕ) → unit_by u j ≡ unit_by u (2 + (64 * s + place)) → IsFreeSector c k j
  free_in zero is = absurd (let a = unit_above u (64 * s + place) in omega (arith, a, is))
  free_in (suc zero) is = absurd (let a = unit_above u (64 * s + place) in omega (arith, a, is))
  free_in (suc (suc j)) is =
      let a = unit_above u (64 * s + place) in
      let same : j / u ≡ (64 * s + place) / u = omega (arith, a, is) in
      let both = within_units u (s * e + f) (s * e + e) (64 * s + place) j some first last same in
      let t = times f in
      let t' = times e in
      let from = both.0 in
      let to = both.1 in
      record {
        segment = s;
        place = j - 64 * s;
        is = omega (arith, t, ends, from);
        within = omega (arith, t', fills, to);
        below = below;
        unused = omega (arith, t, ends, from);
      }

pub aligned_free : AlignedFree
aligned_free u e f c k s place some fills ends low high below j is =
    free_in u e f c k s place some fills ends low high below j
    (is ∙ ap (unit_by u) (let r : segment_start s + place ≡ 2 + (64 * s + place) = omega arith in r))
