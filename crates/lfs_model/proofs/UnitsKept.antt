-- The shape of a volume stays, over any calls and stops.
use Rattle.std.proofs.Common.{◌≡◌, ⊎_elim, ◌^◌, ◌==◌, ℕ, zero, suc, Option, Some, None, refl, sym, ◌∙◌, ap, arith}
use Rattle.std.proofs.lemmas.Bool.{cond-false, ne_eqb}
use Rattle.lfs_model.specs.Checkpoint.{CheckpointValue, Shape, layout_version, most_unit_power, shape_of}
use Rattle.lfs_model.specs.Content.{Content, newest}
use Rattle.lfs_model.specs.Crash.{StandsOn, StandsForOn}
use Rattle.lfs_model.specs.Device.{AllLeft, Carries, DeviceState, Elapses, IsLawful, LeavesOnly, Only}
use Rattle.lfs_model.specs.Settled.{IsSettled}
use Rattle.lfs_model.specs.Stands.{LogMap}
use Rattle.lfs_model.specs.UnitLaws.{HasShapeOf, LeavesShape, UnitsByShape, UnitsOfSectors, shape_by, shape_in, unit_by}
use Rattle.lfs_model.specs.UnitLaws.{units_by}
use Rattle.lfs_model.specs.declared.limits.TheConstants.{LAST_VERSION, MOST_UNIT_POWER}
use Rattle.lfs_model.proofs.Moments.{goes_on, started, weaker}
use Rattle.lfs_model.proofs.Newest.{newest_unit}

one_sector : (j : ℕ) → unit_by 1 j ≡ j
one_sector zero = refl
one_sector (suc zero) = refl
one_sector (suc (suc k)) = omega arith

-- in versions 1 and 2 each unit is a sector
pub units_of_sectors : UnitsOfSectors
units_of_sectors c k is low =
    let few = newest_unit c k is in
    let most : most_unit_power (layout_version k) ≡ 0 = cond-false (layout_version k == LAST_VERSION) MOST_UNIT_POWER 0
    (ne_eqb (layout_version k) LAST_VERSION (λ e. omega (arith, e, low))) in
    let none : k.unit_power ≡ 0 = omega (arith, few, most) in
    ap units_by is ∙ ap (λ (p : ℕ). unit_by (2 ^ p)) none ∙ (λ i j. one_sector j i)

-- the units of a shape, which are sectors where there is none
units_in : Option Shape → ℕ → ℕ
units_in None = λ k. k
units_in (Some shape) = unit_by (2 ^ shape.unit_power)

in_shape : (o : Option CheckpointValue) → units_by o ≡ units_in (shape_by o)
unfolding units_in
in_shape None = refl
in_shape (Some k) = refl

pub units_by_shape : UnitsByShape
units_by_shape c b same = in_shape (newest c) ∙ ap units_in same ∙ sym (in_shape (newest b))

-- a volume that stands on a shape has it
shaped : (shape : Shape) {c : Content} {m : LogMap} → StandsOn shape c m → shape_in c ≡ Some shape
shaped shape stands = ap shape_by stands.is.newest ∙ ap Some stands.same

-- where nothing is done
pub shape_none : {d : DeviceState} → IsLawful d → LeavesShape d d
shape_none {d} lawful = started (HasShapeOf d) lawful (λ c was. (c, was, refl))

module _ {old new : DeviceState} (lawful : IsLawful old) where
  -- where a stop leaves what it might have left before
  pub shape_still : Carries old new → Elapses old new → AllLeft new old.may_leave → LeavesShape old new
  shape_still carries time left = goes_on (HasShapeOf old) (started (HasShapeOf old) lawful (λ c was. (c, was, refl))) carries time
      (λ c now. (c, left c now, refl))

  -- where it leaves a volume of the shape of the acknowledged checkpoint
  pub shape_settled : (k : CheckpointValue) (m m' : LogMap) → old.keeps_model → IsSettled old k m
      → LeavesOnly old new (StandsForOn (shape_of k) m m') → LeavesShape old new
  shape_settled k m m' keeps settled = weaker (StandsForOn (shape_of k) m m') (HasShapeOf old)
      (λ c either. (
        old.content,
        lawful.present keeps,
        ⊎_elim (λ s. shaped (shape_of k) s) (λ s. shaped (shape_of k) s) either ∙ sym (ap shape_by settled.newest),
      ))

-- what a stop leaves behind one call more
pub shape_then : (a b : DeviceState) {c : DeviceState} → IsLawful c → AllLeft b (HasShapeOf a) → LeavesShape b c → AllLeft c (HasShapeOf a)
shape_then a b lawful before keeps x left =
    let mid = keeps.each x (lawful.counts_now b.moment x keeps.later left) in
    let was = before mid.0 mid.1 in
    (was.0, was.1, mid.2 ∙ was.2)

-- where a stop at the start left one volume alone, what it leaves has the shape of that
pub shape_alone : (old new : DeviceState) (b : Content) → Only b old → AllLeft new (HasShapeOf old)
    → AllLeft new (λ c. shape_in c ≡ shape_in b)
shape_alone old new b only has c left = let is = has c left in is.2 ∙ ap shape_in (only is.0 is.1)
