-- A device as one of larger units.
use Rattle.std.proofs.Common.{◌≡◌, inl, inr, ℕ, List, refl, sym, ap, arith, subst}
use Rattle.std.proofs.Math.Nat.{ℕ_set}
use mathlib.Core.Equiv.{Iso, iso_to_equiv}
use Rattle.lfs_model.specs.Device.{Carries, Cell, CrashWritesUnit, DeviceState, Elapses, IsLawful, IsUntouched}
use Rattle.lfs_model.specs.Device.{LieWithin, Only, in_sectors, in_units}
use Rattle.lfs_model.proofs.UnitWrites.{crash_within}

module _ (unit : ℕ → ℕ) where
  pub units_lawful : (d : DeviceState) → IsLawful d → IsLawful (in_units unit d)
  units_lawful d is = record {
    fits = is.fits;
    size = is.size;
    sizes = λ c left. is.sizes c left.1;
    now = is.now;
    cells = λ c left. is.cells c left.1;
    present = λ keeps. (keeps.0, is.present keeps.1);
    counts_now = λ t c le left. (left.0, is.counts_now t c le left.1);
    only_now = λ c left. (left.0, is.only_now c left.1);
    kept_earlier = λ t u le kept. (kept.0, is.kept_earlier t u le kept.1);
    kept_now = (λ kept. (kept.0, is.kept_now.0 kept.1), λ keeps. (keeps.0, is.kept_now.1 keeps.1));
    until_now = λ t c le. (λ left. (left.0, (is.until_now t c le).0 left.1), λ left. (left.0, (is.until_now t c le).1 left.1));
    earlier = λ t u c le left. (left.0, is.earlier t u c le left.1);
  }

  module _ {old new : DeviceState} (carries : Carries old new) where
    lies_before : LieWithin new.unit unit → LieWithin old.unit unit
    lies_before lie = subst (λ (u : ℕ → ℕ). LieWithin u unit) carries.unit lie

    lies_after : LieWithin old.unit unit → LieWithin new.unit unit
    lies_after lie = subst (λ (u : ℕ → ℕ). LieWithin u unit) (sym carries.unit) lie

    pub units_carry : Carries (in_units unit old) (in_units unit new)
    units_carry = record {
      size = carries.size;
      kept_before = λ keeps. (lies_before keeps.0, carries.kept_before keeps.1);
      unit = refl;
      failures = carries.failures;
      failed_orders = carries.failed_orders;
      failed_reads = carries.failed_reads;
      later = carries.later;
      remembers = λ t c le left. (lies_after left.0, carries.remembers t c le left.1);
      kept_as = λ u le.
          let same = carries.kept_as u le in
          (λ kept. (lies_before kept.0, same.0 kept.1), λ kept. (lies_after kept.0, same.1 kept.1));
      left_as = λ t u c le.
          let same = carries.left_as t u c le in
          (λ left. (lies_before left.0, same.0 left.1), λ left. (lies_after left.0, same.1 left.1));
      start = carries.start;
      told = carries.told;
      bears = carries.bears;
      borne = carries.borne;
    }

    pub units_elapse : Elapses old new → Elapses (in_units unit old) (in_units unit new)
    units_elapse time t c le left = elim (time t c le left.1) [
      | inl was ↦ inl (lies_before left.0, was)
      | inr now ↦ inr (left.0, now)
    ]

    pub units_untouched : IsUntouched old new → IsUntouched (in_units unit old) (in_units unit new)
    units_untouched same = record { content = same.content; crash = λ c left. (lies_before left.0, same.crash c left.1) }

    pub units_crash : (sector : ℕ) (bytes : List ℕ) → CrashWritesUnit sector bytes old new
        → CrashWritesUnit sector bytes (in_units unit old) (in_units unit new)
    units_crash sector bytes = crash_within unit old new sector bytes carries.unit

pub sectors_lawful : (d : DeviceState) → IsLawful d → IsLawful (in_units (λ k. k) d)
sectors_lawful = units_lawful (λ k. k)

pub lawful_in_sectors : {D : Type 0} (state : D → DeviceState) → ((d : D) → IsLawful (state d)) → (d : D) → IsLawful (in_sectors state d)
lawful_in_sectors state lawful d = sectors_lawful (state d) (lawful d)

pub units_only : (unit : ℕ → ℕ) (content : List Cell) (d : DeviceState) → Only content d → Only content (in_units unit d)
units_only unit content d only c left = only c left.1

-- ---- a device whose units are those: nothing changes
with_fact : {P : Type 0} → IsProp P → P → (A : Type 0) → (P × A) ≡ A
with_fact {P} prop p A = λ i. V i (P × A) A (iso_to_equiv same)
  where
    same : Iso (P × A) A
    same = record { fun = λ x. x.1; inv = λ a. (p, a); rinv = λ a. refl; linv = λ x. λ i. (prop p x.0 i, x.1) }

lie_prop : (unit within : ℕ → ℕ) → IsProp (LieWithin unit within)
lie_prop unit within = Prim.hlevel (ℕ_set)

-- A device as one of the units that it has is itself.
pub in_units_is : (unit : ℕ → ℕ) (d : DeviceState) → d.unit ≡ unit → in_units unit d ≡ d
in_units_is unit d is = λ i. record {
  size = d.size;
  content = d.content;
  may_leave = λ c. with_fact fact lies (d.may_leave c) i;
  moment = d.moment;
  left_since = λ t c. with_fact fact lies (d.left_since t c) i;
  left_until = λ t u c. with_fact fact lies (d.left_until t u c) i;
  unit = sym is i;
  failures = d.failures;
  failed_orders = d.failed_orders;
  keeps_model = with_fact fact lies d.keeps_model i;
  kept_until = λ u. with_fact fact lies (d.kept_until u) i;
  start = d.start;
  told = d.told;
  bears = d.bears;
}
  where
    fact : IsProp (LieWithin d.unit unit)
    fact = lie_prop d.unit unit

    lies : LieWithin d.unit unit
    lies j k same = let first = ap (λ (f : ℕ → ℕ). f j) is in let second = ap (λ (f : ℕ → ℕ). f k) is in omega (arith, first, second, same)
