-- What calls of a device make of it as a volume on it sees it.
use Rattle.std.proofs.Common.{◌≡◌, inl, inr, ◌<◌, ◌≤◌, ℕ, List, [], ◌∷◌, length, refl, sym, ◌∙◌, ap, subst, arith}
use Rattle.std.proofs.lemmas.List.{length-map}
use Rattle.lfs_model.specs.Device.{BearsAll, Carries, CrashWritesUnit, DeviceState, Elapses, Grows, IsBeginning, IsLawful, IsUntouched}
use Rattle.lfs_model.specs.Device.{MayWriteUnit, Only, put}
use Rattle.lfs_model.specs.declared.Order.{Order}
use Rattle.lfs_places.specs.declared.Places.{Places}
use Rattle.lfs_places.specs.Lawful.{of_more}
use Rattle.lfs_places.specs.Places.{least_size, place_of, volume_content, volume_size}
use Rattle.lfs_places.specs.Placed.{placed, volume_order, volume_orders}
use Rattle.lfs_places.proofs.Placing.{may_placed, put_placed}

-- ---- orders
begins_itself : (told : List Order) → IsBeginning told told
unfolding IsBeginning
begins_itself [] = refl
begins_itself (order ∷ told) = inl refl

begins_earlier : (first mid told : List Order) → IsBeginning first mid → IsBeginning mid told → IsBeginning first told
unfolding IsBeginning
begins_earlier first mid [] begins whole = subst (IsBeginning first) whole begins
begins_earlier first mid (order ∷ told) begins (inl whole) = subst (IsBeginning first) whole begins
begins_earlier first mid (order ∷ told) begins (inr within) = inr (begins_earlier first mid told begins within)

module _ (places : Places) where
  begins_placed : (first told : List Order) → IsBeginning first told → IsBeginning (volume_orders places first) (volume_orders places told)
  unfolding IsBeginning
  begins_placed first [] begins = ap (volume_orders places) begins
  begins_placed first (order ∷ told) (inl whole) = inl (ap (volume_orders places) whole)
  begins_placed first (order ∷ told) (inr within) = inr (begins_placed first told within)

  grows_placed : (old new : List Order) → Grows old new → Grows (volume_orders places old) (volume_orders places new)
  grows_placed old new grows first begins =
      begins_earlier first (volume_orders places old) (volume_orders places new) begins
      (begins_placed old new (grows old (begins_itself old)))

  as_many : (told : List Order) → length (volume_orders places told) ≡ length told
  as_many told = length-map told (volume_order places)

  -- ---- states
  pub placed_bears_all : (d : DeviceState) → BearsAll d → BearsAll (placed places d)
  placed_bears_all d all n bears = let few = all n bears in let many = as_many d.told in omega (arith, few, many)

  pub placed_only : (d : DeviceState) → Only d.content d → Only (placed places d).content (placed places d)
  placed_only d only c left = left.2 ∙ ap (volume_content places) (only left.0 left.1)

  module _ (old new : DeviceState) where
    pub placed_carry : Carries old new → Carries (placed places old) (placed places new)
    placed_carry carries = record {
      size = ap (volume_size places) carries.size;
      kept_before = carries.kept_before;
      unit = ap {B = ℕ → ℕ} (λ (unit : ℕ → ℕ). λ (k : ℕ). unit (place_of places k)) carries.unit;
      failures = carries.failures;
      failed_orders = carries.failed_orders;
      failed_reads = carries.failed_reads;
      later = carries.later;
      remembers = λ t c le. of_more places (old.left_since t) (new.left_since t) (λ b left. carries.remembers t b le left) c;
      kept_as = carries.kept_as;
      left_as = λ t u c le. (
        of_more places (new.left_until t u) (old.left_until t u) (λ b. (carries.left_as t u b le).0) c,
        of_more places (old.left_until t u) (new.left_until t u) (λ b. (carries.left_as t u b le).1) c,
      );
      start = ap (volume_content places) carries.start;
      told = grows_placed old.told new.told carries.told;
      bears = carries.bears;
      borne = λ n bears few. carries.borne n bears (let many = as_many new.told in omega (arith, few, many));
    }

    pub placed_elapse : Elapses old new → Elapses (placed places old) (placed places new)
    placed_elapse time t c le left = elim (time t left.0 le left.1) [
      | inl was ↦ inl (left.0, was, left.2)
      | inr now ↦ inr (left.0, now, left.2)
    ]

    pub placed_untouched : IsUntouched old new → IsUntouched (placed places old) (placed places new)
    placed_untouched same = record {
      content = ap (volume_content places) same.content;
      crash = of_more places new.may_leave old.may_leave same.crash;
    }

    module _ (sector : ℕ) (bytes : List ℕ) where
      pub placed_crash : CrashWritesUnit (place_of places sector) bytes old new
          → CrashWritesUnit sector bytes (placed places old) (placed places new)
      placed_crash crash c left =
          let from = crash left.0 left.1 in (
            volume_content places from.0,
            (from.0, from.1, refl),
            subst (MayWriteUnit (λ k. old.unit (place_of places k)) sector bytes (volume_content places from.0)) (sym left.2)
                (may_placed places sector bytes old.unit from.0 left.0 from.2),
          )

      pub placed_written : IsLawful old → least_size places ≤ old.size → sector < volume_size places old.size
          → new.content ≡ put old.content (place_of places sector) bytes
          → volume_content places new.content ≡ put (volume_content places old.content) sector bytes
      placed_written lawful least inside is =
          let long = lawful.size in
          ap (volume_content places) is
          ∙ put_placed places sector bytes old.content (subst (λ (n : ℕ). least_size places ≤ n) (sym long) least)
          (subst (λ (n : ℕ). sector < volume_size places n) (sym long) inside)
