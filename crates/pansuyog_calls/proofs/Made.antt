-- A volume is made on a device, or mounted: what is said of the device, and of it in sectors or in the units of its volume.
use Rattle.std.proofs.Common.{◌≡◌, ◌⊎◌, inl, inr, ◌<◌, ℕ, [], ◌∷◌, Some, refl, sym, arith, subst}
use Rattle.std.specs.Prelude.{◌↔◌, Result, Ok, Err, IsErrOf, OnOk}
use Rattle.lfs_model.specs.Content.{Content}
use Rattle.lfs_model.specs.Device.{AreSectors, Carries, DeviceState, IsUntouched, LeavesOnly, in_sectors}
use Rattle.lfs_model.proofs.UnitStates.{units_carry, units_only}
use Rattle.lfs_format.specs.Making.{HasMade, IsMaking, MayStand, places_by}
use Rattle.lfs_format.proofs.FirstPlaces.{old_places}
use Rattle.lfs_places.specs.declared.Places.{Places}
use Rattle.lfs_format.specs.Shape.{IsShape, unit_power_of}
use Rattle.lfs_format.specs.declared.fault.FormatFault.{FormatFault}
use Rattle.lfs_format.specs.declared.fault.FormatFault.TheVariants as fault
use Rattle.lfs_format.specs.declared.shape.Shape.{Shape}
use Rattle.lfs_places.specs.Places.{volume_content, volume_size}
use Rattle.lfs_model.specs.Checkpoint.{IsSectorVersion, IsSegmentCount}
use Rattle.lfs_model.specs.Image.{IsNew}
use Rattle.lfs_model.specs.Reach.{segment_start}
use Rattle.lfs_model.specs.Tree.{Dir, new_form}
use Rattle.lfs_model.specs.TreeOf.{Stands}
use Rattle.lfs_model.specs.Volume.{mounted}
use Rattle.std.proofs.lemmas.Bool.{cases_lt}
use Rattle.lfs_fs.specs.Mounting.{IsRefused}
use Rattle.lfs_fs.specs.Finding.{IsFoundOn, IsNotFound}
use Rattle.lfs_volume.specs.Standing.{in_found, in_volume, volume_at}
use Rattle.lfs_volume.specs.Found.{Found, by_volume}
use Rattle.lfs_fs.proofs.FoundVolumes.{behind_found, leaves_begun, looked, none_failed, refused_begun, untouched_begun}
use Rattle.lfs_store.specs.log.verify.declared.fault.MountFault.{MountFault}
use Rattle.pansuyog_calls.specs.Making.{IsEmptyVolume, IsMade, IsMadeWith, IsNotMounted}
use Rattle.pansuyog_calls.specs.Volumes.{IsNotMountedThere}
use Rattle.lfs_model.proofs.Moments.{carries_then}
use Rattle.lfs_store.specs.log.verify.Take.{SyncsOnce}
use Rattle.lfs_volume.specs.Finding.{found_places}

-- a version that isn't refused
pub sector_version : {version : ℕ} {C : Type 0} → ((C × IsSectorVersion version → ⊥) → ⊥) → IsSectorVersion version
sector_version {version} {C} may = elim (cases_lt 0 version) [
  | inl some ↦ elim (cases_lt version 3) [
    | inl few ↦ (omega (arith, some), omega (arith, few))
    | inr many ↦ absurd (may (λ known. omega (arith, many, known.1.1)))
  ]
  | inr none ↦ absurd (may (λ known. omega (arith, none, known.1.0)))
]

-- and a volume of it has all of its device
pub by_old_places : (version : ℕ) → IsSectorVersion version → (c : Content) (P : Content → Type 0)
    → P (volume_content (places_by version) c) → P c
by_old_places version known c P = subst (λ (p : Places). P (volume_content p c)) (old_places version known)

module _ {D : Type 0} (state : D → DeviceState) (old new : D) where
  sectors_before : Carries (state old) (state new) → (in_sectors state new).keeps_model → AreSectors (state old).unit
  sectors_before carries keeps = subst AreSectors carries.unit keeps.0

  -- what a stop leaves of the device, where its units are sectors
  leaves_in_sectors : AreSectors (state old).unit → {P Q : Content → Type 0} → ((c : Content) → P c → Q c)
      → LeavesOnly (state old) (state new) P → LeavesOnly (in_sectors state old) (in_sectors state new) Q
  leaves_in_sectors sectors weaker leaves = record {
    later = leaves.later;
    each = λ c left. weaker c (leaves.each c left.1);
    before = λ t c le left. elim (leaves.before t c le left.1) [
      | inl was ↦ inl (sectors, was)
      | inr is ↦ inr (weaker c is)
    ];
  }

  pub carries_in_sectors : Carries (state old) (state new) → Carries (in_sectors state old) (in_sectors state new)
  carries_in_sectors carries = units_carry (λ k. k) carries

  pub moments_in_sectors : (segments version : ℕ) → IsMaking version segments 0 (state old) (state new) → (in_sectors state new).keeps_model
      → LeavesOnly (in_sectors state old) (in_sectors state new) (MayStand version segments 0 (in_sectors state old))
  moments_in_sectors segments version making keeps =
      let sectors = sectors_before making.carries keeps in
      leaves_in_sectors sectors stands (making.any_moment sectors keeps.1)
    where
      stands : (c : Content) → MayStand version segments 0 (state old) c → MayStand version segments 0 (in_sectors state old) c
      stands c (inl from) = inl (from.0, (sectors_before making.carries keeps, from.1), from.2)
      stands c (inr made) = inr made

  pub volume_in_sectors : (segments version : ℕ) → IsSectorVersion version → HasMade version segments 0 (state old) (state new)
      → (in_sectors state new).keeps_model → IsEmptyVolume segments version (in_sectors state new)
  volume_in_sectors segments version known made keeps = record {
    image = by_old_places version known (state new).content (IsNew version segments 0) (made.image keeps.1);
    durable = units_only (λ k. k) (state new).content (state new) (made.durable keeps.1);
    volume = by_old_places version known (state new).content
        (λ (c : Content). Stands c (mounted version ((1, Dir (new_form version) []) ∷ []))) (made.volume keeps.1);
  }

  -- ---- by what came of it

  pub made_on : (segments version : ℕ) (r : Result (Unit {0}) FormatFault)
      → (IsErrOf r fault.Inval ↔ ¬ (IsSegmentCount segments × IsSectorVersion version))
      → (IsErrOf r fault.TooSmall ↔ (IsSegmentCount segments × IsSectorVersion version × ((state old).size < segment_start segments)))
      → ((IsErrOf r fault.Inval ⊎ IsErrOf r fault.TooSmall) → new ≡ old)
      → (IsErrOf r fault.Device → (state old).failures < (state new).failures)
      → OnOk r (HasMade version segments 0 (state old) (state new)) → IsMade (in_sectors state) segments version old new r
  made_on segments version (Ok done) inval small refused failed made =
      volume_in_sectors segments version (sector_version (λ not. let wrong = inval.1 not in cc)) made
  made_on segments version (Err fault.Inval) inval small refused failed made = (inval.0 refl, refused (inl refl))
  made_on segments version (Err fault.TooSmall) inval small refused failed made =
      let is = small.0 refl in (is.0, is.1, is.2, refused (inr refl))
  made_on segments version (Err fault.Device) inval small refused failed made = failed refl

  pub made_with : (shape : Shape) (r : Result (Unit {0}) FormatFault) → (IsErrOf r fault.Inval ↔ ¬ (IsShape shape))
      → (IsErrOf r fault.TooSmall ↔ (IsShape shape
      × (volume_size (places_by shape.version) (state old).size < segment_start shape.segments)))
      → ((IsErrOf r fault.Inval ⊎ IsErrOf r fault.TooSmall) → new ≡ old)
      → (IsErrOf r fault.Device → (state old).failures < (state new).failures)
      → OnOk r (HasMade shape.version shape.segments (unit_power_of shape.unit) (state old) (state new)) → IsMadeWith state shape old new r
  made_with shape (Ok done) inval small refused failed made = made
  made_with shape (Err fault.Inval) inval small refused failed made = (inval.0 refl, refused (inl refl))
  made_with shape (Err fault.TooSmall) inval small refused failed made = let is = small.0 refl in (is.0, is.1, refused (inr refl))
  made_with shape (Err fault.Device) inval small refused failed made = failed refl

-- a device whose volume was found and isn't mounted
pub not_mounted : {D : Type 0} (state : D → DeviceState) (d : D) (v v' : Found D) {d' : D} {fault : MountFault} → IsFoundOn state d v
    → d' ≡ v'.device → IsRefused (by_volume state v) (by_volume state v') fault
    → IsUntouched (by_volume state v) (by_volume state v') → Carries (by_volume state v) (by_volume state v')
    → LeavesOnly (by_volume state v) (by_volume state v') (by_volume state v).may_leave → IsNotMountedThere state d d' fault
not_mounted {D} state d v v' {d'} {fault} found back reason untouched carries moment =
    let there = subst (λ (x : D). IsNotMounted (in_found state (Some v.places) d) d x fault) (sym back) (record {
      reason = refused_begun looks none (volume_at state v.places d v'.device) fault (behind (λ x y. IsRefused x y fault) reason);
      untouched = untouched_begun looks (behind IsUntouched untouched);
      carries = carries_then looks.carries (behind Carries carries);
      any_moment = leaves_begun looks (behind (λ x y. LeavesOnly x y x.may_leave) moment);
    }) in record {
      places = Some v.places;
      found = λ keeps.
          let kept = (behind Carries carries).kept_before (subst (λ (x : D). (volume_at state v.places d x).keeps_model) back keeps) in
          found.places kept.1;
      refused = there;
    }
  where
    behind : (P : DeviceState → DeviceState → Type 0) → P (by_volume state v) (by_volume state v')
        → P (volume_at state v.places d v.device) (volume_at state v.places d v'.device)
    behind = behind_found state d v v' found carries

    looks : SyncsOnce (volume_at state v.places d d) (volume_at state v.places d v.device)
    looks = looked state d v v' found carries

    none : (volume_at state v.places d v.device).failures ≡ (volume_at state v.places d d).failures
    none = none_failed state d v v' found carries

-- and one where none was found
pub not_found : {D : Type 0} (state : D → DeviceState) (d d' : D) {fault : MountFault}
    → IsNotFound (in_volume state d d) (in_volume state d d') fault → IsNotMountedThere state d d' fault
not_found state d d' none = record {
  places = found_places (state d).size (state d).content;
  found = λ keeps. refl;
  refused = record {
    reason = none.reason;
    untouched = none.looks.untouched;
    carries = none.looks.carries;
    any_moment = none.looks.any_moment;
  };
}
