-- What a search for a volume tells, where it finds none.
use Rattle.std.proofs.Common.{◌≡◌, ⊎_elim, inl, inr, ◌<◌, ◌≤◌, ℕ, length, Option, Some, None, sym, ◌∙◌, ap, arith, subst}
use Rattle.std.proofs.lemmas.Bool.{cond-true, lt-ltb}
use Rattle.lfs_model.specs.Checkpoint.{CheckpointValue}
use Rattle.lfs_model.specs.Content.{Content, newest}
use Rattle.lfs_model.specs.Device.{Carries, DeviceState, IsLawful, IsUntouched, LeavesOnly}
use Rattle.lfs_model.specs.Tree.{State}
use Rattle.lfs_model.specs.TreeOf.{Stands}
use Rattle.lfs_model.specs.Volume.{IsTooSmall, IsWithoutCheckpoint}
use Rattle.lfs_model.proofs.Moments.{joined}
use Rattle.lfs_store.specs.log.verify.Take.{SyncsOnce}
use Rattle.lfs_store.specs.log.verify.declared.fault.MountFault.{MountFault}
use Rattle.lfs_store.specs.log.verify.declared.fault.MountFault.TheVariants.{NoMemory, Device, TooSmall, NoCheckpoint, Damaged}
use Rattle.lfs_store.specs.log.verify.Verified.{IsDamagedIn}
use Rattle.lfs_places.specs.declared.Places.{Places}
use Rattle.lfs_volume.specs.Finding.{found_places}
use Rattle.lfs_volume.specs.Found.{Found, by_volume}
use Rattle.lfs_volume.specs.Standing.{in_found, in_volume, no_slots, volume_at}
use Rattle.lfs_volume.proofs.Standing.{bare_none, bare_size, found_carry, found_failures, found_keeps, found_leaves, found_as_many}
use Rattle.lfs_volume.proofs.Standing.{found_untouched, given_at}
use Rattle.lfs_fs.specs.Finding.{IsFoundOn, IsNotFound}
use Rattle.lfs_fs.specs.Mounting.{IsMountFault, IsRefused}

-- a content without its slots stands for nothing
pub nothing_stands : (c : Content) (s : State) → Stands (no_slots c) s → ⊥
nothing_stands c s stands = let none : None ≡ Some stands.checkpoint = sym (bare_none c) ∙ stands.found in absurd (cc none)

-- calls that write nothing, wherever the volume stands
module _ {D : Type 0} (state : D → DeviceState) (d d' : D) (looks : SyncsOnce (state d) (state d')) where
  pub looks_at : (o : Option Places) → SyncsOnce (in_found state o d d) (in_found state o d d')
  looks_at o = record {
    carries = found_carry state d d d' o looks.carries;
    untouched = found_untouched state d d d' o looks.carries looks.untouched;
    any_moment = found_leaves state d d d' o looks.carries looks.any_moment;
    told = (let was = found_as_many state d d o in let now = found_as_many state d d' o in omega (arith, looks.told, was, now));
  }

module _ {D : Type 0} (state : D → DeviceState) (d d' : D) (lawful : IsLawful (state d)) (looks : SyncsOnce (state d) (state d')) where
  abbrev places : Option Places
  places = found_places (state d).size (state d).content

  -- where it stands nowhere
  lacking : places ≡ None → (s : State) → Stands (in_found state places d d).content s → ⊥
  lacking none s stands =
      nothing_stands (state d).content s (subst (λ (o : Option Places). Stands (in_found state o d d).content s) none stands)

  bare : places ≡ None → (in_found state places d d).content ≡ no_slots (state d).content
  bare none = ap (λ (o : Option Places). (in_found state o d d).content) none

  pub nowhere : ((state d').keeps_model → places ≡ None) → 4098 ≤ (state d).size
      → IsNotFound (in_volume state d d) (in_volume state d d') NoCheckpoint
  nowhere none least = record {
    cause = λ s keeps stands. lacking (none (found_keeps state d d' places keeps)) s stands;
    reason = λ keeps. (
        let is = bare (none (found_keeps state d d' places keeps)) in (
          (let long = ap length is ∙ bare_size (state d).content in omega (arith, least, long, lawful.size)),
          ap newest is ∙ bare_none (state d).content,
        ));
    looks = looks_at state d d' looks places;
  }

  pub too_small : (state d).size < 4098 → IsNotFound (in_volume state d d) (in_volume state d d') TooSmall
  too_small small =
      let none : places ≡ None = cond-true _ None _ (lt-ltb (state d).size 4098 small) in record {
        cause = λ s keeps stands. lacking none s stands;
        reason = λ keeps. inl (let long = ap length (bare none) ∙ bare_size (state d).content in omega (arith, small, long, lawful.size));
        looks = looks_at state d d' looks places;
      }

  pub failed_to_read : (state d).failures < (state d').failures → IsNotFound (in_volume state d d) (in_volume state d d') Device
  failed_to_read failed =
      let was = found_failures state d d places in
      let now = found_failures state d d' places in record {
        cause = λ s keeps stands. omega (arith, failed, was, now);
        reason = λ keeps. omega (arith, failed, was, now);
        looks = looks_at state d d' looks places;
      }

-- ---- a mount behind such a search
module _ {old mid : DeviceState} (looks : SyncsOnce old mid) (failures : mid.failures ≡ old.failures) (new : DeviceState) where
  -- why it is refused
  pub refused_begun : (fault : MountFault) → IsRefused mid new fault → IsRefused old new fault
  refused_begun NoMemory refused = tt
  refused_begun Device refused = λ keeps. subst (λ (n : ℕ). n < new.failures) failures (refused keeps)
  refused_begun TooSmall refused = λ keeps. subst IsTooSmall looks.untouched.content (refused keeps)
  refused_begun NoCheckpoint refused = λ keeps. subst IsWithoutCheckpoint looks.untouched.content (refused keeps)
  refused_begun (Damaged code) refused = λ keeps. subst (λ (c : Content). IsDamagedIn c code) looks.untouched.content (refused keeps)

  before : (s : State) → Stands old.content s → Stands mid.content s
  before s stands = subst (λ (c : Content). Stands c s) (sym looks.untouched.content) stands

  pub faulty_begun : (fault : MountFault) → IsMountFault mid new fault → IsMountFault old new fault
  faulty_begun NoMemory told = told
  faulty_begun Device told = λ s keeps stands. subst (λ (n : ℕ). n < new.failures) failures (told s keeps (before s stands))
  faulty_begun TooSmall told = λ s keeps stands. told s keeps (before s stands)
  faulty_begun NoCheckpoint told = λ s keeps stands. told s keeps (before s stands)
  faulty_begun (Damaged code) told = λ s keeps stands. told s keeps (before s stands)

-- and what it leaves
pub untouched_begun : {old mid new : DeviceState} → SyncsOnce old mid → IsUntouched mid new → IsUntouched old new
untouched_begun looks same = record {
  content = same.content ∙ looks.untouched.content;
  crash = λ c left. looks.untouched.crash c (same.crash c left);
}

pub leaves_begun : {old mid new : DeviceState} → SyncsOnce old mid → LeavesOnly mid new mid.may_leave → LeavesOnly old new old.may_leave
leaves_begun {old} {mid} looks leaves =
    joined old.may_leave mid.may_leave old.may_leave looks.any_moment leaves (λ c was. was) looks.untouched.crash

-- A device whose volume was found, behind a mount of it or a use, is said of by what it was found to hold.
module _ {D : Type 0} (state : D → DeviceState) (d : D) (v v' : Found D) (found : IsFoundOn state d v)
    (used : Carries (by_volume state v) (by_volume state v')) where
  pub behind_found : (P : DeviceState → DeviceState → Type 0) → P (by_volume state v) (by_volume state v')
      → P (volume_at state v.places d v.device) (volume_at state v.places d v'.device)
  behind_found P says = given_at state v.places v'.places v.held v'.held v.device v'.device d
      (ap (λ (x : D). (state x).content) found.held ∙ found.looks.untouched.content) used P says

  pub looked : SyncsOnce (volume_at state v.places d d) (volume_at state v.places d v.device)
  looked = looks_at state d v.device found.looks (Some v.places)

  pub none_failed : (volume_at state v.places d v.device).failures ≡ (volume_at state v.places d d).failures
  none_failed = found.no_failure
