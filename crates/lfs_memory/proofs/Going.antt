-- Parts of a commit, one after the other.
use Rattle.std.proofs.Common.{◌≡◌, ◌≤◌, ◌+◌, ℕ, refl, arith}
use Rattle.std.specs.Prelude.{Result, Ok, Err, IsErr, IsErrAnd, OnOk, OnErr, Option, Some, None, IfOk, IfSome, IfNone}
use Rattle.lfs_model.specs.Checkpoint.{shape_of}
use Rattle.lfs_model.specs.Content.{Content}
use Rattle.lfs_model.specs.Crash.{StandsOn}
use Rattle.lfs_model.specs.Device.{DeviceState, IsLawful}
use Rattle.lfs_model.proofs.Moments.{carries_none, carries_then, started, joined}
use Rattle.lfs_model.proofs.Settled.{settled_stands}
use Rattle.lfs_memory.specs.declared.memory.LogMemory.{LogMemory}
use Rattle.lfs_memory.specs.Memory.{room_of, HoldsVolume, IsMemory, Goes, GoesUpTo, Stops, Quiet}

pub goes_none : {d : DeviceState} (v : LogMemory) → IsLawful d → IsMemory v → Goes d d v v 0
goes_none {d} v lawful memory = record {
  carries = carries_none;
  memory = memory;
  segments = refl;
  room = omega arith;
  no_failure = refl;
  emptied = λ s is. is;
  log = λ k m0 m keeps is. is;
  quiet = λ k m0 m keeps is. started (λ c. StandsOn (shape_of k) c m0) lawful (settled_stands d k m0 is.running.settled);
}

quiet_then : {p : ℕ} (a b c : DeviceState) {v v' : LogMemory} {n : ℕ} → GoesUpTo p a b v v' n → (c.keeps_model → b.keeps_model)
    → Quiet b c v' → Quiet a c v
quiet_then a b c one back quiet k m0 m keeps is =
    let P : Content → Type 0 = λ x. StandsOn (shape_of k) x m0 in
    joined P P P (one.quiet k m0 m (back keeps) is) (quiet k m0 m keeps (one.log k m0 m (back keeps) is)) (λ x h. h) (λ x h. h)

pub goes_then : {p q : ℕ} {a b c : DeviceState} {v v' v'' : LogMemory} {n l : ℕ} → GoesUpTo p a b v v' n → GoesUpTo q b c v' v'' l
    → GoesUpTo q a c v v'' (n + l)
goes_then {a = a} {b} {c} one two = record {
  carries = carries_then one.carries two.carries;
  memory = two.memory;
  segments = cc;
  room = omega arith;
  no_failure = cc;
  emptied = λ s is. two.emptied s (one.emptied s is);
  log = λ k m0 m keeps is. two.log k m0 m keeps (one.log k m0 m (two.carries.kept_before keeps) is);
  quiet = quiet_then a b c one two.carries.kept_before two.quiet;
}

pub goes_at_most : (a b : DeviceState) (v v' : LogMemory) (n l : ℕ) → n ≤ l → Goes a b v v' n → Goes a b v v' l
goes_at_most a b v v' n l le one =
    let room : room_of v ≤ room_of v' + l = omega arith in assumption room

pub stops_then : {p : ℕ} {a b c : DeviceState} {v v' : LogMemory} {n : ℕ} → GoesUpTo p a b v v' n → Stops b c v' → Stops a c v
stops_then {a = a} {b} {c} one two = record {
  carries = carries_then one.carries two.carries;
  cause = λ k m0 m keeps is.
      (let before = one.carries.failed_orders in omega (
        arith,
        before,
        two.cause k m0 m keeps (one.log k m0 m (two.carries.kept_before keeps) is),
      ));
  settled = λ k m0 m keeps is. two.settled k m0 m keeps (one.log k m0 m (two.carries.kept_before keeps) is);
  quiet = quiet_then a b c one two.carries.kept_before two.quiet;
}

pub on_err : {T E : Type 0} (r : Result T E) (P : Type 0) → P → OnErr r P
on_err (Ok x) P p = tt
on_err (Err e) P p = p

pub err_ok : {T E : Type 0} (r : Result T E) (e : E) (P : Type 0) → IsErr r × IsErrAnd r (λ y. y ≡ e) → OnOk r P
err_ok (Ok x) e P gives = absurd gives.1
err_ok (Err e') e P gives = tt

pub holds_volume_still : {p : ℕ} {d d' : DeviceState} {v v' : LogMemory} {n : ℕ} → GoesUpTo p d d' v v' n
    → HoldsVolume d v → HoldsVolume d' v'
holds_volume_still goes room = omega arith

pub ok_then : {T E : Type 0} (r : Result T E) (P Q : Type 0) → (P → Q) → OnOk r P → OnOk r Q
ok_then (Ok x) P Q go p = go p
ok_then (Err e) P Q go p = tt

pub err_then : {T E : Type 0} (r : Result T E) (P Q : Type 0) → (P → Q) → OnErr r P → OnErr r Q
err_then (Ok x) P Q go p = tt
err_then (Err e) P Q go p = go p

pub if_ok_then : {T E : Type 0} (r : Result T E) (P Q : T → Type 0) → ((x : T) → P x → Q x) → IfOk r P → IfOk r Q
if_ok_then (Ok x) P Q go p = go x p
if_ok_then (Err e) P Q go p = tt

pub if_ok_any : {T E : Type 0} (r : Result T E) (P : T → Type 0) → ((x : T) → P x) → IfOk r P
if_ok_any (Ok x) P all = all x
if_ok_any (Err e) P all = tt

pub some_then : {T : Type 0} (o : Option T) (P Q : T → Type 0) → ((x : T) → P x → Q x) → IfSome o P → IfSome o Q
some_then None P Q go p = p
some_then (Some x) P Q go p = go x p

pub none_then : {T : Type 0} (o : Option T) (P Q : Type 0) → (P → Q) → IfNone o P → IfNone o Q
none_then None P Q go p = go p
none_then (Some x) P Q go p = p
