-- What a mount and a run of a script say together, and what a stop after them leaves: a use of a volume.
use Rattle.std.proofs.Common.{◌≡◌, ◌↔◌, ◌<◌, ◌≤◌, ⊎_elim, inl, arith, ℕ, Bool, true, false, Option, Some, None, Result, Ok, Err, List}
use Rattle.std.proofs.Common.{refl, sym, ◌∙◌}
use Rattle.std.proofs.Common.{IfOk, IfErr, IsTrue, OnOk, ap, subst}
use Rattle.lfs_model.specs.Content.{Content}
use Rattle.lfs_model.specs.Device.{Carries, DeviceState, Elapses, IsLawful, IsUntouched, LeavesOnly, LieWithin, Only, in_units}
use Rattle.lfs_model.specs.UnitLaws.{shape_in}
use Rattle.lfs_model.specs.Run.{Point}
use Rattle.lfs_model.specs.Script.{Line}
use Rattle.lfs_model.specs.Call.{Answer, Call}
use Rattle.lfs_model.specs.Since.{AreKeptSince}
use Rattle.lfs_model.specs.Use.{UsesVolume}
use Rattle.lfs_model.proofs.Moments.{carries_then, goes_on, same_orders}
use Rattle.lfs_device.specs.Memory.{memory_lawful}
use Rattle.lfs_device.specs.MemoryDevice.{IsStopped, device_state}
use Rattle.lfs_device.specs.Rows.{states_of}
use Rattle.lfs_device.specs.Told.{orders_of}
use Rattle.lfs_device.specs.Units.{unit_of}
use Rattle.lfs_device.specs.declared.memory.MemDevice.{MemDevice}
use Rattle.lfs_device.specs.declared.rows.Left.{Left}
use Rattle.lfs_fs.specs.declared.fs.Fs.{Fs}
use Rattle.lfs_fs.specs.Finding.{IsFoundOn, IsNotFound}
use Rattle.lfs_fs.specs.Mounting.{FindsState, IsMountFault, IsRefused}
use Rattle.lfs_fs.specs.Seen.{seen}
use Rattle.lfs_fs.specs.Volume.{LeavesAll, Mounted}
use Rattle.lfs_fs.specs.log.verify.declared.fault.MountFault.{MountFault}
use Rattle.lfs_fs.specs.log.verify.declared.fault.MountFault.TheVariants.{NoMemory, Device, TooSmall, NoCheckpoint, Damaged}
use Rattle.lfs_fs.proofs.FoundVolumes.{behind_found, looks_at, nothing_stands}
use Rattle.lfs_fs.specs.log.verify.Take.{SyncsOnce}
use Rattle.lfs_places.specs.declared.Places.{Places}
use Rattle.lfs_places.specs.declared.Places.TheVariants.{New}
use Rattle.lfs_places.specs.Placed.{placed}
use Rattle.lfs_places.specs.Places.{volume_content, volume_size}
use Rattle.lfs_volume.specs.Finding.{found_places, holds_older}
use Rattle.lfs_volume.specs.FindingLaws.{StandsAsOn, StaysApart}
use Rattle.lfs_volume.specs.Found.{Found, IsFound, by_volume}
use Rattle.lfs_volume.specs.Standing.{in_found, in_volume, no_slots, volume_at, volume_units}
use Rattle.lfs_volume.proofs.Standing.{found_carry, found_counts, found_elapse, found_failures, found_left, same_places}
use Rattle.lfs_volume.proofs.Standing.{units_by_shape_at}
use Rattle.lfs_volume.proofs.Staying.{places_stay, same_size}
use Rattle.lfs_fs.proofs.Sessions.{told_saved, uses_told, uses_until, uses_volume}
use Rattle.lfs_script.proofs.Begun.{session_begun, told_begun, unused_begun}
use Rattle.lfs_script.specs.Running.{Ends, EndsBy, EndsNoted}
use Rattle.lfs_script.specs.Saved.{SessionSaved}
use Rattle.lfs_script.specs.Session.{Session, SessionNoted}
use Rattle.lfs_script.specs.Strict.{StrictSession}
use Rattle.lfs_script.specs.Noted.{Glance}
use Rattle.lfs_script.specs.Unused.{IsUnused}
use Rattle.lfs_script.specs.declared.script.ScriptEnd.{ScriptEnd}
use Rattle.lfs_script.specs.declared.script.StrictEnd.{StrictEnd}
use Rattle.lfs_script.specs.declared.script.StrictEnd.TheVariants.{Refused}

-- a mount, and then a run of a script
pub used : {D : Type 0} {state : D → DeviceState} (d : D) {end : ScriptEnd} (r : Option (List ℕ)) {r' : Option (List ℕ)}
    (w : Option (List ℕ)) {w' : Option (List ℕ)} (v : Fs D) (new : Mounted D)
    → IsLawful (state d) → FindsState state d v
    → ((state (seen v).log.device).keeps_model → Only (state d).content (state (seen v).log.device))
    → IsUntouched (state d) (state (seen v).log.device) → Carries (state d) (state (seen v).log.device)
    → LeavesOnly (state d) (state (seen v).log.device) (state d).may_leave → (state (seen v).log.device).failures ≡ (state d).failures
    → Ends state end r r' w w' (seen v) new → Session end r r' w w' (state d) (state new.log.device)
used {state} d r w v new lawful finds durable untouched carries moment no_failure ends = record {
  texts = ends.texts;
  script = ends.script;
  answers = ends.answers;
  spelled = ends.spelled;
  bytes = ends.bytes;
  uses = λ keeps.
      uses_volume d lawful v finds durable untouched carries moment no_failure ends.run keeps;
}

-- and a strict one
pub used_strictly : {D : Type 0} {state : D → DeviceState} (d : D) {end : StrictEnd} (r : Option (List ℕ)) {r' : Option (List ℕ)}
    (w : Option (List ℕ)) {w' : Option (List ℕ)} (v : Fs D)
    (new : Mounted D) → IsLawful (state d) → FindsState state d v
    → ((state (seen v).log.device).keeps_model → Only (state d).content (state (seen v).log.device))
    → IsUntouched (state d) (state (seen v).log.device) → Carries (state d) (state (seen v).log.device)
    → LeavesOnly (state d) (state (seen v).log.device) (state d).may_leave → (state (seen v).log.device).failures ≡ (state d).failures
    → EndsBy state true end r r' w w' (seen v) new → StrictSession end r r' w w' (state d) (state new.log.device)
used_strictly {state} d r w v new lawful finds durable untouched carries moment no_failure ends = record {
  texts = ends.texts;
  script = ends.script;
  answers = ends.answers;
  spelled = ends.spelled;
  bytes = ends.bytes;
  uses = λ keeps.
      uses_volume d lawful v finds durable untouched carries moment no_failure ends.run keeps;
}

-- and one before a witness
pub used_told : {D : Type 0} {state : D → DeviceState} (d : D) {strict : Bool} {end : StrictEnd} (r : Option (List ℕ))
    {r' : Option (List ℕ)} (w : Option (List ℕ)) {w' : Option (List ℕ)} (v : Fs D)
    (new : Mounted D) (s : List Glance) {s' : List Glance} → ((x : D) → IsLawful (state x)) → FindsState state d v
    → ((state (seen v).log.device).keeps_model → Only (state d).content (state (seen v).log.device))
    → IsUntouched (state d) (state (seen v).log.device) → Carries (state d) (state (seen v).log.device)
    → LeavesOnly (state d) (state (seen v).log.device) (state d).may_leave → (state (seen v).log.device).failures ≡ (state d).failures
    → EndsNoted state strict end r r' w w' (seen v) new s s' → SessionNoted strict end r r' w w' (state d) (state new.log.device) s s'
used_told {state} d r w v new s each finds durable untouched carries moment no_failure ends = record {
  texts = ends.ends.texts;
  script = ends.ends.script;
  answers = ends.ends.answers;
  clocks = ends.clocks;
  spelled = ends.ends.spelled;
  bytes = ends.ends.bytes;
  glanced = ends.glanced;
  uses = λ keeps. uses_told d (each d) v finds durable untouched carries moment no_failure ends.told keeps;
  past = λ i t is. (ends.told.clocks_within i t is).1;
  until = uses_until d (each d) v finds durable untouched carries moment no_failure (each new.log.device) (each (seen v).log.device)
      ends.told;
}

-- and where all may be saved then
pub used_saved : {D : Type 0} {state : D → DeviceState} (d : D) {is_saved strict : Bool} {end : StrictEnd} (r : Option (List ℕ))
    {r' : Option (List ℕ)} (w : Option (List ℕ)) {w' : Option (List ℕ)} (v : Fs D)
    (new : Mounted D) (s : List Glance) {s' : List Glance} → ((x : D) → IsLawful (state x)) → FindsState state d v
    → ((state (seen v).log.device).keeps_model → Only (state d).content (state (seen v).log.device))
    → IsUntouched (state d) (state (seen v).log.device) → Carries (state d) (state (seen v).log.device)
    → LeavesOnly (state d) (state (seen v).log.device) (state d).may_leave → (state (seen v).log.device).failures ≡ (state d).failures
    → EndsNoted state strict end r r' w w' (seen v) new s s' → (IsTrue is_saved → LeavesAll state new)
    → SessionSaved is_saved strict end r r' w w' (state d) (state new.log.device) s s'
unfolding used_told
used_saved {state} d r w v new s each finds durable untouched carries moment no_failure ends all = record {
  session = used_told d r w v new s each finds durable untouched carries moment no_failure ends;
  saved = λ is keeps. told_saved d (each d) v finds durable untouched carries moment no_failure ends.told keeps (all is);
}

-- where it isn't strict, no refusal ends it
pub told_goes_on : (end : StrictEnd) (r r' w w' : Option (List ℕ)) (d d' : DeviceState) (s s' : List Glance) → end ≡ Refused
    → SessionNoted false end r r' w w' d d' s s' → ⊥
told_goes_on end r r' w w' d d' s s' is session =
    let ended = subst (λ (e : StrictEnd). SessionNoted false e r r' w w' d d' s s') is session in
    let bad : false ≡ true = ended.bytes.refused.0 in cc

-- a session whose end is known
pub told_of : (strict : Bool) (end is : StrictEnd) (r r' w w' : Option (List ℕ)) (d d' : DeviceState) (s s' : List Glance) → end ≡ is
    → SessionNoted strict end r r' w w' d d' s s' → SessionNoted strict is r r' w w' d d' s s'
told_of strict end is r r' w w' d d' s s' same session = subst (λ (e : StrictEnd). SessionNoted strict e r r' w w' d d' s s') same session

-- what is said of what a result holds
pub ok_of : {A E : Type 0} (P : A → Type 0) {r : Result A E} {x : A} → r ≡ Ok x → IfOk r P → P x
ok_of {A} {E} P is has = subst (λ (q : Result A E). IfOk q P) is has

pub err_of : {A E : Type 0} (P : E → Type 0) {r : Result A E} {e : E} → r ≡ Err e → IfErr r P → P e
err_of {A} {E} P is has = subst (λ (q : Result A E). IfErr q P) is has

-- what holds whatever it is
pub on_all : {A E : Type 0} (P : Type 0) (r : Result A E) → P → OnOk r P
on_all P (Ok x) has = has
on_all P (Err e) has = tt

-- a fact of it
pub on_of : {A E : Type 0} (P : Type 0) {r : Result A E} {x : A} → r ≡ Ok x → OnOk r P → P
on_of {A} {E} P is has = subst (λ (q : Result A E). OnOk q P) is has

-- and what follows from it
pub ok_more : {A E : Type 0} (P Q : A → Type 0) (r : Result A E) → ((x : A) → P x → Q x) → IfOk r P → IfOk r Q
ok_more P Q (Ok x) more has = more x has
ok_more P Q (Err e) more has = tt

pub err_more : {A E : Type 0} (P Q : E → Type 0) (r : Result A E) → ((e : E) → P e → Q e) → IfErr r P → IfErr r Q
err_more P Q (Ok x) more has = tt
err_more P Q (Err e) more has = more e has

-- A stop, which leaves contents that might be left before it.
module _ {mid new : DeviceState} (counts : (t : ℕ) (c : Content) → t ≤ mid.moment → mid.may_leave c → mid.left_since t c)
    (carries : Carries mid new) (time : Elapses mid new)
    (same : new.failures ≡ mid.failures) (was_left : (c : Content) → new.may_leave c → mid.may_leave c) where
  pub stop_leaves : (d : DeviceState) (P : Content → Type 0) → LeavesOnly d mid P → LeavesOnly d new P
  stop_leaves d P leaves =
      goes_on P leaves carries time (λ c left. leaves.each c (counts d.moment c leaves.later (was_left c left)))

  stopped_use : (d : DeviceState) {lines : List Line} {answers : List Answer} → UsesVolume d mid lines answers
      → UsesVolume d new lines answers
  stopped_use d uses = record {
    first = uses.first;
    points = uses.points;
    segments = uses.segments;
    stands = uses.stands;
    same_segments = uses.same_segments;
    same_number = uses.same_number;
    running = uses.running;
    run = uses.run;
    unstuck = uses.unstuck;
    failures_before = uses.failures_before;
    failures_after = uses.failures_after ∙ sym same;
    orders_before = uses.orders_before;
    orders_after = uses.orders_after ∙ sym (same_orders carries same);
    number_after = λ on c left. uses.number_after on c (was_left c left);
    same_shape = λ c left. uses.same_shape c (was_left c left);
    moments = stop_leaves d _ uses.moments;
    pending = λ c left. uses.pending c (was_left c left);
    continues = λ before calls given was. (
        let more = uses.continues before calls given was in
        record { began = more.began; moments = stop_leaves d _ more.moments });
  }

  pub stopped : {d : DeviceState} {end : ScriptEnd} (r : Option (List ℕ)) {r' : Option (List ℕ)} (w : Option (List ℕ))
      {w' : Option (List ℕ)} → Session end r r' w w' d mid
      → Session end r r' w w' d new
  stopped {d} r w session = record {
    texts = session.texts;
    script = session.script;
    answers = session.answers;
    spelled = session.spelled;
    bytes = session.bytes;
    uses = λ keeps. stopped_use d (session.uses (carries.kept_before keeps));
  }

  -- what was told is kept over the stop
  kept_over : {points : List Point} {calls : List Call} {answers : List Answer} {clocks : List ℕ}
      → AreKeptSince mid points calls answers clocks → AreKeptSince new points calls answers clocks
  kept_over kept = record {
    past = λ i t is. (let was = kept.past i t is in let later = carries.later in omega (arith, was, later));
    since = λ i t is c left. kept.since i t is c
        (⊎_elim (λ was. was) (λ now. counts t c (kept.past i t is) (was_left c now)) (time t c (kept.past i t is) left));
  }

  pub stopped_told : {d : DeviceState} {strict : Bool} {end : StrictEnd} (r : Option (List ℕ)) {r' : Option (List ℕ)} (w : Option (List ℕ))
      {w' : Option (List ℕ)} (s : List Glance) {s' : List Glance}
      → SessionNoted strict end r r' w w' d mid s s' → SessionNoted strict end r r' w w' d new s s'
  unfolding stopped_use
  stopped_told {d} r w s session = record {
    texts = session.texts;
    script = session.script;
    answers = session.answers;
    clocks = session.clocks;
    spelled = session.spelled;
    bytes = session.bytes;
    glanced = session.glanced;
    uses = λ keeps. (
        let was = session.uses (carries.kept_before keeps) in record {
          uses = stopped_use d was.uses;
          since = kept_over was.since;
        });
    past = λ i t is. (let was = session.past i t is in let later = carries.later in omega (arith, was, later));
    until = λ j u is until. (
        let high = session.past j u is in
        let was = session.until j u is ((carries.kept_as u high).0 until) in record {
          first = was.first;
          segments = was.segments;
          stands = was.stands;
          same_segments = was.same_segments;
          running = was.running;
          kept = record {
            points = was.kept.points;
            run = was.kept.run;
            since = λ i t le at c left. was.kept.since i t le at c ((carries.left_as t u c high).0 left);
          };
        });
  }

  -- and the reason of a mount that was refused before it stays one
  still_refused : (d : DeviceState) (fault : MountFault) → IsRefused d mid fault → IsRefused d new fault
  still_refused d NoMemory refused = tt
  still_refused d Device refused = λ keeps. subst (λ (n : ℕ). d.failures < n) (sym same) (refused (carries.kept_before keeps))
  still_refused d TooSmall refused = λ keeps. refused (carries.kept_before keeps)
  still_refused d NoCheckpoint refused = λ keeps. refused (carries.kept_before keeps)
  still_refused d (Damaged code) refused = λ keeps. refused (carries.kept_before keeps)

  still_faulty : (d : DeviceState) (fault : MountFault) → IsMountFault d mid fault → IsMountFault d new fault
  still_faulty d NoMemory told = told
  still_faulty d Device told = λ s keeps stands. subst (λ (n : ℕ). d.failures < n) (sym same) (told s (carries.kept_before keeps) stands)
  still_faulty d TooSmall told = λ s keeps stands. told s (carries.kept_before keeps) stands
  still_faulty d NoCheckpoint told = λ s keeps stands. told s (carries.kept_before keeps) stands
  still_faulty d (Damaged code) told = λ s keeps stands. told s (carries.kept_before keeps) stands

  pub still_unused : {R W : Type 0} {d : DeviceState} {fault : MountFault} {r r' : R} {w w' : W} → IsUnused r r' w w' d mid fault
      → IsUnused r r' w w' d new fault
  still_unused {d} {fault} unused = record {
    cause = λ other. still_faulty d fault (unused.cause other);
    reason = still_refused d fault unused.reason;
    left = λ c left. unused.left c (was_left c left);
    any_moment = stop_leaves d _ unused.any_moment;
    unread = unused.unread;
    unwritten = unused.unwritten;
  }

lawful_in_memory : (d : MemDevice) → IsLawful (device_state d)
lawful_in_memory d =
    memory_lawful (unit_of d.units) d.rows.items (states_of d.past.value) d.failed.value d.failed_orders.value
    (orders_of d.told.value) d.bench d.fits d.whole d.were_whole

-- a device in memory keeps its model from the first moment on where it does
kept_in_memory : (held x : MemDevice) (o : Option Places)
    → (in_found device_state o held x).keeps_model ↔ (in_found device_state o held x).kept_until 0
kept_in_memory held x None = (λ keeps. keeps, λ kept. kept)
kept_in_memory held x (Some places) = (λ keeps. keeps, λ kept. kept)

some_is : {X : Type 0} {x y : X} → Some x ≡ Some y → x ≡ y
some_is is = cc is

-- A stop of a device in memory, as one of the volume that another held, wherever that stands.
module _ (held : MemDevice) (o : Option Places) {mid new : MemDevice} {choices : List Left} {rest : Left}
    (stop : IsStopped choices rest mid new) where
  abbrev before : DeviceState
  before = in_found device_state o held mid

  abbrev after : DeviceState
  after = in_found device_state o held new

  counts : (t : ℕ) (c : Content) → t ≤ before.moment → before.may_leave c → before.left_since t c
  counts = found_counts device_state held mid o (lawful_in_memory mid)

  was_left : (c : Content) → after.may_leave c → before.may_leave c
  was_left = found_left device_state held mid new o stop.carries
      (λ c left. subst (λ (x : Content). (device_state mid).may_leave x) (sym (stop.durable c left)) stop.chosen)

  pub stop_carries : Carries before after
  stop_carries = found_carry device_state held mid new o stop.carries

  elapses : Elapses before after
  elapses = found_elapse device_state held mid new o stop.carries stop.time

  as_many : after.failures ≡ before.failures
  as_many = found_failures device_state held new o ∙ stop.same_failures ∙ sym (found_failures device_state held mid o)

  pub stopped_in_memory : {d : DeviceState} {end : ScriptEnd} (r : Option (List ℕ)) {r' : Option (List ℕ)} (w : Option (List ℕ))
      {w' : Option (List ℕ)} → Session end r r' w w' d before → Session end r r' w w' d after
  stopped_in_memory r w session = stopped counts stop_carries elapses as_many was_left r w session

  pub told_in_memory : {d : DeviceState} {strict : Bool} {end : StrictEnd} (r : Option (List ℕ)) {r' : Option (List ℕ)}
      (w : Option (List ℕ)) {w' : Option (List ℕ)} (s : List Glance) {s' : List Glance}
      → SessionNoted strict end r r' w w' d before s s' → SessionNoted strict end r r' w w' d after s s'
  told_in_memory r w s session = stopped_told counts stop_carries elapses as_many was_left r w s session

  pub unused_in_memory : {R W : Type 0} {d : DeviceState} {fault : MountFault} {r r' : R} {w w' : W}
      → IsUnused r r' w w' d before fault → IsUnused r r' w w' d after fault
  unused_in_memory unused = still_unused counts stop_carries elapses as_many was_left unused

-- A device in memory whose volume was found, that a use gave back, and that stopped then.
module _ (d : MemDevice) (v v' : Found MemDevice) {mid new : MemDevice} {choices : List Left} {rest : Left}
    (found : IsFoundOn device_state d v) (back : mid ≡ v'.device) (used : Carries (by_volume device_state v) (by_volume device_state v'))
    (stop : IsStopped choices rest mid new) where
  abbrev places : Option Places
  places = found_places (device_state d).size (device_state d).content

  -- what is said of it by what was found is said by what it was
  unwrapped : (P : DeviceState → DeviceState → Type 0) → P (by_volume device_state v) (by_volume device_state v')
      → P (in_volume device_state d v.device) (in_volume device_state d mid)
  unwrapped P says =
      subst (λ (o : Option Places). P (in_found device_state o d v.device) (in_found device_state o d mid)) (sym (found.places tt))
      (subst (λ (x : MemDevice). P (volume_at device_state v.places d v.device) (volume_at device_state v.places d x)) (sym back)
      (behind_found device_state d v v' found used P says))

  -- it was only read before
  looked : SyncsOnce (in_volume device_state d d) (in_volume device_state d v.device)
  looked = looks_at device_state d v.device found.looks places

  none_failed : (in_volume device_state d v.device).failures ≡ (in_volume device_state d d).failures
  none_failed = found_failures device_state d v.device places ∙ found.no_failure ∙ sym (found_failures device_state d d places)

  pub stopped_behind : {end : ScriptEnd} (r : Option (List ℕ)) {r' : Option (List ℕ)} (w : Option (List ℕ)) {w' : Option (List ℕ)}
      → Session end r r' w w' (by_volume device_state v) (by_volume device_state v')
      → Session end r r' w w' (in_volume device_state d d) (in_volume device_state d new)
  stopped_behind {end} r {r'} w {w'} session =
      stopped_in_memory d places stop r w (session_begun looked none_failed (unwrapped (Session end r r' w w') session))

  pub told_behind : {strict : Bool} {end : StrictEnd} (r : Option (List ℕ)) {r' : Option (List ℕ)} (w : Option (List ℕ))
      {w' : Option (List ℕ)} (s : List Glance) {s' : List Glance}
      → SessionNoted strict end r r' w w' (by_volume device_state v) (by_volume device_state v') s s'
      → SessionNoted strict end r r' w w' (in_volume device_state d d) (in_volume device_state d new) s s'
  told_behind {strict} {end} r {r'} w {w'} s {s'} session =
      told_in_memory d places stop r w s
      (told_begun looked none_failed (unwrapped (λ x y. SessionNoted strict end r r' w w' x y s s') session))

  pub unused_behind : {R W : Type 0} {fault : MountFault} {r r' : R} {w w' : W}
      → IsUnused r r' w w' (by_volume device_state v) (by_volume device_state v') fault
      → IsUnused r r' w w' (in_volume device_state d d) (in_volume device_state d new) fault
  unused_behind {fault} {r} {r'} {w} {w'} unused =
      unused_in_memory d places stop
      (unused_begun looked none_failed fault (unwrapped (λ x y. IsUnused r r' w w' x y fault) unused))

  pub carries_behind : Carries (in_volume device_state d d) (in_volume device_state d new)
  carries_behind = carries_then (carries_then looked.carries (unwrapped Carries used)) (stop_carries d places stop)

  -- by the new places no older checkpoint came to where the second slot was by the old ones
  pub apart_behind : IsFound device_state v' → StaysApart (device_state d) (device_state new)
  apart_behind is new_is =
      let same : v'.places ≡ v.places = same_places v'.places v.places (volume_content v'.places (device_state v'.held).content)
      (volume_content v.places (device_state v.held).content) used.unit in
      let places_are : v.places ≡ New = some_is (sym (found.places tt) ∙ new_is) in
      is.apart (same ∙ places_are) tt (device_state new).content
      (subst (λ (x : MemDevice). (device_state x).may_leave (device_state new).content) back stop.chosen)

-- the same where no volume was found
module _ (d : MemDevice) {mid new : MemDevice} {choices : List Left} {rest : Left} {fault : MountFault}
    (none : IsNotFound (in_volume device_state d d) (in_volume device_state d mid) fault) (stop : IsStopped choices rest mid new) where
  pub unfound_behind : {R W : Type 0} (r : R) (w : W) → IsUnused r r w w (in_volume device_state d d) (in_volume device_state d new) fault
  unfound_behind r w = unused_in_memory d (found_places (device_state d).size (device_state d).content) stop (record {
    cause = λ other. none.cause;
    reason = none.reason;
    left = none.looks.untouched.crash;
    any_moment = none.looks.any_moment;
    unread = refl;
    unwritten = refl;
  })

  pub unfound_carries : Carries (in_volume device_state d d) (in_volume device_state d new)
  unfound_carries =
      carries_then none.looks.carries (stop_carries d (found_places (device_state d).size (device_state d).content) stop)

-- ---- A use of what the stop before it left, whose volume stands where the first did.
module _ (first : MemDevice) (d d' : MemDevice) (same : StandsAsOn (device_state d) (device_state first)) where
  abbrev stood : Option Places
  stood = found_places (device_state first).size (device_state first).content

  -- what is said of it by its own volume is said by the first
  by_held : (P : DeviceState → DeviceState → Type 0) (o : Option Places) → stood ≡ o
      → P (in_found device_state o d d) (in_found device_state o d d')
      → P (in_found device_state o first d) (in_found device_state o first d')
  by_held P None is says = says
  by_held P (Some places) is says =
      subst (λ (unit : ℕ → ℕ). P (in_units unit (placed places (device_state d))) (in_units unit (placed places (device_state d'))))
      (same.units places is) says

  by_first : (P : DeviceState → DeviceState → Type 0) → P (in_volume device_state d d) (in_volume device_state d d')
      → P (in_volume device_state first d) (in_volume device_state first d')
  by_first P says =
      by_held P stood refl (subst (λ (o : Option Places). P (in_found device_state o d d) (in_found device_state o d d')) same.places says)

  pub session_by_first : {end : ScriptEnd} {r r' w w' : Option (List ℕ)}
      → Session end r r' w w' (in_volume device_state d d) (in_volume device_state d d')
      → Session end r r' w w' (in_volume device_state first d) (in_volume device_state first d')
  session_by_first {end} {r} {r'} {w} {w'} = by_first (Session end r r' w w')

  pub told_by_first : {strict : Bool} {end : StrictEnd} {r r' w w' : Option (List ℕ)} {s s' : List Glance}
      → SessionNoted strict end r r' w w' (in_volume device_state d d) (in_volume device_state d d') s s'
      → SessionNoted strict end r r' w w' (in_volume device_state first d) (in_volume device_state first d') s s'
  told_by_first {strict} {end} {r} {r'} {w} {w'} {s} {s'} = by_first (λ x y. SessionNoted strict end r r' w w' x y s s')

  pub unused_by_first : {R W : Type 0} {fault : MountFault} {r r' : R} {w w' : W}
      → IsUnused r r' w w' (in_volume device_state d d) (in_volume device_state d d') fault
      → IsUnused r r' w w' (in_volume device_state first d) (in_volume device_state first d') fault
  unused_by_first {fault} {r} {r'} {w} {w'} = by_first (λ x y. IsUnused r r' w w' x y fault)

  -- and it keeps its model as one of such units
  pub keeps_by_first : Carries (in_volume device_state d d) (in_volume device_state d d')
      → (in_volume device_state first d).keeps_model → (in_volume device_state first d').keeps_model
  keeps_by_first carries keeps =
      (kept_in_memory first d' stood).1
      (((by_first Carries carries).kept_as 0 (omega arith)).1 ((kept_in_memory first d stood).0 keeps))

  -- what a stop leaves then stands there too
  stands_later : (o : Option Places) → stood ≡ o → {lines : List Line} {answers : List Answer}
      → UsesVolume (in_found device_state o first d) (in_found device_state o first d') lines answers
      → Carries (in_found device_state o first d) (in_found device_state o first d') → (in_found device_state o first d').keeps_model
      → (o ≡ Some New → holds_older (device_state d').content 1 1 ≡ false) → StandsAsOn (device_state d') (device_state first)
  stands_later None is uses carries keeps apart = absurd (nothing_stands (device_state d).content uses.first.state uses.stands)
  stands_later (Some places) is uses carries keeps apart =
      let size : volume_size places (device_state d').size ≡ volume_size places (device_state d).size = carries.size in
      let there : found_places (device_state d).size (device_state d).content ≡ Some places = same.places ∙ is in
      let raw : (device_state d').size ≡ (device_state d).size =
      same_size (device_state d).size (device_state d').size (device_state d).content places there size in
      let shape : shape_in (volume_content places (device_state d').content) ≡ shape_in (volume_content places (device_state d).content) =
      uses.same_shape (volume_content places (device_state d').content)
      (keeps.0, ((device_state d').content, (lawful_in_memory d').present tt, refl)) in
      record {
        places = ap (λ (n : ℕ). found_places n (device_state d').content) raw
            ∙ places_stay (device_state d).size places (device_state d).content (device_state d').content
            (lawful_in_memory d).now (lawful_in_memory d').now
            there (λ new_is. apart (ap Some new_is)) shape uses.stands.checkpoint uses.stands.found ∙ sym is;
        units = λ p there_is. (
            let one : p ≡ places = some_is (sym there_is ∙ is) in
            subst (λ (q : Places). volume_units q (volume_content q (device_state d').content)
            ≡ volume_units q (volume_content q (device_state first).content)) (sym one)
            (units_by_shape_at places (volume_content places (device_state d').content)
            (volume_content places (device_state d).content) shape ∙ same.units places is));
      }

  pub same_later : {lines : List Line} {answers : List Answer}
      → UsesVolume (in_volume device_state first d) (in_volume device_state first d') lines answers
      → Carries (in_volume device_state d d) (in_volume device_state d d') → (in_volume device_state first d').keeps_model
      → StaysApart (device_state d) (device_state d') → StandsAsOn (device_state d') (device_state first)
  same_later uses carries keeps apart =
      stands_later stood refl uses (by_first Carries carries) keeps (λ new_is. apart (same.places ∙ new_is))

-- and where it is known what a stop leaves of it, this is known of it as its volume sees it
pub alone_in_volume : (held d : MemDevice) (o : Option Places) → Only (device_state d).content (device_state d)
    → Only (in_found device_state o held d).content (in_found device_state o held d)
alone_in_volume held d None alone c left = left.2 ∙ ap no_slots (alone left.0 left.1)
alone_in_volume held d (Some places) alone c left = left.1.2 ∙ ap (volume_content places) (alone left.1.0 left.1.1)
