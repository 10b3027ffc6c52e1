-- The ends of a call: what each of them makes of a volume.
use Rattle.lfs_fs.proofs.Prelude.{◌≡◌, ◌⊎◌, ◌≤◌, ◌<◌, ℕ, Bool, true, false, ◌&&◌, List, [], ◌∷◌, refl, sym, ◌∙◌, subst, inl, inr, ⊎_elim}
use Rattle.lfs_fs.proofs.Prelude.{arith, Contains, Call, Answer, Refuse, commits, CheckpointValue, DeviceState, IsLawful, AllLeft, Carries}
use Rattle.lfs_fs.proofs.Prelude.{LeavesOnly, Refusal, Halted, Point, StepsOr, acknowledges, LogMap, State, drop_nameless, IsTree, Left}
use Rattle.lfs_fs.proofs.Prelude.{LeavesOne, LeavesStates, Stands, dropped, IsLogMap, dropped_log, StandsForOn, IsLogOf, carries_none}
use Rattle.lfs_fs.proofs.Prelude.{started, goes_on, LogState, Reads, HasClean, AreTotals, BlockTotals, held_still, settled, Behaves}
use Rattle.lfs_fs.proofs.Prelude.{IsStill, Mounted, segments_of, IsIn, Runs, IsAt, LeavesSome, ServesAt, Serves, reads_none, acknowledged}
use Rattle.lfs_fs.proofs.Prelude.{Holds}
use Rattle.lfs_steps.proofs.volume.Stops.{leaves_states}
use Rattle.lfs_store.specs.memory.Present.{Looks}
use Rattle.lfs_fs.proofs.calls.AnyDevice.{IsOrdinary, halted_behaves, not_halted, kept_behaves}
use Rattle.lfs_model.specs.Run.{Answers}
use Rattle.lfs_fs.proofs.Prelude.{LeavesShape, shape_of}
use Rattle.lfs_model.proofs.UnitsKept.{shape_settled, shape_still}

-- a refusal is never acknowledged
pub not_acknowledged : (call : Call) (r : Refusal) → acknowledges call (Refuse r) ≡ true → ⊥
not_acknowledged call r e = no_commit (commits call) e
  where
    no_commit : (b : Bool) → (b && false) ≡ true → ⊥
    no_commit true e = absurd (cc)
    no_commit false e = absurd (cc)

module _ {D : Type 0} (state : D → DeviceState) where
  -- a point of the volume in this state
  abbrev pub point_of : Mounted D → State → Point
  point_of v s = record {
    state = s;
    halted = v.log.halted;
    number = v.log.number;
    failures = (state v.log.device).failures;
    failed_orders = (state v.log.device).failed_orders;
  }

  -- What holds at each point of a volume, with the log maps that it has there, where the device keeps the model to the end of the call.
  abbrev pub AtEach : Mounted D → Mounted D → (Point → CheckpointValue → LogMap → LogMap → Type 0) → Type 0
  AtEach old new P = (p : Point) → (state new.log.device).keeps_model → IsAt state old p → (k : CheckpointValue) (m0 m : LogMap)
      → IsIn state old k m0 m p.state → P p k m0 m

  -- a log that was only read has as many clean segments
  pub clean_still : {a b : LogState D} → Reads state a b → HasClean a → HasClean b
  clean_still reads clean = let segments = reads.segments in let now = reads.clean in omega (arith, clean, segments, now)

  pub still_in : {old new : Mounted D} {k : CheckpointValue} {m0 m : LogMap} {s : State} → IsStill state old new → IsIn state old k m0 m s
      → IsIn state new k m0 m s
  still_in {old} {new} {k} {m0} {m} {s} still is = record {
    holds = held_still state still.reads is.holds;
    map = is.map;
    log = subst (λ (n : ℕ). IsLogOf n m s) same is.log;
    handles = is.handles ∙ sym still.table;
    counted = subst (λ (t : BlockTotals). AreTotals m t) (sym still.reads.totals) is.counted;
    acknowledged = subst (λ (n : ℕ). IsTree n m0) same is.acknowledged;
    ready = λ e. (
        let r = is.ready (sym still.reads.saved ∙ e) in (
          clean_still still.reads r.0,
          (let low = r.1 in let number = still.reads.number in omega (arith, low, number, same)),
        ));
  }
    where
      same : segments_of old ≡ segments_of new
      same = sym still.reads.segments

  -- what is left before a call is left by it
  left_still : {d d' : DeviceState} (ss : List State) → IsLawful d → LeavesSome state d → Looks d d' → LeavesStates d d' ss
  left_still {d} {d'} ss lawful some looks =
      let P : _ = λ c. (s : State) × Stands c s × (Left d s ⊎ Contains ss s) in
      goes_on P (started P lawful was) looks.carries looks.time (λ c left. was c (looks.untouched.crash c left))
    where
      was : AllLeft d (λ c. (s : State) × Stands c s × (Left d s ⊎ Contains ss s))
      was c left = let is = some c left in (is.0, is.1, inl (record { content = c; may_leave = left; stands = is.1 }))

  shape_read : {d d' : DeviceState} → IsLawful d → Looks d d' → LeavesShape d d'
  shape_read lawful looks = shape_still lawful looks.carries looks.time looks.untouched.crash

  -- what a stop leaves while nothing is written is what is saved
  pub quiet : {h : LogState D} (h' : LogState D) → IsLawful (state h.device) → Looks (state h.device) (state h'.device)
      → {k : CheckpointValue} {m0 m : LogMap} → Holds state h k m0 m
      → LeavesOnly (state h.device) (state h'.device) (StandsForOn (shape_of k) m0 (dropped m))
  quiet {h} h' lawful looks {k} {m0} {m} holds =
      goes_on (StandsForOn (shape_of k) m0 (dropped m)) (started (StandsForOn (shape_of k) m0 (dropped m)) lawful here)
      looks.carries looks.time (λ c left. here c (looks.untouched.crash c left))
    where
      here : AllLeft (state h.device) (StandsForOn (shape_of k) m0 (dropped m))
      here c left = inl (acknowledged state holds c left)

  -- the volume as it is seen, in this state
  at_state : (v : Mounted D) {s : State} → (v.log.halted ≡ false → Runs state v s) → LeavesSome state (state v.log.device)
      → IsAt state v (point_of v s)
  at_state v running leaves =
      record { halted = refl; number = refl; failures = refl; failed_orders = refl; running = running; leaves = leaves }

  -- ---- what a call answers
  module _ {old new : Mounted D} {call : Call} {a : Answer} {p : Point} (at : IsAt state old p)
      (carries : Carries (state old.log.device) (state new.log.device)) (later : old.log.number ≤ new.log.number)
      (behaves : Behaves state old new call a) {next : State} (steps : StepsOr (segments_of old) call p a (point_of new next)) where
    answers_by : (p.halted ≡ true → a ≡ Refuse Halted) → (a ≡ Refuse Halted → new.log.halted ≡ true)
        → (new.log.halted ≡ true → a ≡ Refuse Halted) → Answers (segments_of old) call p a (point_of new next)
    answers_by halted halts goes_on = record {
      steps = steps;
      halted = halted;
      halts = halts;
      goes_on = goes_on;
      first_halted = λ e. ⊎_elim (λ before. inl (at.halted ∙ before)) (λ may. inr may) (behaves.first_halted e);
      failures = (let f = at.failures in let more = carries.failures in omega (arith, f, more));
      failed_orders = (let o = at.failed_orders in let more = carries.failed_orders in omega (arith, o, more));
      failed_reads = (let f = at.failures in let o = at.failed_orders in let more = carries.failed_reads in omega (arith, f, o, more));
      number = (let n = at.number in omega (arith, n, later));
      few = (let n = at.number in let few = behaves.few in omega (arith, n, few));
      quiet = λ e. behaves.number e ∙ sym at.number;
    }

    -- the volume runs on
    answers_on : old.log.halted ≡ false → new.log.halted ≡ false → (a ≡ Refuse Halted → ⊥)
        → Answers (segments_of old) call p a (point_of new next)
    answers_on was running fine = answers_by (λ e. absurd (let h = at.halted in cc)) (λ e. absurd (fine e)) (λ e. absurd (cc))

  -- ---- calls that leave the state
  module _ (old new : Mounted D) {call : Call} {a : Answer} (lawful : IsLawful (state old.log.device)) (still : IsStill state old new)
      (was : old.log.halted ≡ false) (fine : a ≡ Refuse Halted → ⊥)
      (behaves : Behaves state old new call a) where
    pub served_by : AtEach old new (λ p k m0 m. StepsOr (segments_of old) call p a (point_of new p.state))
        → (acknowledges call a ≡ true → ⊥) → Serves state old new call a
    served_by steps none = record {
      carries = still.reads.looks.carries;
      segments = λ e. still.reads.segments;
      orderly = λ e. absurd (cc);
      halts = λ e. absurd (fine e);
      behaves = behaves;
      model = λ p keeps is. (let r = is.running was in record {
        next = point_of new p.state;
        at = at_state new
            (λ e. record { checkpoint = r.checkpoint; saved = r.saved; present = r.present; is = still_in still r.is })
            (λ c left. is.leaves c (still.reads.looks.untouched.crash c left));
        answers = answers_on is still.reads.looks.carries (let same = still.reads.number in omega (arith, same)) behaves
            (steps p keeps is r.checkpoint r.saved r.present r.is) was (still.reads.halted ∙ was) fine;
        leaves = left_still (drop_nameless p.state ∷ drop_nameless p.state ∷ []) lawful is.leaves still.reads.looks;
        shape = shape_read lawful still.reads.looks;
        saves = λ e. absurd (none e);
      });
    }

  pub served_still : {old new : Mounted D} (call : Call) {a : Answer} → IsLawful (state old.log.device) → (still : IsStill state old new)
      → old.log.halted ≡ false → IsOrdinary a
      → AtEach old new (λ p k m0 m. StepsOr (segments_of old) call p a (point_of new p.state))
      → (acknowledges call a ≡ true → ⊥) → Serves state old new call a
  served_still {old} {new} call {a} lawful still was ordinary =
      served_by old new lawful still was (not_halted a ordinary)
      (kept_behaves state call a still.reads.looks still.reads.number still.table ordinary)

  -- ---- a volume that was halted
  pub served_halted : (v : Mounted D) (call : Call) → IsLawful (state v.log.device) → v.log.halted ≡ true
      → Serves state v v call (Refuse Halted)
  served_halted v call lawful was = record {
    carries = carries_none;
    segments = λ e. refl;
    orderly = λ e. (refl, refl);
    halts = λ e. was;
    behaves = halted_behaves state v call was;
    model = λ p keeps is. record {
      next = point_of v p.state;
      at = at_state v is.running is.leaves;
      answers = answers_by is carries_none (omega arith) (halted_behaves state v call was)
          (inr (Halted, refl, inl (is.halted ∙ was), refl)) (λ e. refl) (λ e. was) (λ e. refl);
      leaves = left_still (drop_nameless p.state ∷ drop_nameless p.state ∷ []) lawful is.leaves (reads_none state v.log).looks;
      shape = shape_read lawful (reads_none state v.log).looks;
      saves = λ e. absurd (not_acknowledged call Halted e);
    };
  }

  -- ---- calls that may change the state, or save it
  module _ {old : Mounted D} (new : Mounted D) (keeps : (state new.log.device).keeps_model) (lawful : IsLawful (state old.log.device))
      (after : IsLawful (state new.log.device))
      (carries : Carries (state old.log.device) (state new.log.device)) where
    module _ {k : CheckpointValue} {m0 m : LogMap} {s : State} (is : IsIn state old k m0 m s) where
      pub map_dropped : IsLogMap (dropped m)
      map_dropped = dropped_log (segments_of old) m s is.log is.map

      leaves_by : (ss : List State) → LeavesOnly (state old.log.device) (state new.log.device) (StandsForOn (shape_of k) m0 (dropped m))
          → LeavesStates (state old.log.device) (state new.log.device) (drop_nameless s ∷ ss)
      leaves_by = leaves_states lawful (carries.kept_before keeps) k m0 (settled state is.holds)
          (subst (λ (n : ℕ). IsTree n m0) (sym is.holds.segments) is.acknowledged) m s
          (subst (λ (n : ℕ). IsLogOf n m s) (sym is.holds.segments) is.log)

    module _ (call : Call) (p : Point) (at : IsAt state old p) {k : CheckpointValue} {m0 m : LogMap} (is : IsIn state old k m0 m p.state)
        (was : old.log.halted ≡ false) (later : old.log.number ≤ new.log.number)
        (moment : LeavesOnly (state old.log.device) (state new.log.device) (StandsForOn (shape_of k) m0 (dropped m))) where
      states : (next : State) → LeavesStates (state old.log.device) (state new.log.device) (drop_nameless p.state ∷ drop_nameless next ∷ [])
      states next = leaves_by is (drop_nameless next ∷ []) moment

      same_shape : LeavesShape (state old.log.device) (state new.log.device)
      same_shape = shape_settled lawful k m0 (dropped m) (carries.kept_before keeps) (settled state is.holds) moment

      -- what is left at the end is left meanwhile
      some_left : (next : State) → LeavesSome state (state new.log.device)
      some_left next c left =
          let one = (states next).each c (after.counts_now (state old.log.device).moment c carries.later left) in (one.0, one.1)

      -- the volume runs on, in this state
      pub goes_on_at : {a : Answer} → new.log.halted ≡ false → Behaves state old new call a → (a ≡ Refuse Halted → ⊥) → {next : State}
          → Runs state new next → StepsOr (segments_of old) call p a (point_of new next)
          → (acknowledges call a ≡ true → LeavesOne (state new.log.device) (drop_nameless next)) → ServesAt state old new call a p
      goes_on_at running behaves fine {next} runs steps saves = record {
        next = point_of new next;
        at = at_state new (λ e. runs) (some_left next);
        answers = answers_on at carries later behaves steps was running fine;
        leaves = states next;
        shape = same_shape;
        saves = saves;
      }

      -- a commit failed
      pub halts_at : new.log.halted ≡ true → Behaves state old new call (Refuse Halted)
          → (state old.log.device).failed_orders < (state new.log.device).failed_orders → ServesAt state old new call (Refuse Halted) p
      halts_at halted behaves rose = record {
        next = point_of new p.state;
        at = at_state new (λ e. absurd (cc)) (some_left p.state);
        answers = answers_by at carries later behaves
            (inr (Halted, refl, inr (let o = at.failed_orders in omega (arith, o, rose)), refl)) (λ e. refl) (λ e. halted) (λ e. refl);
        leaves = states p.state;
        shape = same_shape;
        saves = λ e. absurd (not_acknowledged call Halted e);
      }
