-- Calls of a volume in a row, between which its device is tended to: a run of the model, and what a stop in it leaves.
use Rattle.lfs_fs.proofs.Prelude.{◌≡◌, ◌<◌, ⊎_elim, ℕ, zero, suc, Some, Some-injective, slice_index_or, false, List, [], ◌∷◌, ◌++◌}
use Rattle.lfs_fs.proofs.Prelude.{append-nil, length, refl, sym, ◌∙◌, subst, inl, arith}
use Rattle.lfs_fs.proofs.Prelude.{Answer, Call, Content, DeviceState, IsLawful, Only, Point, State, final, drop_nameless, LeavesOne}
use Rattle.lfs_fs.proofs.Prelude.{LeavesStates, LeavesPrefix, Stands, IsAt, Mounted, Serves, goes_on, segments_of, seen}
use Rattle.std.proofs.Common.{length-append, slice_get, ap, drop, take}
use Rattle.std.proofs.lemmas.List.{append_assoc}
use Rattle.lfs_model.proofs.Committed.{nothing_dropped}
use Rattle.lfs_model.proofs.CrashRuns.{IsRunSoFar, leaves_first, leaves_more}
use Rattle.lfs_model.proofs.Moments.{same_orders}
use Rattle.lfs_model.proofs.Pendings.{at_final, run_lengths}
use Rattle.lfs_model.proofs.SinceRuns.{kept_more, kept_none, kept_told}
use Rattle.lfs_model.specs.Run.{Answers, NoneAcknowledged, Run}
use Rattle.lfs_model.specs.Script.{Plain}
use Rattle.lfs_model.specs.Since.{AreKeptSince, Since, StandsFrom}
use Rattle.lfs_model.specs.Use.{StandsForSome, left_states}
use Rattle.lfs_fs.specs.InARow.{CallsAreKept, IsSavedAt, IsTended, LeftIsMounted, MountsAreSaved, ServesInARow}
use Rattle.lfs_fs.specs.InARow.{is_served, is_tended, no_more}
use Rattle.lfs_fs.proofs.ScriptRuns.{OneOf, final_more, leaves_step, moments_from, run_more}
use Rattle.lfs_fs.proofs.calls.Exits.{still_in}
use Rattle.lfs_fs.proofs.scripts.Lines.{StepsCall, call_steps, left_none, line_running, line_segments}

so_far : (N : ℕ) (p : Point) (calls : List Call) (answers : List Answer) (points : List Point) → Run N p calls answers points
    → IsRunSoFar (p ∷ points) calls answers (final p points)
so_far N p calls answers points run =
    let h = run_lengths N p calls answers points run in record {
      points_length = omega (arith, h.0);
      answers_length = omega (arith, h.0, h.1);
      at = ap (slice_get (p ∷ points)) h.0 ∙ at_final p points;
    }

module _ {D : Type 0} {state : D → DeviceState} (lawful : (d : D) → IsLawful (state d)) (old : Mounted D) (p : Point) where
  -- how far they came
  record SoFar (now : Mounted D) (calls : List Call) (answers : List Answer) (clocks : List ℕ) : Type 0 where
    pub points : List Point
    pub run : Run (segments_of old) p calls answers points
    pub at : IsAt state now (final p points)
    pub leaves : LeavesStates (state old.log.device) (state now.log.device) (left_states (p ∷ points))
    pub pending : LeavesPrefix (state now.log.device) (p ∷ points) calls answers
    pub since : AreKeptSince (state now.log.device) (p ∷ points) calls answers clocks
    pub long : length clocks ≡ length calls
    pub same : now.log.halted ≡ false → segments_of now ≡ segments_of old

  -- a call more
  module _ (mid new : Mounted D) (calls : List Call) (answers : List Answer) (clocks : List ℕ) (call : Call) (a : Answer) where
    called : (state new.log.device).keeps_model → SoFar mid calls answers clocks → Serves state mid new call a
        → SoFar new (calls ++ call ∷ []) (answers ++ a ∷ []) (clocks ++ (state new.log.device).moment ∷ [])
    called keeps so serves =
        let d : DeviceState = state mid.log.device in
        let d' : DeviceState = state new.log.device in
        let step : StepsCall state (segments_of old) mid new call a (final p so.points) =
        call_steps state lawful mid new call a (segments_of old) so.same keeps so.at serves in
        let far = so_far (segments_of old) p calls answers so.points so.run in
        let long = so.long in
        let pending : LeavesPrefix d' (p ∷ (so.points ++ step.next ∷ [])) (calls ++ call ∷ []) (answers ++ a ∷ []) =
        leaves_more d d' answers step.next call a far (lawful new.log.device) so.pending step.leaves step.saves in record {
          points = so.points ++ step.next ∷ [];
          run = run_more (Answers (segments_of old)) p calls answers so.points call a step.next so.run step.does;
          at = subst (IsAt state new) (sym (final_more p so.points step.next)) step.at;
          leaves = leaves_step (state old.log.device) d d' p so.points step.next (lawful mid.log.device) so.leaves step.leaves;
          pending = pending;
          since = kept_told d' (answers ++ a ∷ []) clocks (lawful new.log.device)
              (omega (arith, length-append answers (a ∷ []), length-append calls (call ∷ []), far.answers_length))
              (omega (arith, length-append calls (call ∷ []), long))
              pending
              (kept_more d d' (p ∷ so.points) calls answers (final p so.points) step.next call a clocks far
              (lawful mid.log.device) (omega (arith, long)) so.since step.leaves);
          long = omega (arith, length-append clocks (d'.moment ∷ []), length-append calls (call ∷ []), long);
          same = λ now. line_segments state lawful mid new (Plain call) a (inl serves) now
              ∙ so.same (line_running state lawful mid new (Plain call) a (inl serves) now);
        }

  -- the device is tended to
  module _ (mid new : Mounted D) (calls : List Call) (answers : List Answer) (clocks : List ℕ) (is : IsTended state mid new) where
    back : (c : Content) → (state new.log.device).may_leave c → (state mid.log.device).may_leave c
    back c left = is.still.reads.looks.untouched.crash c left

    tended : SoFar mid calls answers clocks → SoFar new calls answers clocks
    tended so =
        let looks = is.still.reads.looks in record {
          points = so.points;
          run = so.run;
          at = record {
            halted = so.at.halted ∙ sym is.still.reads.halted;
            number = so.at.number ∙ sym is.still.reads.number;
            failures = so.at.failures ∙ sym is.no_failure;
            failed_orders = so.at.failed_orders ∙ sym (same_orders looks.carries is.no_failure);
            running = λ e. (let r = so.at.running (sym is.still.reads.halted ∙ e) in
                record { checkpoint = r.checkpoint; saved = r.saved; present = r.present; is = still_in state is.still r.is });
            leaves = λ c left. so.at.leaves c (back c left);
          };
          leaves = goes_on (OneOf (state old.log.device) (left_states (p ∷ so.points))) so.leaves looks.carries looks.time
              (λ c left. so.leaves.each c
              ((lawful mid.log.device).counts_now (state old.log.device).moment c so.leaves.later (back c left)));
          pending = λ c left. so.pending c (back c left);
          since = record {
            past = λ i t is. (let was = so.since.past i t is in let later = looks.carries.later in omega (arith, was, later));
            since = λ i t is c left. so.since.since i t is c (⊎_elim (λ was. was)
                (λ now. (lawful mid.log.device).counts_now t c (so.since.past i t is) (back c now))
                (looks.time t c (so.since.past i t is) left));
          };
          long = so.long;
          same = λ now. is.still.reads.segments ∙ so.same (sym is.still.reads.halted ∙ now);
        }

-- what kept the model at the end kept it before
kept_before : {D : Type 0} {state : D → DeviceState} (new : Mounted D) {old : Mounted D} {calls : List Call} {answers : List Answer}
    {clocks : List ℕ} → ServesInARow state new old calls answers clocks → (state new.log.device).keeps_model
    → (state old.log.device).keeps_model
kept_before new no_more keeps = keeps
kept_before new (is_served mid call a does rest) keeps = does.carries.kept_before (kept_before new rest keeps)
kept_before new (is_tended mid is rest) keeps = is.still.reads.looks.carries.kept_before (kept_before new rest keeps)

module _ {D : Type 0} {state : D → DeviceState} (lawful : (d : D) → IsLawful (state d)) (first : Mounted D) (p : Point) where
  abbrev Far : Mounted D → List Call → List Answer → List ℕ → Type 0
  Far = SoFar lawful first p

  -- the lists of one more
  moved : (new : Mounted D) {calls calls' : List Call} {answers answers' : List Answer} {clocks clocks' : List ℕ} → calls ≡ calls'
      → answers ≡ answers' → clocks ≡ clocks' → Far new calls answers clocks → Far new calls' answers' clocks'
  moved new {calls} {calls'} {answers} {answers'} {clocks} {clocks'} a b c so = subst (λ (l : List ℕ). Far new calls' answers' l) c
      (subst (λ (l : List Answer). Far new calls' l clocks) b (subst (λ (l : List Call). Far new l answers clocks) a so))

  -- all that are left
  all : (new : Mounted D) {old : Mounted D} {calls : List Call} {answers : List Answer} {clocks : List ℕ}
      → ServesInARow state new old calls answers clocks → (state new.log.device).keeps_model
      → (before : List Call) (given : List Answer) (past : List ℕ) → Far old before given past
      → Far new (before ++ calls) (given ++ answers) (past ++ clocks)
  all new no_more keeps before given past so =
      moved new (sym (append-nil before)) (sym (append-nil given)) (sym (append-nil past)) so
  all new {old} (is_served {calls = calls} {answers = answers} {clocks = clocks} mid call a does rest) keeps before given past so =
      let t : ℕ = (state mid.log.device).moment in
      moved new (append_assoc before (call ∷ []) calls) (append_assoc given (a ∷ []) answers) (append_assoc past (t ∷ []) clocks)
      (all new rest keeps (before ++ call ∷ []) (given ++ a ∷ []) (past ++ t ∷ [])
      (called lawful first p old mid before given past call a (kept_before new rest keeps) so does))
  all new {old} (is_tended mid is rest) keeps before given past so =
      all new rest keeps before given past (tended lawful first p old mid before given past is so)

  none_made : IsSavedAt state first p → Far first [] [] []
  none_made saved = record {
    points = [];
    run = tt;
    at = saved.at;
    leaves = left_none state (left_states (p ∷ [])) (lawful first.log.device) saved.at.leaves;
    pending = leaves_first (state first.log.device) p saved.leaves;
    since = kept_none (state first.log.device) (p ∷ []) [] [];
    long = refl;
    same = λ e. refl;
  }

-- ---- since the start
some_at : (points : List Point) (k : ℕ) (s : State) → k < length (left_states points) → slice_index_or (left_states points) k s ≡ s
    → (q : Point) × (slice_get points k ≡ Some q) × (drop_nameless q.state ≡ s)
some_at [] k s lt is = absurd (omega (arith, lt))
some_at (q ∷ points) zero s lt is = (q, refl, is)
some_at (q ∷ points) (suc k) s lt is = some_at points k s (omega (arith, lt)) is

none_first : (k : ℕ) (calls : List Call) (answers : List Answer) → NoneAcknowledged (drop k (take 0 calls)) (drop k (take 0 answers))
none_first zero calls answers = tt
none_first (suc k) calls answers = tt

from_some : (points : List Point) (calls : List Call) (answers : List Answer) (c : Content) → StandsForSome points c
    → StandsFrom points calls answers 0 c
from_some points calls answers c some =
    let at = some_at points some.1.0 some.0 some.1.1 some.1.2 in record {
      n = some.1.0;
      point = at.0;
      at = at.1;
      none_later = none_first some.1.0 calls answers;
      stands = subst (Stands c) (sym at.2) some.2;
    }

-- and since an answer
by_clock : (d : DeviceState) (points : List Point) (calls : List Call) (answers : List Answer) (clocks : List ℕ) (start : ℕ)
    → ((c : Content) → d.left_since start c → StandsForSome points c) → AreKeptSince d points calls answers clocks → (i t : ℕ)
    → slice_get (start ∷ clocks) i ≡ Some t → Since d points calls answers i t
by_clock d points calls answers clocks start some kept zero t is c left = from_some points calls answers c
    (some c (subst (λ (m : ℕ). d.left_since m c) (sym (Some-injective is)) left))
by_clock d points calls answers clocks start some kept (suc i) t is c left = kept.since i t is c left

pub calls_are_kept : {D : Type 0} {state : D → DeviceState} → ((d : D) → IsLawful (state d)) → CallsAreKept state
calls_are_kept {state} lawful old new calls answers clocks row keeps p saved =
    let so = all lawful old p new row keeps [] [] [] (none_made lawful old p saved) in
    let moments = moments_from p so.points so.leaves saved.leaves in record {
      points = so.points;
      run = so.run;
      at = so.at;
      moments = moments;
      pending = so.pending;
      since = by_clock (state new.log.device) (p ∷ so.points) calls answers clocks (state old.log.device).moment moments.each so.since;
      past = so.since.past;
    }

-- ---- where they begin
left_by : (c : Content) (s t : State) (d : DeviceState) → t ≡ s → Stands c s → Only c d → Stands c t × LeavesOne d (drop_nameless t)
left_by c s t d same is only =
    let stands : Stands c t = subst (Stands c) (sym same) is in (
      stands,
      λ x left. subst (λ (y : Content). Stands y (drop_nameless t)) (sym (only x left))
          (subst (Stands c) (sym (nothing_dropped c t stands)) stands),
    )

pub mounts_are_saved : {D : Type 0} (state : D → DeviceState) → MountsAreSaved state
mounts_are_saved state d v finds durable keeps =
    let found = finds keeps in
    let is = left_by (state d).content found.0 found.2.point.state (state (seen v).log.device) found.2.same found.1 (durable keeps) in
    record { first = found.2.point; stands = is.0; saved = record { at = found.2.at; leaves = is.1 } }

-- ---- and what becomes of what a stop leaves
pub left_is_mounted : {D : Type 0} (state : D → DeviceState) → LeftIsMounted state
left_is_mounted state device points calls answers k left = record {
  done = λ v mounts keeps. mounts (drop_nameless left.point.state) keeps left.stands;
  refused = λ new fault available keeps bears. available keeps (drop_nameless left.point.state) left.stands bears;
}
