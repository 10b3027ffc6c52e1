-- The ends of calls that draft and save, from the records of the store to the call as a step of the model.
use Rattle.lfs_fs.proofs.Prelude.{shape_of}
use Rattle.lfs_fs.proofs.Prelude.{◌≡◌, ◌≤◌, ◌<◌, ◌^◌, ℕ, true, false, refl, sym, ◌∙◌, subst, inr, arith, Call, Answer, Refuse}
use Rattle.lfs_fs.proofs.Prelude.{CheckpointValue, StandsForOn, DeviceState, IsLawful, Carries, LeavesOnly, IsLogMap, Refusal, Halted}
use Rattle.lfs_fs.proofs.Prelude.{Point, StepsOr, acknowledges, LogMap, State, drop_nameless, LeavesOne, dropped, IsLogOf, Accepts, Commits}
use Rattle.lfs_fs.proofs.Prelude.{Declines, HoldsNext, with_draft, Holds, AreTotals, BlockTotals, Draft, Behaves, IsAt, IsIn, Mounted, Runs}
use Rattle.lfs_fs.proofs.Prelude.{Serves, segments_of, IsMapOf}
use Rattle.lfs_store.specs.StoreState.{Fits}
use Rattle.lfs_fs.proofs.volume.Map.{map_of_volume, runs_over}
use Rattle.lfs_steps.proofs.volume.Stops.{stands_dropped}
use Rattle.lfs_fs.proofs.calls.Exits.{goes_on_at, map_dropped, point_of, AtEach}
pub use Rattle.lfs_fs.proofs.calls.Exits.{not_acknowledged}

module _ {D : Type 0} (state : D → DeviceState) where
  -- What holds of each state that the volume may be in.
  abbrev pub InEach : Mounted D → (LogMap → State → Type 0) → Type 0
  InEach v P = (k : CheckpointValue) (m0 m : LogMap) (s : State) → (state v.log.device).keeps_model
      → IsIn state v k m0 m s → P m s

  -- A volume with another log, of the same number of segments; its totals and its open files are as they were.
  pub record IsRest (old new : Mounted D) : Type 0 where
    pub totals : new.log.totals ≡ old.log.totals
    pub table : new.table ≡ old.table

  pub counted_still : {old new : Mounted D} (m : LogMap) → IsRest old new → AreTotals m old.log.totals → AreTotals m new.log.totals
  counted_still m rest = subst (λ (t : BlockTotals). AreTotals m t) (sym rest.totals)

  module _ (old new : Mounted D) (call : Call) (lawful : IsLawful (state old.log.device)) (after : IsLawful (state new.log.device))
      (carries : Carries (state old.log.device) (state new.log.device))
      (segments : segments_of new ≡ segments_of old) (was : old.log.halted ≡ false) (later : old.log.number ≤ new.log.number) where
    -- ---- the volume runs on

    -- One end of a call: the state that the volume is in then, the model's step there, and what a stop meanwhile leaves.
    pub record EndsAt (a : Answer) (p : Point) (k : CheckpointValue) (m0 m : LogMap) : Type 0 where
      pub next : State
      pub runs : Runs state new next
      pub steps : StepsOr (segments_of old) call p a (point_of state new next)
      pub moment : LeavesOnly (state old.log.device) (state new.log.device) (StandsForOn (shape_of k) m0 (dropped m))
      pub saves : acknowledges call a ≡ true → LeavesOne (state new.log.device) (drop_nameless next)

    pub runs_on : {a : Answer} → (a ≡ Refuse Halted → ⊥) → Behaves state old new call a → new.log.halted ≡ false
        → AtEach state old new (EndsAt a)
        → Serves state old new call a
    runs_on {a} fine behaves running each = record {
      carries = carries;
      segments = λ e. segments;
      orderly = λ e. absurd (let is = was in cc);
      halts = λ e. absurd (fine e);
      behaves = behaves;
      model = λ p keeps at. (
          let r = at.running was in
          let end = each p keeps at r.checkpoint r.saved r.present r.is in
          goes_on_at state new keeps lawful after carries call p at r.is was later end.moment running behaves fine end.runs end.steps
          end.saves);
    }

    -- ---- a draft is staged
    module _ (d : Draft) (done : Accepts state old.log new.log d) (low : old.log.number < 2 ^ 62) (a : Answer)
        (fine : a ≡ Refuse Halted → ⊥) (none : acknowledges call a ≡ true → ⊥) where
      -- what the draft makes of a state that the volume is in
      pub record Drafts (p : Point) (m : LogMap) : Type 0 where
        pub next : State
        pub fits : Fits d m
        pub map : IsMapOf (segments_of old) (with_draft d m) next
        pub handles : next.handles ≡ new.table
        pub counted : AreTotals (with_draft d m) new.log.totals
        pub steps : StepsOr (segments_of old) call p a (point_of state new next)

      pub accepts_by : Behaves state old new call a → AtEach state old new (λ p k m0 m. Drafts p m) → Serves state old new call a
      accepts_by behaves each = runs_on fine behaves (done.halted ∙ was) (λ p keeps at k m0 m is. (
          let drafts = each p keeps at k m0 m is in
          let log = map_dropped state new keeps lawful after carries is in record {
            next = drafts.next;
            runs = runs_over new k m is drafts.next
                (done.holds k m0 m keeps is.holds drafts.fits log) segments drafts.map drafts.handles drafts.counted
                (λ e. (done.enough, (let o = done.saves.few in let size = segments in omega (arith, o, low, size))));
            steps = drafts.steps;
            moment = done.moment k m0 m keeps is.holds log;
            saves = λ e. absurd (none e);
          }))

    -- ---- a commit is done
    module _ (rest : IsRest old new) (done : Commits state old.log new.log) where
      over : (k : CheckpointValue) (m0 m : LogMap) → (state new.log.device).keeps_model → (holds : Holds state old.log k m0 m)
          → IsLogMap (dropped m) → HoldsNext state (shape_of k) m0 m new.log m
      over k m0 m keeps holds log =
          let next = done.holds k m0 m keeps holds log in
          record {
            checkpoint = next.0;
            acknowledged = dropped m;
            either = inr refl;
            same = next.1;
            holds = next.2;
          }

      -- what a stop leaves then is the state without its nodes of no name
      left_one : (k : CheckpointValue) (m0 m : LogMap) {s : State} → IsIn state old k m0 m s → (state new.log.device).keeps_model
          → IsLogMap (dropped m) → LeavesOne (state new.log.device) (drop_nameless s)
      left_one k m0 m {s} is keeps log c left = stands_dropped c m s
          (subst (λ (n : ℕ). IsLogOf n m s) (sym is.holds.segments) is.log) (done.left k m0 m keeps is.holds log c left)

      pub commits_by : (a : Answer) → (a ≡ Refuse Halted → ⊥) → Behaves state old new call a
          → ((p : Point) → (state new.log.device).keeps_model → IsAt state old p
          → StepsOr (segments_of old) call p a (point_of state new p.state)) → Serves state old new call a
      commits_by a fine behaves each = runs_on fine behaves done.running (λ p keeps at k m0 m is. (
          let log = map_dropped state new keeps lawful after carries is in record {
            next = p.state;
            runs = runs_over new k m is p.state (over k m0 m keeps is.holds log) segments (map_of_volume is)
                (is.handles ∙ sym rest.table) (counted_still m rest is.counted) (λ e. absurd (let s = done.saved in cc));
            steps = each p keeps at;
            moment = done.moment k m0 m keeps is.holds log;
            saves = λ e. left_one k m0 m is keeps log;
          }))

    -- ---- it isn't
    module _ (d : Draft) (rest : IsRest old new) (declines : Declines state old.log new.log d)
        (low : old.log.number < 2 ^ 62) {r : Refusal} (fine : r ≡ Halted → ⊥) where
      not_halted : Refuse r ≡ Refuse Halted → ⊥
      not_halted e = fine (cc)

      pub declines_by : Behaves state old new call (Refuse r)
          → AtEach state old new (λ p k m0 m. Fits d m × StepsOr (segments_of old) call p (Refuse r) (point_of state new p.state))
          → Serves state old new call (Refuse r)
      declines_by behaves each = runs_on not_halted behaves (declines.halted ∙ was) (λ p keeps at k m0 m is. (
          let both = each p keeps at k m0 m is in
          let log = map_dropped state new keeps lawful after carries is in record {
            next = p.state;
            runs = runs_over new k m is p.state (declines.holds k m0 m keeps is.holds both.0 log) segments (map_of_volume is)
                (is.handles ∙ sym rest.table) (counted_still m rest is.counted)
                (λ e. (
                  declines.saves.ready (λ f. (is.ready f).0) e,
                  (let o = declines.saves.few in let size = segments in
                      omega (arith, o, low, size)),
                ));
            steps = both.1;
            moment = declines.moment k m0 m keeps is.holds log;
            saves = λ e. absurd (not_acknowledged call r e);
          }))
