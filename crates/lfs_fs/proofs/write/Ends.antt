-- Calls that draft a change, from what they read to what becomes of the draft, as steps of the model.
use Rattle.lfs_fs.proofs.Prelude.{shape_of}
use Rattle.lfs_fs.proofs.Prelude.{◌≡◌, ◌<◌, ◌≤◌, ◌+◌, ◌/◌, ◌^◌, ℕ, Bool, true, false, length, Ok, Err, refl, sym, ◌∙◌, ap, subst, inl, inr}
use Rattle.lfs_fs.proofs.Prelude.{⊎_elim, arith, List, ◌*◌, ◌&&◌, IsTrue, Result, OnOk, IfErr, Call, Answer, Refuse, changes, is_ok}
use Rattle.lfs_fs.proofs.Prelude.{may_write, takes_no_memory, cleans, never_for_device, CheckpointValue, StandsForOn, DeviceState, IsLawful}
use Rattle.lfs_fs.proofs.Prelude.{LeavesOnly, LogMap, Handles, State, dropped, carries_then, joined, HaltsLater, MayNotMakeClean}
use Rattle.lfs_fs.proofs.Prelude.{most_checkpoints, clean_orders, Holds, LogState, Reads, StoreFault, BlockTotals, Order, commit_orders}
use Rattle.lfs_fs.proofs.Prelude.{Accepts, Declines, IsAcceptFault, FsError, Fs, StagesDraft, TellsFew, TurnsDown, need_of, error_of_store}
use Rattle.lfs_fs.proofs.Prelude.{refusal_of, answer_by, seen, Behaves, CommitsFew, IsIn, IsStill, Mounted, Serves, TellsAtMost}
use Rattle.lfs_fs.proofs.Prelude.{segments_of, IsMapOf, Step, acknowledges, draft_of, drafted_of, with_draft, AreTotals, Draft, held_still}
use Rattle.lfs_fs.proofs.Prelude.{asked_by, reads_none, few_checkpoints, StepsOr, Refusal}
use Rattle.lfs_model.specs.Refusal as refusal
use Rattle.lfs_files.specs.declared.fault.LogFault.TheVariants as log
use Rattle.lfs_files.specs.declared.fault.StoreFault.TheVariants as store
use Rattle.lfs_store.specs.Accepting.{SavesFew}
use Rattle.lfs_store.specs.cleaner.Making.{HasThreeSixteenths, once_orders}
use Rattle.lfs_fs.specs.declared.error.FsError.TheVariants as error
use Rattle.lfs_fs.specs.Accepting.{IsDeclined, limit_of}
use Rattle.lfs_fs.specs.Asking.{most_asked}
use Rattle.lfs_fs.proofs.calls.AnyDevice.{IsBounded, change_bounded, change_writes, commits_none, not_both, ok_refuses_none, write_behaves}
use Rattle.lfs_fs.proofs.calls.Drafts.{accepts_by, declines_by}
use Rattle.lfs_fs.proofs.clean.Room.{has_room}
use Rattle.lfs_fs.proofs.calls.Exits.{clean_still, halts_at, map_dropped, point_of, still_in, quiet, AtEach}
use Rattle.lfs_store.specs.StoreState.{Fits}
use Rattle.lfs_fs.proofs.calls.Steps.{not_worn}
use Rattle.lfs_fs.proofs.calls.Reads.{refused_serves, worn_serves}

module _ {D : Type 0} (state : D → DeviceState) (old new : Fs D) where
  abbrev Turned : Type 0
  Turned = Declines state (seen old).log (seen new).log (draft_of old.store)

  -- why a draft isn't staged, by the fault of the store
  pub turned_down : (fault : StoreFault) {e : FsError} → e ≡ error_of_store fault → (seen old).log.halted ≡ false
      → (seen old).log.number < 2 ^ 62 → (seen new).log.totals ≡ (seen old).log.totals
      → TellsFew state (seen old).log (seen new).log (asked_by (draft_of old.store))
      → (fault ≡ store.Log log.Full → Turned) → (fault ≡ store.Log log.Full → MayNotMakeClean state (seen old).log (seen new).log)
      → (fault ≡ store.NoMemory → Turned) → (fault ≡ store.Log log.Device → Turned)
      → (fault ≡ store.Log log.Device → IsAcceptFault state (seen old).log (seen new).log (draft_of old.store))
      → (fault ≡ store.Log log.Halted → ((seen old).log.halted ≡ true → ⊥)
      → HaltsLater state (seen old).log (seen new).log (most_checkpoints (seen old).log)) → TurnsDown state old new e
  turned_down store.NoMemory is was young totals tells _ _ memory _ _ _ =
      subst (TurnsDown state old new) (sym is) record { declines = memory refl; totals = totals; young = young; tells = tells }
  turned_down (store.Log log.Full) is was young totals tells full lacks _ _ _ _ =
      subst (TurnsDown state old new) (sym is)
      (record { declines = full refl; totals = totals; young = young; tells = tells }, inr (lacks refl))
  turned_down (store.Log log.Device) is was young totals tells _ _ _ device failed _ =
      subst (TurnsDown state old new) (sym is)
      (record { declines = device refl; totals = totals; young = young; tells = tells }, inl (failed refl))
  turned_down (store.Log log.Halted) is was young totals tells _ _ _ _ _ halted =
      subst (TurnsDown state old new) (sym is) (halted refl (λ no. cc), tells)

-- a volume with these open files
abbrev pub with_open : {D : Type 0} → Fs D → Handles → Mounted D
with_open f table = record { log = (seen f).log; table = table }

module _ {D : Type 0} (state : D → DeviceState) (v : Mounted D) (ready : Fs D) (call : Call) where
  abbrev HasSpace : Type 0
  HasSpace = need_of ready ≤ 47 * segments_of v

  -- What the draft makes of a state: with room the next one, by a step with this answer.
  pub record IsDraft (m : LogMap) (s : State) : Type 0 where
    pub next : State
    pub answer : Answer
    pub ok : is_ok answer ≡ true
    pub fits : Fits (draft_of ready.store) m
    pub counted : AreTotals (with_draft (draft_of ready.store) m) (drafted_of ready.store)
    pub map : HasSpace → IsMapOf (segments_of v) (with_draft (draft_of ready.store) m) next
    pub done : HasSpace → Step (segments_of v) s call answer next
    pub lacks : 47 * segments_of v < need_of ready → Step (segments_of v) s call (Refuse refusal.NoSpace) s

  abbrev pub AreDrafts : Type 0
  AreDrafts = (state (seen ready).log.device).keeps_model → (k : CheckpointValue) (m0 m : LogMap) (s : State) → IsIn state v k m0 m s
      → IsDraft m s

  -- the answer, and the open files
  abbrev pub EndIn : AreDrafts → Answer → Handles → Type 0
  EndIn drafts x table = (keeps : (state (seen ready).log.device).keeps_model) (k : CheckpointValue) (m0 m : LogMap) (s : State)
      (is : IsIn state v k m0 m s) → ((drafts keeps k m0 m s is).answer ≡ x) × ((drafts keeps k m0 m s is).next.handles ≡ table)

module _ {D : Type 0} (state : D → DeviceState) (lawful : (d : D) → IsLawful (state d)) where
  -- ---- reads come before the draft is staged

  module _ {a b : LogState D} (reads : Reads state a b) where
    module _ (h : LogState D) where
      -- what is told after the reads is told after what was before them
      pub tells_after : {asked : ℕ} → TellsFew state b h asked → TellsFew state a h asked
      tells_after tells = record {
        room = told_before (clean_orders a.segments)
            (subst (λ (n : ℕ). TellsAtMost state b h (clean_orders n)) reads.segments tells.room);
        one_pass = λ clean. told_before (once_orders a.segments)
            (subst (λ (n : ℕ). TellsAtMost state b h (once_orders n)) reads.segments (tells.one_pass
            (let same = reads.clean in let size = reads.segments in omega (arith, clean, same, size))));
        one_commit = λ clean ample. told_before commit_orders (tells.one_commit
            (let same = reads.clean in let size = reads.segments in omega (arith, clean, same, size)) (still_ample ample));
        idle = λ clean ample room. tells.idle (clean_still state reads clean) (still_ample ample)
            (let same = reads.waiting in omega (arith, same, room))
            ∙ reads.looks.told;
      }
        where
          told_before : (most : ℕ) → TellsAtMost state b h most → TellsAtMost state a h most
          told_before most = subst (λ (told : List Order). length (state h.device).told ≤ length told + most) reads.looks.told

          still_ample : HasThreeSixteenths a → HasThreeSixteenths b
          still_ample ample = let same = reads.clean in let size = reads.segments in omega (arith, ample, same, size)

      -- what a stop leaves after the reads is what it leaves from before them
      leaves_after : {k : CheckpointValue} {m0 m : LogMap} → Holds state a k m0 m
          → LeavesOnly (state b.device) (state h.device) (StandsForOn (shape_of k) m0 (dropped m))
          → LeavesOnly (state a.device) (state h.device) (StandsForOn (shape_of k) m0 (dropped m))
      leaves_after {k} {m0} {m} holds later =
          joined (StandsForOn (shape_of k) m0 (dropped m)) (StandsForOn (shape_of k) m0 (dropped m))
          (StandsForOn (shape_of k) m0 (dropped m))
          (quiet state b (lawful a.device) reads.looks holds) later (λ c x. x) (λ c x. x)

      saves_after : SavesFew b h → SavesFew a h
      saves_after saves = record {
        number = (let more = saves.number in let same = reads.number in omega (arith, more, same));
        few = (let most = saves.few in let same = reads.number in let size = reads.segments in omega (arith, most, same, size));
        ready = λ clean now. saves.ready (λ e. clean_still state reads (clean (sym reads.saved ∙ e))) now;
      }

      pub accepts_after : (d : Draft) → Accepts state b h d → Accepts state a h d
      accepts_after d done = record {
        carries = carries_then reads.looks.carries done.carries;
        halted = done.halted ∙ reads.halted;
        segments = done.segments ∙ reads.segments;
        enough = done.enough;
        unsaved = done.unsaved;
        saves = saves_after done.saves;
        holds = λ k m0 m keeps holds. done.holds k m0 m keeps (held_still state reads holds);
        moment = λ k m0 m keeps holds log. leaves_after holds (done.moment k m0 m keeps (held_still state reads holds) log);
      }

      pub declines_after : (d : Draft) → Declines state b h d → Declines state a h d
      declines_after d done = record {
        carries = carries_then reads.looks.carries done.carries;
        halted = done.halted ∙ reads.halted;
        segments = done.segments ∙ reads.segments;
        saves = saves_after done.saves;
        holds = λ k m0 m keeps holds. done.holds k m0 m keeps (held_still state reads holds);
        moment = λ k m0 m keeps holds log. leaves_after holds (done.moment k m0 m keeps (held_still state reads holds) log);
      }

      pub fault_after : (d : Draft) → IsAcceptFault state b h d → IsAcceptFault state a h d
      fault_after d fault k m0 m keeps holds fits log =
          let rose = fault k m0 m keeps (held_still state reads holds) fits log in
          let before = reads.looks.carries.failures in
          omega (arith, rose, before)

      pub halts_after : {most : ℕ} → HaltsLater state b h most → HaltsLater state a h most
      halts_after halts = record {
        carries = carries_then reads.looks.carries halts.carries;
        halted = halts.halted;
        later = (let later = halts.later in let same = reads.number in omega (arith, later, same));
        number = (let few = halts.number in let same = reads.number in omega (arith, few, same));
        cause = λ k m0 m keeps is log. (
            let rose = halts.cause k m0 m keeps (held_still state reads is) log in
            let before = reads.looks.carries.failed_orders in
            omega (arith, rose, before));
        left = λ k m0 m keeps is log. halts.left k m0 m keeps (held_still state reads is) log;
        moment = λ k m0 m keeps is log. leaves_after is (halts.moment k m0 m keeps (held_still state reads is) log);
      }

  -- ---- volumes that were only read

  pub still_none : (v : Mounted D) → IsStill state v v
  still_none v = record { reads = reads_none state v.log; table = refl }

  -- ---- calls of a running volume

  module _ (old : Mounted D) {new : Mounted D} (call : Call) (was : old.log.halted ≡ false) where
    -- a commit failed, or a pass
    pub halts_serves : IsTrue (may_write call) → new.table ≡ old.table → {most : ℕ} → most ≤ segments_of old / 8 + 1
        → (CommitsFew old new → IsBounded state old new call) → HaltsLater state old.log new.log most
        → Serves state old new call (Refuse refusal.Halted)
    halts_serves may table low bounded halts = record {
      carries = halts.carries;
      segments = λ e. absurd (let is = halts.halted in cc);
      orderly = λ e. absurd (let is = was in cc);
      halts = λ e. halts.halted;
      behaves = behaves;
      model = λ p keeps at. (
          let r = at.running was in
          let log = map_dropped state new keeps (lawful old.log.device) (lawful new.log.device) halts.carries r.is in
          halts_at state new keeps (lawful old.log.device) (lawful new.log.device) halts.carries call p at r.is was halts.later
          (halts.moment r.checkpoint r.saved r.present keeps r.is.holds log) halts.halted behaves
          (halts.cause r.checkpoint r.saved r.present keeps r.is.holds log));
    }
      where
        behaves : Behaves state old new call (Refuse refusal.Halted)
        behaves = write_behaves state call (Refuse refusal.Halted) may table (λ e. absurd (cc)) (λ takes e. absurd (cc))
            (bounded (let few = halts.number in omega (arith, few, low)))

  -- ---- what becomes of a draft

  module _ (v : Mounted D) (ready new : Fs D) (call : Call) (a : Answer) (still : IsStill state v (seen ready)) (was : v.log.halted ≡ false)
      (rest : new.handles ≡ ready.handles) (small : asked_by (draft_of ready.store) ≤ most_asked call) where
    abbrev d : Draft
    d = draft_of ready.store

    table_same : new.handles ≡ v.table
    table_same = rest ∙ still.table

    declines_old : IsDeclined state ready new → Declines state v.log (seen new).log d
    declines_old done = declines_after still.reads (seen new).log d done.declines

    tells_old : TellsFew state (seen ready).log (seen new).log (asked_by d) → TellsFew state v.log (seen new).log (asked_by d)
    tells_old = tells_after still.reads (seen new).log

    low_old : (seen ready).log.number < 2 ^ 62 → v.log.number < 2 ^ 62
    low_old low = let same = still.reads.number in omega (arith, same, low)

    still_new : seen new ≡ seen ready → IsStill state v (seen new)
    still_new same = subst (λ (x : Mounted D). IsStill state v x) (sym same) still

    room_here : need_of ready ≤ limit_of ready → need_of ready ≤ 47 * segments_of v
    room_here = subst (λ (n : ℕ). need_of ready ≤ 47 * n) still.reads.segments

    -- it is staged
    pub accepted_serves : changes call ≡ true → never_for_device call ≡ false → (drafts : AreDrafts state v ready call) (x : Answer)
        → is_ok x ≡ true → (table : Handles) → EndIn state v ready call drafts x table
        → (IsBounded state v (with_open new table) call → Behaves state v (with_open new table) call x) → StagesDraft state ready new
        → Serves state v (with_open new table) call x
    accepted_serves change free drafts x ok table ends behaves stages =
        let accepts = accepts_after still.reads (seen new).log d stages.accepts in
        let low = low_old stages.young in
        accepts_by state v (with_open new table) call (lawful v.log.device)
        (lawful (seen new).log.device) accepts.carries accepts.segments was accepts.saves.number d
        accepts low x (ok_refuses_none {a = x} {r = refusal.Halted} ok)
        (λ e. let no : acknowledges call x ≡ false = ap (λ (b : Bool). b && is_ok x) (commits_none call free) in cc)
        (behaves (change_bounded state v (with_open new table) call change accepts.saves.few small
        (tells_old stages.tells)))
        (λ p keeps here k m0 m is. (
        let before = stages.accepts.carries.kept_before keeps in
        let draft = drafts before k m0 m p.state is in
        let end = ends before k m0 m p.state is in
        let room = room_here stages.room in
        record {
          next = draft.next;
          fits = draft.fits;
          map = draft.map room;
          handles = end.1;
          counted = subst (λ (t : BlockTotals). AreTotals (with_draft d m) t)
              (sym stages.totals) draft.counted;
          steps = inl (
            subst (λ (y : Answer). Step (segments_of v) p.state call y draft.next) end.0
                (draft.done room),
            not_worn (segments_of v) call p (let n = here.number in omega (arith, n, low)),
          );
        }))

    module _ (change : changes call ≡ true) (free : never_for_device call ≡ false)
        (takes : takes_no_memory call ≡ false) (unclean : cleans call ≡ false)
        (drafts : AreDrafts state v ready call) where
      -- it isn't, and so it fits
      declined_by : {r : Refusal} → (r ≡ refusal.Halted → ⊥) → (r ≡ refusal.Stuck → ⊥) → (done : IsDeclined state ready new)
          → AtEach state v (seen new) (λ p k m0 m. Fits d m
          → StepsOr (segments_of v) call p (Refuse r) (point_of state (seen new) p.state))
          → Serves state v (seen new) call (Refuse r)
      declined_by {r} other none done each =
          let declines = declines_old done in
          declines_by state v (seen new) call (lawful v.log.device) (lawful (seen new).log.device) declines.carries declines.segments was
          declines.saves.number d record { totals = done.totals ∙ still.reads.totals; table = table_same } declines (low_old done.young)
          other
          (write_behaves state call (Refuse r) (change_writes call change) table_same (λ e. none (cc)) (λ never e. not_both never takes)
          (change_bounded state v (seen new) call change declines.saves.few small (tells_old done.tells)))
          (λ p keeps at k m0 m is. (
          let fit = (drafts (done.declines.carries.kept_before keeps) k m0 m p.state is).fits in (fit, each p keeps at k m0 m is fit)))

      -- where nothing has changed, the draft makes of a state what it made before
      draft_in : seen new ≡ seen ready → (state (seen new).log.device).keeps_model → (k : CheckpointValue) (m0 m : LogMap) (s : State)
          → IsIn state v k m0 m s → IsDraft state v ready call m s
      draft_in same keeps = drafts (subst (λ (x : Mounted D). (state x.log.device).keeps_model) same keeps)

      pub draft_turned : (e : FsError) → TurnsDown state ready new e → Serves state v (seen new) call (Refuse (refusal_of e))
      -- the tree would need more than there is
      draft_turned error.NoSpace down =
          refused_serves {call = call} (lawful v.log.device) (still_new down.0) was {r = refusal.NoSpace} tt unclean
          (λ k m0 m s keeps is.
          (draft_in down.0 keeps k m0 m s is).lacks (subst (λ (n : ℕ). 47 * n < need_of ready) still.reads.segments down.1))
      -- the last number is reached
      draft_turned error.Worn down =
          worn_serves {call = call} (lawful v.log.device) (still_new down.0) was change
          (let same = still.reads.number in let high = down.1 in omega (arith, same, high)) (λ k m0 m s keeps is. (
          let draft = draft_in down.0 keeps k m0 m s is in (draft.answer, draft.next, draft.done (room_here down.2), draft.ok)))
      draft_turned error.NoMemory down = declined_by (λ e. cc) (λ e. cc) down (λ p keeps at k m0 m is fit.
          inr (refusal.NoMemory, refl, takes, refl))
      draft_turned error.Device down = declined_by (λ e. cc) (λ e. cc) down.0 (λ p keeps at k m0 m is fit. ⊎_elim
          (λ (failed : IsAcceptFault state (seen ready).log (seen new).log d).
          let rose = fault_after still.reads (seen new).log d failed k m0 m keeps is.holds fit (map_dropped state (seen new) keeps
          (lawful v.log.device) (lawful (seen new).log.device) (declines_old down.0).carries is) in
          inr (refusal.Device, refl, (free, (let f = at.failures in omega (arith, f, rose))), refl))
          (λ (cannot : MayNotMakeClean state (seen ready).log (seen new).log).
          absurd (cannot k m0 m keeps (has_room (lawful (seen ready).log.device) down.0.young k m0 m (still_in state still is)))) down.1)
      draft_turned error.Halted down =
          halts_serves v {new = seen new} call was (change_writes call change) table_same
          (subst (λ (n : ℕ). most_checkpoints (seen ready).log ≤ n / 8 + 1) still.reads.segments (few_checkpoints (seen ready).log))
          (λ few. change_bounded state v (seen new) call change few small (tells_old down.1))
          (halts_after still.reads (seen new).log down.0)
      draft_turned fault down = absurd down

      -- it is, or it isn't; the open files stay
      pub draft_ends : is_ok a ≡ true → EndIn state v ready call drafts a v.table → {X : Type 0} (r : Result X FsError)
          → OnOk r (StagesDraft state ready new) → IfErr r (TurnsDown state ready new)
          → Serves state v (seen new) call (answer_by (λ _. a) r)
      draft_ends ok ends (Ok x) stages down = accepted_serves change free drafts a ok
          new.handles (subst (EndIn state v ready call drafts a) (sym table_same) ends)
          (write_behaves state {old = v} {new = seen new} call a (change_writes call change) table_same
          (ok_refuses_none {a = a} {r = refusal.Stuck} ok)
          (λ never. ok_refuses_none {a = a} {r = refusal.NoMemory} ok)) stages
      draft_ends ok ends (Err e) stages down = draft_turned e down
