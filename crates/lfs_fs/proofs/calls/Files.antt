-- Calls over files, as the model's steps: what is told of each log map,
-- in each state that the volume may be in; and what becomes of a draft.
use Rattle.lfs_fs.proofs.Prelude.{◌≡◌, ◌<◌, ◌≤◌, ◌*◌, ℕ, true, false, List, Option, Some, None, Result, refl, sym, ◌∙◌, subst, ap}
use Rattle.lfs_fs.proofs.Prelude.{arith, Answer, Call, Refuse, changes, cleans, is_ok, never_for_device, takes_no_memory, CheckpointValue}
use Rattle.lfs_fs.proofs.Prelude.{DeviceState, IsLawful, Refusal, LogMap, Step, no_last, IsCounted, Handles, State, At, Parent, LogFault}
use Rattle.lfs_fs.proofs.Prelude.{Store, asked_by, draft_of, drafted_of, volume_of, files_of, BlockTotals, empty_draft, Last}
use Rattle.lfs_fs.proofs.Prelude.{GrowsDirectory, last_says, EntryFault, FsError, Fs, StagesDraft, TurnsDown, need_of, error_of_entry}
use Rattle.lfs_fs.proofs.Prelude.{error_of_log, Reaches, refusal_of, IsReady, answer_by, seen, Behaves, IsIn, IsStill, Mounted, Serves}
use Rattle.lfs_fs.proofs.Prelude.{segments_of, IsReached, IsMapOf, Finishes, OnOk, IfErr, IsErrOf, Ok, Err}
use Rattle.lfs_model.specs.Refusal as refusals
use Rattle.lfs_model.specs.Sound.{Sound}
use Rattle.lfs_files.specs.declared.fault.LogFault.TheVariants as log
use Rattle.lfs_files.specs.Files as files
use Rattle.lfs_files.specs.Files.{AreCounted}
use Rattle.lfs_store.specs.Growing.{asked_by_changes}
use Rattle.lfs_store.proofs.Known.{empty_apart, reads_staged}
use Rattle.lfs_entries.specs.declared.fault.EntryFault.TheVariants as fault
use Rattle.lfs_entries.specs.Telling as telling
use Rattle.lfs_fs.specs.Asking.{most_asked}
use Rattle.lfs_fs.specs.Finishing.{EndsDraft, GivesUp}
use Rattle.lfs_fs.proofs.calls.AnyDevice.{IsBounded, IsOrdinary}
use Rattle.lfs_fs.proofs.calls.DraftSizes.{adds_fit}
use Rattle.lfs_fs.proofs.calls.Exits.{still_in}
use Rattle.lfs_fs.proofs.calls.Reads.{memory_serves, refused_serves}
use Rattle.lfs_fs.proofs.paths.Places.{path_read, ready_after}
use Rattle.lfs_fs.proofs.read.Ends.{failed_serves}
use Rattle.lfs_fs.proofs.volume.Map.{headers_of_volume, map_of_volume}
use Rattle.lfs_fs.proofs.write.Ends.{AreDrafts, accepted_serves, draft_ends, draft_turned, still_none, with_open}
use Rattle.lfs_fs.proofs.new_entries.Ends.{still_more}

-- a volume with another store
abbrev pub with_store : {D : Type 0} → Fs D → Store D → Fs D
with_store f store = record { alloc = f.alloc; store = store; handles = f.handles }

-- ---- what a fault of a rule or of a draft says of a state: the call is refused so, or a call of the device failed
abbrev pub Explains : Call → ℕ → State → Type 0 → EntryFault → Type 0
Explains call N s rose fault.NoMemory = Unit {0}
Explains call N s rose (fault.Log f) = rose
Explains call N s rose other = Step N s call (Refuse (refusal_of (error_of_entry other))) s

module _ {D : Type 0} (state : D → DeviceState) where
  -- A volume that was only read since a call began: it isn't halted, and nothing is drafted.
  pub record IsBegun (v : Mounted D) (f : Fs D) : Type 0 where
    pub still : IsStill state v (seen f)
    pub ready : IsReady f
    pub drafted : drafted_of f.store ≡ (seen f).log.totals

  -- What holds of each state that the volume may be in, where the device keeps the model until then.
  abbrev pub In : Mounted D → Fs D → (LogMap → State → Type 0) → Type 0
  In v f P = (k : CheckpointValue) (m0 m : LogMap) (s : State) → (state (seen f).log.device).keeps_model → IsIn state v k m0 m s → P m s

  -- a volume's files are read, or changes of them drafted
  abbrev pub ReadsTo : Fs D → Store D → Type 0
  ReadsTo f store = files.Reads (files_of state f.store) (files_of state store)

  abbrev pub RedraftsTo : Fs D → Store D → Type 0
  RedraftsTo f store = files.Redrafts (files_of state f.store) (files_of state store)

  -- a call of the device failed since the volume's call began
  abbrev pub Rose : Mounted D → Store D → Type 0
  Rose v store = (state v.log.device).failures < (state (volume_of store).device).failures

  -- What a draft makes of a state: with room the next one, by a step with this answer.
  pub record MakesNext (v : Mounted D) (after : Fs D) (call : Call) (m : LogMap) (s : State) : Type 0 where
    pub next : State
    pub answer : Answer
    pub ok : is_ok answer ≡ true
    pub map : LogMap
    pub has : (files_of state after.store).has m map
    pub fits : (files_of state after.store).fits m
    pub counted : AreCounted map (files_of state after.store).drafted
    pub is : need_of after ≤ 47 * segments_of v → IsMapOf (segments_of v) map next
    pub done : need_of after ≤ 47 * segments_of v → Step (segments_of v) s call answer next
    pub lacks : 47 * segments_of v < need_of after → Step (segments_of v) s call (Refuse refusals.NoSpace) s

  pub begun_at : {v : Mounted D} {f : Fs D} {path : List ℕ} {d : ℕ} {piece : Option Last} → Reaches state v f path d piece → IsReady f
      → IsBegun v f
  begun_at reached ready = record { still = reached.still; ready = ready; drafted = reached.drafted }

  -- so it is where it just began
  pub here_begun : (lawful : (d : D) → IsLawful (state d)) {f : Fs D} → IsReady f → drafted_of f.store ≡ (seen f).log.totals
      → IsBegun (seen f) f
  here_begun lawful {f} ready drafted = record { still = still_none state lawful (seen f); ready = ready; drafted = drafted }

-- ---- the path of a call has no last piece
module _ {D : Type 0} {state : D → DeviceState} (lawful : (d : D) → IsLawful (state d)) {v : Mounted D} {f : Fs D} {path : List ℕ} (d : ℕ)
    (reached : Reaches state v f path d None) (running : (seen f).log.halted ≡ false) where
  pub nameless : (call : Call) → cleans call ≡ false → (r : Refusal) → IsOrdinary (Refuse r)
      → ((s : State) → Sound (segments_of v) s → Parent s.tree path (At d) → no_last path ≡ true
      → Step (segments_of v) s call (Refuse r) s)
      → Serves state v (seen f) call (Refuse r)
  nameless call unclean r ordinary steps =
      refused_serves (lawful v.log.device) reached.still (sym reached.still.reads.halted ∙ running) ordinary unclean
      (λ k m0 m s keeps is. steps s is.log.sound (reached.walk k m0 m s keeps is) (last_says path None reached.last))

-- in a state, at the last piece of the path
pub reached_in : {D : Type 0} {state : D → DeviceState} {v : Mounted D} {f : Fs D} {path : List ℕ} {d : ℕ} {l : Last}
    → Reaches state v f path d (Some l) → In state v f (λ m s. IsReached (segments_of v) m s path d l)
reached_in reached k m0 m s keeps is = record {
  map = map_of_volume is;
  headers = headers_of_volume is;
  walk = reached.walk k m0 m s keeps is;
  last = reached.last;
  bytes = reached.bytes;
}

module _ {D : Type 0} {state : D → DeviceState} {v : Mounted D} {f : Fs D} (begun : IsBegun state v f) where
  -- the log map of a state, with the draft, which is empty
  pub has_in : {k : CheckpointValue} {m0 m : LogMap} {s : State} → IsIn state v k m0 m s → (files_of state f.store).has m m
  has_in {k} {m0} {m} {s} is = record {
    checkpoint = k;
    acknowledged = m0;
    holds = (still_in state begun.still is).holds;
    draft = sym (empty_draft (draft_of f.store) m begun.ready.empty).0;
  }

  -- a call of the device failed since the volume's call began
  pub risen : (store : Store D) → (state (seen f).log.device).failures < (state (volume_of store).device).failures → Rose state v store
  risen store rose = let before = begun.still.reads.looks.carries.failures in omega (arith, rose, before)

  -- a draft fails only where memory does, or where a call of the device failed
  pub explains_where : (store : Store D) {P : LogMap → Type 0} → In state v (with_store f store) (λ m s. P m) → (call : Call)
      → (e : EntryFault) → telling.FailsWhere (files_of state f.store) (files_of state store) P e
      → In state v (with_store f store) (λ m s. Explains call (segments_of v) s (Rose state v store) e)
  explains_where store holds call fault.NoMemory failed k m0 m s keeps is = tt
  explains_where store holds call (fault.Log why) failed k m0 m s keeps is =
      risen store (failed m m keeps (has_in is) (holds k m0 m s keeps is))
  explains_where store holds call other failed k m0 m s keeps is = absurd failed

module _ {D : Type 0} (state : D → DeviceState) (lawful : (d : D) → IsLawful (state d)) (v : Mounted D) (f : Fs D)
    (begun : IsBegun state v f) where
  pub was : v.log.halted ≡ false
  was = sym begun.still.reads.halted ∙ begun.ready.running

  pub has_now : {k : CheckpointValue} {m0 m : LogMap} {s : State} → IsIn state v k m0 m s → (files_of state f.store).has m m
  has_now is = has_in begun is

  pub fits_now : (m : LogMap) → (files_of state f.store).fits m
  fits_now m = (empty_draft (draft_of f.store) m begun.ready.empty).1

  pub counted_now : {k : CheckpointValue} {m0 m : LogMap} {s : State} → IsIn state v k m0 m s
      → AreCounted m (files_of state f.store).drafted
  counted_now {m} is =
      subst (λ t. IsCounted m t.data_blocks t.meta_blocks) (sym begun.drafted)
      (subst (λ (t : BlockTotals). IsCounted m t.data_blocks t.meta_blocks) (sym begun.still.reads.totals) is.counted)

  -- nothing is lost yet
  pub apart_now : (n : ℕ) → files.IsApart (files_of state f.store).lost n
  apart_now n = empty_apart (draft_of f.store) n begun.ready.empty

  module _ (store : Store D) where
    abbrev pub after : Fs D
    after = with_store f store

    abbrev pub InEach : (LogMap → State → Type 0) → Type 0
    InEach = In state v after

    module _ (still : IsStill state (seen f) (seen after)) where
      pub still_after : IsStill state v (seen after)
      still_after = still_more state v (lawful v.log.device) begun.still still

      -- the log gave no answer
      pub unanswered : (call : Call) → never_for_device call ≡ false → (e : LogFault)
          → (e ≡ log.Halted → (files_of state f.store).halted ≡ true) → (e ≡ log.Full → ⊥) → InEach (λ m s. Rose state v store)
          → Serves state v (seen after) call (Refuse (refusal_of (error_of_log e)))
      unanswered call free log.Device halted other each =
          failed_serves v call (lawful v.log.device) still_after was free each
      unanswered call free log.Halted halted other each = absurd (let on = halted refl in let off = begun.ready.running in cc)
      unanswered call free log.Full halted other each = absurd (other refl)

      module _ (call : Call) (free : never_for_device call ≡ false) (unclean : cleans call ≡ false)
          (memory : takes_no_memory call ≡ false) where
        -- the model refuses the call
        pub refused_after : (r : Refusal) → IsOrdinary (Refuse r) → InEach (λ m s. Step (segments_of v) s call (Refuse r) s)
            → Serves state v (seen after) call (Refuse r)
        refused_after r ordinary steps = refused_serves (lawful v.log.device) still_after was ordinary unclean steps

        -- ---- no answer, or no draft
        pub fault_serves : (e : EntryFault) → (e ≡ fault.Log log.Halted → (files_of state f.store).halted ≡ true)
            → (e ≡ fault.Log log.Full → ⊥) → InEach (λ m s. Explains call (segments_of v) s (Rose state v store) e)
            → Serves state v (seen after) call (Refuse (refusal_of (error_of_entry e)))
        fault_serves fault.NoMemory halted other each =
            memory_serves {call = call} (lawful v.log.device) still_after was memory
        fault_serves (fault.Log e) halted other each =
            unanswered call free e (λ same. halted (ap fault.Log same)) (λ same. other (ap fault.Log same)) each
        fault_serves e halted other each = refused_after (refusal_of (error_of_entry e)) tt each

        -- a draft is given up
        pub gives_up : {new : Fs D} {e : EntryFault} {result : Result (Unit {0}) FsError} → GivesUp state after new e result
            → (e ≡ fault.Log log.Halted → (files_of state f.store).halted ≡ true) → (e ≡ fault.Log log.Full → ⊥)
            → InEach (λ m s. Explains call (segments_of v) s (Rose state v store) e) → (a : Answer)
            → Serves state v (seen new) call (answer_by (λ _. a) result)
        gives_up {new} {e} gives halted other each a =
            subst (λ r. Serves state v (seen new) call (answer_by (λ _. a) r)) (sym gives.is)
            (subst (λ (w : Mounted D). Serves state v w call (Refuse (refusal_of (error_of_entry e)))) (sym gives.same)
            (fault_serves e halted other each))

        -- and refuses the call only where memory does, or where a call of the device failed
        pub gives_up_where : (P : LogMap → Type 0) → InEach (λ m s. P m) → {new : Fs D} {e : EntryFault}
            {result : Result (Unit {0}) FsError} → GivesUp state after new e result
            → telling.FailsWhere (files_of state f.store) (files_of state store) P e
            → (e ≡ fault.Log log.Halted → (files_of state f.store).halted ≡ true) → (e ≡ fault.Log log.Full → ⊥) → (a : Answer)
            → Serves state v (seen new) call (answer_by (λ _. a) result)
        gives_up_where P holds {e = e} gives failed halted other a =
            gives_up gives halted other (explains_where begun store holds call e failed) a

    -- ---- changes were drafted
    module _ (redrafts : RedraftsTo state f store) where
      pub still_ready : IsStill state (seen f) (seen after)
      still_ready = record { reads = reads_staged redrafts.looks redrafts.staged; table = refl }

      -- a draft of so many headers and blocks asks for no more memory than these do
      pub takes_draft : (headers blocks : ℕ) {most : ℕ} → asked_by_changes headers blocks ≤ most
          → GrowsDirectory (files_of state f.store) (files_of state store) headers blocks → asked_by (draft_of store) ≤ most
      takes_draft headers blocks few grows = adds_fit state f.store store headers blocks few begun.ready.empty grows

      module _ (call : Call) (change : changes call ≡ true) (free : never_for_device call ≡ false)
          (memory : takes_no_memory call ≡ false) (unclean : cleans call ≡ false) where
        abbrev pub Makes : LogMap → State → Type 0
        Makes = MakesNext state v after call

        module _ (makes : InEach Makes) (new : Fs D) (rest : new.handles ≡ f.handles) (a : Answer) where
          drafts : AreDrafts state v after call
          drafts keeps k m0 m s is = let made = makes k m0 m s keeps is in record {
            next = made.next;
            answer = made.answer;
            ok = made.ok;
            fits = made.fits;
            counted = subst (λ x. IsCounted x (drafted_of store).data_blocks (drafted_of store).meta_blocks) made.has.draft made.counted;
            map = λ room. subst (λ x. IsMapOf (segments_of v) x made.next) made.has.draft (made.is room);
            done = made.done;
            lacks = made.lacks;
          }

          -- the answer, and the open files
          abbrev pub EndsWith : Answer → Handles → Type 0
          EndsWith x table = (k : CheckpointValue) (m0 m : LogMap) (s : State) (keeps : (state (volume_of store).device).keeps_model)
              (is : IsIn state v k m0 m s) → ((makes k m0 m s keeps is).answer ≡ x) × ((makes k m0 m s keeps is).next.handles ≡ table)

          -- it is staged, or it isn't; the open files stay
          module _ (small : asked_by (draft_of store) ≤ most_asked call) where
            pub finish_ends : is_ok a ≡ true → EndsWith a v.table → {result : Result (Unit {0}) FsError}
                → EndsDraft state after new result → Serves state v (seen new) call (answer_by (λ _. a) result)
            unfolding drafts
            finish_ends ok ends {result} finishes = draft_ends state lawful v after new call a (still_after still_ready) was rest small
                change free memory unclean drafts ok (λ keeps k m0 m s is. ends k m0 m s keeps is) result finishes.done finishes.refused

            -- it isn't
            pub finish_turned : (e : FsError) → TurnsDown state after new e → Serves state v (seen new) call (Refuse (refusal_of e))
            finish_turned = draft_turned state lawful v after new call a (still_after still_ready) was rest small change free memory
                unclean drafts

            -- it is, and the open files are these then
            pub finish_opens : is_ok a ≡ true → (table : Handles) → EndsWith a table
                → (IsBounded state v (with_open new table) call → Behaves state v (with_open new table) call a)
                → StagesDraft state after new → Serves state v (with_open new table) call a
            unfolding drafts
            finish_opens ok table ends behaves stages = accepted_serves state lawful v after new call a (still_after still_ready) was rest
                small change free drafts a ok table (λ keeps k m0 m s is. ends k m0 m s keeps is) behaves stages

        -- A draft of P and Q is whole and ends so, or it is given up, and this explains why.
        pub drafted_ends : {P Q : Type 0} {Why : EntryFault → Type 0} (makes : P → Q → InEach Makes) (new : Fs D)
            (rest : new.handles ≡ f.handles) (a : Answer) → is_ok a ≡ true
            → ((p : P) (q : Q) → EndsWith (makes p q) new rest a a v.table)
            → ((e : EntryFault) → Why e → InEach (λ m s. Explains call (segments_of v) s (Rose state v store) e))
            → (draft : Result (Unit {0}) EntryFault) (result : Result (Unit {0}) FsError) → Finishes state after new draft result
            → OnOk draft (asked_by (draft_of store) ≤ most_asked call) → OnOk draft P → OnOk draft Q → IfErr draft Why
            → (IsErrOf draft (fault.Log log.Halted) → (files_of state f.store).halted ≡ true)
            → (IsErrOf draft (fault.Log log.Full) → ⊥) → Serves state v (seen new) call (answer_by (λ _. a) result)
        drafted_ends makes new rest a ok ends explains (Ok u) result finishes small p q failed halted other =
            finish_ends (makes p q) new rest a small ok (ends p q) finishes
        drafted_ends makes new rest a ok ends explains (Err why) result finishes small p q failed halted other =
            gives_up still_ready call free unclean memory finishes (λ e. halted (ap Err e)) (λ e. other (ap Err e))
            (explains why failed) a

-- ---- a volume whose files were only read since a call began
module _ {D : Type 0} {state : D → DeviceState} (f : Fs D) (store : Store D) (reads : ReadsTo state f store) where
  pub read_still : IsStill state (seen f) (seen (with_store f store))
  read_still = (path_read state {old = f} store reads).still

  pub begun_after : (lawful : (d : D) → IsLawful (state d)) {v : Mounted D} → IsBegun state v f → IsBegun state v (with_store f store)
  begun_after lawful {v} begun = record {
    still = still_after state lawful v f begun store read_still;
    ready = ready_after state begun.ready (path_read state {old = f} store reads);
    drafted = (path_read state {old = f} store reads).drafted ∙ begun.drafted ∙ sym read_still.reads.totals;
  }

-- a volume whose call came to the last piece of a path, and then read
pub begun_read : {D : Type 0} {state : D → DeviceState} (lawful : (d : D) → IsLawful (state d)) {v : Mounted D} {f : Fs D} {path : List ℕ}
    {d : ℕ} {piece : Option Last} → Reaches state v f path d piece → IsReady f → (store : Store D)
    → ReadsTo state f store → IsBegun state v (with_store f store)
begun_read {state} lawful {v} {f} reached ready store reads = begun_after f store reads lawful (begun_at state reached ready)
