-- The ends of a close, and of a sync through a handle, as steps of the model.
use Rattle.lfs_fs.proofs.Prelude.{◌≡◌, ◌≤◌, ◌<◌, ◌==◌, ◌&&◌, ℕ, true, false, Some, refl, sym, ◌∙◌, ap, subst, inl, inr, ⊎_elim, arith}
use Rattle.lfs_fs.proofs.Prelude.{eq-eqb, nat_cmp, find, Answer, Close, Done, Fsync, Refuse, Sync, CheckpointValue, DeviceState, IsLawful}
use Rattle.lfs_fs.proofs.Prelude.{IsLogMap, Refusal, Device, Halted, Stuck, Worn, IsExcused, Point, StepsOr, LogMap, Step, Handles, State}
use Rattle.lfs_fs.proofs.Prelude.{names, opened, without, LogFault, Store, BlockTotals, without_file, Holds, Reads, AreTotals, volume_of}
use Rattle.lfs_fs.proofs.Prelude.{files_of, HasHeader, HasObject, Tells, TellsFault, held_still, reads_none, FsError, Fs, error_of_log}
use Rattle.lfs_fs.proofs.Prelude.{refusal_of, GivesNone, seen, IsAt, IsIn, IsStill, Mounted, Serves, ServesAt, segments_of, close_goes}
use Rattle.lfs_fs.proofs.Prelude.{close_stays, closed, rest, opened_file}
use Rattle.lfs_model.specs.Entry.{Header}
use Rattle.lfs_model.specs.Memory.{is_nameless, is_unlinked}
use Rattle.lfs_model.specs.Refusal.{NoMemory}
use Rattle.lfs_files.specs.declared.fault.LogFault.TheVariants as log
use Rattle.lfs_files.specs.declared.header.Header as headers
use Rattle.lfs_store.specs.memory.Present.{as_header}
use Rattle.lfs_store.specs.log.LogState.{IsKept, IsReadFault, IsRemoved}
use Rattle.lfs_store.specs.Recounting.{CountsGone}
use Rattle.lfs_store.proofs.Recounted.{kept_more, removed_more}
use Rattle.lfs_store.proofs.of_log.LogReads.{fault_more}
use Rattle.lfs_fs.proofs.calls.Answers.{In, ReadsTo, known, log_fails}
use Rattle.lfs_fs.proofs.calls.Files.{IsBegun, read_still, with_store}
use Rattle.lfs_fs.proofs.calls.AnyDevice.{kept_behaves, opens_behaves, write_behaves}
use Rattle.lfs_fs.proofs.calls.Steps.{never_worn}
use Rattle.lfs_fs.proofs.open_files.ClosedMaps.{closed_map, gone_map, names_by}
use Rattle.lfs_steps.proofs.open_files.CloseSteps.{close_bad_handle, fsync_bad_handle, fsync_done, named_stays, open_stays}
use Rattle.lfs_fs.proofs.volume.Map.{map_of_volume, shape_of_volume}
use Rattle.lfs_fs.proofs.open_files.TableEnds.{altered_serves, table_serves}
use Rattle.lfs_fs.proofs.write.Exits.{unopened}

-- ---- fsync

-- through an open handle a sync's step is an fsync's
fsync_step : (N : ℕ) {s : State} (h n : ℕ) → find nat_cmp h s.handles ≡ Some n → (a : Answer) {s' : State} → Step N s Sync a s'
    → Step N s (Fsync h) a s'
fsync_step N {s} h n opens a step =
    let done = fsync_done N s h n opens in
    record {
      first_end = done.first_end;
      second_end = done.second_end;
      first = done.first;
      second = done.second;
      answer = done.answer ∙ step.answer;
      state = done.state ∙ step.state;
    }

fsync_excused : (N h : ℕ) (p q : Point) (r : Refusal) → IsExcused N Sync p q r → IsExcused N (Fsync h) p q r
fsync_excused N h p q NoMemory e = e
fsync_excused N h p q Device e = e
fsync_excused N h p q Halted e = e
fsync_excused N h p q Stuck e = e
fsync_excused N h p q Worn e = absurd (never_worn N Sync p refl refl e)
fsync_excused N h p q other e = absurd e

fsync_steps : (N h n : ℕ) (p : Point) (a : Answer) (q : Point) → find nat_cmp h p.state.handles ≡ Some n → StepsOr N Sync p a q
    → StepsOr N (Fsync h) p a q
fsync_steps N h n p a q opens steps = ⊎_elim
    (λ done. inl (fsync_step N h n opens a done.0, never_worn N (Fsync h) p refl refl))
    (λ excused. inr (excused.0, excused.1, fsync_excused N h p q excused.0 excused.2, excused.3))
    steps

module _ {D : Type 0} {state : D → DeviceState} {old new : Mounted D} (was : old.log.halted ≡ false) (h : ℕ) {n : ℕ}
    (opens : find nat_cmp h old.table ≡ Some n) (a : Answer) where
  fsync_at : (p : Point) → IsAt state old p → ServesAt state old new Sync a p → ServesAt state old new (Fsync h) a p
  fsync_at p at sync = record {
    next = sync.next;
    at = sync.at;
    answers = record {
      steps = fsync_steps (segments_of old) h n p a sync.next (ap (find nat_cmp h) (at.running was).is.handles ∙ opens) sync.answers.steps;
      halted = sync.answers.halted;
      halts = sync.answers.halts;
      goes_on = sync.answers.goes_on;
      failures = sync.answers.failures;
      failed_orders = sync.answers.failed_orders;
      failed_reads = sync.answers.failed_reads;
      number = sync.answers.number;
      few = sync.answers.few;
      quiet = sync.answers.quiet;
      first_halted = sync.answers.first_halted;
    };
    leaves = sync.leaves;
    shape = sync.shape;
    saves = sync.saves;
  }

  -- a sync through an open handle is an fsync
  pub fsync_serves : Serves state old new Sync a → Serves state old new (Fsync h) a
  fsync_serves sync = record {
    carries = sync.carries;
    segments = sync.segments;
    orderly = sync.orderly;
    halts = sync.halts;
    behaves = write_behaves state (Fsync h) a refl (sync.behaves.handles refl) sync.behaves.stuck sync.behaves.memory
        record {
          few = sync.behaves.few;
          told = sync.behaves.told;
          one_pass = sync.behaves.one_pass;
          one_commit = sync.behaves.one_commit;
          all_saved = λ saves. sync.behaves.all_saved refl;
          idle = λ later. absurd (cc);
        };
    model = λ p keeps at. fsync_at p at (sync.model p keeps at);
  }

-- ---- close

module _ {D : Type 0} {state : D → DeviceState} (lawful : (d : D) → IsLawful (state d)) where
  -- the handle gives no file
  pub close_unopened : (v : Mounted D) → v.log.halted ≡ false → (h : ℕ) (fault : FsError) → GivesNone v.table h fault
      → Serves state v v (Close h) (Refuse (refusal_of fault))
  close_unopened v was h = unopened lawful v was h refl (λ N s none. close_bad_handle N s h none)

  pub fsync_unopened : (v : Mounted D) → v.log.halted ≡ false → (h : ℕ) (fault : FsError) → GivesNone v.table h fault
      → Serves state v v (Fsync h) (Refuse (refusal_of fault))
  fsync_unopened v was h = unopened lawful v was h refl (λ N s none. fsync_bad_handle N s h none)

  module _ (old new : Mounted D) (was : old.log.halted ≡ false) (h n : ℕ)
      (opens : find nat_cmp h old.table ≡ Some n) where
    opened_in : (s : State) → s.handles ≡ old.table → find nat_cmp h s.handles ≡ Some n
    opened_in s same = ap (find nat_cmp h) same ∙ opens

    module _ (table : new.table ≡ without nat_cmp h old.table) where
      closed_handles : (s : State) → s.handles ≡ old.table → without nat_cmp h s.handles ≡ new.table
      closed_handles s same = ap (without nat_cmp h) same ∙ sym table

      -- the file keeps a name, or another handle
      pub close_keeps : Reads state old.log new.log
          → ((k : CheckpointValue) (m0 m : LogMap) (s : State) → (state new.log.device).keeps_model → IsIn state old k m0 m s
          → (names s.tree n == 0 && opened (without nat_cmp h s.handles) n == 0) ≡ false)
          → Serves state old new (Close h) Done
      close_keeps reads stays =
          table_serves old new (lawful old.log.device) (lawful new.log.device) was (Close h) Done
          reads refl refl (λ e. cc) (λ p keeps here k m0 m is. record {
            next = closed (segments_of old) p.state h p.state.tree;
            map = closed_map m (map_of_volume is) h n (opened_in p.state is.handles) (stays k m0 m p.state keeps is);
            handles = closed_handles p.state is.handles;
            steps = inl (
              close_stays (segments_of old) p.state h n (opened_in p.state is.handles) (stays k m0 m p.state keeps is),
              never_worn (segments_of old) (Close h) p refl refl,
            );
          })

      -- it goes with its last handle
      module _ (links : ℕ) (nameless : links ≡ 0) (shut : opened (without nat_cmp h old.table) n ≡ 0)
          (there : (k : CheckpointValue) (m0 m : LogMap) (s : State) → (state new.log.device).keeps_model → IsIn state old k m0 m s
          → (g : Header) × (m.header n ≡ Some g) × (g.links ≡ links)) where
        pub close_removes : IsRemoved state old.log new.log n
            → ((k : CheckpointValue) (m0 m : LogMap) → (state new.log.device).keeps_model → Holds state old.log k m0 m → IsLogMap m
            → IsLogMap (without_file n m) → AreTotals m old.log.totals → AreTotals (without_file n m) new.log.totals)
            → Serves state old new (Close h) Done
        close_removes gone counted =
            altered_serves old new (lawful old.log.device) (lawful new.log.device) was (Close h) Done gone.alters
            (opens_behaves state (Close h) Done gone.alters.looks gone.alters.number refl refl) (λ e. cc) (λ e. cc)
            (λ p keeps here k m0 m is. (
            let map = map_of_volume is in
            let open_is = opened_in p.state is.handles in
            let header = there k m0 m p.state keeps is in
            let no_name : names p.state.tree n ≡ 0 = names_by m map h n open_is header.1 ∙ header.2 ∙ nameless in
            let no_other : opened (rest (segments_of old) p.state h) n ≡ 0 = ap (λ hs. opened (without nat_cmp h hs) n) is.handles ∙ shut in
            let next_map = gone_map m map h n open_is no_name no_other (shape_of_volume is) in
            let hidden : is_nameless m n ≡ true = ap is_unlinked header.1 ∙ eq-eqb header.0.links 0 (header.2 ∙ nameless) in
            record {
              next = closed (segments_of old) p.state h (without nat_cmp n p.state.tree);
              present = without_file n m;
              saved = gone.nameless k m0 m keeps is.holds hidden;
              holds = gone.holds k m0 m keeps is.holds;
              map = next_map;
              handles = closed_handles p.state is.handles;
              counted = counted k m0 m keeps is.holds is.map next_map.map is.counted;
              steps = inl
                  (close_goes (segments_of old) p.state h n open_is no_name no_other, never_worn (segments_of old) (Close h) p refl refl);
            }))

    -- a call of the device failed
    pub close_fails : IsKept state old.log new.log → IsReadFault state old.log new.log → new.log.totals ≡ old.log.totals
        → new.table ≡ old.table → Serves state old new (Close h) (Refuse Device)
    close_fails kept fault totals table =
        altered_serves old new (lawful old.log.device) (lawful new.log.device) was (Close h) (Refuse Device) kept.alters
        (kept_behaves state (Close h) (Refuse Device) kept.alters.looks kept.alters.number table tt) (λ e. cc) (λ e. cc)
        (λ p keeps here k m0 m is. record {
          next = p.state;
          present = m;
          saved = kept.saved;
          holds = kept.holds k m0 m keeps is.holds;
          map = map_of_volume is;
          handles = is.handles ∙ sym table;
          counted = subst (λ (t : BlockTotals). AreTotals m t) (sym totals) is.counted;
          steps = (let rose = fault k m0 m keeps is.holds in
              inr (Device, refl, (refl, (let f = here.failures in omega (arith, f, rose))), refl));
        })

-- ---- the ends of the function

module _ {D : Type 0} (state : D → DeviceState) (lawful : (d : D) → IsLawful (state d)) (old : Fs D) (was : (seen old).log.halted ≡ false)
    (h n : ℕ) (opens : find nat_cmp h old.handles ≡ Some n) where
  -- a volume with another store, and without the handle
  abbrev pub with_parts : Store D → Handles → Fs D
  with_parts store handles = record { alloc = old.alloc; store = store; handles = handles }

  abbrev IsClosed : Handles → Type 0
  IsClosed handles = handles ≡ without nat_cmp h old.handles

  -- another handle is open on the file
  pub close_shared : (handles : Handles) → IsClosed handles → (opened (without nat_cmp h old.handles) n ≡ 0 → ⊥)
      → Serves state (seen old) (seen (with_parts old.store handles)) (Close h) Done
  close_shared handles table some =
      close_keeps lawful (seen old) (seen (with_parts old.store handles)) was h n opens table (reads_none state (seen old).log)
      (λ k m0 m s keeps is. open_stays (names s.tree n) (opened (without nat_cmp h s.handles) n)
      (subst (λ hs. opened (without nat_cmp h hs) n ≡ 0 → ⊥) (sym is.handles) some))

  -- its header was read
  module _ (begun : IsBegun state (seen old) old) (read : Store D) (reads : ReadsTo state old read) where
    abbrev mid : Fs D
    mid = with_store old read

    still : IsStill state (seen old) (seen mid)
    still = read_still old read reads

    -- the file is there
    object : In state (seen old) old (λ m s. HasObject n m)
    object k m0 m s keeps is none =
        let there = (opened_file is.log h (ap (find nat_cmp h) is.handles ∙ opens)).there in absurd (cc)

    pub close_unread : (e : LogFault) → (e ≡ log.Halted → (files_of state old.store).halted ≡ true) → (e ≡ log.Full → ⊥)
        → TellsFault (files_of state old.store) (files_of state read) (HasObject n)
        → Serves state (seen old) (seen mid) (Close h) (Refuse (refusal_of (error_of_log e)))
    close_unread = log_fails lawful begun read reads object refl

    module _ (head : headers.Header) (has : Tells (files_of state old.store) (files_of state read) (λ m. Unit {0}) (HasHeader n head)) where
      there : In state (seen old) mid (λ m s. HasHeader n head m)
      there = known lawful begun read reads (λ m m' keeps is. has m m' keeps is tt)

      -- the file has a name
      pub close_named : (handles : Handles) → IsClosed handles → 0 < head.links
          → Serves state (seen old) (seen (with_parts read handles)) (Close h) Done
      close_named handles table some =
          close_keeps lawful (seen old) (seen (with_parts read handles)) was h n opens table still.reads
          (λ k m0 m s keeps is. (
          let names_is = names_by m (map_of_volume is) h n (ap (find nat_cmp h) is.handles ∙ opens) (there k m0 m s keeps is) in
          named_stays (names s.tree n) (opened (without nat_cmp h s.handles) n) (λ none. omega (arith, names_is, none, some))))

      -- it has none, and goes
      module _ (store : Store D) where
        pub close_last : (handles : Handles) → IsClosed handles → head.links ≤ 0
            → opened (without nat_cmp h old.handles) n ≡ 0
            → IsRemoved state (seen mid).log (volume_of store) n
            → CountsGone state (seen mid).log (volume_of store) n (seen mid).log.totals (volume_of store).totals
            → Serves state (seen old) (seen (with_parts store handles)) (Close h) Done
        close_last handles table none shut gone counts =
            let all =
            removed_more (lawful (seen old).log.device) still.reads gone in
            close_removes lawful (seen old) (seen (with_parts store handles)) was h n opens table head.links (omega (arith, none)) shut
            (λ k m0 m s keeps is. (as_header head, there k m0 m s (gone.alters.looks.carries.kept_before keeps) is, refl))
            all
            (λ k m0 m keeps holds map map' counted.
            counts k m0 m keeps (held_still state still.reads holds) map map'
            (subst (λ (t : BlockTotals). AreTotals m t) (sym still.reads.totals) counted))

        -- a call of the device failed
        pub close_faults : (fault : LogFault) {e : FsError} → e ≡ error_of_log fault → IsKept state (seen mid).log (volume_of store)
            → IsReadFault state (seen mid).log (volume_of store) → (volume_of store).totals ≡ (seen mid).log.totals
            → (fault ≡ log.Halted → (seen mid).log.halted ≡ true) → (fault ≡ log.Full → ⊥)
            → Serves state (seen old) (seen (with_parts store old.handles)) (Close h) (Refuse (refusal_of e))
        close_faults fault is kept failed totals halted full =
            subst (λ (x : FsError). Serves state (seen old) (seen (with_parts store old.handles)) (Close h) (Refuse (refusal_of x)))
            (sym is) (by fault halted full)
          where
            device : Serves state (seen old) (seen (with_parts store old.handles)) (Close h) (Refuse Device)
            device = close_fails lawful (seen old) (seen (with_parts store old.handles)) was h n opens
                (kept_more (lawful (seen old).log.device) still.reads kept) (fault_more state (volume_of store) still.reads failed)
                (totals ∙ still.reads.totals) still.table

            by : (x : LogFault) → (x ≡ log.Halted → (seen mid).log.halted ≡ true) → (x ≡ log.Full → ⊥)
                → Serves state (seen old) (seen (with_parts store old.handles)) (Close h) (Refuse (refusal_of (error_of_log x)))
            by log.Device halted full = device
            by log.Halted halted full = absurd (let on = halted refl in let off = still.reads.halted ∙ was in cc)
            by log.Full halted full = absurd (full refl)
