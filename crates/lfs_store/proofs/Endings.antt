-- How a store's calls on its log end, each as what its steps say.
use Rattle.std.specs.Prelude.{Result, Ok, Err, OnOk, IsErr, IsErrAnd, IsErrOf}
use Rattle.std.proofs.Common.{◌≡◌, ◌≢◌, ◌<◌, ◌≤◌, ◌+◌, true, false, ℕ, length, refl, sym, ◌∙◌, ap, subst, arith}
use Rattle.std.proofs.lemmas.Result.{err_from_is_err_and}
use Rattle.lfs_model.specs.Device.{DeviceState, IsLawful}
use Rattle.lfs_model.specs.declared.limits.TheConstants.{MOST_UNSAVED}
use Rattle.lfs_files.specs.declared.fault.LogFault.{LogFault}
use Rattle.lfs_files.specs.declared.fault.LogFault.TheVariants.{Full, Device, Halted}
use Rattle.lfs_files.specs.declared.fault.StoreFault.{StoreFault}
use Rattle.lfs_files.specs.declared.fault.StoreFault.TheVariants.{NoMemory, Log}
use Rattle.lfs_cleaner.specs.log.LogState.{LogState, IsFull, IsStaged, IsRefused, IsStageFault}
use Rattle.lfs_cleaner.specs.log.Saving.{commit_orders}
use Rattle.lfs_cleaner.specs.Making.{FailsClean, HaltsLater, HasQuarter, HasThreeSixteenths, IsAtRest, LacksClean, MakesClean}
use Rattle.lfs_cleaner.specs.Making.{most_checkpoints, clean_orders, once_orders}
use Rattle.lfs_cleaner.proofs.CleanBounds.{halts_first, lacks_commit}
use Rattle.lfs_cleaner.proofs.of_log.of_memory.Going.{ok_then}
use Rattle.lfs_store.specs.declared.store.Store.{Store}
use Rattle.lfs_store.specs.Accepting.{Declines, HasClean, HasCleanForTwo, HasRoomFor, Readies}
use Rattle.lfs_store.specs.Keeping.{KeepsDraft}
use Rattle.lfs_store.specs.Outcomes.{Accepted, Cleaned, Committed, Reserves}
use Rattle.lfs_store.specs.StoreState.{asked_by}
use Rattle.lfs_store.proofs.Acceptings.{accepts, accept_fault, commits_none, declines, declines_room, fails_after, halts_after, lacks_after}
use Rattle.lfs_store.proofs.Acceptings.{readies_none, room_fault, room_then}

-- the exit of a `?` is the error that it passes on
pub exit_is : {T E : Type 0} {r : Result T E} {e : E} → IsErr r × IsErrAnd r (λ y. y ≡ e) → r ≡ Err e
exit_is {r} gives = let y = err_from_is_err_and r gives.1 in rw (y.1, y.2) refl

abbrev log_error : LogFault → Result Unit LogFault
log_error fault = Err fault

abbrev store_error : StoreFault → Result Unit StoreFault
store_error fault = Err fault

-- the error of the log is the store's
as_log : {fault : LogFault} (other : LogFault) → store_error (Log fault) ≡ store_error (Log other) → log_error fault ≡ log_error other
as_log {fault} other e = let same : fault ≡ other = cc in ap log_error same

-- a commit that fails leaves what isn't saved so
pub still_unsaved : (D : Type 0) {h h' : LogState D} (X : Type 0) (fault : LogFault) → h.saved ≡ false
    → (log_error fault ≡ log_error Full → (h' ≡ h) × X) → (log_error fault ≡ log_error Device → ⊥)
    → (log_error fault ≡ log_error Halted → h'.saved ≡ false) → h'.saved ≡ h.saved
still_unsaved D X Full off full device halted = cc ((full refl).0)
still_unsaved D X Device off full device halted = absurd (device refl)
still_unsaved D X Halted off full device halted = halted refl ∙ sym off

pub keeps_none : {D : Type 0} {a : Store D} → KeepsDraft a a
keeps_none = record { draft = refl; totals = refl; drafted = refl }

no_more : {x y : ℕ} {most : ℕ} → x ≡ y → y ≤ most → x ≤ most
no_more same le = rw same le

-- what is told where the log was left as it was, and only looked at then
told_after : {D : Type 0} (state : D → DeviceState) (a b h : LogState D) → b ≡ a → (state h.device).told ≡ (state b.device).told
    → (state h.device).told ≡ (state a.device).told
told_after {D} state a b h same told = told ∙ ap (λ (l : LogState D). (state l.device).told) same

pub keeps_then : {D : Type 0} (a b c : Store D) → KeepsDraft a b → KeepsDraft b c → KeepsDraft a c
keeps_then a b c one two = record {
  draft = cc;
  totals = cc;
  drafted = cc;
}

module _ {D : Type 0} {state : D → DeviceState} where
  -- ---- a commit of a log that is halted, and of one that is saved
  pub committed_halted : {a : Store D} → a.log.halted ≡ true → Committed state a a (Err Halted)
  committed_halted {a} is = record {
    keeps = keeps_none;
    done = tt;
    ready = tt;
    saved = tt;
    saves = tt;
    same = refl;
    full = λ e. absurd (cc);
    unsaved = λ e. absurd (cc);
    other = λ e. absurd (cc);
    halted = λ e ne. absurd (ne is);
    still = λ t. (refl, refl);
    quiet = λ t. refl;
    told = omega arith;
    tells = omega arith;
  }

  pub committed_saved : {a : Store D} → IsLawful (state a.log.device) → a.log.halted ≡ false → a.log.saved ≡ true
      → Committed state a a (Ok tt)
  committed_saved {a} lawful running all = record {
    keeps = keeps_none;
    done = commits_none _ lawful running all;
    ready = readies_none lawful running;
    saved = all;
    saves = λ never. absurd (cc);
    same = tt;
    full = λ e. absurd (cc);
    unsaved = λ e. absurd (cc);
    other = λ e. absurd (cc);
    halted = λ e. absurd (cc);
    still = λ t. absurd (cc);
    quiet = λ t. refl;
    told = omega arith;
    tells = omega arith;
  }

  -- ---- room
  pub made_ready : {a b : Store D} → KeepsDraft a b → Readies state a.log b.log → Reserves state a b (Ok tt)
  made_ready keeps ready = record {
    keeps = keeps;
    done = ready.room;
    full = λ e. absurd (cc);
    device = λ e. absurd (cc);
    halted = λ e. absurd (cc);
  }

  pub made_none : {a : Store D} → IsLawful (state a.log.device) → a.log.halted ≡ false → Reserves state a a (Ok tt)
  made_none lawful running = made_ready keeps_none (readies_none lawful running)

  -- a commit that failed
  pub made_uncommitted : (a b : Store D) {fault : LogFault} → IsLawful (state a.log.device) → a.log.halted ≡ false
      → Committed state a b (Err fault) → Reserves state a b (Err fault)
  made_uncommitted a b lawful running commit = record {
    keeps = commit.keeps;
    done = tt;
    full = λ e. lacks_commit _ lawful running (commit.full e).0 (commit.full e).1 (commit.unsaved e);
    device = λ e. absurd (commit.other e);
    halted = λ e ne. halts_first _ {a = a.log} {b = b.log} (commit.halted e ne);
  }

  -- room that is made behind steps that leave the log ready
  pub made_then : {a b c : Store D} {r : Result Unit LogFault} → KeepsDraft a b → Readies state a.log b.log → Reserves state b c r
      → Reserves state a c r
  made_then {a} {b} {c} {r} keeps ready made =
      let running = ready.room.keeps.running in
      record {
        keeps = keeps_then _ _ _ keeps made.keeps;
        done = ok_then r _ _ (room_then {c = c.log} ready) made.done;
        full = λ e. lacks_after ready (made.full e);
        device = λ e. fails_after ready (made.device e);
        halted = λ e ne. halts_after ready (made.halted e (λ (t : b.log.halted ≡ true). absurd (cc)));
      }

  -- a commit behind them
  pub made_committed : {a b : Store D} (r : Result Unit LogFault) → IsLawful (state a.log.device) → a.log.halted ≡ false
      → Committed state a b r → Reserves state a b r
  made_committed {a} {b} (Ok x) lawful running commit = made_ready commit.keeps commit.ready
  made_committed {a} {b} (Err fault) lawful running commit = made_uncommitted _ _ lawful running commit

  -- ---- the cleaner makes room
  pub cleaned : {a : Store D} {h : LogState D} {r : Result Unit LogFault} → h.totals ≡ a.log.totals → OnOk r (MakesClean state a.log h)
      → (IsErrOf r Full → LacksClean state a.log h) → (IsErrOf r Device → FailsClean state a.log h)
      → (IsErrOf r Halted → a.log.halted ≢ true → HaltsLater state a.log h (most_checkpoints a.log))
      → (a.log.halted ≡ true → (h ≡ a.log) × IsErrOf r Halted) → (HasQuarter a.log → h ≡ a.log) → Cleaned state a (record a { log = h }) r
  cleaned totals done full device halted still quiet = record {
    room = record {
      keeps = record { draft = refl; totals = totals; drafted = refl };
      done = done;
      full = full;
      device = device;
      halted = halted;
    };
    still = still;
    quiet = quiet;
  }

  -- ---- a draft of a halted log
  pub accepted_halted : {a : Store D} → a.log.halted ≡ true → Accepted state a a.log (Err (Log Halted))
  accepted_halted is = record {
    counted = tt;
    kept = refl;
    done = tt;
    full = λ e. absurd (cc);
    lacks = λ e. absurd (cc);
    never = λ e. absurd (cc);
    memory = λ e. absurd (cc);
    fits = λ e. absurd (cc);
    device = λ e. absurd (cc);
    failed = λ e. absurd (cc);
    halted = λ e ne. absurd (ne is);
    still = λ t. (refl, refl);
    quiet = λ room clean ample. refl;
    told = omega arith;
    one_pass = λ two. omega arith;
    one_commit = λ two ample. omega arith;
    idle = λ room clean ample. refl;
  }

  -- ---- what holds however a draft ends, behind what readied the log
  module _ {a b : Store D} (running : a.log.halted ≡ false)
      (quiet : HasRoomFor a.log a.draft → HasClean a.log → HasThreeSixteenths a.log → b.log ≡ a.log)
      (told : length (state b.log.device).told
      ≤ length (state a.log.device).told + clean_orders a.log.segments)
      (one_pass : HasCleanForTwo a.log
      → length (state b.log.device).told ≤ length (state a.log.device).told + once_orders a.log.segments)
      (one_commit : HasCleanForTwo a.log → HasThreeSixteenths a.log
      → length (state b.log.device).told ≤ length (state a.log.device).told + commit_orders) where
    -- no room was made
    pub accepted_unready : {fault : LogFault} → Reserves state a b (Err fault) → (log_error fault ≡ log_error Full → IsFull b.log)
        → Accepted state a b.log (Err (Log fault))
    accepted_unready {fault} made lacks = record {
      counted = tt;
      kept = made.keeps.totals;
      done = tt;
      full = λ e. declines_room running (made.full (as_log _ e)).makes;
      lacks = λ e. lacks (as_log _ e);
      never = λ e. (made.full (as_log _ e)).never;
      memory = λ e. absurd (cc);
      fits = λ e. absurd (cc);
      device = λ e. declines_room running (made.device (as_log _ e)).makes;
      failed = λ e. room_fault _ b.log a.draft (made.device (as_log _ e)).fault;
      halted = λ e. made.halted (as_log _ e);
      still = λ t. absurd (cc);
      quiet = λ room clean ample. cc (quiet room clean ample);
      told = told;
      one_pass = one_pass;
      one_commit = one_commit;
      idle = λ room clean ample. told_after state a.log b.log b.log (quiet room clean ample) refl;
    }

    module _ {h : LogState D} (lawful : IsLawful (state b.log.device)) (made : Reserves state a b (Ok tt)) (enough : HasClean b.log) where
      -- it is staged
      pub accepted_staged : IsStaged state b.log h b.draft.changes → h.totals ≡ b.drafted → Accepted state a h (Ok tt)
      accepted_staged s totals = record {
        counted = cc;
        kept = tt;
        done = rw (← made.keeps.draft) (accepts _ _ _ _ lawful running made.done s.alters enough s);
        full = λ e. absurd (cc);
        lacks = λ e. absurd (cc);
        never = λ e. absurd (cc);
        memory = λ e. absurd (cc);
        fits = λ e. absurd (cc);
        device = λ e. absurd (cc);
        failed = λ e. absurd (cc);
        halted = λ e. absurd (cc);
        still = λ t. absurd (cc);
        quiet = λ room clean ample. cc (quiet room clean ample);
        told = no_more (cc) told;
        one_pass = λ two. no_more (cc) (one_pass two);
        one_commit = λ two ample. no_more (cc) (one_commit two ample);
        idle = λ room clean ample. told_after state a.log b.log h (quiet room clean ample) s.alters.looks.told;
      }

      -- it is refused
      pub accepted_refused : {fault : StoreFault} → IsRefused state b.log h b.draft.changes → h.totals ≡ b.log.totals
          → (fault ≡ Log Full → ⊥) → (fault ≡ Log Halted → ⊥)
          → (fault ≡ NoMemory → (a.log.saved ≡ true → IsAtRest a.log) → MOST_UNSAVED < asked_by b.draft)
          → (fault ≡ Log Device → IsStageFault state b.log h b.draft.changes)
          → Accepted state a h (Err fault)
      accepted_refused r totals some running' asks failed =
          let declined : Declines state a.log h a.draft = subst (Declines state a.log h) made.keeps.draft
          (declines _ _ _ _ lawful running made.done r.alters enough r) in
          record {
            counted = tt;
            kept = cc;
            done = tt;
            full = λ e. absurd (some (cc));
            lacks = λ e. absurd (some (cc));
            never = λ e. absurd (some (cc));
            memory = λ e. declined;
            fits = λ e rest. rw (← made.keeps.draft) (asks (cc) rest);
            device = λ e. declined;
            failed = λ e. rw (← made.keeps.draft) (accept_fault _ _ h b.draft lawful running made.done r.alters (failed (cc)));
            halted = λ e. absurd (running' (cc));
            still = λ t. absurd (cc);
            quiet = λ room clean ample. cc (quiet room clean ample);
            told = no_more (cc) told;
            one_pass = λ two. no_more (cc) (one_pass two);
            one_commit = λ two ample. no_more (cc) (one_commit two ample);
            idle = λ room clean ample. told_after state a.log b.log h (quiet room clean ample) r.alters.looks.told;
          }
