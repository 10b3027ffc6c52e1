-- Room in memory that early writes make.
use Rattle.std.proofs.Common.{◌≡◌, ◌<◌, ◌≤◌, ◌⊎◌, ◌+◌, ◌/◌, inl, inr, ⊎_elim, true, false, ℕ, length, refl, sym}
use Rattle.std.proofs.Common.{◌∙◌, subst, arith}
use Rattle.lfs_model.specs.Checkpoint.{shape_of}
use Rattle.lfs_model.specs.Content.{Content}
use Rattle.lfs_model.specs.Crash.{StandsOn}
use Rattle.lfs_model.specs.Device.{DeviceState, IsLawful}
use Rattle.lfs_model.proofs.Moments.{carries_none, started, weaker}
use Rattle.lfs_cleaner.specs.log.LogState.{AreAllSaved, LogState, WritesEarly}
use Rattle.lfs_cleaner.specs.log.Saving.{commit_orders}
use Rattle.lfs_cleaner.specs.Making.{KeepsMap, MakesClean, passes_orders, clean_orders}
use Rattle.lfs_cleaner.proofs.of_log.LogReads.{acknowledged}
use Rattle.lfs_cleaner.proofs.CleanBounds.{same_need}
use Rattle.lfs_cleaner.proofs.CleanEnds.{keeps_weaker}
use Rattle.lfs_store.specs.Accepting.{HasClean, Readies}
use Rattle.lfs_store.proofs.Acceptings.{due_as, room_then}

-- what the next commit asks for is clean still, where anything was written
early_clean : (D : Type 0) {state : D → DeviceState} (h h' : LogState D) → WritesEarly state h h' → (h' ≡ h) ⊎ HasClean h'
early_clean D h h' w = ⊎_elim
    (λ (same : h' ≡ h). inl same)
    (λ kept. inr (rw w.segments kept)) w.reserve

module _ {D : Type 0} (state : D → DeviceState) where
  pub early_none : {h : LogState D} → IsLawful (state h.device) → h.halted ≡ false → WritesEarly state h h
  early_none {h} lawful running = record {
    carries = carries_none;
    running = running;
    number = refl;
    upgraded = refl;
    saved = refl;
    segments = refl;
    fewer = omega arith;
    only_data = refl;
    unsaved = refl;
    reserve = inl refl;
    idle = λ few. refl;
    rest = λ rest. rest;
    taken = omega arith;
    emptied = omega arith;
    told = omega arith;
    no_failure = refl;
    holds = λ k m0 m keeps is. is;
    moment = λ k m0 m keeps is.
        started (λ (c : Content). StandsOn (shape_of k) c m0) lawful (acknowledged _ is);
  }

  module _ {h h' : LogState D} (w : WritesEarly state h h') (totals : h'.totals ≡ h.totals) where
    keeps_early : KeepsMap state h h' 0
    keeps_early =
        record {
          carries = w.carries;
          running = w.running;
          later = omega arith;
          number = omega arith;
          segments = w.segments;
          totals = totals;
          saved = λ all. cc;
          rest = w.rest;
          holds = λ k m0 m keeps is map.
              record { checkpoint = k; acknowledged = m0; either = inl refl; same = refl; holds = w.holds k m0 m keeps is };
          moment = λ k m0 m keeps is map. weaker (λ (c : Content). StandsOn (shape_of k) c m0) _ (λ x p. inl p) (w.moment k m0 m keeps is);
        }

    clean_stays : HasClean h → HasClean h'
    clean_stays enough = ⊎_elim (λ (same : h' ≡ h). rw same enough) (λ (kept : HasClean h'). kept) (early_clean _ _ _ w)

    room_early : MakesClean state h h'
    room_early = record {
      keeps = keeps_weaker _ keeps_early (omega arith);
      unsaved = λ e. (sym w.saved ∙ e, record { number = w.number; fewer = w.fewer; clean = clean_stays });
      all = λ e. inl (cc);
      rest = λ e rest. w.rest (rest (cc));
    }

    pub readies_early : Readies state h h'
    readies_early =
        let size = w.segments in
        let due = due_as h h' w.saved in
        record {
          room = room_early;
          spent = omega arith;
          able = λ k m0 m keeps may. (
            k,
            m0,
            record {
              holds = w.holds k m0 m keeps may.holds;
              map = may.map;
              shown = may.shown;
              counted = rw totals may.counted;
              need = same_need state h h' totals size may.need;
              enough = λ e. clean_stays (may.enough (cc));
              number = omega arith;
            },
          );
        }

  -- ---- and a commit behind them
  pub readies_then : {a b c : LogState D} → Readies state a b → Readies state b c → Readies state a c
  readies_then {a} {b} {c} one two =
      record {
        room = room_then one two.room;
        spent = omega arith;
        able = λ k m0 m keeps may.
            (let next = one.able k m0 m (two.room.keeps.carries.kept_before keeps) may in two.able next.0 next.1 m keeps next.2);
      }

  -- segments are cleaned behind it: where that was done after a commit, no second one comes
  pub told_cleaned : {a b : LogState D} (c : LogState D) → (b ≡ a) ⊎ (HasClean b ⊎ ((b.saved ≡ true) × AreAllSaved b))
      → b.clean < b.segments / 8 + 8
      → length (state b.device).told ≤ length (state a.device).told + commit_orders
      → length (state c.device).told ≤ length (state b.device).told + clean_orders b.segments
      → (b.saved ≡ true → length (state c.device).told ≤ length (state b.device).told + passes_orders b.segments)
      → b.segments ≡ a.segments
      → length (state c.device).told ≤ length (state a.device).told + clean_orders a.segments
  told_cleaned {a} {b} c once few first rest passes same = ⊎_elim
      (λ (is : b ≡ a). rw (← is) rest)
      (λ (more : HasClean b ⊎ ((b.saved ≡ true) × AreAllSaved b)). ⊎_elim
      (λ (clean : HasClean b). absurd (omega arith))
      (λ (all : (b.saved ≡ true) × AreAllSaved b). behind (length (state a.device).told) (length (state b.device).told)
      (length (state c.device).told) a.segments b.segments same first (passes all.0))
      more)
      once
    where
      behind : (x y z n m : ℕ) → m ≡ n → y ≤ x + commit_orders → z ≤ y + passes_orders m → z ≤ x + clean_orders n
      behind x y z n m is one two =
          let after : z ≤ y + passes_orders n = subst (λ (l : ℕ). z ≤ y + passes_orders l) is two in
          sum x y z commit_orders (passes_orders n) one after
        where
          sum : (x y z p q : ℕ) → y ≤ x + p → z ≤ y + q → z ≤ x + (p + q)
          sum x y z p q one two = omega arith
