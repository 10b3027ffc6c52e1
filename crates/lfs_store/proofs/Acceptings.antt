-- What a store's log holds as it commits, makes room and stages its draft.
use Rattle.std.specs.Prelude.{Result, Ok, Err, OnErr, OnOk}
use Rattle.std.proofs.Common.{◌∙◌, ◌≡◌, ◌<◌, ◌≤◌, ◌+◌, ◌/◌, inl, inr, ⊎_elim, cond, Bool, true, false, ℕ, refl}
use Rattle.std.proofs.Common.{arith}
use Rattle.lfs_model.specs.Checkpoint.{CheckpointValue, Shape, shape_of}
use Rattle.lfs_model.specs.declared.limits.TheConstants.{MOST_UNSAVED}
use Rattle.lfs_model.specs.Crash.{StandsOn}
use Rattle.lfs_model.specs.Device.{DeviceState, IsLawful, Carries, LeavesOnly}
use Rattle.lfs_model.specs.Encodes.{IsLogMap}
use Rattle.lfs_model.specs.Stands.{LogMap}
use Rattle.lfs_model.specs.TreeOf.{dropped}
use Rattle.lfs_model.proofs.Moments.{carries_none, carries_then, joined, weaker}
use Rattle.lfs_cleaner.proofs.of_log.LogReads.{acknowledged, looks_leave, segment_count}
use Rattle.lfs_cleaner.specs.log.LogState.{LogState, Holds, IsSaved, LeavesSaved, Saves, Alters, IsStaged, IsRefused, IsStageFault}
use Rattle.lfs_cleaner.specs.log.LogState.{commits_due}
use Rattle.lfs_cleaner.specs.Making.{Acknowledges, FailsClean, HaltsLater, HasQuarter}
use Rattle.lfs_cleaner.specs.Making.{IsAtRest, IsCleanFault, KeepsMap, LacksClean, MakesClean}
use Rattle.lfs_cleaner.specs.Making.{MayNotMakeClean, StaysUnsaved, most_checkpoints}
use Rattle.lfs_cleaner.proofs.CleanBounds.{makes_none, readied_saves}
use Rattle.lfs_cleaner.proofs.CleanEnds.{acknowledges_still, fault_then, halts_then, keeps_none, keeps_then, keeps_weaker, rest_saves}
use Rattle.lfs_store.specs.declared.draft.Draft.{Draft}
use Rattle.lfs_store.specs.StoreState.{asked_by}
use Rattle.lfs_store.specs.Accepting.{HasClean, HoldsNext, Commits, Readies, SavesFew, Accepts, Declines, IsAcceptFault}

-- a commit is due where anything isn't saved
pub due_as : {D E : Type 0} (h : LogState D) (h' : LogState E) → h'.saved ≡ h.saved → commits_due h' ≡ commits_due h
due_as h h' same = cc

-- at most one is, and one checkpoint comes with each pass
pub written_most : {D : Type 0} (h : LogState D) → most_checkpoints h ≤ h.segments / 8 + 1
written_most h = omega (arith, due_most h.saved)
  where
    due_most : (all : Bool) → cond {A = ℕ} all 0 1 ≤ 1
    due_most true = omega arith
    due_most false = omega arith

-- what isn't saved stays so
stays_then : (D : Type 0) (a b c : LogState D) → StaysUnsaved a b → StaysUnsaved b c → StaysUnsaved a c
stays_then D a b c one two =
    record {
      number = cc;
      fewer = omega arith;
      clean = λ enough. two.clean (one.clean enough);
    }

-- what room is to the log map
module _ {D : Type 0} (state : D → DeviceState) {h h' : LogState D} (room : MakesClean state h h') where
  pub room_holds : (k : CheckpointValue) {m0 : LogMap} (m : LogMap) → (state h'.device).keeps_model → Holds state h k m0 m
      → IsLogMap (dropped m)
      → HoldsNext state (shape_of k) m0 m h' m
  room_holds k {m0} m keeps is map =
      let over = room.keeps.holds k m0 m keeps is map in
      record {
        checkpoint = over.checkpoint;
        acknowledged = over.acknowledged;
        either = over.either;
        same = over.same;
        holds = over.holds;
      }

module _ {D : Type 0} {state : D → DeviceState} where
  -- ---- a commit
  pub commits_none : (h : LogState D) → IsLawful (state h.device) → h.halted ≡ false → h.saved ≡ true → Commits state h h
  commits_none h lawful running all = record {
    carries = carries_none;
    was_running = running;
    running = running;
    number = rw all refl;
    segments = refl;
    clean = omega arith;
    saved = all;
    no_failure = refl;
    holds = λ k m0 m keeps is map. (k, refl, rw (← (is.nothing_new all)) is);
    left = λ k m0 m keeps is map.
        rw (← (is.nothing_new all)) (acknowledged _ is);
    moment = (keeps_none _ h lawful running).moment;
  }

  pub commits_log : {h h' : LogState D} → h.halted ≡ false → h.saved ≡ false → Saves state h h' → Commits state h h'
  commits_log {h} {h'} was off s = record {
    carries = s.carries;
    was_running = was;
    running = s.running;
    number = rw off s.number;
    segments = s.segments;
    clean = s.clean;
    saved = s.saved;
    no_failure = s.no_failure;
    holds = s.holds;
    left = s.left;
    moment = s.moment;
  }

  -- ---- room
  pub readies_none : {h : LogState D} → IsLawful (state h.device) → h.halted ≡ false → Readies state h h
  readies_none {h} lawful running = record {
    room = makes_none _ lawful running;
    spent = omega arith;
    able = λ k m0 m keeps may. (k, m0, may);
  }

  pub readies_saves : {h h' : LogState D} → h.saved ≡ false → Saves state h h' → h'.totals ≡ h.totals → Readies state h h'
  readies_saves {h} {h'} off s totals =
      let ready = readied_saves _ off s totals in
      let due : commits_due h ≡ 1 = cc in
      let none : commits_due h' ≡ 0 = cc in
      record {
        room = record {
          keeps = keeps_weaker _ ready.keeps (omega arith);
          unsaved = λ never. absurd (let all = s.saved in cc);
          all = λ e. inr s.holds;
          rest = λ e rest. rest_saves _ s;
        };
        spent = omega arith;
        able = ready.room;
      }

  -- what is acknowledged later is so from before on
  acknowledges_before : (a b c : LogState D) (x : ℕ) → KeepsMap state a b x → Carries (state b.device) (state c.device)
      → Acknowledges state b c → Acknowledges state a c
  acknowledges_before a b c x one after all k m0 m keeps is map =
      let over = one.holds k m0 m (after.kept_before keeps) is map in
      let next = all over.checkpoint over.acknowledged m keeps over.holds map in
      (next.0, next.1 ∙ over.same, next.2)

  keeps_numbered : (a b : LogState D) (x : ℕ) {y : ℕ} → KeepsMap state a b x → b.number ≤ a.number + y → KeepsMap state a b y
  keeps_numbered a b x one few = record {
    carries = one.carries;
    running = one.running;
    later = one.later;
    number = few;
    segments = one.segments;
    totals = one.totals;
    saved = one.saved;
    rest = one.rest;
    holds = one.holds;
    moment = one.moment;
  }

  halts_numbered : (a b : LogState D) (x : ℕ) {y : ℕ} → HaltsLater state a b x → b.number ≤ a.number + y → HaltsLater state a b y
  halts_numbered a b x one few = record {
    carries = one.carries;
    halted = one.halted;
    later = one.later;
    number = few;
    cause = one.cause;
    left = one.left;
    moment = one.moment;
  }

  -- ---- behind a commit, or nothing
  module _ {a b c : LogState D} (ready : Readies state a b) where
    pub room_then : MakesClean state b c → MakesClean state a c
    room_then two =
        record {
          keeps = keeps_numbered _ _ _ (keeps_then _ c ready.room.keeps two.keeps) (omega arith);
          unsaved = λ e.
              (let second = two.unsaved e in let first = ready.room.unsaved second.0 in (first.0, stays_then _ _ _ _ first.1 second.1));
          all = λ e. ⊎_elim
              (λ (was : b.saved ≡ true). ⊎_elim (λ (first : a.saved ≡ true). inl first)
              (λ (all : Acknowledges state a b). inr (acknowledges_still _ a c all two.keeps)) (ready.room.all was))
              (λ (all : Acknowledges state b c). inr (acknowledges_before _ _ _ _ ready.room.keeps two.keeps.carries all)) (two.all e);
          rest = λ e rest. two.rest e (λ was. ready.room.rest was rest);
        }

    pub halts_after : HaltsLater state b c (most_checkpoints b) → HaltsLater state a c (most_checkpoints a)
    halts_after halts =
        halts_numbered _ _ _ (halts_then _ c ready.room.keeps halts) (omega arith)

    pub lacks_after : LacksClean state b c → LacksClean state a c
    lacks_after lacks = record {
      makes = room_then lacks.makes;
      never = λ k m0 m keeps may.
          (let next = ready.able k m0 m (lacks.makes.keeps.carries.kept_before keeps) may in lacks.never next.0 next.1 m keeps next.2);
    }

    pub fails_after : FailsClean state b c → FailsClean state a c
    fails_after fails = record {
      makes = room_then fails.makes;
      fault = fault_then _ c ready.room.keeps fails.makes.keeps.carries fails.fault;
    }

  -- a quarter of the segments is enough for a commit
  pub cannot_lack : {h after : LogState D} → IsLawful (state after.device) → MakesClean state h after → HasQuarter after
      → after.clean < after.segments / 8 + 8 → MayNotMakeClean state h after
  cannot_lack {after} lawful room quarter few k m0 m keeps may =
      let over = room.keeps.holds k m0 m keeps may.holds may.shown in
      omega (arith, (segment_count _ lawful over.holds).least)

  -- ---- what room is to what is saved
  module _ {h h' : LogState D} (room : MakesClean state h h') where
    pub saves_few : SavesFew h h'
    saves_few = record {
      number = room.keeps.later;
      few = omega (arith, written_most h);
      ready = λ ready e. (let none = room.unsaved e in none.1.clean (ready none.0));
    }

  -- ---- the draft is staged, or refused
  module _ (h mid h' : LogState D) (d : Draft) (lawful : IsLawful (state mid.device)) (running : h.halted ≡ false)
      (room : MakesClean state h mid) {raised : Bool} (alters : Alters state mid h' (asked_by d) raised) where
    before : (state h'.device).keeps_model → (state mid.device).keeps_model
    before = alters.looks.carries.kept_before

    -- a stop as it is staged leaves what is acknowledged
    still_either : {shape : Shape} (m0 m : LogMap) → HoldsNext state shape m0 m mid m
        → LeavesOnly (state mid.device) (state h'.device) (IsSaved state shape m0 m)
    still_either {shape} m0 m over =
        weaker (λ x. StandsOn (shape_of over.checkpoint) x over.acknowledged) _
        (λ x there.
        let stands : StandsOn shape x over.acknowledged = rw (← over.same) there in ⊎_elim
        (λ (old : over.acknowledged ≡ m0). inl (rw (← old) stands))
        (λ (new : over.acknowledged ≡ dropped m). inr (rw (← new) stands)) over.either) (looks_leave _ m lawful alters.looks over.holds)

    moments : LeavesSaved state h h'
    moments k m0 m keeps is map =
        joined _ _ _ (room.keeps.moment k m0 m (before keeps) is map)
        (still_either _ _ (room_holds _ room _ _ (before keeps) is map)) (λ x p. p) (λ x p. p)

    carried : Carries (state h.device) (state h'.device)
    carried = carries_then room.keeps.carries alters.looks.carries

    enough_after : HasClean mid → HasClean h'
    enough_after enough =
        rw alters.segments (omega arith)

    saved_after : HasClean mid → SavesFew h h'
    saved_after enough =
        let few = saves_few room in
        record {
          number = omega arith;
          few = omega arith;
          ready = λ r e. enough_after enough;
        }

    pub accepts : HasClean mid → IsStaged state mid h' d.changes → Accepts state h h' d
    accepts enough s = record {
      carries = carried;
      halted = cc;
      segments = cc;
      enough = enough_after enough;
      unsaved = s.unsaved;
      saves = saved_after enough;
      holds = λ k m0 m keeps is fits map. (
          let over = room.keeps.holds k m0 m (before keeps) is map in
          record {
            checkpoint = over.checkpoint;
            acknowledged = over.acknowledged;
            either = over.either;
            same = over.same;
            holds = s.holds over.checkpoint over.acknowledged m keeps over.holds fits;
          });
      moment = moments;
    }

    pub declines : HasClean mid → IsRefused state mid h' d.changes → Declines state h h' d
    declines enough s = record {
      carries = carried;
      halted = cc;
      segments = cc;
      saves = saved_after enough;
      holds = λ k m0 m keeps is fits map. (
          let over = room.keeps.holds k m0 m (before keeps) is map in
          record {
            checkpoint = over.checkpoint;
            acknowledged = over.acknowledged;
            either = over.either;
            same = over.same;
            holds = s.holds over.checkpoint over.acknowledged m keeps over.holds fits;
          });
      moment = moments;
    }

    pub accept_fault : IsStageFault state mid h' d.changes → IsAcceptFault state h h' d
    accept_fault failed k m0 m keeps is fits map =
        let over = room.keeps.holds k m0 m (before keeps) is map in
        omega (arith, failed over.checkpoint over.acknowledged m keeps over.holds fits)

  -- no room is made
  pub declines_room : {h h' : LogState D} {d : Draft} → h.halted ≡ false → MakesClean state h h' → Declines state h h' d
  declines_room {h} {h'} running room = record {
    carries = room.keeps.carries;
    halted = cc;
    segments = room.keeps.segments;
    saves = saves_few room;
    holds = λ k m0 m keeps is fits map. room_holds _ room _ _ keeps is map;
    moment = room.keeps.moment;
  }

  pub room_fault : (h h' : LogState D) (d : Draft) → IsCleanFault state h h' → IsAcceptFault state h h' d
  room_fault h h' d failed k m0 m keeps is fits map = failed k m0 m keeps is map

  -- ---- a draft that memory has no room for, though what could be saved is saved
  pub asks_much : {h h' : LogState D} (d : Draft) → MakesClean state h h' → (h.saved ≡ true → IsAtRest h)
      → (h'.saved ≡ false → h'.waiting + asked_by d ≤ MOST_UNSAVED) → MOST_UNSAVED < h'.waiting + asked_by d → MOST_UNSAVED < asked_by d
  asks_much {h'} d makes rest room much = by_flag h'.saved refl
    where
      by_flag : (flag : Bool) → h'.saved ≡ flag → MOST_UNSAVED < asked_by d
      by_flag true e = omega (arith, (makes.rest e rest).nothing.blocks)
      by_flag false e = absurd (omega (arith, room e))

-- what holds of any error holds of this one
pub where_err : {T E : Type 0} (r : Result T E) (P : Type 0) {e : E} → r ≡ Err e → OnErr r P → P
where_err (Ok x) P is p = absurd (cc)
where_err (Err f) P is p = p

-- what holds anyhow holds of a success
pub where_ok : {T E : Type 0} (r : Result T E) (P : Type 0) → P → OnOk r P
where_ok (Ok x) P p = p
where_ok (Err f) P p = tt
