-- Commits and passes, one after the other: the log map stays, and what a stop leaves is the one or the other.
use Rattle.std.proofs.Common.{◌≡◌, ◌≤◌, ◌+◌, inl, inr, ⊎_elim, ℕ, zero, suc, false, List, refl, ◌∙◌, subst}
use Rattle.std.proofs.Common.{arith}
use Rattle.lfs_model.specs.Checkpoint.{CheckpointValue, Shape, shape_of}
use Rattle.lfs_model.specs.Content.{Content}
use Rattle.lfs_model.specs.Crash.{StandsOn}
use Rattle.lfs_model.specs.Device.{DeviceState, IsLawful, Carries}
use Rattle.lfs_model.specs.Stands.{LogMap}
use Rattle.lfs_model.specs.TreeOf.{dropped}
use Rattle.lfs_model.proofs.Moments.{carries_none, carries_then, started, joined, weaker}
use Rattle.lfs_log.proofs.LogReads.{acknowledged, rest_still}
use Rattle.lfs_log.specs.Cleaning.{Cleans}
use Rattle.lfs_log.specs.LogState.{LogState, Halts, Holds, HoldsStill, IsReadFault, IsSaved, LeavesSaved, Saves}
use Rattle.lfs_cleaner.specs.Making.{Acknowledges, HaltsLater, HoldsOver, IsAtRest, IsCleanFault, KeepsMap, PassesInNeed, PassesOn, Repeats}
use Rattle.lfs_cleaner.specs.Making.{SavesAll}

module _ {D : Type 0} (state : D → DeviceState) where
  -- ---- one step
  -- nothing happens
  pub keeps_none : (h : LogState D) → IsLawful (state h.device) → h.halted ≡ false → KeepsMap state h h 0
  keeps_none h lawful running = record {
    carries = carries_none;
    running = running;
    later = omega arith;
    number = omega arith;
    segments = refl;
    totals = refl;
    saved = λ all. all;
    rest = λ rest. rest;
    holds = λ k m0 m keeps is map. record { checkpoint = k; acknowledged = m0; either = inl refl; same = refl; holds = is };
    moment = λ k m0 m keeps is map.
        started _ lawful (λ c left. inl (acknowledged _ is c left));
  }

  -- after a commit, and after a pass
  pub rest_saves : {h h' : LogState D} → Saves state h h' → IsAtRest h'
  rest_saves s = record { nothing = s.empty; untaken = s.untaken; many = s.many }

  rest_cleans : {h h' : LogState D} {vs : List ℕ} → Cleans state h h' vs → IsAtRest h'
  rest_cleans s = record { nothing = s.empty; untaken = s.untaken; many = s.many }

  -- after a pass that isn't made
  pub keeps_still : {a b : LogState D} → a.halted ≡ false → HoldsStill state a b → KeepsMap state a b 0
  keeps_still {a} {b} running still = record {
    carries = still.carries;
    running = still.halted ∙ running;
    later = (let same = still.number in omega (arith, same));
    number = (let same = still.number in omega (arith, same));
    segments = still.segments;
    totals = still.totals;
    saved = λ all. still.saved ∙ all;
    rest = λ rest. rest_still _ a b still rest;
    holds = λ k m0 m keeps is map.
        record { checkpoint = k; acknowledged = m0; either = inl refl; same = refl; holds = still.holds k m0 m keeps is };
    moment = λ k m0 m keeps is map. weaker (λ c. StandsOn (shape_of k) c m0) _ (λ c there. inl there) (still.moment k m0 m keeps is);
  }

  pub saves_all : {h h' : LogState D} → Saves state h h' → SavesAll state h h'
  saves_all s = record { saved = s.saved; rest = rest_saves s; holds = s.holds }

  cleans_all : {h h' : LogState D} {vs : List ℕ} → Cleans state h h' vs → SavesAll state h h'
  cleans_all s = record { saved = s.saved; rest = rest_cleans s; holds = s.holds }

  keeps_all : {h h' : LogState D} → SavesAll state h h' → Carries (state h.device) (state h'.device) → h'.halted ≡ false
      → h'.number ≡ h.number + 1 → h'.segments ≡ h.segments → h'.totals ≡ h.totals → LeavesSaved state h h' → KeepsMap state h h' 1
  keeps_all all carries running number segments totals moment = record {
    carries = carries;
    running = running;
    later = omega (arith, number);
    number = omega (arith, number);
    segments = segments;
    totals = totals;
    saved = λ was. all.saved;
    rest = λ was. all.rest;
    holds = λ k m0 m keeps is map.
        let next = all.holds k m0 m keeps is map in
        record {
          checkpoint = next.0;
          acknowledged = dropped m;
          either = inr refl;
          same = next.1;
          holds = next.2;
        };
    moment = moment;
  }

  pub keeps_saves : {h h' : LogState D} → Saves state h h' → h'.totals ≡ h.totals → KeepsMap state h h' 1
  keeps_saves s totals = keeps_all (saves_all s) s.carries s.running s.number s.segments totals s.moment

  pub keeps_cleans : {h h' : LogState D} {vs : List ℕ} → Cleans state h h' vs → h'.totals ≡ h.totals → KeepsMap state h h' 1
  keeps_cleans s totals = keeps_all (cleans_all s) s.carries s.running s.number s.segments totals s.moment

  pub keeps_weaker : {a b : LogState D} {x y : ℕ} → KeepsMap state a b x → x ≤ y → KeepsMap state a b y
  keeps_weaker one le = record {
    carries = one.carries;
    running = one.running;
    later = one.later;
    number = (let n = one.number in omega (arith, n, le));
    segments = one.segments;
    totals = one.totals;
    saved = one.saved;
    rest = one.rest;
    holds = one.holds;
    moment = one.moment;
  }

  -- ---- one step after another
  -- what is one of the two for the log map in the middle is one of the two for that at the start
  module _ {b : LogState D} (k : CheckpointValue) {m0 m : LogMap} (over : HoldsOver state (shape_of k) m0 m b) where
    saved_still : (c : Content) → IsSaved state (shape_of over.checkpoint) over.acknowledged m c → IsSaved state (shape_of k) m0 m c
    saved_still c is = ⊎_elim
        (λ (first : StandsOn (shape_of over.checkpoint) c over.acknowledged).
        let here : StandsOn (shape_of k) c over.acknowledged = rw (← over.same) first in
        ⊎_elim
        (λ (old : over.acknowledged ≡ m0). inl (rw (← old) here))
        (λ (new : over.acknowledged ≡ dropped m). inr (rw (← new) here)) over.either)
        (λ (second : StandsOn (shape_of over.checkpoint) c (dropped m)). inr (rw (← over.same) second)) is

    over_then : {c : LogState D} → HoldsOver state (shape_of over.checkpoint) over.acknowledged m c → HoldsOver state (shape_of k) m0 m c
    over_then next = record {
      checkpoint = next.checkpoint;
      acknowledged = next.acknowledged;
      either = ⊎_elim
          (λ (same : next.acknowledged ≡ over.acknowledged). ⊎_elim (λ (old : over.acknowledged ≡ m0). inl (same ∙ old))
          (λ (new : over.acknowledged ≡ dropped m). inr (same ∙ new)) over.either)
          (λ (new : next.acknowledged ≡ dropped m). inr new)
          next.either;
      same = next.same ∙ over.same;
      holds = next.holds;
    }

  module _ {a b : LogState D} (c : LogState D) {x : ℕ} (one : KeepsMap state a b x) where
    moment_then : Carries (state b.device) (state c.device) → LeavesSaved state b c → LeavesSaved state a c
    moment_then after moment k m0 m keeps is map =
        let back = after.kept_before keeps in
        let over = one.holds k m0 m back is map in
        joined _ _ _ (one.moment k m0 m back is map) (moment over.checkpoint over.acknowledged m keeps over.holds map) (λ x p. p)
        (saved_still k over)

    pub keeps_then : {y : ℕ} → KeepsMap state b c y → KeepsMap state a c (x + y)
    keeps_then two = record {
      carries = carries_then one.carries two.carries;
      running = two.running;
      later = (let l = one.later in let l' = two.later in omega (arith, l, l'));
      number = (let n = one.number in let n' = two.number in omega (arith, n, n'));
      segments = two.segments ∙ one.segments;
      totals = two.totals ∙ one.totals;
      saved = λ all. two.saved (one.saved all);
      rest = λ rest. two.rest (one.rest rest);
      holds = λ k m0 m keeps is map.
          let over = one.holds k m0 m (two.carries.kept_before keeps) is map in
          over_then k over (two.holds over.checkpoint over.acknowledged m keeps over.holds map);
      moment = moment_then two.carries two.moment;
    }

    pub saved_then : Carries (state b.device) (state c.device) → SavesAll state b c → SavesAll state a c
    saved_then after all = record {
      saved = all.saved;
      rest = all.rest;
      holds = λ k m0 m keeps is map.
          let over = one.holds k m0 m (after.kept_before keeps) is map in
          let next = all.holds over.checkpoint over.acknowledged m keeps over.holds map in
          (next.0, next.1 ∙ over.same, next.2);
    }

    -- ---- a failure ends it
    pub fault_then : Carries (state b.device) (state c.device) → IsCleanFault state b c → IsCleanFault state a c
    fault_then after failed k m0 m keeps is map =
        let over = one.holds k m0 m (after.kept_before keeps) is map in
        let rose = failed over.checkpoint over.acknowledged m keeps over.holds map in
        let before = one.carries.failures in
        omega (arith, rose, before)

    pub halts_then : {y : ℕ} → HaltsLater state b c y → HaltsLater state a c (x + y)
    halts_then two = record {
      carries = carries_then one.carries two.carries;
      halted = two.halted;
      later = (let l = one.later in let l' = two.later in omega (arith, l, l'));
      number = (let n = one.number in let n' = two.number in omega (arith, n, n'));
      cause = λ k m0 m keeps is map.
          let over = one.holds k m0 m (two.carries.kept_before keeps) is map in
          let rose = two.cause over.checkpoint over.acknowledged m keeps over.holds map in
          let before = one.carries.failed_orders in
          omega (arith, rose, before);
      left = λ k m0 m keeps is map.
          let over = one.holds k m0 m (two.carries.kept_before keeps) is map in
          λ content left. saved_still k over _ (two.left over.checkpoint over.acknowledged m keeps over.holds map content left);
      moment = moment_then two.carries two.moment;
    }

  pub halts_at_once : (a b : LogState D) → Halts state a b → HaltsLater state a b 0
  halts_at_once a b halts = record {
    carries = halts.carries;
    halted = halts.halted;
    later = (let n = halts.number in omega (arith, n));
    number = (let n = halts.number in omega (arith, n));
    cause = λ k m0 m keeps is map. halts.cause k m0 m keeps is;
    left = halts.left;
    moment = halts.moment;
  }

  pub halts_weaker : {a b : LogState D} {x y : ℕ} → HaltsLater state a b x → x ≤ y → HaltsLater state a b y
  halts_weaker one le = record {
    carries = one.carries;
    halted = one.halted;
    later = one.later;
    number = (let n = one.number in omega (arith, n, le));
    cause = one.cause;
    left = one.left;
    moment = one.moment;
  }

  pub read_fault : {a : LogState D} (b : LogState D) → IsReadFault state a b → IsCleanFault state a b
  read_fault b failed k m0 m keeps is map = failed k m0 m keeps is

  -- ---- passes that are done
  pub repeats_none : {h : LogState D} → IsLawful (state h.device) → h.halted ≡ false → Repeats state h h 0
  repeats_none lawful running =
      record { passes = (0, omega arith, refl); keeps = keeps_none _ lawful running; no_failure = refl; saved = inl refl }

  pub repeats_passes : {h h' : LogState D} → PassesInNeed state h h' → h'.totals ≡ h.totals → Repeats state h h' 1
  repeats_passes {h} need totals =
      let s = need.passes.cleans in
      record {
        passes = (1, omega arith, (h, refl, need));
        keeps = keeps_cleans s totals;
        no_failure = s.no_failure;
        saved = inr (cleans_all s);
      }

  -- what was done first, and then the rest
  passes_then : (a b c : LogState D) (x y : ℕ) → PassesOn state x a b → PassesOn state y b c
      → (count : ℕ) × (count ≤ x + y) × PassesOn state count a c
  passes_then a b c x zero one two = (x, omega arith, rw two one)
  passes_then a b c x (suc y) one two =
      let rest = passes_then a b two.0 x y one two.1 in
      let few = rest.1 in
      (suc rest.0, omega (arith, few), (two.0, rest.2, two.2))

  pub repeats_then : {a b c : LogState D} {x y : ℕ} → Repeats state a b x → Repeats state b c y → Repeats state a c (x + y)
  repeats_then {a} {b} {c} one two = record {
    passes =
        let w = one.passes in
        let w' = two.passes in
        let few = w.1 in
        let few' = w'.1 in
        let both = passes_then a b c w.0 w'.0 w.2 w'.2 in
        let all = both.1 in
        (both.0, omega (arith, few, few', all), both.2);
    keeps = keeps_then c one.keeps two.keeps;
    no_failure = two.no_failure ∙ one.no_failure;
    saved = ⊎_elim
        (λ (same : c ≡ b). rw same one.saved)
        (λ (all : SavesAll state b c). inr (saved_then c one.keeps two.keeps.carries all)) two.saved;
  }

  -- what a commit acknowledged stays so
  pub acknowledges_still : (a : LogState D) {b : LogState D} (c : LogState D) {x : ℕ} → Acknowledges state a b → KeepsMap state b c x
      → Acknowledges state a c
  acknowledges_still a c all passes k m0 m keeps is map =
      let first = all k m0 m (passes.carries.kept_before keeps) is map in
      let over = passes.holds first.0 (dropped m) m keeps first.2 map in
      let same : over.acknowledged ≡ dropped m = ⊎_elim (λ (old : over.acknowledged ≡ dropped m). old)
      (λ (new : over.acknowledged ≡ dropped m). new) over.either in
      (over.checkpoint, over.same ∙ first.1, subst (λ (l : LogMap). Holds state c over.checkpoint l m) same over.holds)
