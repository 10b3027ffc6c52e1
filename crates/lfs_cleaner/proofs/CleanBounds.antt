-- Where room can be made each pass may begin, and an eighth of the segments of them suffice.
use Rattle.std.proofs.Common.{◌≡◌, ◌<◌, ◌≤◌, ◌+◌, ◌-◌, ◌*◌, ◌/◌, ◌^◌, ⊎_elim, inl, inr, cond, ℕ, Bool, true, false, length, refl}
use Rattle.std.proofs.Common.{◌∙◌, ap}
use Rattle.std.proofs.Common.{arith}
use Rattle.std.specs.Prelude.{Result, Ok, Err, IsErrOf, OnErr, OnOk}
use Rattle.std.proofs.lemmas.Bool.{cases_Bool}
use Rattle.lfs_model.specs.Checkpoint.{CheckpointValue}
use Rattle.lfs_model.specs.Device.{DeviceState, IsLawful}
use Rattle.lfs_model.specs.Stands.{LogMap}
use Rattle.lfs_model.specs.TreeOf.{dropped}
use Rattle.lfs_log.proofs.LogReads.{segment_count}
use Rattle.lfs_log.specs.verify.declared.totals.BlockTotals.{BlockTotals}
use Rattle.lfs_log.specs.LogState.{AreAllSaved, LogState, Halts, IsFull, Saves, commits_due}
use Rattle.lfs_log.specs.memory.files.declared.fault.LogFault.{LogFault}
use Rattle.lfs_log.specs.memory.files.declared.fault.LogFault.TheVariants as log
use Rattle.lfs_cleaner.specs.Passing.{CanPass}
use Rattle.lfs_log.specs.Saving.{commit_orders, pass_orders}
use Rattle.std.proofs.Math.Nat.{add-mul, mul-le-mul_right, one-mul}
use Rattle.lfs_cleaner.specs.Making.{CleansQuarter, FailsPasses, FailsClean, HaltsLater, HasQuarter}
use Rattle.lfs_cleaner.specs.Making.{IsReadied}
use Rattle.lfs_cleaner.specs.Making.{IsWithin, KeepsMap, LacksPasses, LacksClean, MakesClean, MayMakeClean, PassesDone}
use Rattle.lfs_cleaner.specs.Making.{PassesInNeed, Repeats, SavesAll, most_checkpoints, clean_orders}
use Rattle.std.proofs.Math.Logic.{⊎_map}
use Rattle.lfs_cleaner.proofs.CleanEnds.{acknowledges_still, fault_then, halts_at_once, halts_then, halts_weaker, keeps_none, keeps_saves}
use Rattle.lfs_cleaner.proofs.CleanEnds.{keeps_then, keeps_weaker, repeats_none, repeats_passes, repeats_then, rest_saves, saved_then}
use Rattle.lfs_cleaner.proofs.CleanEnds.{saves_all}

-- what two facts of a success give, holds of it
pub on_success : {T E : Type 0} (r : Result T E) (P Q R : Type 0) → (P → Q → R) → OnOk r P → OnOk r Q → OnOk r R
on_success (Ok x) P Q R give p q = give p q
on_success (Err f) P Q R give p q = tt

-- a fault that is neither Device nor Halted is Full
pub full_else : {T : Type 0} (r : Result T LogFault) (P : Type 0) → (IsErrOf r log.Full → P) → (IsErrOf r log.Device → ⊥)
    → (IsErrOf r log.Halted → ⊥) → OnErr r P
full_else (Ok x) P full device halted = tt
full_else (Err log.Full) P full device halted = full refl
full_else (Err log.Device) P full device halted = absurd (device refl)
full_else (Err log.Halted) P full device halted = absurd (halted refl)

-- how many commits are due
due_one : {D : Type 0} (h : LogState D) → h.saved ≡ false → commits_due h ≡ 1
due_one h is = ap (λ (all : Bool). cond {A = ℕ} all 0 1) is

due_none : {D : Type 0} (h : LogState D) → h.saved ≡ true → commits_due h ≡ 0
due_none h is = ap (λ (all : Bool). cond {A = ℕ} all 0 1) is

-- ---- orders
one_more : (count p : ℕ) → (count + 1) * p ≡ count * p + p
one_more count p = add-mul count 1 p ∙ ap (λ (n : ℕ). count * p + n) (one-mul p)

-- a pass more
pass_more : (t0 t1 t2 count : ℕ) {n n' : ℕ} → n' ≡ n → t1 ≤ t0 + count * pass_orders n → t2 ≤ t1 + pass_orders n'
    → t2 ≤ t0 + (count + 1) * pass_orders n
pass_more t0 t1 t2 count {n} same first second =
    let e = one_more _ _ in
    let last : t2 ≤ t1 + pass_orders n = rw (← same) second in
    more (count * pass_orders n) ((count + 1) * pass_orders n) (pass_orders n) e first last
  where
    more : (a b p : ℕ) → b ≡ a + p → t1 ≤ t0 + a → t2 ≤ t1 + p → t2 ≤ t0 + b
    more a b p e first last = omega (arith, e, first, last)

-- no more passes than so many
passes_most : (t0 t1 count most p : ℕ) → count ≤ most → t1 ≤ t0 + count * p → t1 ≤ t0 + most * p
passes_most t0 t1 count most p le told = more (count * p) (most * p) (mul-le-mul_right p le) told
  where
    more : (a b : ℕ) → a ≤ b → t1 ≤ t0 + a → t1 ≤ t0 + b
    more a b le told = omega (arith, le, told)

-- a commit, and passes behind it
pub clean_told : (t0 t1 t2 : ℕ) {n n' : ℕ} → n' ≡ n → t1 ≤ t0 + commit_orders → t2 ≤ t1 + n' / 8 * pass_orders n' → t2 ≤ t0 + clean_orders n
clean_told t0 t1 t2 {n} same first second =
    let last : t2 ≤ t1 + n / 8 * pass_orders n = rw (← same) second in
    more commit_orders (n / 8 * pass_orders n) first last
  where
    more : (a b : ℕ) → t1 ≤ t0 + a → t2 ≤ t1 + b → t2 ≤ t0 + (a + b)
    more a b first last = omega (arith, first, last)

module _ {D : Type 0} (state : D → DeviceState) where
  pub same_need : (h now : LogState D) → now.totals ≡ h.totals → now.segments ≡ h.segments → IsWithin h → IsWithin now
  same_need h now totals size need =
      let stored = ap (λ (t : BlockTotals). t.data_blocks) totals in
      let above = ap (λ (t : BlockTotals). t.meta_blocks) totals in
      omega (arith, stored, above, size, need)

  -- what is unsaved is saved, and room can be made still
  clean_saved : {h now : LogState D} {k : CheckpointValue} {m0 m : LogMap} → h.saved ≡ false → Saves state h now → now.totals ≡ h.totals
      → (state now.device).keeps_model → MayMakeClean state h k m0 m → (next : CheckpointValue) × MayMakeClean state now next (dropped m) m
  clean_saved {h} {now} {k} {m0} {m} some s totals keeps may =
      let next = s.holds k m0 m keeps may.holds may.shown in
      let size = s.segments in
      let rose = s.number in
      let most = may.number in
      let due = due_one h some in
      let none = due_none now s.saved in (
        next.0,
        record {
          holds = next.2;
          map = may.map;
          shown = may.shown;
          counted = rw totals may.counted;
          need = same_need h now totals size may.need;
          enough = λ never. absurd (let all = s.saved in cc);
          number = omega (arith, none, due, size, rose, most);
        },
      )

  pub readied_saves : {h now : LogState D} → h.saved ≡ false → Saves state h now → now.totals ≡ h.totals → IsReadied state h now
  readied_saves {h} some s totals = record {
    saved = s.saved;
    commits = inl (some, s);
    keeps = keeps_weaker _ (keeps_saves _ s totals) (let due = due_one h some in omega (arith, due));
    no_failure = s.no_failure;
    nothing = s.empty;
    room = λ k m0 m keeps may. let next = clean_saved some s totals keeps may in (next.0, dropped m, next.1);
  }

  -- ---- nothing is done
  pub makes_none : {h : LogState D} → IsLawful (state h.device) → h.halted ≡ false → MakesClean state h h
  makes_none lawful running = record {
    keeps = keeps_weaker _ (keeps_none _ _ lawful running) (omega arith);
    unsaved = λ e. (e, record { number = refl; fewer = omega arith; clean = λ enough. enough });
    all = λ e. inl e;
    rest = λ e was. was e;
  }

  -- where room can be made a commit finds enough clean segments
  commit_fits : {h : LogState D} {k : CheckpointValue} {m0 m : LogMap} → IsLawful (state h.device) → h.saved ≡ false → IsFull h
      → MayMakeClean state h k m0 m → ⊥
  commit_fits {h} lawful some full may =
      let enough = may.enough some in
      let most = may.number in
      let due = due_one h some in
      let eighths = (segment_count _ lawful may.holds).eighths in
      ⊎_elim
      (λ (few : 8 * h.clean < h.segments + 64). omega (arith, enough, eighths, few))
      (λ (last : 2 ^ 64 - 1 ≤ h.number). omega (arith, due, most, last))
      full

  -- a commit finds too few clean segments
  pub lacks_commit : {h now : LogState D} → IsLawful (state h.device) → h.halted ≡ false → now ≡ h → IsFull h → h.saved ≡ false
      → LacksClean state h now
  lacks_commit lawful running same full some = record {
    makes = rw same (makes_none lawful running);
    never = λ k m0 m keeps may. commit_fits lawful some full may;
  }

  -- a failed commit
  pub halts_first : {a b : LogState D} → Halts state a b → HaltsLater state a b (most_checkpoints a)
  halts_first {a} {b} halts = halts_weaker _ (halts_at_once _ a b halts) (omega arith)

module _ {D : Type 0} {state : D → DeviceState} where
  pub passes_none : {h : LogState D} → IsLawful (state h.device) → h.halted ≡ false → PassesDone state h h 0
  passes_none lawful running = record { repeats = repeats_none _ lawful running; gains = omega arith; told = omega arith }

  -- a pass more
  pub passes_more : {h now next : LogState D} {count : ℕ} → PassesDone state h now count → PassesInNeed state now next
      → next.totals ≡ now.totals
      → length (state next.device).told ≤ length (state now.device).told + pass_orders now.segments
      → PassesDone state h next (count + 1)
  passes_more {h} {now} {next} {count} done need totals more = record {
    repeats = repeats_then _ done.repeats (repeats_passes _ need totals);
    gains = (let g = done.gains in let g' = need.passes.cleans.gains in omega (arith, g, g'));
    told = pass_more (length (state h.device).told) (length (state now.device).told) (length (state next.device).told) count
        done.repeats.keeps.segments done.told more;
  }

  -- no more than so many passes tell
  pub told_within : {h now : LogState D} {count : ℕ} → PassesDone state h now count → (most : ℕ) → count ≤ most
      → length (state now.device).told ≤ length (state h.device).told + most * pass_orders h.segments
  told_within {h} {now} {count} done most le =
      passes_most _ _ _ most _ le done.told

  pub told_more : {h now : LogState D} (next : LogState D) {count : ℕ} → PassesDone state h now count
      → length (state next.device).told ≤ length (state now.device).told + pass_orders now.segments → (most : ℕ) → count + 1 ≤ most
      → length (state next.device).told ≤ length (state h.device).told + most * pass_orders h.segments
  told_more {h} {now} next {count} done more most le =
      let t0 = length (state h.device).told in
      let t2 = length (state next.device).told in
      passes_most t0 t2 _ most _ le (pass_more t0 _ t2 _ done.repeats.keeps.segments done.told more)

  -- where room can be made an eighth of the segments is clean
  eighth_clean : {h : LogState D} {k : CheckpointValue} {m0 m : LogMap} → MayMakeClean state h k m0 m → h.segments ≤ 8 * h.clean
  eighth_clean {h} may = ⊎_elim
      (λ (on : h.saved ≡ true). (may.holds.rest on).many)
      (λ (off : h.saved ≡ false). let enough = may.enough off in omega (arith, enough))
      (cases_Bool h.saved)

  -- nothing is unsaved between two passes
  pub nothing_between : {h now : LogState D} {count : ℕ} → AreAllSaved h → PassesDone state h now count → AreAllSaved now
  nothing_between {h} {now} nothing done =
      ⊎_elim (λ (same : now ≡ h). rw same nothing) (λ all. all.rest.nothing) done.repeats.saved

  module _ {h now : LogState D} {count : ℕ} (nothing : AreAllSaved h) (done : PassesDone state h now count)
      (few : 4 * now.clean < now.segments) {k : CheckpointValue} {m0 m : LogMap} (keeps : (state now.device).keeps_model)
      (may : MayMakeClean state h k m0 m) where
    -- the next pass may begin
    pub may_pass : count < h.segments / 8 → (next : CheckpointValue) × (m1 : LogMap) × CanPass state now next m1 m
    may_pass lt =
        let kept = done.repeats.keeps in
        let over = kept.holds k m0 m keeps may.holds may.shown in
        let above = ap (λ (t : BlockTotals). t.meta_blocks) kept.totals in
        let size = kept.segments in
        let gains = done.gains in
        let many = eighth_clean may in
        let number = kept.number in
        let most = may.number in
        let need = may.need in
        let all_stored = may.counted.stored in
        let all_above = may.counted.above in (
          over.checkpoint,
          over.acknowledged,
          record {
            holds = over.holds;
            map = may.map;
            nothing = nothing_between nothing done;
            untaken = (nothing_between nothing done).sectors;
            few = few;
            many = omega (arith, size, gains, many);
            counted = above ∙ all_above;
            need = omega (arith, size, need, all_stored, all_above);
            number = omega (arith, number, most, lt);
          },
        )

    -- an eighth of the segments of them suffice
    pub passes_suffice : IsLawful (state h.device) → count ≡ h.segments / 8 → ⊥
    passes_suffice lawful all =
        let size = done.repeats.keeps.segments in
        let gains = done.gains in
        let many = eighth_clean may in
        let eighths = (segment_count _ lawful may.holds).eighths in
        omega (arith, all, size, gains, many, few, eighths)

  -- ---- what is unsaved is saved first
  pub readied_none : {h : LogState D} → IsLawful (state h.device) → h.halted ≡ false → h.saved ≡ true → AreAllSaved h → IsReadied state h h
  readied_none lawful running all nothing = record {
    saved = all;
    commits = inr (all, nothing, refl);
    keeps = keeps_weaker _ (keeps_none _ _ lawful running) (omega arith);
    no_failure = refl;
    nothing = nothing;
    room = λ k m0 m keeps may. (k, m0, may);
  }

  pub quarter_none : {h : LogState D} → IsLawful (state h.device) → h.halted ≡ false → HasQuarter h → CleansQuarter state h h
  quarter_none lawful running enough =
      record { makes = makes_none _ lawful running; works = inr refl; no_failure = refl; quarter = enough }

  -- ---- passes behind a commit
  module _ {a b c : LogState D} (ready : IsReadied state a b) {x : ℕ} (few : x ≤ a.segments / 8) where
    keeps_after : KeepsMap state b c x → KeepsMap state a c (most_checkpoints a)
    keeps_after passes = keeps_weaker state (keeps_then _ c ready.keeps passes) (omega (arith, few))

    pub makes_after : KeepsMap state b c x → MakesClean state a c
    makes_after passes = record {
      keeps = keeps_after passes;
      unsaved = λ none. absurd (let all = passes.saved ready.saved in cc);
      all = λ e. ⊎_elim (λ done. inr (acknowledges_still state a c (saves_all state done.1).holds passes))
          (λ none. inl none.0) ready.commits;
      rest = λ e was. ⊎_elim (λ done. passes.rest (rest_saves state done.1))
          (λ none. (keeps_after passes).rest (was none.0)) ready.commits;
    }

    pub lacks_after : LacksPasses state b c x → LacksClean state a c
    lacks_after lacks = record {
      makes = makes_after lacks.keeps;
      never = λ k m0 m keeps may. (let next = ready.room k m0 m (lacks.keeps.carries.kept_before keeps) may in
          lacks.never next.0 next.1 m keeps next.2);
    }

    pub fails_after : FailsPasses state b c x → FailsClean state a c
    fails_after fails = record {
      makes = makes_after fails.keeps;
      fault = fault_then state c ready.keeps fails.keeps.carries fails.fault;
    }

    pub halts_after : HaltsLater state b c x → HaltsLater state a c (most_checkpoints a)
    halts_after halts = halts_weaker state (halts_then _ c ready.keeps halts) (omega (arith, few))

    pub quarter_after : Repeats state b c x → HasQuarter c → CleansQuarter state a c
    quarter_after done enough = record {
      makes = makes_after done.keeps;
      works = inl (record {
        between = b;
        commits = ready.commits;
        passes = (let p = done.passes in let most = p.1 in (p.0, omega (arith, most, few), p.2));
        saves = ⊎_elim
            (λ (same : c ≡ b). ⊎_map (λ first. rw same (saves_all state first.1)) (λ none. same ∙ none.2) ready.commits)
            (λ (more : SavesAll state b c). inl (saved_then state c ready.keeps done.keeps.carries more)) done.saved;
      });
      no_failure = done.no_failure ∙ ready.no_failure;
      quarter = enough;
    }
