-- Room that is made behind what comes before a change.
use Rattle.std.specs.Prelude.{Result, Ok, Err, IsOk, OnOk, IsErrOf}
use Rattle.std.proofs.Common.{◌≡◌, ◌⊎◌, ◌≤◌, ◌+◌, inl, inr, ⊎_elim, true, false, ℕ, length, subst, arith}
use Rattle.lfs_model.specs.Device.{DeviceState, IsLawful}
use Rattle.lfs_files.specs.declared.fault.LogFault.{LogFault}
use Rattle.lfs_files.specs.declared.fault.LogFault.TheVariants.{Full, Device, Halted}
use Rattle.lfs_cleaner.specs.log.LogState.{LogState, commits_due}
use Rattle.lfs_cleaner.specs.log.Saving.{commit_orders}
use Rattle.lfs_cleaner.specs.Making.{IsSavedAmply, LeavesReady, MakesClean, SavesOnly, clean_orders, once_orders, passes_orders}
use Rattle.lfs_cleaner.proofs.CleanBounds.{makes_after}
use Rattle.lfs_cleaner.proofs.CleanEnds.{keeps_none}
use Rattle.lfs_store.specs.declared.store.Store.{Store}
use Rattle.lfs_store.specs.Accepting.{FindsReady, HasClean, HasCleanForTwo, Readies}
use Rattle.lfs_store.specs.Keeping.{KeepsDraft}
use Rattle.lfs_store.specs.Outcomes.{Reserves}
use Rattle.lfs_store.proofs.Acceptings.{readies_none}
use Rattle.lfs_store.proofs.Endings.{keeps_then, made_then}

-- the log is as it was, where all is saved and enough segments are clean
abbrev pub StaysSaved : (D : Type 0) → LogState D → LogState D → Result Unit LogFault → Type 0
StaysSaved D b c r = b.saved ≡ true → HasClean b → IsOk r × (c ≡ b)

module _ {D : Type 0} {state : D → DeviceState} where
  -- ---- how a draft finds the log
  readies_only : {h h' : LogState D} → IsLawful (state h'.device) → SavesOnly state h h' → Readies state h h'
  readies_only {h} {h'} lawful only =
      let ready = only.readied in
      let few = ready.keeps.number in
      let size = ready.keeps.segments in
      let none : commits_due h' ≡ 0 = (let all = ready.saved in cc) in
      record {
        room = makes_after ready {x = 0} (omega arith) (keeps_none _ h' lawful ready.keeps.running);
        spent = omega (arith, few, size, none);
        able = ready.room;
      }

  pub finds_ready : {h h' : LogState D} → IsLawful (state h'.device) → LeavesReady state h h' → FindsReady state h h'
  finds_ready {h} {h'} lawful leaves = ⊎_elim
      (λ (same : h' ≡ h). inl same)
      (λ (more : SavesOnly state h h' ⊎ IsSavedAmply h'). inr (⊎_elim
      (λ (only : SavesOnly state h h'). inl (readies_only lawful only, only))
      (λ (amply : IsSavedAmply h'). inr amply) more))
      leaves

  -- ---- room behind that
  reserves_still : {a b c : Store D} (r : Result Unit LogFault) → Reserves state a b (Ok tt) → Reserves state b c r
      → IsOk r × (c.log ≡ b.log)
      → Reserves state a c r
  reserves_still (Ok x) one two (ok, same) = record {
    keeps = keeps_then _ _ _ one.keeps two.keeps;
    done = rw same one.done;
    full = λ e. absurd (cc);
    device = λ e. absurd (cc);
    halted = λ e. absurd (cc);
  }
  reserves_still (Err fault) one two (ok, same) = absurd (let no = ok in cc)

  pub reserves_found : {a b c : Store D} {r : Result Unit LogFault} → IsLawful (state a.log.device) → a.log.halted ≡ false
      → Reserves state a b (Ok tt) → FindsReady state a.log b.log → Reserves state b c r → StaysSaved D b.log c.log r → Reserves state a c r
  reserves_found {a} {b} {c} {r} lawful running one found two still = ⊎_elim
      (λ (same : b.log ≡ a.log). made_then one.keeps (rw same (readies_none lawful running)) two)
      (λ (more : (Readies state a.log b.log × SavesOnly state a.log b.log) ⊎ IsSavedAmply b.log). ⊎_elim
      (λ (ready : Readies state a.log b.log × SavesOnly state a.log b.log). made_then one.keeps ready.0 two)
      (λ (amply : IsSavedAmply b.log). reserves_still r one two (still amply.0 amply.1)) more)
      found

-- ---- what is told behind that
module _ {D : Type 0} (state : D → DeviceState) where
  abbrev told : LogState D → ℕ
  told h = length (state h.device).told

  module _ {a b : LogState D} (c : LogState D) (found : FindsReady state a b) (still : b.saved ≡ true → HasClean b → c ≡ b) where
    told_cases : (P : LogState D → Type 0) → (b ≡ a → P c) → (SavesOnly state a b → P c) → P b → P c
    told_cases P none only amply = ⊎_elim
        (λ (same : b ≡ a). none same)
        (λ (more : (Readies state a b × SavesOnly state a b) ⊎ IsSavedAmply b). ⊎_elim
        (λ (ready : Readies state a b × SavesOnly state a b). only ready.1)
        (λ (all : IsSavedAmply b). rw (still all.0 all.1) amply) more)
        found

    pub told_room : told b ≤ told a + clean_orders a.segments → told c ≤ told b + clean_orders b.segments
        → (b.saved ≡ true → told c ≤ told b + passes_orders b.segments) → told c ≤ told a + clean_orders a.segments
    told_room first second passes = told_cases (λ (h : LogState D). told h ≤ told a + clean_orders a.segments)
        (λ (same : b ≡ a). subst (λ (h : LogState D). told c ≤ told h + clean_orders h.segments) same second)
        (λ only. behind (told a) (told b) (told c) a.segments b.segments only.readied.keeps.segments only.told (passes only.readied.saved))
        first
      where
        sum : (x y z p q : ℕ) → y ≤ x + p → z ≤ y + q → z ≤ x + (p + q)
        sum x y z p q one two = omega arith

        behind : (x y z n m : ℕ) → m ≡ n → y ≤ x + commit_orders → z ≤ y + passes_orders m → z ≤ x + clean_orders n
        behind x y z n m is one two =
            let after : z ≤ y + passes_orders n = subst (λ (l : ℕ). z ≤ y + passes_orders l) is two in
            sum x y z commit_orders (passes_orders n) one after

    pub told_once : told b ≤ told a + once_orders a.segments → (HasCleanForTwo b → told c ≤ told b + commit_orders)
        → HasCleanForTwo a → told c ≤ told a + once_orders a.segments
    told_once first second two = told_cases (λ (h : LogState D). told h ≤ told a + once_orders a.segments)
        (λ (same : b ≡ a). within (subst (λ (h : LogState D). HasCleanForTwo h → told c ≤ told h + commit_orders) same second two))
        (λ only. let lacks = only.lacks in let clean = only.clean in let size = only.readied.keeps.segments in
        absurd (omega (arith, lacks, clean, size, two)))
        first
      where
        within : told c ≤ told a + commit_orders → told c ≤ told a + once_orders a.segments
        within few = omega (arith, few)
