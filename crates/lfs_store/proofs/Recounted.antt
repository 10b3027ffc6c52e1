-- The totals where a file is made, gets other links, or goes at once.
use Rattle.std.proofs.Common.{◌≡◌, ◌<◌, ◌≤◌, ⊎_elim, ◌+◌, ℕ, false, length, List, [], ◌∷◌, Option, Some, None, refl, sym}
use Rattle.std.proofs.Common.{◌∙◌, ap, subst, arith}
use Rattle.lfs_model.specs.Device.{DeviceState, IsLawful}
use Rattle.lfs_model.specs.Encodes.{IsLogMap}
use Rattle.lfs_model.specs.Entry.{Header}
use Rattle.lfs_model.specs.Need.{pointers}
use Rattle.lfs_model.specs.Objects.{is_stored, stored_below, stored_blocks}
use Rattle.lfs_model.specs.Stands.{LogMap}
use Rattle.lfs_cleaner.specs.log.memory.declared.changes.Changes.{Changes}
use Rattle.lfs_cleaner.specs.log.memory.Batch.{IsNoChange}
use Rattle.lfs_cleaner.specs.log.memory.Changing.{with_header}
use Rattle.lfs_cleaner.proofs.of_log.of_memory.LogMaps.{is_with_header}
use Rattle.lfs_cleaner.proofs.of_log.of_memory.Presents.{looks_then}
use Rattle.lfs_cleaner.proofs.of_log.of_memory.Removed.{is_without}
use Rattle.lfs_cleaner.specs.log.LogState.{LogState, Reads, Alters, IsKept, IsRemoved}
use Rattle.lfs_cleaner.specs.log.segments.Early.{AreUntaken}
use Rattle.lfs_store.specs.declared.totals.Measure.{Measure}
use Rattle.lfs_cleaner.specs.log.verify.declared.totals.BlockTotals.{BlockTotals}
use Rattle.lfs_store.specs.Measuring.{Measures}
use Rattle.lfs_store.specs.Recounting.{AreTotals, Recounts, CountsGone}
use Rattle.lfs_model.specs.Totals.{HasMeasure, meta_of_file, data_in, meta_in}
use Rattle.lfs_store.proofs.Apart.{no_change}
use Rattle.lfs_store.proofs.Leaves.{beside_none}
use Rattle.lfs_cleaner.proofs.of_log.LogReads.{held_still}
use Rattle.lfs_store.proofs.Makings.{changed_header, without_changed}
use Rattle.lfs_store.proofs.Measures.{nothing_stored, stored_nothing}
use Rattle.lfs_store.proofs.Recountings.{recounted, same_high}
use Rattle.lfs_store.proofs.Summing.{stored_all, totals_of_change}

-- ---- what has no block

empty_list : {X : Type 0} (xs : List X) → length xs ≡ 0 → xs ≡ []
empty_list [] e = refl
empty_list (x ∷ xs) e = absurd (omega arith)

-- a file without blocks has an inode alone
inode_alone : (m : LogMap) (n : ℕ) → ((i : ℕ) → is_stored m n i ≡ false) → pointers (stored_blocks m n) ≡ 0
inode_alone m n none = ap pointers (empty_list _ (stored_all _ _ _ ∙ stored_nothing _ _ _ _ (λ i le lt. none i)))

abbrev meta_by : Option Header → ℕ → ℕ
meta_by o k = elim o [ None ↦ 0 | Some h ↦ 1 + k ]

pub no_measure : (m : LogMap) (n from to : ℕ) → ((i : ℕ) → is_stored m n i ≡ false) → m.header n ≡ None → HasMeasure m n from to 0 0
no_measure m n from to none gone = record {
  stored = sym (stored_nothing _ _ _ _ (λ i le lt. none i));
  above = (
      let meta : meta_of_file m n ≡ 0 = cc in
      omega (arith, beside_none m n none from to));
}

-- ---- a file is made
pub made_counts : (a b : LogMap) (n : ℕ) (head : Header) {old : BlockTotals} {new : BlockTotals} → 1 ≤ n → n ≤ 4095
    → with_header a n (Some head) ≡ b
    → IsLogMap a → a.header n ≡ None
    → Recounts old new (record { data_blocks = 0; meta_blocks = 0 }) (record { data_blocks = 0; meta_blocks = 1 })
    → AreTotals a old → AreTotals b new
made_counts a b n head {old} some few is map gone recounts are = rw (← is) (recounted a n
    (changed_header a n (Some head)) some few (omega arith) (omega arith)
    (λ i out. refl) (no_measure a n 0 0 none gone)
    (record {
      stored = sym (stored_nothing over n 0 0 (λ i le lt. none i));
      above = omega (arith, beside_none over n none 0 0, above);
    }) recounts are)
  where
    over : LogMap
    over = with_header a n (Some head)

    none : (i : ℕ) → is_stored a n i ≡ false
    none = nothing_stored _ map gone

    above : 1 ≡ meta_of_file over n
    above =
        ap (λ (k : ℕ). 1 + k) (sym (inode_alone _ _ none))
        ∙ ap (λ (o : Option Header). meta_by o (pointers (stored_blocks over n))) (sym (is_with_header a n {h = Some head}).own)

-- ---- a file has other links

same_list : (m : LogMap) (n : ℕ) (h : Option Header) (end : ℕ) → stored_below (with_header m n h) n end ≡ stored_below m n end
unfolding stored_below
same_list m n h end = refl

pub relinked_totals : (m : LogMap) (n : ℕ) {h : Header} (h' : Header) (t : BlockTotals) → 1 ≤ n → n ≤ 4095 → m.header n ≡ Some h
    → AreTotals m t
    → AreTotals (with_header m n (Some h')) t
relinked_totals m n h' t some few there are =
    let law = totals_of_change m (with_header m n (Some h')) n 0 0 (changed_header m n (Some h')) some few (omega arith) (omega arith)
    (λ i out. refl) in
    let none = stored_nothing m n 0 0 (λ i le lt. absurd (omega arith)) in
    let none' = stored_nothing (with_header m n (Some h')) n 0 0 (λ i le lt. absurd (omega arith)) in
    let was = ap (λ (o : Option Header). meta_by o (pointers (stored_blocks m n))) there in
    let now =
    ap (λ (o : Option Header). meta_by o (pointers (stored_blocks (with_header m n (Some h')) n))) (is_with_header m n {h = Some h'}).own in
    let same = ap (λ (is : List ℕ). 1 + pointers is) (same_list m n (Some h') 16624) in
    record {
      stored = cc (blocks (data_in m) (data_in (with_header m n (Some h'))) _ _ law.0 none none');
      above = are.above ∙ others (meta_in m) (meta_in (with_header m n (Some h'))) (meta_of_file m n)
          (meta_of_file (with_header m n (Some h')) n) law.1 (cc);
    }
  where
    blocks : (a b x y : ℕ) → b + x ≡ a + y → x ≡ 0 → y ≡ 0 → a ≡ b
    blocks a b x y e none none' = omega arith

    others : (a b x y : ℕ) → b + x ≡ a + y → x ≡ y → a ≡ b
    others a b x y e same = omega arith

module _ {D : Type 0} {state : D → DeviceState} where
  -- ---- a file goes at once
  pub gone_counts : {h a h' : LogState D} {c : Changes} (n : ℕ) {before : Measure} {old new : BlockTotals} → 1 ≤ n → n ≤ 4095 → IsNoChange c
      → Reads state h a → Measures state h a c n 0 16624 before → Alters state a h' 0 false
      → Recounts old new before (record { data_blocks = 0; meta_blocks = 0 }) → CountsGone state h h' n old new
  gone_counts {c} n {before} {old} {new} some few none first measured alters recounts k m0 m keeps is map map' are =
      let same = no_change none in
      let was = measured k m0 m (alters.looks.carries.kept_before keeps) is (subst IsLogMap (sym same) map) in
      let gone = (is_without m n).header in
      recounted _ _ (without_changed _ _) some few (omega arith) (omega arith)
      (λ i out.
      ⊎_elim (λ (lt : i < 0). absurd (omega arith)) (λ (high : 16624 ≤ i). same_high map map' high) out) (rw (← same) was)
      (no_measure _ _ _ _ (nothing_stored _ map' gone) gone) recounts are

  -- a log that was only read
  pub alters_read : (h a : LogState D) → Reads state h a → Alters state h a 0 false
  alters_read h a reads = record {
    looks = reads.looks;
    number = reads.number;
    version = reads.version;
    upgraded = reads.upgraded;
    halted = reads.halted;
    segments = reads.segments;
    clean = reads.clean;
    few = omega arith;
  }

  alters_more : {h a h' : LogState D} → IsLawful (state h.device) → Reads state h a → Alters state a h' 0 false → Alters state h h' 0 false
  alters_more lawful reads alters = record {
    looks = looks_then lawful reads.looks alters.looks;
    number = cc;
    version = cc;
    upgraded = cc;
    halted = cc;
    segments = cc;
    clean = cc;
    few = omega arith;
  }

  untaken_read : {h a : LogState D} → Reads state h a → AreUntaken h.usage → AreUntaken a.usage
  untaken_read reads = subst AreUntaken (sym reads.usage)

  pub kept_read : {h a : LogState D} → Reads state h a → IsKept state h a
  kept_read {h} {a} reads = record {
    alters = alters_read _ _ reads;
    saved = reads.saved;
    untaken = untaken_read reads;
    holds = λ k m0 m keeps is. held_still _ reads is;
  }

  pub kept_more : {h a h' : LogState D} → IsLawful (state h.device) → Reads state h a → IsKept state a h' → IsKept state h h'
  kept_more {h} {a} {h'} lawful reads kept =
      record {
        alters = alters_more lawful reads kept.alters;
        saved = cc;
        untaken = λ before. kept.untaken (untaken_read reads before);
        holds = λ k m0 m keeps is. kept.holds k m0 m keeps (held_still _ reads is);
      }

  pub removed_more : {h a h' : LogState D} {n : ℕ} → IsLawful (state h.device) → Reads state h a → IsRemoved state a h' n
      → IsRemoved state h h' n
  removed_more {h} {a} {h'} lawful reads gone =
      record {
        alters = alters_more lawful reads gone.alters;
        unsaved = λ off. gone.unsaved (cc);
        nameless = λ k m0 m keeps is off. cc (gone.nameless k m0 m keeps (held_still _ reads is) off);
        untaken = λ before. gone.untaken (untaken_read reads before);
        holds = λ k m0 m keeps is. gone.holds k m0 m keeps (held_still _ reads is);
      }
