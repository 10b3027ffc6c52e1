-- The measure of a file and of a volume, from what is counted.
use Rattle.std.specs.Prelude.{min, max}
use Rattle.std.specs.Int.{div_ceil}
use Rattle.std.proofs.Common.{◌≡◌, ◌<◌, ◌≤◌, ◌⊎◌, ⊎_elim, ◌+◌, ◌*◌, ℕ, Bool, true, false, length, Option, Some, None, refl, sym, ◌∙◌}
use Rattle.std.proofs.Common.{ap, ap₂, subst, arith}
use mir.Val.{bool_byte}
use Rattle.std.proofs.lemmas.Bool.{cases_lt, false_from_ne_true, ltb-true}
use Rattle.lfs_model.specs.Device.{DeviceState}
use Rattle.lfs_model.specs.Encodes.{IsLogMap}
use Rattle.lfs_model.specs.Entry as entry
use Rattle.lfs_model.specs.Need.{pointers}
use Rattle.lfs_model.specs.Objects.{has_leaf, is_stored, one_if, stored_blocks}
use Rattle.lfs_model.specs.Stands.{LogMap}
use Rattle.lfs_cleaner.specs.log.memory.declared.changes.Changes.{Changes}
use Rattle.lfs_cleaner.specs.log.memory.files.declared.header.Header.{Header}
use Rattle.lfs_cleaner.specs.log.memory.Batch.{staged}
use Rattle.lfs_cleaner.specs.log.memory.Present.{as_header}
use Rattle.lfs_cleaner.specs.log.LogState.{LogState, Reads}
use Rattle.lfs_store.specs.Measuring.{EndsBy, IsLeafRange, CountsStored, CountsLeaves, CountsPointers, Measures, TellsDouble}
use Rattle.lfs_store.specs.Reading.{ReadsHeader}
use Rattle.lfs_model.specs.Totals.{leaf_from, leaves_beside, leaves_in, stored_in, meta_of_file}
use Rattle.lfs_cleaner.proofs.of_log.LogReads.{held_still}
use Rattle.lfs_store.proofs.Leaves.{beside_none, beside_split, leaves_to_end}
use Rattle.lfs_store.proofs.Measured.{CountedUpTo, Tells, counts_leaves}
use Rattle.lfs_store.proofs.Pointers.{double_beside, double_found, double_none, pointers_all}
use Rattle.lfs_cleaner.proofs.of_log.of_memory.Ranges.{passing_nothing}
use Rattle.lfs_store.proofs.Summing.{stored_split}

-- ---- the end of a file

-- no block is stored that isn't there
pub nothing_stored : {m : LogMap} (n : ℕ) → IsLogMap m → m.header n ≡ None → (i : ℕ) → is_stored m n i ≡ false
nothing_stored {m} n is none i = false_from_ne_true (is_stored m n i) (λ on.
    let within = is.within n i (ltb-true 0 (length (m.block n i)) on) in
    let bad : None ≡ Some within.0 = cc in
    absurd (cc))

pub ends_by : {m : LogMap} (n : ℕ) (h : Header) → IsLogMap m → m.header n ≡ Some (as_header h) → EndsBy m n h.size
ends_by {m} n h is at i past = false_from_ne_true (is_stored m n i) (λ on.
    let within = is.within n i (ltb-true 0 (length (m.block n i)) on) in
    let same : within.0 ≡ as_header h = (let both : Some within.0 ≡ Some (as_header h) = sym within.1 ∙ at in cc) in
    let low : 512 * i < h.size = subst (λ (g : entry.Header). 512 * i < g.size) same within.2 in
    absurd (omega arith))

pub stored_nothing : (m : LogMap) (n a b : ℕ) → ((i : ℕ) → a ≤ i → i < b → is_stored m n i ≡ false) → stored_in m n a b ≡ 0
unfolding stored_in
stored_nothing m n a b none = passing_nothing _ a _ (λ i le lt. none i le (omega arith))

-- the blocks up to the end of a file are all
pub stored_to_end : (m : LogMap) (n : ℕ) {size : ℕ} (blocks from to : ℕ) → EndsBy m n size → size ≤ 512 * blocks → from ≤ to
    → stored_in m n (min from (min blocks to)) (min blocks to) ≡ stored_in m n from to
stored_to_end m n blocks from to ends covers order = ⊎_elim
    (λ (inside : from < min blocks to).
    let first : min from (min blocks to) ≡ from = omega arith in
    ap (λ (a : ℕ). stored_in m n a (min blocks to)) first
    ∙ omega (
      arith,
      stored_split m n from (min blocks to) to (omega (arith, inside)) (omega arith),
      stored_nothing m n (min blocks to) to
          (λ i le lt. ends i (omega (arith, covers, le, lt))),
    ))
    (λ (past : min blocks to ≤ from).
    let none = stored_nothing m n (min from (min blocks to)) (min blocks to) (λ i le lt. absurd (omega arith)) in
    let rest = stored_nothing m n from to (λ i le lt. ends i (omega arith)) in
    none ∙ sym rest)
    (cases_lt from (min blocks to))

-- ---- one file
module _ {D : Type 0} (state : D → DeviceState) (c : Changes) (n : ℕ) where
  pub absent : (h h' : LogState D) (from to : ℕ) → ReadsHeader state h h' c n None
      → Measures state h h' c n from to (record { data_blocks = 0; meta_blocks = 0 })
  absent h h' from to answer k m0 m keeps is map =
      let none = answer k m0 m keeps is in
      record {
        stored = sym (stored_nothing _ _ _ _ (λ i le lt. nothing_stored _ map none _));
        above = (
            let gone : meta_of_file (staged c m) n ≡ 0 =
            cc in
            omega (arith, beside_none (staged c m) n (nothing_stored n map none) from to));
      }

  -- the double root: a leaf below it is stored, or none was found
  pub double_told : {h a : LogState D} (b : LogState D) {size : ℕ} (leaf : ℕ) → Reads state h a → 1 ≤ leaf → leaf ≤ 128
      → Tells state (λ m. has_leaf m n) a b c leaf true → TellsDouble state h b c n size true
  double_told {h} {a} b leaf one some few tells k m0 m keeps is ends =
      sym (double_found (staged c m) n leaf some few (tells k m0 m keeps (held_still _ one is)))

  pub double_missed : {h b : LogState D} (size end : ℕ) {index : ℕ} → (size ≤ 512 * (112 + 128 * end)) ⊎ (129 ≤ end) → end ≤ 129
      → index ≡ max end 1
      → CountedUpTo state (λ m. has_leaf m n) h b c 1 index 0 → TellsDouble state h b c n size false
  double_missed {h} {b} size end {index} past few last was k m0 m keeps is ends =
      sym (double_none _ _ size _ ends past (counts_leaves _ last was k m0 m keeps is) few)

  -- the leaves at some indices, and the double root: looked for, or above a leaf behind the first
  module _ (h a : LogState D) (size from to first end count : ℕ) (range : IsLeafRange size from to first end) (order : from ≤ to)
      (low : to ≤ 16624) (leaves : CountsLeaves state h a c n first end count) where
    within : (m : LogMap) → EndsBy m n size → leaves_in m n first end ≡ count → count + leaves_beside m n from to ≡ leaves_in m n 0 129
    within m ends counted =
        let covers : size ≤ 512 * div_ceil size 512 = omega arith in
        let begins = range.begins ∙ ap (λ (e : ℕ). min (leaf_from from) e) range.ends in
        omega (
          arith,
          leaves_to_end m n size (div_ceil size 512) from to ends covers order low,
          ap₂ (λ (x y : ℕ). leaves_in m n x y) begins
              range.ends,
          beside_split m n from to order low,
        )

    pub counts_pointers : {b : LogState D} (found : Bool) → Reads state h a → Reads state a b → TellsDouble state a b c n size found
        → CountsPointers state h b c n size from to (count + bool_byte found)
    counts_pointers {b} found one two double k m0 m keeps is ends =
        omega (
          arith,
          within (staged c m) ends (leaves k m0 m (two.looks.carries.kept_before keeps) is),
          double k m0 m keeps
              (held_still _ one is) ends,
          pointers_all (staged c m) n,
          byte found,
        )
      where
        byte : (b : Bool) → bool_byte b ≡ one_if b
        byte true = refl
        byte false = refl

    pub counts_below : 1 ≤ first → first ≤ end → end ≤ 129 → 1 ≤ count → CountsPointers state h a c n size from to (count + 1)
    counts_below some order few found k m0 m keeps is ends =
        let counted = leaves k m0 m keeps is in
        omega (
          arith,
          within (staged c m) ends counted,
          double_beside (staged c m) n first end some order few
              (omega (arith, counted, found)),
          pointers_all (staged c m) n,
        )

  pub measured : {h a b d : LogState D} (head : Header) (blocks from to count above : ℕ) → Reads state h a → Reads state a b
      → Reads state b d
      → head.size ≤ 512 * blocks → from ≤ to
      → ReadsHeader state h a c n (Some head) → CountsStored state a b c n (min from (min blocks to)) (min blocks to) count
      → CountsPointers state b d c n head.size from to above
      → Measures state h d c n from to (record { data_blocks = count; meta_blocks = 1 + above })
  measured {h} {a} {b} head blocks from to count above one two three covers order answer counted below k m0 m keeps is map =
      let keeps_b = three.looks.carries.kept_before keeps in
      let keeps_a = two.looks.carries.kept_before keeps_b in
      let at = answer k m0 m keeps_a is in
      let held_a = held_still _ one is in
      let held_b = held_still _ two held_a in
      let ends = ends_by _ _ map at in
      let is_there : meta_of_file (staged c m) n ≡ 1 + pointers (stored_blocks (staged c m) n) =
      ap (λ (o : Option entry.Header). elim o [ None ↦ 0 | Some h ↦ 1 + pointers (stored_blocks (staged c m) n) ]) at in
      record {
        stored = sym (sym (stored_to_end _ _ _ _ _ ends covers order) ∙ counted k m0 m keeps_b held_a);
        above = omega (arith, below k m0 m keeps held_b ends);
      }
