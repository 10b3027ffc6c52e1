-- How many blocks a file has with a draft, from what the draft says and what the log tells.
use Rattle.std.specs.Prelude.{min, Some, Result, Ok, Err, IfOk, IsTrue, ◌↔◌}
use Rattle.std.proofs.Common.{◌≡◌, ◌<◌, ◌≤◌, ⊎_elim, ◌+◌, ◌-◌, ◌*◌, ℕ, Bool, true, false, not, List, [], ◌∷◌, length, nat_lt, refl, sym}
use Rattle.std.proofs.Common.{◌∙◌, ap, arith}
use mir.Val.{bool_byte}
use Rattle.std.specs.List.{AllByRecursion}
use Rattle.std.proofs.lemmas.Bool.{cases_eq, false_from_ne_true, lt-ltb, ltb-true}
use Rattle.lfs_model.specs.Checkpoint.{CheckpointValue}
use Rattle.lfs_model.specs.Device.{DeviceState, IsLawful}
use Rattle.lfs_model.specs.Encodes.{HasLeaf}
use Rattle.lfs_model.specs.Fields.{zeros}
use Rattle.lfs_model.specs.Objects.{is_stored, has_leaf, one_if}
use Rattle.lfs_model.specs.Stands.{LogMap}
use Rattle.lfs_model.proofs.ObjectNeeds.{same_tests}
use Rattle.lfs_model.proofs.ObjectPointers.{leaf_tests}
use Rattle.lfs_cleaner.specs.log.memory.declared.batch.BlockEdit.{BlockEdit}
use Rattle.lfs_cleaner.specs.log.memory.declared.changes.Changes.{Changes}
use Rattle.lfs_cleaner.specs.log.memory.Batch.{staged}
use Rattle.lfs_cleaner.specs.log.memory.Changing.{stored}
use Rattle.lfs_cleaner.proofs.of_log.of_memory.LogMaps.{stored_none, stored_some}
use Rattle.lfs_cleaner.specs.log.LogState as held
use Rattle.lfs_cleaner.specs.log.LogState.{LogState, Holds, Reads}
use Rattle.lfs_store.specs.Drafting.{NoBlock}
use Rattle.lfs_store.specs.Measuring.{SaysStored, IsBetween, IsOff, KeepsBefore, LeavesBlocks, StoresLeaf, TellsStored, TellsLeaf}
use Rattle.lfs_store.specs.Measuring.{TellsDouble, CountsStored, CountsLeaves}
use Rattle.lfs_model.specs.Totals.{leaves_in, stored_in}
use Rattle.lfs_store.proofs.DraftedBlocks.{says_no_block}
use Rattle.lfs_cleaner.proofs.of_log.LogReads.{held_still, reads_none, reads_more}
use Rattle.lfs_cleaner.proofs.of_log.of_memory.Ranges.{passing, passing_none, passing_more, passing_same}
use Rattle.lfs_store.proofs.Pointers.{double_is, leaves_same}

-- ---- a draft

test_same : {a b : List ℕ} → a ≡ b → nat_lt 0 (length a) ≡ nat_lt 0 (length b)
test_same same = cc

-- bytes in a draft, of which it is known whether they are zeros
pub says_test : (m : LogMap) (n i : ℕ) {bytes : List ℕ} (blank : Bool) → length bytes ≡ 512 → (IsTrue blank ↔ bytes ≡ zeros 512)
    → m.block n i ≡ stored bytes → is_stored m n i ≡ not blank
says_test m n i true long test is = test_same (is ∙ stored_none _ 512 (test.0 refl))
says_test m n i false long test is =
    lt-ltb 0 (length (m.block n i))
    (omega (arith, ap (λ (x : List ℕ). length x) (is ∙ stored_some _ long (λ e. let bad : false ≡ true = test.1 e in absurd (cc)))))

-- ---- calls that only read, and count what passes a test
module _ {D : Type 0} (state : D → DeviceState) (p : LogMap → ℕ → Bool) where
  -- a call told whether number i passes
  abbrev pub Tells : LogState D → LogState D → Changes → ℕ → Bool → Type 0
  Tells h h' c i found = (k : CheckpointValue) (m0 m : LogMap) → (state h'.device).keeps_model → Holds state h k m0 m
      → p (staged c m) i ≡ found

  -- those from..index were counted
  pub record CountedUpTo (h h' : LogState D) (c : Changes) (from index count : ℕ) : Type 0 where
    pub reads : Reads state h h'
    pub few : count + from ≤ index
    pub far : (k : CheckpointValue) (m0 m : LogMap) → (state h'.device).keeps_model → Holds state h k m0 m
        → passing (p (staged c m)) from (index - from) ≡ count

module _ {D : Type 0} {state : D → DeviceState} (p : LogMap → ℕ → Bool) where
  pub counted_none : {h : LogState D} {c : Changes} {from : ℕ} → CountedUpTo state p h h c from from 0
  counted_none {h} {c} {from} = record {
    reads = reads_none _ h;
    few = omega arith;
    far = λ k m0 m keeps is.
        (let none : from - from ≡ 0 = omega arith in ap (passing (p (staged c m)) from) none ∙ passing_none (p (staged c m)) from);
  }

  module _ {h a b : LogState D} {c : Changes} {from index count : ℕ} (lawful : IsLawful (state h.device))
      (was : CountedUpTo state p h a c from index count) (reads : Reads state a b) where
    more : (m : LogMap)
        → passing (p (staged c m)) from (index + 1 - from) ≡ passing (p (staged c m)) from (index - from) + one_if (p (staged c m) index)
    more m =
        let next : index + 1 - from ≡ index - from + 1 = omega arith in
        ap (passing (p (staged c m)) from) next ∙ passing_more (p (staged c m)) from (index - from) index (omega arith)

    pub counted_more : (found : Bool) (next : ℕ) → next ≡ count + bool_byte found → Tells state p a b c index found
        → CountedUpTo state p h b c from (index + 1) next
    counted_more found next is_next tells = record {
      reads = reads_more _ lawful was.reads reads;
      few = omega (arith, at_most found);
      far = λ k m0 m keeps is.
          omega (
            arith,
            was.far k m0 m (reads.looks.carries.kept_before keeps) is,
            ap one_if
                (tells k m0 m keeps (held_still _ was.reads is)),
            more m,
            byte found,
          );
    }
      where
        byte : (b : Bool) → bool_byte b ≡ one_if b
        byte true = refl
        byte false = refl

        at_most : (b : Bool) → bool_byte b ≤ 1
        at_most true = omega arith
        at_most false = omega arith

-- ---- blocks and leaves
module _ {D : Type 0} {state : D → DeviceState} {h h' : LogState D} {c : Changes} (n : ℕ) {from to index count : ℕ} (end : index ≡ to) where
  pub counts_stored : CountedUpTo state (λ m. is_stored m n) h h' c from index count → CountsStored state h h' c n from to count
  unfolding stored_in
  counts_stored was k m0 m keeps is = cc (end, was.far k m0 m keeps is)

  pub counts_leaves : CountedUpTo state (λ m. has_leaf m n) h h' c from index count → CountsLeaves state h h' c n from to count
  unfolding leaves_in
  counts_leaves was k m0 m keeps is = cc (end, was.far k m0 m keeps is)

-- ---- a leaf of pointers

-- no block from one on to another passes
pub record SearchedUpTo {D : Type 0} (state : D → DeviceState) (n : ℕ) (h h' : LogState D) (c : Changes) (from index : ℕ) : Type 0 where
  pub reads : Reads state h h'
  pub none : (k : CheckpointValue) (m0 m : LogMap) → (state h'.device).keeps_model → Holds state h k m0 m → (i : ℕ) → from ≤ i → i < index
      → is_stored (staged c m) n i ≡ false

module _ {D : Type 0} {state : D → DeviceState} {n : ℕ} where
  pub searched_none : {h : LogState D} {c : Changes} {from : ℕ} → SearchedUpTo state n h h c from from
  searched_none {h} = record { reads = reads_none _ h; none = λ k m0 m keeps is i le lt. absurd (omega arith) }

  module _ {h a b : LogState D} {c : Changes} {from index : ℕ} (lawful : IsLawful (state h.device))
      (was : SearchedUpTo state n h a c from index) (reads : Reads state a b) where
    pub searched_more : TellsStored state a b c n index false → SearchedUpTo state n h b c from (index + 1)
    searched_more tells = record {
      reads = reads_more _ lawful was.reads reads;
      none = λ k m0 m keeps is i le lt. ⊎_elim
          (λ (here : i ≡ index). ap (is_stored (staged c m) n) here ∙ tells k m0 m keeps (held_still _ was.reads is))
          (λ (ne : i ≡ index → ⊥). was.none k m0 m (reads.looks.carries.kept_before keeps) is i le (omega arith)) (cases_eq i index);
    }

    pub leaf_found : (q : ℕ) → from ≡ 112 + 128 * q → from ≤ index → index < from + 128 → TellsStored state a b c n index true
        → TellsLeaf state h b c n q true
    leaf_found q at le lt tells k m0 m keeps is =
        let on = tells k m0 m keeps (held_still _ was.reads is) in
        let place : index ≡ 112 + 128 * q + (index - from) = omega arith in
        let has = ltb-true 0 (length ((staged c m).block n index)) on in
        ((leaf_tests (staged c m) n).0 q).1 (index - from, omega arith, rw (← place) has)

  -- none of all does
  pub leaf_empty : {h h' : LogState D} {c : Changes} {from index : ℕ} (q : ℕ) → from ≡ 112 + 128 * q → from + 128 ≤ index
      → SearchedUpTo state n h h' c from index → TellsLeaf state h h' c n q false
  leaf_empty {c} q at far was k m0 m keeps is = false_from_ne_true (has_leaf (staged c m) n q) (λ on.
      let has = ((leaf_tests (staged c m) n).0 q).0 on in
      let off = was.none k m0 m keeps is (112 + 128 * q + has.0) (omega arith) (omega arith) in
      let there = lt-ltb 0 (length ((staged c m).block n (112 + 128 * q + has.0))) has.2 in
      let bad : true ≡ false = cc in
      absurd (cc))

-- the leaf of a draft that changes none of its blocks
same_leaf_one : (m m' : LogMap) (n q : ℕ) → ((i : ℕ) → IsBetween (112 + 128 * q) (240 + 128 * q) i → m'.block n i ≡ m.block n i)
    → HasLeaf m n q → HasLeaf m' n q
same_leaf_one m m' n q same has =
    let low = has.1 in
    (has.0, low, rw (same (112 + 128 * q + has.0) (omega arith, omega arith)) has.2)

pub same_leaf : (m m' : LogMap) (n q : ℕ) → ((i : ℕ) → IsBetween (112 + 128 * q) (240 + 128 * q) i → m'.block n i ≡ m.block n i)
    → has_leaf m' n q ≡ has_leaf m n q
same_leaf m m' n q same = same_tests _ _
    (λ on. ((leaf_tests m n).0 q).1 (same_leaf_one m' m n _ (λ i inside. sym (same i inside)) (((leaf_tests m' n).0 q).0 on)))
    (λ on. ((leaf_tests m' n).0 q).1 (same_leaf_one m m' n _ same (((leaf_tests m n).0 q).0 on)))

-- edits of none of some blocks are edits of no one of them
off_blocks : (n from to i : ℕ) (edits : List BlockEdit) → IsBetween from to i → AllByRecursion (IsOff n from to) edits → NoBlock n i edits
off_blocks n from to i [] inside off = tt
off_blocks n from to i (e ∷ edits) inside off =
    ((λ is. off.0 is.0 (rw is.1 inside)), off_blocks n from to i edits inside off.1)

pub leaves_blocks : (c : Changes) (n : ℕ) {from to : ℕ} → KeepsBefore c.loss n to → AllByRecursion (IsOff n from to) c.blocks.items
    → LeavesBlocks c n from to
leaves_blocks c n keeps off i inside m = (says_no_block c _ _ (off_blocks _ _ _ _ _ inside off)).1 m ∙ keeps i inside.1 m

-- ---- what the log tells of what a draft leaves
module _ {D : Type 0} (state : D → DeviceState) (h h' : LogState D) (c : Changes) (n : ℕ) where
  pub log_stored : {E : Type 0} {i : ℕ} (r : Result Bool E) → ((m : LogMap) → (staged c m).block n i ≡ m.block n i)
      → IfOk r (held.TellsBlock state h h' n i) → IfOk r (TellsStored state h h' c n i)
  log_stored (Ok found) left tells = λ k m0 m keeps is. test_same (left m) ∙ tells k m0 m keeps is
  log_stored (Err e) left tells = tt

  pub log_leaf : {E : Type 0} (q : ℕ) (r : Result Bool E) → LeavesBlocks c n (112 + 128 * q) (112 + 128 * q + 128)
      → IfOk r (held.TellsLeaf state h h' n q) → IfOk r (TellsLeaf state h h' c n q)
  log_leaf q (Ok found) left tells = λ k m0 m keeps is.
      same_leaf _ _ _ _ (λ i inside. (left i (inside.0, omega arith) m)) ∙ tells k m0 m keeps is
  log_leaf q (Err e) left tells = tt

  -- they are as many
  pub log_count : {E : Type 0} {from to : ℕ} (r : Result ℕ E) → LeavesBlocks c n from to → IfOk r (held.CountsBlocks state h h' n from to)
      → IfOk r (CountsStored state h h' c n from to)
  unfolding stored_in
  log_count (Ok count) left tells = λ k m0 m keeps is.
      passing_same _ _ _ _
      (λ i le lt. test_same (left i (le, omega arith) m)) ∙ tells k m0 m keeps is
  log_count (Err e) left tells = tt

  pub log_double : {E : Type 0} (size : ℕ) (r : Result Bool E) → LeavesBlocks c n 240 16624 → IfOk r (held.TellsDouble state h h' n)
      → IfOk r (TellsDouble state h h' c n size)
  log_double size (Ok found) left tells = λ k m0 m keeps is ends.
      ap one_if (sym (tells k m0 m keeps is)) ∙ double_is _ _
      ∙ ap (λ (l : ℕ). min l 1) (sym (leaves_same _ _ _ _ _ (λ q le lt. same_leaf _ _ _ _
      (λ i inside. (left i (omega arith, omega arith) m)))))
  log_double size (Err e) left tells = tt

-- a draft that stores a block of a leaf
pub stores_leaf : (c : Changes) (n q i : ℕ) → IsBetween (112 + 128 * q) (112 + 128 * q + 128) i → SaysStored c n i (Some true)
    → StoresLeaf c n q
stores_leaf c n q i inside says m =
    let place : i ≡ 112 + 128 * q + (i - (112 + 128 * q)) = omega arith in
    let has = ltb-true 0 (length ((staged c m).block n i)) (says m) in
    ((leaf_tests (staged c m) n).0 q).1 (i - (112 + 128 * q), omega arith, rw (← place) has)
