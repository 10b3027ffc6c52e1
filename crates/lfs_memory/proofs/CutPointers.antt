-- Blocks of pointers that stay lose their pointers to what goes.
use Rattle.std.proofs.Common.{◌≡◌, ◌<◌, ◌≤◌, ◌+◌, ◌*◌, ◌-◌, ◌==◌, ◌&&◌, nat_le, cond, ℕ, suc, Bool, true, false, List, length}
use Rattle.std.proofs.Common.{Some, None, refl, sym, ◌∙◌, ap, subst, arith, eq-eqb}
use Rattle.std.proofs.Common.{inl, inr}
use Rattle.std.specs.Option.{option_map}
use Rattle.std.proofs.lemmas.Bool.{cases_lt, and_parts, and_from, leb-true, le-leb, cond-false, false_from_ne_true}
use Rattle.lfs_model.specs.Cutting.{is_past}
use Rattle.lfs_model.specs.Detaching.{IsCleared}
use Rattle.lfs_model.specs.Entry.{Entry, Data, Leaf, Double, Inode, Map, Usage, word}
use Rattle.lfs_model.specs.Memory.{file_of}
use Rattle.lfs_model.specs.Running.{Dirty}
use Rattle.lfs_model.specs.Staging.{ChangesTo}
use Rattle.lfs_model.proofs.CutSets.{data_cleared, leaf_cleared, double_cleared, inode_cleared}
use Rattle.lfs_model.proofs.Entries.{same_entry}
use Rattle.lfs_inodes.specs.Clearing.{zeroed}
use Rattle.lfs_inodes.proofs.Zeroed.{long_zeroed, word_zero, word_kept, holds_zeroed, header_zeroed}
use Rattle.lfs_memory.specs.Cutting.{IsCutLeaf, KeepsOfInode, KeepsOfRoot, IsFormed, ClearsLeaf, ClearsPointers}

-- a word is 0 where it is one of those that go, and else as it was
word_cut : (start count : ℕ) (b : List ℕ) → length b ≡ 512 → start + count ≤ 128 → (w : ℕ) → w < 128 → (goes : Bool)
    → (goes ≡ true → (start ≤ w) × (w < start + count)) → (goes ≡ false → start ≤ w → w < start + count → ⊥)
    → word (zeroed start count b) w ≡ cond goes 0 (word b w)
word_cut start count b long room w low true inside outside = word_zero start count b long room w (inside refl).0 (inside refl).1
word_cut start count b long room w low false inside outside = word_kept start count b long room w low (outside refl)

module _ (n first : ℕ) where
  from_first : (i : ℕ) → (n == n && nat_le first i) ≡ true → first ≤ i
  from_first i on = leb-true first i (and_parts (n == n) (nat_le first i) on).1

  before_first : (i : ℕ) → (n == n && nat_le first i) ≡ false → i < first
  before_first i off = elim (cases_lt i first) [
    | inl lt ↦ lt
    | inr le ↦ let bad : true ≡ false = sym (and_from (n == n) (nat_le first i) (eq-eqb n n refl) (le-leb first i le)) ∙ off in
        cc
  ]

  not_past : (i : ℕ) → i < first → (n == n && nat_le first i) ≡ false
  not_past i lt = false_from_ne_true (n == n && nat_le first i) (λ on. omega (arith, from_first i on))

  -- ---- an inode
  inode_pointers : {kept : ℕ} → KeepsOfInode first kept → (b : List ℕ) → IsFormed (Inode n) b
      → IsCleared (is_past n first) (Inode n) b (zeroed (8 + kept) (114 - kept) b)
  inode_pointers {kept} k b formed =
      inode_cleared (is_past n first) n b (long_zeroed (8 + kept) (114 - kept) b formed.long (omega arith))
      (holds_zeroed n (8 + kept) (114 - kept) b (formed.inode n refl) (omega arith) (omega arith))
      (header_zeroed (8 + kept) (114 - kept) b formed.long (omega arith) (omega arith))
      (λ i low.
      word_cut (8 + kept) (114 - kept) b formed.long (omega arith) (8 + i) (omega arith) (is_past n first (Data n i))
      (λ on. let le = from_first i on in let same = k.direct (omega arith) in (omega arith, omega arith))
      (λ off from to. let lt = before_first i off in omega (arith, past_direct i lt low)))
      (word_cut (8 + kept) (114 - kept) b formed.long (omega arith) 120 (omega arith) (is_past n first (Leaf n 0))
      (λ on. let le = from_first (112 + 128 * 0) on in let same = k.direct (omega arith) in
      (omega arith, omega arith))
      (λ off from to. let lt = before_first (112 + 128 * 0) off in omega (arith, past_single (omega arith))))
      (word_cut (8 + kept) (114 - kept) b formed.long (omega arith) 121 (omega arith) (is_past n first (Double n))
      (λ on. let le = from_first 240 on in let most = upto_double le in (omega arith, omega arith))
      (λ off from to. let lt = before_first 240 off in omega arith))
    where
      past_single : 112 < first → 112 < kept
      past_single lt = elim (cases_lt 240 first) [
        | inl more ↦ omega arith
        | inr le ↦ omega arith
      ]

      past_direct : (i : ℕ) → i < first → i < 112 → i < kept
      past_direct i lt low = elim (cases_lt 112 first) [
        | inl more ↦ omega (arith, past_single more)
        | inr le ↦ omega arith
      ]

      upto_double : first ≤ 240 → kept ≤ 113
      upto_double le = elim (cases_lt 112 first) [
        | inl more ↦ omega arith
        | inr low ↦ omega arith
      ]

  -- ---- a double root
  root_pointers : {kept : ℕ} → KeepsOfRoot first kept → (b : List ℕ) → length b ≡ 512
      → IsCleared (is_past n first) (Double n) b (zeroed kept (128 - kept) b)
  root_pointers {kept} k b long =
      double_cleared (is_past n first) n b (zeroed kept (128 - kept) b) (long_zeroed kept (128 - kept) b long (omega arith))
      (λ q low. word_cut kept (128 - kept) b long (omega arith) q low (is_past n first (Leaf n (suc q)))
      (λ on.
      let le = from_first (112 + 128 * suc q) on in (
        elim (cases_lt q kept) [
          | inl lt ↦ absurd (omega (arith, k.before q lt))
          | inr past ↦ past
        ],
        omega arith,
      ))
      (λ off from to.
      let lt = before_first (112 + 128 * suc q) off in
      omega arith))

  -- ---- a leaf that is cut in part, and one that isn't
  leaf_pointers : (q kept : ℕ) → 112 + 128 * q + kept ≡ first → kept < 128 → (b : List ℕ) → length b ≡ 512
      → IsCleared (is_past n first) (Leaf n q) b (zeroed kept (128 - kept) b)
  leaf_pointers q kept at low b long =
      leaf_cleared (is_past n first) n q b (zeroed kept (128 - kept) b) (long_zeroed kept (128 - kept) b long (omega arith))
      (λ i fits. word_cut kept (128 - kept) b long (omega arith) i fits (is_past n first (Data n (112 + 128 * q + i)))
      (λ on. let le = from_first (112 + 128 * q + i) on in (omega arith, omega arith))
      (λ off from to. omega (arith, before_first (112 + 128 * q + i) off)))

  leaf_whole : (q : ℕ) → 240 + 128 * q ≤ first → (b : List ℕ) → length b ≡ 512 → IsCleared (is_past n first) (Leaf n q) b b
  leaf_whole q le b long =
      leaf_cleared (is_past n first) n q b b long
      (λ i fits. sym
      (cond-false (is_past n first (Data n (112 + 128 * q + i))) 0 (word b i) (not_past (112 + 128 * q + i) (omega arith))))

-- ---- one block changes
module _ {old new : Dirty} {x : Entry} (f : List ℕ → List ℕ) (change : ChangesTo old new x (option_map f (old x))) where
  now_is : {b : List ℕ} → old x ≡ Some b → new x ≡ Some (f b)
  now_is there = cc

  stays : (y : Entry) {b : List ℕ} → old y ≡ Some b → (c : List ℕ) × (new y ≡ Some c)
  stays y {b} there = elim (same_entry y x) [
    | inl here ↦ (f b, ap new here ∙ now_is (ap old (sym here) ∙ there))
    | inr away ↦ (b, change.others y away ∙ there)
  ]

  no_more : (y : Entry) → old y ≡ None → new y ≡ None
  no_more y none = elim (same_entry y x) [
    | inl here ↦ cc
    | inr away ↦ change.others y away ∙ none
  ]

changes_at : {old new : Dirty} (x : Entry) {y : Entry} (f : List ℕ → List ℕ) → x ≡ y → ChangesTo old new x (option_map f (old x))
    → ChangesTo old new y (option_map f (old y))
changes_at {old} {new} x f same = subst (λ (x : Entry). ChangesTo old new x (option_map f (old x))) same

-- ---- the leaf
same_leaf : {first : ℕ} (p q kept : ℕ) → 112 + 128 * q + kept ≡ first → kept < 128 → IsCutLeaf first p → p ≡ q
same_leaf p q kept at low cut = omega arith

pub clears_leaf : {n first : ℕ} {old new : Dirty} (x : Entry) (q kept : ℕ) → x ≡ Leaf n q → 112 + 128 * q + kept ≡ first → 0 < kept
    → kept < 128
    → ChangesTo old new x (option_map (zeroed kept (128 - kept)) (old x)) → ClearsLeaf old new n first
clears_leaf {n} {first} {old} {new} x q kept named at some low change =
    let here : ChangesTo old new (Leaf n q) (option_map (zeroed kept (128 - kept)) (old (Leaf n q))) =
    changes_at x (zeroed kept (128 - kept)) named change in
    record {
      cleared = λ p b cut there long.
          let same : Leaf n q ≡ Leaf n p = ap (Leaf n) (sym (same_leaf p q kept at low cut)) in
          subst (λ (y : Entry). (c : List ℕ) × (new y ≡ Some c) × IsCleared (is_past n first) y b c) same (
            zeroed kept (128 - kept) b,
            now_is (zeroed kept (128 - kept)) here (ap old same ∙ there),
            leaf_pointers n first q kept at low b long,
          );
      stay = stays (zeroed kept (128 - kept)) here;
      absent = no_more (zeroed kept (128 - kept)) here;
      others = λ y out. here.others y (out q (record { from = omega arith; to = omega arith }));
    }

pub none_below : {first : ℕ} (q : ℕ) → first ≤ 112 → IsCutLeaf first q → ⊥
none_below q low cut = omega arith

-- ---- all of them
module _ {n first : ℕ} {old mid low new : Dirty} (x y : Entry) {inode_kept root_kept : ℕ} (inode : KeepsOfInode first inode_kept)
    (root : KeepsOfRoot first root_kept)
    (is_inode : x ≡ Inode n) (is_root : y ≡ Double n)
    (one : ChangesTo old mid x (option_map (zeroed (8 + inode_kept) (114 - inode_kept)) (old x)))
    (two : ChangesTo mid low y (option_map (zeroed root_kept (128 - root_kept)) (mid y))) (three : ClearsLeaf low new n first) where
  of_inode : ChangesTo old mid (Inode n) (option_map (zeroed (8 + inode_kept) (114 - inode_kept)) (old (Inode n)))
  of_inode = changes_at x (zeroed (8 + inode_kept) (114 - inode_kept)) is_inode one

  of_root : ChangesTo mid low (Double n) (option_map (zeroed root_kept (128 - root_kept)) (mid (Double n)))
  of_root = changes_at y (zeroed root_kept (128 - root_kept)) is_root two

  -- what is neither the inode nor the double root
  before_leaf : (z : Entry) → (z ≡ Inode n → ⊥) → (z ≡ Double n → ⊥) → low z ≡ old z
  before_leaf z no_inode no_root = of_root.others z no_root ∙ of_inode.others z no_inode

  not_leaf : (z : Entry) → ((q : ℕ) → z ≡ Leaf n q → ⊥) → new z ≡ low z
  not_leaf z out = three.others z (λ q cut. out q)

  abbrev Cleared : Entry → List ℕ → Type 0
  Cleared z b = (c : List ℕ) × (new z ≡ Some c) × IsCleared (is_past n first) z b c

  cleared_data : (i : ℕ) (b : List ℕ) → old (Data n i) ≡ Some b → length b ≡ 512 → Cleared (Data n i) b
  cleared_data i b there long = (
    b,
    not_leaf (Data n i) (λ q h. cc) ∙ before_leaf (Data n i) (λ h. cc) (λ h. cc) ∙ there,
    data_cleared (is_past n first) n i b long,
  )

  cleared_leaf : (q : ℕ) (b : List ℕ) → 112 + 128 * q < first → old (Leaf n q) ≡ Some b → length b ≡ 512 → Cleared (Leaf n q) b
  cleared_leaf q b from there long =
      let now : low (Leaf n q) ≡ Some b = before_leaf (Leaf n q) (λ h. cc) (λ h. cc) ∙ there in
      elim (cases_lt first (240 + 128 * q)) [
        | inl part ↦ three.cleared q b (record { from = from; to = part }) now long
        | inr whole ↦ (
          b,
          three.others (Leaf n q) (λ p cut same. let h : q ≡ p = cc in omega arith) ∙ now,
          leaf_whole n first q whole b long,
        )
      ]

  cleared_root : (b : List ℕ) → old (Double n) ≡ Some b → length b ≡ 512 → Cleared (Double n) b
  cleared_root b there long = (
    zeroed root_kept (128 - root_kept) b,
    not_leaf (Double n) (λ q h. cc)
        ∙ now_is (zeroed root_kept (128 - root_kept)) of_root (of_inode.others (Double n) (λ h. cc) ∙ there),
    root_pointers n first root b long,
  )

  cleared_inode : (b : List ℕ) → old (Inode n) ≡ Some b → IsFormed (Inode n) b → Cleared (Inode n) b
  cleared_inode b there formed = (
    zeroed (8 + inode_kept) (114 - inode_kept) b,
    not_leaf (Inode n) (λ q h. cc) ∙ of_root.others (Inode n) (λ h. cc)
        ∙ now_is (zeroed (8 + inode_kept) (114 - inode_kept)) of_inode there,
    inode_pointers n first inode b formed,
  )

  cleared_any : (z : Entry) (b : List ℕ) → is_past n first z ≡ false → file_of z ≡ Some n → old z ≡ Some b → IsFormed z b → Cleared z b
  cleared_any (Data k i) b off own there formed =
      let s : k ≡ n = cc in
      let e : Data k i ≡ Data n i = ap (λ (k : ℕ). Data k i) s in
      rw e (cleared_data i b (ap old (sym e) ∙ there) formed.long)
  cleared_any (Leaf k q) b off own there formed =
      let s : k ≡ n = cc in
      let e : Leaf k q ≡ Leaf n q = ap (λ (k : ℕ). Leaf k q) s in
      rw e (cleared_leaf q b
      (before_first n first (112 + 128 * q) (ap (is_past n first) (sym e) ∙ off)) (ap old (sym e) ∙ there) formed.long)
  cleared_any (Double k) b off own there formed =
      let s : k ≡ n = cc in
      let e : Double k ≡ Double n = ap Double s in
      rw e (cleared_root b (ap old (sym e) ∙ there) formed.long)
  cleared_any (Inode k) b off own there formed =
      let s : k ≡ n = cc in
      let e : Inode k ≡ Inode n = ap Inode s in
      subst (λ (z : Entry). Cleared z b) (sym e) (cleared_inode b (ap old (sym e) ∙ there) (rw e at formed))
  cleared_any (Map j) b off own there formed = cc
  cleared_any (Usage j) b off own there formed = cc

  pub clears_pointers : ClearsPointers old new n first
  clears_pointers = record {
    cleared = cleared_any;
    stay = λ z b there.
        let s1 = stays (zeroed (8 + inode_kept) (114 - inode_kept)) of_inode z there in
        let s2 = stays (zeroed root_kept (128 - root_kept)) of_root z s1.1 in
        three.stay z s2.0 s2.1;
    absent = λ z none. three.absent z (no_more (zeroed root_kept (128 - root_kept)) of_root z
        (no_more (zeroed (8 + inode_kept) (114 - inode_kept)) of_inode z none));
    others = λ z out.
        three.others z (λ q cut h. out (ap file_of h))
        ∙ before_leaf z (λ h. out (ap file_of h)) (λ h. out (ap file_of h));
  }
