-- The sets of entries that leave a file at once.
use Rattle.std.proofs.Common.{◌≡◌, ◌<◌, ◌≤◌, ⊎_elim, ◌+◌, ◌*◌, ◌-◌, ◌/◌, ◌==◌, ◌&&◌, nat_le, cond, ℕ, zero, suc, Bool, true, false, List}
use Rattle.std.proofs.Common.{[], length, Some, None, refl, sym, ◌∙◌, ap, subst, arith, eqb-true, eq-eqb}
use Rattle.std.proofs.lemmas.Bool.{cases_lt, and_parts, and_from, leb-true, le-leb, cond-true}
use Rattle.lfs_model.specs.Cutting.{is_past, PastAbove, IsWithoutFile, LeavesOut, FileRemoving}
use Rattle.lfs_model.specs.Detaching.{is_of, IsCut, IsWithout, IsCleared, Detaches}
use Rattle.lfs_model.specs.Entry.{Entry, Data, Leaf, Double, Inode, Map, Usage, header, word}
use Rattle.lfs_model.specs.Laid.{HoldsInode}
use Rattle.lfs_model.specs.Memory.{parent, pointer, file_of}
use Rattle.lfs_model.specs.Running.{Dirty}
use Rattle.lfs_model.specs.Stands.{LogMap}
use Rattle.lfs_model.proofs.Cutting.{file_cutting}
use Rattle.lfs_model.proofs.Detaching.{of_file_or_not, is_of_yes, is_of_true}
use Rattle.lfs_model.proofs.Entries.{file_of_parent, data_parent_low, data_parent_high, data_pointer_low, is_leaf_child, is_double_child}
use Rattle.lfs_model.proofs.Entries.{no_data_parent}

-- ---- the blocks from one on
module _ (n first : ℕ) where
  past_parts : (a b : ℕ) → (a == n && nat_le first b) ≡ true → (a ≡ n) × (first ≤ b)
  past_parts a b on = let p = and_parts (a == n) (nat_le first b) on in (eqb-true a n p.0, leb-true first b p.1)

  past_from : (a b : ℕ) → a ≡ n → first ≤ b → (a == n && nat_le first b) ≡ true
  past_from a b same le = and_from (a == n) (nat_le first b) (eq-eqb a n same) (le-leb first b le)

  past_file : (x : Entry) → is_past n first x ≡ true → file_of x ≡ Some n
  past_file (Data k i) on = ap Some (past_parts k i on).0
  past_file (Leaf k q) on = ap Some (past_parts k (112 + 128 * q) on).0
  past_file (Double k) on = ap Some (past_parts k 240 on).0
  past_file (Inode k) on = absurd (cc)
  past_file (Map j) on = absurd (cc)
  past_file (Usage j) on = absurd (cc)

  past_below : (x : Entry) → is_past n first (parent x) ≡ true → is_past n first x ≡ true
  past_below (Data k i) on = ⊎_elim
      (λ (low : i < 112). let bad : false ≡ true = sym (ap (is_past n first) (data_parent_low k i low)) ∙ on in absurd (cc))
      (λ (high : 112 ≤ i).
      let p = past_parts k (112 + 128 * ((i - 112) / 128)) (sym (ap (is_past n first) (data_parent_high k i high)) ∙ on) in
      past_from k i p.0 (let le = p.1 in omega arith))
      (cases_lt i 112)
  past_below (Leaf k zero) on = absurd (cc)
  past_below (Leaf k (suc q)) on = let p = past_parts k 240 on in past_from k (112 + 128 * suc q) p.0 (let le = p.1 in omega arith)
  past_below (Double k) on = absurd (cc)
  past_below (Inode k) on = on
  past_below (Map j) on = on
  past_below (Usage j) on = on

  pub past_cut : IsCut n (is_past n first)
  past_cut = record { of_file = past_file; below = past_below }

  not_past : (a b : ℕ) → a ≡ n → (a == n && nat_le first b) ≡ false → b < first
  not_past a b same off = ⊎_elim
      (λ (lt : b < first). lt)
      (λ (le : first ≤ b). let bad : true ≡ false = sym (past_from a b same le) ∙ off in absurd (cc))
      (cases_lt b first)

pub past_above : PastAbove
past_above e m M o n first laid inode double leaf (Data k i) on lt ne off =
    let p = past_parts n first k i on in
    let up = laid.down (Data k i) lt in
    ⊎_elim
    (λ (low : i < 112). ap M.at (data_parent_low k i low) ∙ ap (λ (k : ℕ). M.at (Inode k)) p.0 ∙ inode)
    (λ (high : 112 ≤ i).
    let q = (i - 112) / 128 in
    let here = ap M.at (data_parent_high k i high) in
    let same = ap (λ (k : ℕ). M.at (Leaf k ((i - 112) / 128))) p.0 in
    let below = not_past n first k (112 + 128 * ((i - 112) / 128)) p.0 (sym (ap (is_past n first) (data_parent_high k i high)) ∙ off) in
    let le = p.1 in
    here ∙ same ∙ leaf ((i - 112) / 128) below (omega arith) (omega arith))
    (cases_lt i 112)
past_above e m M o n first laid inode double leaf (Leaf k zero) on lt ne off =
    ap (λ (k : ℕ). M.at (Inode k)) (past_parts n first k 112 on).0 ∙ inode
past_above e m M o n first laid inode double leaf (Leaf k (suc q)) on lt ne off =
    let same = (past_parts n first k (112 + 128 * suc q) on).0 in
    let up = laid.down (Leaf k (suc q)) lt in
    let at = ap (λ (k : ℕ). M.at (Double k)) (past_parts n first k (112 + 128 * suc q) on).0 in
    ap (λ (k : ℕ). M.at (Double k)) same ∙ double (not_past n first k 240 same off) (omega arith)
past_above e m M o n first laid inode double leaf (Double k) on lt ne off = ap (λ (k : ℕ). M.at (Inode k)) (past_parts n first k 240 on).0
    ∙ inode
past_above e m M o n first laid inode double leaf (Inode k) on lt ne off = absurd (ne refl)
past_above e m M o n first laid inode double leaf (Map j) on lt ne off = absurd (ne refl)
past_above e m M o n first laid inode double leaf (Usage j) on lt ne off = absurd (ne refl)

-- ---- blocks without pointers to a set, by what stands at each word
module _ (gone : Entry → Bool) (n : ℕ) where
  pub data_cleared : (i : ℕ) (b : List ℕ) → length b ≡ 512 → IsCleared gone (Data n i) b b
  data_cleared i b long = record {
    long = long;
    same = λ k l h. refl;
    pointers = λ c up ne low. absurd (no_data_parent n i c up);
    formed = λ k h. let bad : Data n i ≡ Inode k = h in absurd (cc);
    header = λ k h. refl;
  }

  pub leaf_cleared : (q : ℕ) (old new : List ℕ) → length new ≡ 512
      → ((i : ℕ) → i < 128 → word new i ≡ cond (gone (Data n (112 + 128 * q + i))) 0 (word old i)) → IsCleared gone (Leaf n q) old new
  leaf_cleared q old new long words = record {
    long = long;
    same = λ k l h. let bad : Leaf n q ≡ Data k l = h in absurd (cc);
    pointers = λ c up ne low.
        let is = is_leaf_child n q c up in
        words (pointer c) is.1 ∙ ap (λ (y : Entry). cond (gone y) 0 (word old (pointer c))) (sym is.0);
    formed = λ k h. let bad : Leaf n q ≡ Inode k = h in absurd (cc);
    header = λ k h. let bad : Leaf n q ≡ Inode k = h in absurd (cc);
  }

  pub double_cleared : (old new : List ℕ) → length new ≡ 512
      → ((q : ℕ) → q < 128 → word new q ≡ cond (gone (Leaf n (suc q))) 0 (word old q)) → IsCleared gone (Double n) old new
  double_cleared old new long words = record {
    long = long;
    same = λ k l h. let bad : Double n ≡ Data k l = h in absurd (cc);
    pointers = λ c up ne low.
        let is = is_double_child n c up in
        let fits = low n (suc (pointer c)) is in
        words (pointer c) (omega arith) ∙ ap (λ (y : Entry). cond (gone y) 0 (word old (pointer c))) (sym is);
    formed = λ k h. let bad : Double n ≡ Inode k = h in absurd (cc);
    header = λ k h. let bad : Double n ≡ Inode k = h in absurd (cc);
  }

  pub inode_cleared : (old : List ℕ) {new : List ℕ} → length new ≡ 512 → HoldsInode n new → header new ≡ header old
      → ((i : ℕ) → i < 112 → word new (8 + i) ≡ cond (gone (Data n i)) 0 (word old (8 + i)))
      → word new 120 ≡ cond (gone (Leaf n 0)) 0 (word old 120) → word new 121 ≡ cond (gone (Double n)) 0 (word old 121)
      → IsCleared gone (Inode n) old new
  inode_cleared old {new} long formed same direct single double = record {
    long = long;
    same = λ k l h. let bad : Inode n ≡ Data k l = h in absurd (cc);
    pointers = λ c up ne low. by_child c up ne;
    formed = λ k h. let s : n ≡ k = cc in subst (λ (k : ℕ). HoldsInode k new) s formed;
    header = λ k h. same;
  }
    where
      by_child : (c : Entry) → parent c ≡ Inode n → (c ≡ Inode n → ⊥) → word new (pointer c) ≡ cond (gone c) 0 (word old (pointer c))
      by_child (Data k i) up ne = ⊎_elim
          (λ (low : i < 112).
          let h : Inode k ≡ Inode n = sym (data_parent_low k i low) ∙ up in
          let s : k ≡ n = cc in
          subst (λ (w : ℕ). word new w ≡ cond (gone (Data k i)) 0 (word old w)) (sym (data_pointer_low k i low))
          (subst (λ (k : ℕ). word new (8 + i) ≡ cond (gone (Data k i)) 0 (word old (8 + i))) (sym s) (direct i low)))
          (λ (high : 112 ≤ i). let bad : Leaf k ((i - 112) / 128) ≡ Inode n = sym (data_parent_high k i high) ∙ up in absurd (cc))
          (cases_lt i 112)
      by_child (Leaf k zero) up ne = let h : Inode k ≡ Inode n = up in let s : k ≡ n = cc in
          subst (λ (k : ℕ). word new 120 ≡ cond (gone (Leaf k 0)) 0 (word old 120)) (sym s) single
      by_child (Leaf k (suc q)) up ne = let bad : Double k ≡ Inode n = up in absurd (cc)
      by_child (Double k) up ne = let h : Inode k ≡ Inode n = up in let s : k ≡ n = cc in
          subst (λ (k : ℕ). word new 121 ≡ cond (gone (Double k)) 0 (word old 121)) (sym s) double
      by_child (Inode k) up ne = absurd (ne up)
      by_child (Map j) up ne = let bad : Map j ≡ Inode n = up in absurd (cc)
      by_child (Usage j) up ne = let bad : Usage j ≡ Inode n = up in absurd (cc)

-- ---- a whole file
module _ (n : ℕ) where
  pub whole_cut : IsCut n (is_of n)
  whole_cut = record {
    of_file = is_of_true n;
    below = λ x on. is_of_yes n x (sym (file_of_parent x) ∙ is_of_true n (parent x) on);
  }

  same_of_parent : (x : Entry) → is_of n x ≡ true → is_of n (parent x) ≡ false → ⊥
  same_of_parent x on off = let bad : true ≡ false = sym (is_of_yes n (parent x) (file_of_parent x ∙ is_of_true n x on)) ∙ off in
      absurd (cc)

  pub whole_without : (m m' : LogMap) → IsWithoutFile m n m' → IsWithout m n (is_of n) m'
  whole_without m m' is = record {
    header = is.header ∙ sym (cond-true (is_of n (Inode n)) None (m.header n) (is_of_yes n (Inode n) refl));
    headers = is.headers;
    block = λ i. is.block i ∙ sym (cond-true (is_of n (Data n i)) [] (m.block n i) (is_of_yes n (Data n i) refl));
    blocks = is.blocks;
    version = is.version;
  }

  pub whole_detaches : (dirty dirty' : Dirty) → LeavesOut dirty dirty' n → Detaches dirty dirty' n (is_of n)
  whole_detaches dirty dirty' go = record {
    none = λ x on. go.none x (is_of_true n x on);
    absent = λ x none. ⊎_elim
        (λ (own : file_of x ≡ Some n). go.none x own)
        (λ (out : file_of x ≡ Some n → ⊥). go.kept x out ∙ none)
        (of_file_or_not n x);
    cleared = λ x b off own is. let bad : true ≡ false = sym (is_of_yes n x own) ∙ off in absurd (cc);
    kept = go.kept;
  }

pub file_removing : FileRemoving
file_removing d dirty dirty' t t' k m0 m m' seg chunk n counts w mapped counted map go less =
    file_cutting d dirty dirty' t t' k m0 m m' seg chunk n (is_of n) counts w (whole_cut n)
    (λ x on lt ne off. absurd (same_of_parent n x on off))
    (λ on has named. mapped has named) counted (whole_without n m m' map) (whole_detaches n dirty dirty' go) less
