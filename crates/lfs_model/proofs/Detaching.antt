-- Entries of one file leave at once, with all that is below them.
use Rattle.std.proofs.Common.{◌≡◌, ◌<◌, ◌≤◌, ◌⊎◌, inl, inr, ◌↔◌, ⊎_elim, ◌+◌, ◌*◌, ◌-◌, ◌/◌, ◌%◌, ◌==◌, cond, ℕ, suc, Bool, true, false}
use Rattle.std.proofs.Common.{List, [], length, get_or, Option, Some, None, refl, sym, ◌∙◌, ap, subst, arith, eq-eqb, eqb-true}
use Rattle.std.proofs.lemmas.Bool.{cases_eq, cases_Bool, cond-true, cond-false}
use Rattle.lfs_model.specs.Content.{Content, block}
use Rattle.lfs_model.specs.Detaching.{is_of, IsCleared, IsDetaching, Detaching}
use Rattle.lfs_model.specs.Encodes.{HasData, HasInode}
use Rattle.lfs_model.specs.Entry.{Entry, Data, Leaf, Double, Inode, Map, Usage, word}
use Rattle.lfs_model.specs.Laid.{IsLaid, IsMapped, SpellsBlock}
use Rattle.lfs_model.specs.Memory.{Memory, parent, pointer, file_of, IsOfFile, HasPointer, is_nameless, shown}
use Rattle.lfs_model.specs.Reach.{Row, row_by}
use Rattle.lfs_model.specs.Stands.{LogMap}
use Rattle.lfs_model.proofs.BlockMoves.{mapped_by, unshown, shown_none, shown_alike}
use Rattle.lfs_model.proofs.Entries.{file_of_parent, data_parent_low, data_pointer_low, leaf_parent, leaf_pointer}
use Rattle.lfs_model.proofs.Spelling.{SameAt, spells_children}

-- ---- whether an entry is one of a file
pub of_file_or_not : (n : ℕ) (x : Entry) → (file_of x ≡ Some n) ⊎ (file_of x ≡ Some n → ⊥)
of_file_or_not n x = go (file_of x) refl
  where
    go : (f : Option ℕ) → file_of x ≡ f → (file_of x ≡ Some n) ⊎ (file_of x ≡ Some n → ⊥)
    go None is = inr (λ h. let bad : None ≡ Some n = sym is ∙ h in absurd (cc))
    go (Some k) is = ⊎_elim
        (λ (here : k ≡ n). inl (is ∙ ap Some here))
        (λ (away : k ≡ n → ⊥). inr (λ h. let both : Some k ≡ Some n = sym is ∙ h in away (cc)))
        (cases_eq k n)

pub is_of_yes : (n : ℕ) (x : Entry) → file_of x ≡ Some n → is_of n x ≡ true
is_of_yes n x is = ap (λ (f : Option ℕ). elim f as (λ z. Bool) [ None ↦ false | Some k ↦ k == n ]) is ∙ eq-eqb n n refl

pub is_of_true : (n : ℕ) (x : Entry) → is_of n x ≡ true → file_of x ≡ Some n
is_of_true n x on = go (file_of x) refl
  where
    go : (f : Option ℕ) → file_of x ≡ f → file_of x ≡ Some n
    go None is = let bad : false ≡ true = sym (ap (λ (f : Option ℕ). elim f as (λ z. Bool) [ None ↦ false | Some k ↦ k == n ]) is) ∙ on in
        absurd (cc)
    go (Some k) is = is
        ∙ ap Some (eqb-true k n (sym (ap (λ (f : Option ℕ). elim f as (λ z. Bool) [ None ↦ false | Some k ↦ k == n ]) is) ∙ on))

pub is_of_no : (n : ℕ) (x : Entry) → (file_of x ≡ Some n → ⊥) → is_of n x ≡ false
is_of_no n x out =
    ⊎_elim (λ (on : is_of n x ≡ true). absurd (out (is_of_true n x on))) (λ (off : is_of n x ≡ false). off) (cases_Bool (is_of n x))

true_or_false : (b : Bool) → b ≡ true → b ≡ false → ⊥
true_or_false b on off = let bad : true ≡ false = sym on ∙ off in absurd (cc)

-- ---- memory without the entries of a set
module _ (e : Content) (m m' : LogMap) (M : Memory) (o : ℕ) (laid : IsLaid e m M o) (n : ℕ) (gone : Entry → Bool) (M' : Memory)
    (p : IsDetaching m M n gone m' M') where
  pub at_cond : (x : Entry) → M'.at x ≡ cond (gone x) 0 (M.at x)
  at_cond x = ⊎_elim
      (λ (on : gone x ≡ true). p.none x on ∙ sym (cond-true (gone x) 0 (M.at x) on))
      (λ (off : gone x ≡ false). p.others x off ∙ sym (cond-false (gone x) 0 (M.at x) off))
      (cases_Bool (gone x))

  -- what is still there isn't one of them
  stays : (x : Entry) → 0 < M'.at x → gone x ≡ false
  stays x lt = ⊎_elim
      (λ (on : gone x ≡ true). let z = p.none x on in absurd (omega arith))
      (λ (off : gone x ≡ false). off)
      (cases_Bool (gone x))

  above_stays : (x : Entry) → gone x ≡ false → gone (parent x) ≡ false
  above_stays x off = ⊎_elim
      (λ (on : gone (parent x) ≡ true). absurd (true_or_false (gone x) (p.cut.below x on) off))
      (λ (off : gone (parent x) ≡ false). off)
      (cases_Bool (gone (parent x)))

  at_stays : (x : Entry) → 0 < M'.at x → M'.at x ≡ M.at x
  at_stays x lt = p.others x (stays x lt)

  above_at : (x : Entry) → 0 < M'.at x → M'.at (parent x) ≡ M.at (parent x)
  above_at x lt = p.others (parent x) (above_stays x (stays x lt))

  other_file : (x : Entry) → (file_of x ≡ Some n → ⊥) → gone x ≡ false
  other_file x out =
      ⊎_elim (λ (on : gone x ≡ true). absurd (out (p.cut.of_file x on))) (λ (off : gone x ≡ false). off) (cases_Bool (gone x))

  table_at : (x : Entry) → file_of x ≡ None → M'.at x ≡ M.at x
  table_at x is = p.others x (other_file x (λ h. let bad : None ≡ Some n = sym is ∙ h in absurd (cc)))

  -- on the device nothing changes
  bytes_settled : (x : Entry) → 2 ≤ M'.at x → M'.bytes x ≡ M.bytes x
  bytes_settled x le = let a = at_stays x (omega arith) in p.kept x (stays x (omega arith)) (λ f one. omega arith)

  -- the log map says the same of what stays
  same_staying : (x : Entry) → gone x ≡ false → SameAt m m' x
  same_staying (Data k i) off = ⊎_elim
      (λ (here : k ≡ n).
      ap (λ (k : ℕ). m'.block k i) here ∙ p.map.block i ∙ cond-false (gone (Data n i)) [] (m.block n i)
      (ap (λ (k : ℕ). gone (Data k i)) (sym here) ∙ off) ∙ ap (λ (k : ℕ). m.block k i) (sym here))
      (λ (away : k ≡ n → ⊥). p.map.blocks k i away)
      (cases_eq k n)
  same_staying (Leaf k q) off = tt
  same_staying (Double k) off = tt
  same_staying (Inode k) off = ⊎_elim
      (λ (here : k ≡ n).
      ap m'.header here ∙ p.map.header ∙ cond-false (gone (Inode n)) None (m.header n) (ap (λ (k : ℕ). gone (Inode k)) (sym here) ∙ off)
      ∙ ap m.header (sym here))
      (λ (away : k ≡ n → ⊥). p.map.headers k away)
      (cases_eq k n)
  same_staying (Map j) off = tt
  same_staying (Usage j) off = tt

  number_of : (k i : ℕ) → gone (Data k i) ≡ true → k ≡ n
  number_of k i on = let h : Some k ≡ Some n = p.cut.of_file (Data k i) on in cc

  blocks_now : (k i : ℕ) → HasData m' k i ↔ 0 < M'.at (Data k i)
  blocks_now k i = ⊎_elim
      (λ (on : gone (Data k i) ≡ true).
      let here = number_of k i on in
      let b = ap length (ap (λ (k : ℕ). m'.block k i) here ∙ p.map.block i
      ∙ cond-true (gone (Data n i)) [] (m.block n i) (ap (λ (k : ℕ). gone (Data k i)) (sym here) ∙ on)) in
      let a = p.none (Data k i) on in
      (λ has. absurd (omega arith), λ lt. absurd (omega arith)))
      (λ (off : gone (Data k i) ≡ false).
      let b = ap length (same_staying (Data k i) off) in
      let a = p.others (Data k i) off in
      (λ has. let lt = (laid.blocks k i).0 (omega arith) in omega arith, λ lt. let has = (laid.blocks k i).1 (omega arith) in omega arith))
      (cases_Bool (gone (Data k i)))

  inode_number : (k : ℕ) → gone (Inode k) ≡ true → k ≡ n
  inode_number k on = let h : Some k ≡ Some n = p.cut.of_file (Inode k) on in cc

  no_header : (k : ℕ) → gone (Inode k) ≡ true → m'.header k ≡ None
  no_header k on =
      let here = inode_number k on in
      ap m'.header here ∙ p.map.header ∙ cond-true (gone (Inode n)) None (m.header n) (ap (λ (k : ℕ). gone (Inode k)) (sym here) ∙ on)

  inodes_now : (k : ℕ) → HasInode m' k ↔ 0 < M'.at (Inode k)
  inodes_now k = ⊎_elim
      (λ (on : gone (Inode k) ≡ true).
      let a = p.none (Inode k) on in
      (λ has. let bad : None ≡ Some has.0 = sym (no_header k on) ∙ has.1 in absurd (cc), λ lt. absurd (omega arith)))
      (λ (off : gone (Inode k) ≡ false).
      let s = p.others (Inode k) off in (
        λ has. let lt = (laid.inodes k).0 (has.0, sym (same_staying (Inode k) off) ∙ has.1) in omega arith,
        λ lt. let h = (laid.inodes k).1 (omega arith) in (h.0, same_staying (Inode k) off ∙ h.1),
      ))
      (cases_Bool (gone (Inode k)))

  -- ---- what the blocks are
  long_now : (x : Entry) → IsOfFile x → 0 < M'.at x → length (M'.bytes x) ≡ 512
  long_now x f lt =
      let off = stays x lt in
      let a = p.others x off in
      let was = laid.long x f (omega arith) in
      ⊎_elim
      (λ (own : file_of x ≡ Some n). ⊎_elim
      (λ (one : M.at x ≡ 1). (p.cleared x off own one).long)
      (λ (ne : M.at x ≡ 1 → ⊥). ap length (p.kept x off (λ h one. ne one)) ∙ was)
      (cases_eq (M.at x) 1))
      (λ (out : file_of x ≡ Some n → ⊥). ap length (p.kept x off (λ h one. out h)) ∙ was)
      (of_file_or_not n x)

  -- a block whose bytes stay has only what stays below it
  child_same : (y z : Entry) → parent z ≡ y → (z ≡ y → ⊥) → gone y ≡ false → (file_of y ≡ Some n → M.at y ≡ 1 → ⊥) → M'.at z ≡ M.at z
  child_same y z up ne off not_cleared = ⊎_elim
      (λ (on : gone z ≡ true). ⊎_elim
      (λ (none : M.at z ≡ 0). p.none z on ∙ sym none)
      (λ (some : M.at z ≡ 0 → ⊥).
      let one = p.above z on (omega arith) (λ top. ne (sym top ∙ up)) (ap gone up ∙ off) in
      absurd (not_cleared (sym (ap file_of up) ∙ file_of_parent z ∙ p.cut.of_file z on) (sym (ap M.at up) ∙ one)))
      (cases_eq (M.at z) 0))
      (λ (off : gone z ≡ false). p.others z off)
      (cases_Bool (gone z))

  spells_kept : (x : Entry) → gone x ≡ false → (file_of x ≡ Some n → M.at x ≡ 1 → ⊥) → 0 < M.at x → SpellsBlock m' M'.at (M'.bytes x) x
  spells_kept x off not_cleared lt =
      subst (λ (b : List ℕ). SpellsBlock m' M'.at b x) (sym (p.kept x off not_cleared))
      (spells_children m m' M.at M'.at (M.bytes x) x (same_staying x off) (λ z nz up. child_same x z up nz off not_cleared)
      (laid.spells x lt))

  -- the word of a block without pointers to them
  word_now : (y c : Entry) (w : ℕ) (b b' : List ℕ) → IsCleared gone y b b' → parent c ≡ y → pointer c ≡ w → (c ≡ y → ⊥)
      → ((k q : ℕ) → c ≡ Leaf k q → q ≤ 128) → word b w ≡ M.at c → word b' w ≡ M'.at c
  word_now y c w b b' clear up at ne low was =
      ap (word b') (sym at) ∙ clear.pointers c up ne low ∙ ap (λ (a : ℕ). cond (gone c) 0 a) (ap (word b) at ∙ was) ∙ sym (at_cond c)

  spells_cleared : (x : Entry) (b b' : List ℕ) → gone x ≡ false → IsCleared gone x b b' → SpellsBlock m M.at b x → SpellsBlock m' M'.at b' x
  spells_cleared (Data k i) b b' off clear is = clear.same k i refl ∙ is ∙ sym (same_staying (Data k i) off)
  spells_cleared (Leaf k q) b b' off clear is = λ i low.
      word_now (Leaf k q) (Data k (112 + 128 * q + i)) i b b' clear (leaf_parent k q i low) (leaf_pointer k q i low) (λ h. absurd (cc))
      (λ k q h. absurd (cc)) (is i low)
  spells_cleared (Double k) b b' off clear is = λ q low.
      word_now (Double k) (Leaf k (suc q)) q b b' clear refl refl (λ h. absurd (cc)) (λ a r h. let s : suc q ≡ r = cc in omega arith)
      (is q low)
  spells_cleared (Inode k) b b' off clear is = record {
    formed = clear.formed k refl;
    header = same_staying (Inode k) off ∙ is.header ∙ ap Some (sym (clear.header k refl));
    direct = λ i low. word_now (Inode k) (Data k i) (8 + i) b b' clear (data_parent_low k i low) (data_pointer_low k i low)
        (λ h. absurd (cc)) (λ k q h. absurd (cc)) (is.direct i low);
    single = word_now (Inode k) (Leaf k 0) 120 b b' clear refl refl (λ h. absurd (cc))
        (λ a r h. let s : 0 ≡ r = cc in omega arith) is.single;
    double = word_now (Inode k) (Double k) 121 b b' clear refl refl (λ h. absurd (cc)) (λ k q h. absurd (cc)) is.double;
  }
  spells_cleared (Map j) b b' off clear is = tt
  spells_cleared (Usage j) b b' off clear is = tt

  spells_now : (x : Entry) → 0 < M'.at x → SpellsBlock m' M'.at (M'.bytes x) x
  spells_now x lt =
      let off = stays x lt in
      let a = p.others x off in
      ⊎_elim
      (λ (own : file_of x ≡ Some n). ⊎_elim
      (λ (one : M.at x ≡ 1). spells_cleared x (M.bytes x) (M'.bytes x) off (p.cleared x off own one) (laid.spells x (omega arith)))
      (λ (ne : M.at x ≡ 1 → ⊥). spells_kept x off (λ h one. ne one) (omega arith))
      (cases_eq (M.at x) 1))
      (λ (out : file_of x ≡ Some n → ⊥). spells_kept x off (λ h one. out h) (omega arith))
      (of_file_or_not n x)

  -- ---- an inode map block that won't be written didn't show the inode, if that goes
  unseen : gone (Inode n) ≡ true → (M.at (Map (n / 128)) ≡ 1 → ⊥) → shown m M.at (Inode n) ≡ 0
  unseen on none = ⊎_elim
      (λ (z : M.at (Inode n) ≡ 0). shown_none m M.at n z)
      (λ (some : M.at (Inode n) ≡ 0 → ⊥).
      ⊎_elim
      (λ (nameless : is_nameless m n ≡ true). unshown m M.at n nameless)
      (λ (named : is_nameless m n ≡ false). absurd (none (p.mapped on ((laid.inodes n).1 (omega arith)) named)))
      (cases_Bool (is_nameless m n)))
      (cases_eq (M.at (Inode n)) 0)

  mapped_now : (j : ℕ) → (M'.at (Map j) ≡ 1 → ⊥) → IsMapped m' M' j
  mapped_now j none =
      let at = table_at (Map j) refl in
      let out : M.at (Map j) ≡ 1 → ⊥ = λ one. none (at ∙ one) in
      let other : file_of (Map j) ≡ Some n → ⊥ = λ h. let bad : None ≡ Some n = h in absurd (cc) in
      mapped_by m m' M M' j at (p.kept (Map j) (other_file (Map j) other) (λ h one. other h)) (λ i low.
      ⊎_elim
      (λ (on : gone (Inode (128 * j + i)) ≡ true).
      let here = inode_number (128 * j + i) on in
      let e : n / 128 ≡ j = omega arith in
      subst (λ (k : ℕ). shown m' M'.at (Inode k) ≡ shown m M.at (Inode k)) (sym here)
      (let on_n = subst (λ (k : ℕ). gone (Inode k) ≡ true) here on in
      shown_none m' M'.at n (p.none (Inode n) on_n) ∙ sym (unseen on_n (subst (λ (k : ℕ). M.at (Map k) ≡ 1 → ⊥) (sym e) out))))
      (λ (off : gone (Inode (128 * j + i)) ≡ false).
      shown_alike m m' M.at M'.at (128 * j + i) (same_staying (Inode (128 * j + i)) off) (p.others (Inode (128 * j + i)) off))
      (cases_Bool (gone (Inode (128 * j + i)))))
      (laid.mapped j out)

  pub detached : IsLaid e m' M' o
  detached = record {
    size = let s = laid.size in let n = p.segments in omega arith;
    few = let n = p.segments in let f = laid.few in omega arith;
    blocks = blocks_now;
    inodes = inodes_now;
    down = λ y lt. let a = at_stays y lt in let b = above_at y lt in let d = laid.down y (omega arith) in omega arith;
    low = λ k q lt. let a = at_stays (Leaf k q) lt in laid.low k q (omega arith);
    some = λ y is le. let a = at_stays y (omega arith) in subst HasPointer (sym (bytes_settled y le)) (laid.some y is (omega arith));
    up = λ y one. let a = at_stays y (omega arith) in above_at y (omega arith) ∙ laid.up y (sym a ∙ one);
    long = long_now;
    spells = spells_now;
    mapped = mapped_now;
    usages = λ j.
        let s = table_at (Usage j) refl in (
          λ lt. let a = (laid.usages j).0 (subst (λ (n : ℕ). j < (n + 63) / 64) p.segments lt) in omega arith,
          λ lt. subst (λ (n : ℕ). j < (n + 63) / 64) (sym p.segments) ((laid.usages j).1 (omega arith)),
        );
    there = λ y le. let s = at_stays y (omega arith) in ap (block e) s ∙ laid.there y (omega arith) ∙ sym (bytes_settled y le);
    within = λ y le. let s = at_stays y (omega arith) in let n = p.segments in let w = laid.within y (omega arith) in omega arith;
    named = λ y le.
        let s = at_stays y (omega arith) in
        ap (λ (a : ℕ). get_or (M'.rows ((a - 2) / 64)) ((a - 2) % 64) None) s
        ∙ ap (λ (r : ℕ → Row). get_or (r ((M.at y - 2) / 64)) ((M.at y - 2) % 64) None) p.rows ∙ laid.named y (omega arith);
    short = λ s. let l = ap (λ (r : ℕ → Row). length (r s)) p.rows in let k = laid.short s in omega arith;
    first = λ s. ap (λ (r : ℕ → Row). get_or (r s) 0 None) p.rows ∙ laid.first s;
    sealed = λ s ne. subst (λ (r : ℕ → Row). row_by e (length (r s)) s ≡ Some (r s)) (sym p.rows) (laid.sealed s ne);
    past = λ s le. ap (λ (r : ℕ → Row). r s) p.rows ∙ laid.past s (let n = p.segments in omega arith);
  }

pub detaching : Detaching
detaching e m M o n gone m' M' laid p = detached e m m' M o laid n gone M' p
