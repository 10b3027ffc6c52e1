-- A file's header is another, and files come and go.
use Rattle.std.proofs.Common.{◌≡◌, ◌<◌, ◌↔◌, ⊎_elim, ◌+◌, ◌*◌, ◌-◌, ◌/◌, ◌%◌, ℕ, true, false, List, length, get_or, Some, None}
use Rattle.std.proofs.Common.{refl, sym, ◌∙◌, ap, subst, arith}
use Rattle.std.proofs.lemmas.Bool.{cases_eq, cases_Bool}
use Rattle.lfs_model.specs.Entry.{Entry, Data, Leaf, Double, Inode, Map, Usage, header, word}
use Rattle.lfs_model.specs.Content.{Content, block}
use Rattle.lfs_model.specs.Reach.{Row, row_by}
use Rattle.lfs_model.specs.Stands.{LogMap}
use Rattle.lfs_model.specs.Encodes.{HasData, HasInode}
use Rattle.lfs_model.specs.Memory.{Memory, parent, file_of, HasPointer, is_nameless, shown}
use Rattle.lfs_model.specs.Laid.{IsLaid, IsMapped, HoldsInode, SpellsBlock, SpellsFile}
use Rattle.lfs_model.specs.Lifting.{IsTaken}
use Rattle.lfs_model.specs.Changing.{IsWithHeader, WillBeMapped, Relabeling, Creating, IsForgetting, Forgetting}
use Rattle.lfs_model.proofs.Entries.{data_parent_low, file_of_parent}
use Rattle.lfs_model.proofs.Patching.{long_inode}
use Rattle.lfs_model.proofs.Spelling.{SameAt, spells_children}
use Rattle.lfs_model.proofs.BlockMoves.{IsStep, mapped_step, mapped_by, hidden, unshown, shown_none, shown_alike, taken_laid}
use Rattle.lfs_model.proofs.BlockChanges.{in_place}

-- ---- an inode in memory, with the header that the log map has now
module _ (e : Content) (m m' : LogMap) (M : Memory) (o : ℕ) (laid : IsLaid e m M o) (n : ℕ) (M' : Memory)
    (map : IsWithHeader m n (Some (header (M'.bytes (Inode n)))) m')
    (t : IsTaken M (Inode n) 1 M') (mapped : WillBeMapped m' M n) (formed : HoldsInode n (M'.bytes (Inode n)))
    (kept : (y : Entry) → (y ≡ Inode n → ⊥) → M'.bytes y ≡ M.bytes y) where
  same_but_file : (y : Entry) → (y ≡ Inode n → ⊥) → SameAt m m' y
  same_but_file (Data k l) ne = map.block k l
  same_but_file (Leaf k q) ne = tt
  same_but_file (Double k) ne = tt
  same_but_file (Inode k) ne = map.others k (λ h. ne (ap Inode h))
  same_but_file (Map j) ne = tt
  same_but_file (Usage j) ne = tt

  blocks_same : (k l : ℕ) → HasData m' k l ↔ 0 < M'.at (Data k l)
  blocks_same k l =
      let b = ap length (map.block k l) in
      let a = t.others (Data k l) (λ h. absurd (cc)) in
      (λ has. let lt = (laid.blocks k l).0 (omega arith) in omega arith, λ lt. let has = (laid.blocks k l).1 (omega arith) in omega arith)

  inodes_but : (k : ℕ) → HasInode m' k ↔ 0 < M'.at (Inode k)
  inodes_but k = ⊎_elim
      (λ (here : k ≡ n).
      let a = t.at in
      subst (λ (k : ℕ). HasInode m' k ↔ 0 < M'.at (Inode k)) (sym here) (λ has. omega arith, λ lt. (header (M'.bytes (Inode n)), map.own)))
      (λ (away : k ≡ n → ⊥).
      let s = t.others (Inode k) (λ h. away (cc)) in (
        λ has. let lt = (laid.inodes k).0 (has.0, sym (map.others k away) ∙ has.1) in omega arith,
        λ lt. let h = (laid.inodes k).1 (omega arith) in (h.0, map.others k away ∙ h.1),
      ))
      (cases_eq k n)

  -- where its inode map block isn't to be written, the file has no name
  nameless_now : (M.at (Map (n / 128)) ≡ 1 → ⊥) → is_nameless m' n ≡ true
  nameless_now none = ⊎_elim
      (λ (nameless : is_nameless m' n ≡ true). nameless)
      (λ (named : is_nameless m' n ≡ false). absurd (none (mapped named)))
      (cases_Bool (is_nameless m' n))

  module _ (unseen : (M.at (Map (n / 128)) ≡ 1 → ⊥) → shown m M.at (Inode n) ≡ 0)
      (direct : (i : ℕ) → i < 112 → word (M'.bytes (Inode n)) (8 + i) ≡ M.at (Data n i))
      (single : word (M'.bytes (Inode n)) 120 ≡ M.at (Leaf n 0))
      (double : word (M'.bytes (Inode n)) 121 ≡ M.at (Double n)) where
    spells : SpellsFile m' M'.at n (M'.bytes (Inode n))
    spells = record {
      formed = formed;
      header = map.own;
      direct = λ i low. direct i low ∙ sym (t.others (Data n i) (λ h. absurd (cc)));
      single = single ∙ sym (t.others (Leaf n 0) (λ h. absurd (cc)));
      double = double ∙ sym (t.others (Double n) (λ h. absurd (cc)));
    }

    step : IsStep m m' M (Inode n) M'
    step = record {
      segments = t.segments;
      of_file = (n, refl);
      others = t.others;
      kept = λ y ne away. kept y ne;
      same = same_but_file;
      blocks = blocks_same;
      inodes = inodes_but;
      above = λ ne. absurd (ne refl);
      above_long = λ ne. absurd (ne refl);
      above_spells = λ ne. absurd (ne refl);
      lowest = λ y ne here one. t.at;
      children = λ y ne here lt. let a = t.at in omega arith;
      low = λ k q h lt. let bad : Inode n ≡ Leaf k q = h in absurd (cc);
      some = λ h le. absurd h;
      long = λ lt. long_inode n formed;
      spells = λ lt. spells;
      mapped = mapped_step m m' M M' (Inode n) (n, refl) t.others (λ y ne away. kept y ne) (λ k ne. map.others k (λ h. ne (ap Inode h)))
          (λ k h.
          let s : k ≡ n = cc in
          subst (λ (k : ℕ). (M.at (Map (k / 128)) ≡ 1 → ⊥) → shown m' M'.at (Inode k) ≡ shown m M.at (Inode k)) (sym s)
          (λ none. unshown m' M'.at n (nameless_now none) ∙ sym (unseen none)))
          laid.mapped;
    }

    pub labeled : IsLaid e m' M' o
    labeled = taken_laid e m m' M o laid (Inode n) M' step 1 t

pub relabeling : Relabeling
relabeling e m M o n m' M' laid p =
    labeled e m m' M o laid n M' p.map (in_place M M' (Inode n) p.place p.was) p.mapped p.formed p.kept
    (λ none. unshown m M.at n (hidden m M n (laid.mapped (n / 128) none) p.was))
    (λ i low. p.words (8 + i) (omega arith) (omega arith) ∙ was.direct i low)
    (p.words 120 (omega arith) (omega arith) ∙ was.single)
    (p.words 121 (omega arith) (omega arith) ∙ was.double)
  where
    was : SpellsFile m M.at n (M.bytes (Inode n))
    was = laid.spells (Inode n) (let w = p.was in omega arith)

pub creating : Creating
creating e m M o n m' M' laid p =
    labeled e m m' M o laid n M' p.map p.taken p.mapped p.formed p.kept
    (λ none. shown_none m M.at n p.was)
    (λ i low. p.words (8 + i) (omega arith) (omega arith) ∙ sym (none (Data n i) (data_parent_low n i low)))
    (p.words 120 (omega arith) (omega arith) ∙ sym (none (Leaf n 0) refl))
    (p.words 121 (omega arith) (omega arith) ∙ sym (none (Double n) refl))
  where
    none : (y : Entry) → parent y ≡ Inode n → M.at y ≡ 0
    none y here = ⊎_elim
        (λ (z : M.at y ≡ 0). z)
        (λ (some : M.at y ≡ 0 → ⊥). let d = laid.down y (omega arith) in let s = ap M.at here in let w = p.was in absurd (omega arith))
        (cases_eq (M.at y) 0)

-- ---- a file goes with all its blocks
module _ (e : Content) (m m' : LogMap) (M : Memory) (o : ℕ) (laid : IsLaid e m M o) (n : ℕ) (M' : Memory)
    (p : IsForgetting m M n m' M') where
  -- what is still there is of another file
  outside : (y : Entry) → 0 < M'.at y → file_of y ≡ Some n → ⊥
  outside y lt is = let g = p.gone y is in omega arith

  at_outside : (y : Entry) → 0 < M'.at y → M'.at y ≡ M.at y
  at_outside y lt = p.others y (outside y lt)

  bytes_outside : (y : Entry) → 0 < M'.at y → M'.bytes y ≡ M.bytes y
  bytes_outside y lt = p.kept y (outside y lt)

  parent_outside : (y : Entry) → 0 < M'.at y → M'.at (parent y) ≡ M.at (parent y)
  parent_outside y lt = p.others (parent y) (λ h. outside y lt (sym (file_of_parent y) ∙ h))

  same_outside : (y : Entry) → (file_of y ≡ Some n → ⊥) → SameAt m m' y
  same_outside (Data k i) out = p.blocks k i (λ h. out (ap Some h))
  same_outside (Leaf k q) out = tt
  same_outside (Double k) out = tt
  same_outside (Inode k) out = p.headers k (λ h. out (ap Some h))
  same_outside (Map j) out = tt
  same_outside (Usage j) out = tt

  table_at : (y : Entry) → file_of y ≡ None → M'.at y ≡ M.at y
  table_at y is = p.others y (λ h. let bad : None ≡ Some n = sym is ∙ h in absurd (cc))

  blocks_now : (k i : ℕ) → HasData m' k i ↔ 0 < M'.at (Data k i)
  blocks_now k i = ⊎_elim
      (λ (here : k ≡ n).
      let b = ap length (ap (λ (k : ℕ). m'.block k i) here ∙ p.block i) in
      let a = p.gone (Data k i) (ap Some here) in
      (λ has. absurd (omega arith), λ lt. absurd (omega arith)))
      (λ (away : k ≡ n → ⊥).
      let b = ap length (p.blocks k i away) in
      let a = p.others (Data k i) (λ h. let s : Some k ≡ Some n = h in away (cc)) in
      (λ has. let lt = (laid.blocks k i).0 (omega arith) in omega arith, λ lt. let has = (laid.blocks k i).1 (omega arith) in omega arith))
      (cases_eq k n)

  inodes_now : (k : ℕ) → HasInode m' k ↔ 0 < M'.at (Inode k)
  inodes_now k = ⊎_elim
      (λ (here : k ≡ n).
      let a = p.gone (Inode k) (ap Some here) in
      (λ has. let bad : None ≡ Some has.0 = sym p.header ∙ ap m'.header (sym here) ∙ has.1 in absurd (cc), λ lt. absurd (omega arith)))
      (λ (away : k ≡ n → ⊥).
      let s = p.others (Inode k) (λ h. let s : Some k ≡ Some n = h in away (cc)) in (
        λ has. let lt = (laid.inodes k).0 (has.0, sym (p.headers k away) ∙ has.1) in omega arith,
        λ lt. let h = (laid.inodes k).1 (omega arith) in (h.0, p.headers k away ∙ h.1),
      ))
      (cases_eq k n)

  -- an inode map block that won't be written didn't show the file
  unseen : (M.at (Map (n / 128)) ≡ 1 → ⊥) → shown m M.at (Inode n) ≡ 0
  unseen none = ⊎_elim
      (λ (z : M.at (Inode n) ≡ 0). shown_none m M.at n z)
      (λ (some : M.at (Inode n) ≡ 0 → ⊥).
      ⊎_elim
      (λ (nameless : is_nameless m n ≡ true). unshown m M.at n nameless)
      (λ (named : is_nameless m n ≡ false). absurd (none (p.mapped ((laid.inodes n).1 (omega arith)) named)))
      (cases_Bool (is_nameless m n)))
      (cases_eq (M.at (Inode n)) 0)

  mapped_now : (j : ℕ) → (M'.at (Map j) ≡ 1 → ⊥) → IsMapped m' M' j
  mapped_now j none =
      let at = table_at (Map j) refl in
      let out : M.at (Map j) ≡ 1 → ⊥ = λ one. none (at ∙ one) in
      mapped_by m m' M M' j at (p.kept (Map j) (λ h. let bad : None ≡ Some n = h in absurd (cc))) (λ i low.
      ⊎_elim
      (λ (here : 128 * j + i ≡ n).
      let e : n / 128 ≡ j = omega arith in
      subst (λ (k : ℕ). shown m' M'.at (Inode k) ≡ shown m M.at (Inode k)) (sym here)
      (shown_none m' M'.at n (p.gone (Inode n) refl) ∙ sym (unseen (subst (λ (k : ℕ). M.at (Map k) ≡ 1 → ⊥) (sym e) out))))
      (λ (away : 128 * j + i ≡ n → ⊥).
      shown_alike m m' M.at M'.at (128 * j + i) (p.headers (128 * j + i) away)
      (p.others (Inode (128 * j + i)) (λ h. let s : Some (128 * j + i) ≡ Some n = h in away (cc))))
      (cases_eq (128 * j + i) n))
      (laid.mapped j out)

  forgotten : IsLaid e m' M' o
  forgotten = record {
    size = let s = laid.size in let n = p.segments in omega arith;
    few = let n = p.segments in let f = laid.few in omega arith;
    blocks = blocks_now;
    inodes = inodes_now;
    down = λ y lt. let a = at_outside y lt in let b = parent_outside y lt in let d = laid.down y (omega arith) in omega arith;
    low = λ k q lt. let a = at_outside (Leaf k q) lt in laid.low k q (omega arith);
    some = λ y is le. let a = at_outside y (omega arith) in
        subst HasPointer (sym (bytes_outside y (omega arith))) (laid.some y is (omega arith));
    up = λ y one. let a = at_outside y (omega arith) in parent_outside y (omega arith) ∙ laid.up y (sym a ∙ one);
    long = λ y f lt. let a = at_outside y lt in ap length (bytes_outside y lt) ∙ laid.long y f (omega arith);
    spells = λ y lt.
        let a = at_outside y lt in
        subst (λ (b : List ℕ). SpellsBlock m' M'.at b y) (sym (bytes_outside y lt))
        (spells_children m m' M.at M'.at (M.bytes y) y (same_outside y (outside y lt))
        (λ z nz up. p.others z (λ h. outside y lt (ap file_of (sym up) ∙ file_of_parent z ∙ h)))
        (laid.spells y (omega arith)));
    mapped = mapped_now;
    usages = λ j.
        let s = table_at (Usage j) refl in (
          λ lt. let a = (laid.usages j).0 (subst (λ (n : ℕ). j < (n + 63) / 64) p.segments lt) in omega arith,
          λ lt. subst (λ (n : ℕ). j < (n + 63) / 64) (sym p.segments) ((laid.usages j).1 (omega arith)),
        );
    there = λ y le. let s = at_outside y (omega arith) in ap (block e) s ∙ laid.there y (omega arith) ∙ sym (bytes_outside y (omega arith));
    within = λ y le. let s = at_outside y (omega arith) in let n = p.segments in let w = laid.within y (omega arith) in omega arith;
    named = λ y le.
        let s = at_outside y (omega arith) in
        ap (λ (a : ℕ). get_or (M'.rows ((a - 2) / 64)) ((a - 2) % 64) None) s
        ∙ ap (λ (r : ℕ → Row). get_or (r ((M.at y - 2) / 64)) ((M.at y - 2) % 64) None) p.rows ∙ laid.named y (omega arith);
    short = λ s. let l = ap (λ (r : ℕ → Row). length (r s)) p.rows in let k = laid.short s in omega arith;
    first = λ s. ap (λ (r : ℕ → Row). get_or (r s) 0 None) p.rows ∙ laid.first s;
    sealed = λ s ne. subst (λ (r : ℕ → Row). row_by e (length (r s)) s ≡ Some (r s)) (sym p.rows) (laid.sealed s ne);
    past = λ s le. ap (λ (r : ℕ → Row). r s) p.rows ∙ laid.past s (let n = p.segments in omega arith);
  }

pub forgetting : Forgetting
forgetting e m M o n m' M' laid p = forgotten e m m' M o laid n M' p
