-- One block of a file comes, goes, moves or is another: what all other blocks keep.
use Rattle.std.proofs.Common.{◌≡◌, ◌<◌, ◌≤◌, ◌↔◌, ⊎_elim, ◌+◌, ◌*◌, ◌^◌, ◌/◌, ◌%◌, ℕ, true, false, cond, not, List, length, get_or, Option}
use Rattle.std.proofs.Common.{Some, None, refl, sym, ◌∙◌, ap, subst, arith}
use Rattle.std.proofs.lemmas.Bool.{cases_Bool}
use Rattle.lfs_model.specs.Entry.{Entry, Data, Leaf, Inode, Map, Usage, Header, word}
use Rattle.lfs_model.specs.Content.{Content, block}
use Rattle.lfs_model.specs.Reach.{Row, row_by}
use Rattle.lfs_model.specs.Stands.{LogMap}
use Rattle.lfs_model.specs.Encodes.{HasData, HasInode}
use Rattle.lfs_model.specs.Memory.{Memory, parent, pointer, patched, IsOfFile, IsPointers, HasPointer, is_unlinked, is_nameless, is_shown}
use Rattle.lfs_model.specs.Memory.{shown}
use Rattle.lfs_model.specs.Laid.{IsLaid, IsMapped, SpellsBlock}
use Rattle.lfs_model.specs.Lifting.{IsTaken}
use Rattle.lfs_model.proofs.Entries.{same_entry, file_of_parent, map_child, below_of_file, pointer_low}
use Rattle.lfs_model.proofs.Counting.{by_entry, those_in, those_out, taken_named}
use Rattle.lfs_model.proofs.Tables.{map_table, usage_table}
use Rattle.lfs_model.proofs.Patching.{long_patched}
use Rattle.lfs_model.proofs.Spelling.{SameAt, spells_children, spells_patched}

-- ---- what is shown
pub unshown : (m : LogMap) (at : Entry → ℕ) (n : ℕ) → is_nameless m n ≡ true → shown m at (Inode n) ≡ 0
unshown m at n nameless = those_out (is_shown m) at (Inode n) (ap not nameless)

pub shown_named : (m : LogMap) (at : Entry → ℕ) (n : ℕ) → is_nameless m n ≡ false → shown m at (Inode n) ≡ at (Inode n)
shown_named m at n named = those_in (is_shown m) at (Inode n) (ap not named)

pub shown_none : (m : LogMap) (at : Entry → ℕ) (n : ℕ) → at (Inode n) ≡ 0 → shown m at (Inode n) ≡ 0
shown_none m at n none = ⊎_elim
    (λ (nameless : is_nameless m n ≡ true). unshown m at n nameless)
    (λ (named : is_nameless m n ≡ false). shown_named m at n named ∙ none)
    (cases_Bool (is_nameless m n))

-- with the same header and address the same is shown
pub shown_alike : (m m' : LogMap) (A B : Entry → ℕ) (n : ℕ) → m'.header n ≡ m.header n → B (Inode n) ≡ A (Inode n)
    → shown m' B (Inode n) ≡ shown m A (Inode n)
shown_alike m m' A B n headers at =
    ap (λ (h : Option Header). cond (not (is_unlinked h)) (B (Inode n)) 0) headers ∙ ap (λ (a : ℕ). cond (is_shown m (Inode n)) a 0) at

-- an inode map block stays right where it stays and shows the same
pub mapped_by : (m m' : LogMap) (M M' : Memory) (j : ℕ) → M'.at (Map j) ≡ M.at (Map j) → M'.bytes (Map j) ≡ M.bytes (Map j)
    → ((i : ℕ) → i < 128 → shown m' M'.at (Inode (128 * j + i)) ≡ shown m M.at (Inode (128 * j + i))) → IsMapped m M j → IsMapped m' M' j
mapped_by m m' M M' j at bytes same is = record {
  settled = λ i low one. is.settled i low (sym (same i low) ∙ one);
  none = λ z i low. same i low ∙ is.none (sym at ∙ z) i low;
  long = λ le. ap length bytes ∙ is.long (omega (arith, le, at));
  spells = λ le i low. ap (λ (b : List ℕ). word b i) bytes ∙ is.spells (omega (arith, le, at)) i low ∙ sym (same i low);
  some = λ le. subst HasPointer (sym bytes) (is.some (omega (arith, le, at)));
}

-- an inode in memory, whose inode map block won't be written, has no name
pub hidden : (m : LogMap) (M : Memory) (n : ℕ) → IsMapped m M (n / 128) → M.at (Inode n) ≡ 1 → is_nameless m n ≡ true
hidden m M n is one = ⊎_elim
    (λ (nameless : is_nameless m n ≡ true). nameless)
    (λ (named : is_nameless m n ≡ false).
    let e : 128 * (n / 128) + n % 128 ≡ n = omega arith in
    absurd (is.settled (n % 128) (omega arith) (ap (λ (k : ℕ). shown m M.at (Inode k)) e ∙ shown_named m M.at n named ∙ one)))
    (cases_Bool (is_nameless m n))

-- ---- one block of a file, and the one above it
pub record IsStep (m m' : LogMap) (M : Memory) (x : Entry) (M' : Memory) : Type 0 where
  pub segments : M'.segments ≡ M.segments
  pub of_file : IsOfFile x
  pub others : (y : Entry) → (y ≡ x → ⊥) → M'.at y ≡ M.at y
  pub kept : (y : Entry) → (y ≡ x → ⊥) → (y ≡ parent x → ⊥) → M'.bytes y ≡ M.bytes y
  pub same : (y : Entry) → (y ≡ x → ⊥) → SameAt m m' y
  pub blocks : (n i : ℕ) → HasData m' n i ↔ 0 < M'.at (Data n i)
  pub inodes : (n : ℕ) → HasInode m' n ↔ 0 < M'.at (Inode n)
  -- the block above it
  pub above : (parent x ≡ x → ⊥) → M.at (parent x) ≡ 1
  pub above_long : (parent x ≡ x → ⊥) → length (M'.bytes (parent x)) ≡ 512
  pub above_spells : (parent x ≡ x → ⊥) → SpellsBlock m' M'.at (M'.bytes (parent x)) (parent x)
  -- the blocks below it
  pub lowest : (y : Entry) → (y ≡ x → ⊥) → parent y ≡ x → M.at y ≡ 1 → M'.at x ≡ 1
  pub children : (y : Entry) → (y ≡ x → ⊥) → parent y ≡ x → 0 < M.at y → 0 < M'.at x
  -- itself
  pub low : (n q : ℕ) → x ≡ Leaf n q → 0 < M'.at x → q ≤ 128
  pub some : IsPointers x → 2 ≤ M'.at x → HasPointer (M'.bytes x)
  pub long : 0 < M'.at x → length (M'.bytes x) ≡ 512
  pub spells : 0 < M'.at x → SpellsBlock m' M'.at (M'.bytes x) x
  pub mapped : (j : ℕ) → (M'.at (Map j) ≡ 1 → ⊥) → IsMapped m' M' j

module _ (e : Content) (m m' : LogMap) (M : Memory) (o : ℕ) (laid : IsLaid e m M o) (x : Entry) (M' : Memory) (p : IsStep m m' M x M') where
  pub bytes_kept : (y : Entry) → (y ≡ x → ⊥) → 2 ≤ M.at y → M'.bytes y ≡ M.bytes y
  bytes_kept y ne le = p.kept y ne
      (λ is. let one = p.above (λ top. ne (is ∙ top)) in let same : M.at y ≡ M.at (parent x) = ap M.at is in absurd (omega arith))

  pub down_now : (y : Entry) → 0 < M'.at y → 0 < M'.at (parent y)
  down_now = by_entry x (λ y. 0 < M'.at y → 0 < M'.at (parent y))
      (λ lt. ⊎_elim
      (λ (top : parent x ≡ x). subst (λ (z : Entry). 0 < M'.at z) (sym top) lt)
      (λ (ne : parent x ≡ x → ⊥). let s = p.others (parent x) ne in let one = p.above ne in omega arith)
      (same_entry (parent x) x))
      (λ y ne lt.
      let s = p.others y ne in
      ⊎_elim
      (λ (here : parent y ≡ x). subst (λ (z : Entry). 0 < M'.at z) (sym here) (p.children y ne here (omega arith)))
      (λ (away : parent y ≡ x → ⊥). let t = p.others (parent y) away in let d = laid.down y (omega arith) in omega arith)
      (same_entry (parent y) x))

  pub low_now : (n q : ℕ) → 0 < M'.at (Leaf n q) → q ≤ 128
  low_now n q = ⊎_elim
      (λ (here : Leaf n q ≡ x). λ (lt : 0 < M'.at (Leaf n q)). p.low n q (sym here) (subst (λ (z : Entry). 0 < M'.at z) here lt))
      (λ (away : Leaf n q ≡ x → ⊥). λ (lt : 0 < M'.at (Leaf n q)). laid.low n q (subst (λ (a : ℕ). 0 < a) (p.others (Leaf n q) away) lt))
      (same_entry (Leaf n q) x)

  pub some_now : (y : Entry) → IsPointers y → 2 ≤ M'.at y → HasPointer (M'.bytes y)
  some_now = by_entry x (λ y. IsPointers y → 2 ≤ M'.at y → HasPointer (M'.bytes y)) p.some
      (λ y ne is le. let s = p.others y ne in subst HasPointer (sym (bytes_kept y ne (omega arith))) (laid.some y is (omega arith)))

  pub up_now : (y : Entry) → M'.at y ≡ 1 → M'.at (parent y) ≡ 1
  up_now = by_entry x (λ y. M'.at y ≡ 1 → M'.at (parent y) ≡ 1)
      (λ one. ⊎_elim
      (λ (top : parent x ≡ x). ap M'.at top ∙ one)
      (λ (ne : parent x ≡ x → ⊥). p.others (parent x) ne ∙ p.above ne)
      (same_entry (parent x) x))
      (λ y ne one.
      let was : M.at y ≡ 1 = sym (p.others y ne) ∙ one in
      ⊎_elim
      (λ (here : parent y ≡ x). ap M'.at here ∙ p.lowest y ne here was)
      (λ (away : parent y ≡ x → ⊥). p.others (parent y) away ∙ laid.up y was)
      (same_entry (parent y) x))

  pub long_now : (y : Entry) → IsOfFile y → 0 < M'.at y → length (M'.bytes y) ≡ 512
  long_now = by_entry x (λ y. IsOfFile y → 0 < M'.at y → length (M'.bytes y) ≡ 512) (λ f. p.long)
      (λ y ne f lt.
      let s = p.others y ne in
      ⊎_elim
      (λ (is : y ≡ parent x). subst (λ (z : Entry). length (M'.bytes z) ≡ 512) (sym is) (p.above_long (λ top. ne (is ∙ top))))
      (λ (away : y ≡ parent x → ⊥). ap length (p.kept y ne away) ∙ laid.long y f (omega arith))
      (same_entry y (parent x)))

  pub spells_now : (y : Entry) → 0 < M'.at y → SpellsBlock m' M'.at (M'.bytes y) y
  spells_now = by_entry x (λ y. 0 < M'.at y → SpellsBlock m' M'.at (M'.bytes y) y) p.spells
      (λ y ne lt.
      let s = p.others y ne in
      ⊎_elim
      (λ (is : y ≡ parent x). subst (λ (z : Entry). SpellsBlock m' M'.at (M'.bytes z) z) (sym is) (p.above_spells (λ top. ne (is ∙ top))))
      (λ (away : y ≡ parent x → ⊥).
      subst (λ (b : List ℕ). SpellsBlock m' M'.at b y) (sym (p.kept y ne away))
      (spells_children m m' M.at M'.at (M.bytes y) y (p.same y ne) (λ z nz up. p.others z (λ h. away (sym up ∙ ap parent h)))
      (laid.spells y (omega arith))))
      (same_entry y (parent x)))

  pub usages_now : (j : ℕ) → (j < (M'.segments + 63) / 64) ↔ 0 < M'.at (Usage j)
  usages_now j =
      let s = p.others (Usage j) (λ h. usage_table j (subst IsOfFile (sym h) p.of_file)) in (
        λ lt. let a = (laid.usages j).0 (subst (λ (n : ℕ). j < (n + 63) / 64) p.segments lt) in omega arith,
        λ lt. subst (λ (n : ℕ). j < (n + 63) / 64) (sym p.segments) ((laid.usages j).1 (omega arith)),
      )

  -- the contents stay
  module _ (v : ℕ) (t : IsTaken M x v M') where
    gone : 2 ≤ M'.at x → ⊥
    gone le = let a = t.at in let l = t.least in omega arith

    pub taken_laid : IsLaid e m' M' o
    taken_laid = record {
      size = let s = laid.size in let n = p.segments in omega arith;
      few = let n = p.segments in let f = laid.few in omega arith;
      blocks = p.blocks;
      inodes = p.inodes;
      down = down_now;
      low = low_now;
      some = some_now;
      up = up_now;
      long = long_now;
      spells = spells_now;
      mapped = p.mapped;
      usages = usages_now;
      there = by_entry x (λ y. 2 ≤ M'.at y → block e (M'.at y) ≡ M'.bytes y) (λ le. absurd (gone le))
          (λ y ne le. let s = p.others y ne in ap (block e) s ∙ laid.there y (omega arith) ∙ sym (bytes_kept y ne (omega arith)));
      within = by_entry x (λ y. 2 ≤ M'.at y → M'.at y < 2 + 64 * M'.segments) (λ le. absurd (gone le))
          (λ y ne le. let s = p.others y ne in let n = p.segments in let w = laid.within y (omega arith) in omega arith);
      named = taken_named M x v M' t laid.named;
      short = λ s. let l = ap (λ (r : ℕ → Row). length (r s)) t.rows in let k = laid.short s in omega arith;
      first = λ s. ap (λ (r : ℕ → Row). get_or (r s) 0 None) t.rows ∙ laid.first s;
      sealed = λ s ne. subst (λ (r : ℕ → Row). row_by e (length (r s)) s ≡ Some (r s)) (sym t.rows) (laid.sealed s ne);
      past = λ s le. ap (λ (r : ℕ → Row). r s) t.rows ∙ laid.past s (let n = p.segments in omega arith);
    }

-- ---- the block above, where it is patched
module _ (e : Content) (m : LogMap) (M : Memory) (o : ℕ) (laid : IsLaid e m M o) (x : Entry) (M' : Memory)
    (others : (y : Entry) → (y ≡ x → ⊥) → M'.at y ≡ M.at y) (small : M'.at x < 2 ^ 32) (low : (n q : ℕ) → x ≡ Leaf n q → q ≤ 128)
    (ne : parent x ≡ x → ⊥) (above : M.at (parent x) ≡ 1)
    (patch : M'.bytes (parent x) ≡ patched (pointer x) (M'.at x) (M.bytes (parent x))) where
  parent_of_file : IsOfFile (parent x)
  parent_of_file = let f = below_of_file x ne in (f.0, file_of_parent x ∙ f.1)

  long_before : length (M.bytes (parent x)) ≡ 512
  long_before = laid.long (parent x) parent_of_file (omega arith)

  pub above_long : length (M'.bytes (parent x)) ≡ 512
  above_long = ap length patch ∙ long_patched (pointer x) (M'.at x) (M.bytes (parent x)) long_before (pointer_low x low)

  pub above_spells : (m' : LogMap) → SameAt m m' (parent x) → SpellsBlock m' M'.at (M'.bytes (parent x)) (parent x)
  above_spells m' like =
      subst (λ (b : List ℕ). SpellsBlock m' M'.at b (parent x)) (sym patch)
      (spells_children m m' M'.at M'.at (patched (pointer x) (M'.at x) (M.bytes (parent x))) (parent x) like (λ y nx up. refl)
      (spells_patched M.at M'.at x others (M.bytes (parent x)) long_before small (pointer_low x low) m (parent x) refl (λ h. ne (sym h))
      (laid.spells (parent x) (omega arith))))

-- ---- the inode map blocks
module _ (m m' : LogMap) (M M' : Memory) (x : Entry) (is : IsOfFile x) (others : (y : Entry) → (y ≡ x → ⊥) → M'.at y ≡ M.at y)
    (kept : (y : Entry) → (y ≡ x → ⊥) → (y ≡ parent x → ⊥) → M'.bytes y ≡ M.bytes y)
    (headers : (k : ℕ) → (Inode k ≡ x → ⊥) → m'.header k ≡ m.header k) where
  table_other : (j : ℕ) → Map j ≡ x → ⊥
  table_other j h = map_table j (subst IsOfFile (sym h) is)

  table_kept : (j : ℕ) → M'.bytes (Map j) ≡ M.bytes (Map j)
  table_kept j = kept (Map j) (table_other j) (λ h. table_other j (sym (map_child j x (sym h))))

  -- they stay right where x, if it is an inode, shows as before, or its inode map block will be written
  pub mapped_step : ((n : ℕ) → Inode n ≡ x → (M.at (Map (n / 128)) ≡ 1 → ⊥) → shown m' M'.at (Inode n) ≡ shown m M.at (Inode n))
      → ((j : ℕ) → (M.at (Map j) ≡ 1 → ⊥) → IsMapped m M j) → (j : ℕ) → (M'.at (Map j) ≡ 1 → ⊥) → IsMapped m' M' j
  mapped_step own mapped j none =
      let at = others (Map j) (table_other j) in
      let out : M.at (Map j) ≡ 1 → ⊥ = λ one. none (at ∙ one) in
      mapped_by m m' M M' j at (table_kept j) (λ i low.
      ⊎_elim
      (λ (here : Inode (128 * j + i) ≡ x).
      let e : (128 * j + i) / 128 ≡ j = omega arith in
      own (128 * j + i) here (subst (λ (k : ℕ). M.at (Map k) ≡ 1 → ⊥) (sym e) out))
      (λ (away : Inode (128 * j + i) ≡ x → ⊥).
      shown_alike m m' M.at M'.at (128 * j + i) (headers (128 * j + i) away) (others (Inode (128 * j + i)) away))
      (same_entry (Inode (128 * j + i)) x))
      (mapped j out)
