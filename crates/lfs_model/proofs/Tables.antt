-- The blocks of the tables, and the summaries, on their way out.
use Rattle.std.proofs.Common.{◌≡◌, ◌<◌, ◌≤◌, ◌↔◌, ◌+◌, ◌*◌, ◌/◌, cond, ℕ, zero, suc, List, [], length, get_or, take, drop, Option, Some}
use Rattle.std.proofs.Common.{None, refl, sym, ◌∙◌, ap, subst, arith, length-take, length-drop, get_or-take, get_or-drop}
use Rattle.lfs_model.specs.Entry.{Entry, Data, Leaf, Double, Inode, Map, Usage, word}
use Rattle.lfs_model.specs.Content.{Content, bytes_of, block}
use Rattle.lfs_model.specs.Device.{cell_at}
use Rattle.lfs_model.specs.Reach.{Row, row_by}
use Rattle.lfs_model.specs.Stands.{LogMap}
use Rattle.lfs_model.specs.Memory.{Memory, parent, file_of, IsOfFile, IsPointers, is_shown, shown}
use Rattle.lfs_model.specs.Encodes.{HasData, HasInode}
use Rattle.lfs_model.specs.Memory.{HasPointer}
use Rattle.lfs_model.specs.Laid.{IsLaid, IsMapped, SpellsBlock}
use Rattle.lfs_model.proofs.Entries.{file_of_parent}
use Rattle.lfs_model.proofs.Counting.{by_entry}
use Rattle.lfs_model.proofs.Reach.{chunks_same}

-- the blocks of the tables have none above them
top : (x : Entry) → (IsOfFile x → ⊥) → parent x ≡ x
top (Data n i) none = absurd (none (n, refl))
top (Leaf n q) none = absurd (none (n, refl))
top (Double n) none = absurd (none (n, refl))
top (Inode n) none = refl
top (Map j) none = refl
top (Usage j) none = refl

pub pointers_of_file : (x : Entry) → IsPointers x → IsOfFile x
pointers_of_file (Data n i) is = (n, refl)
pointers_of_file (Leaf n q) is = (n, refl)
pointers_of_file (Double n) is = (n, refl)
pointers_of_file (Inode n) is = (n, refl)
pointers_of_file (Map j) is = absurd is
pointers_of_file (Usage j) is = absurd is

pub map_table : (j : ℕ) → IsOfFile (Map j) → ⊥
map_table j is = let e : None ≡ Some is.0 = is.1 in absurd (cc)

pub usage_table : (j : ℕ) → IsOfFile (Usage j) → ⊥
usage_table j is = let e : None ≡ Some is.0 = is.1 in absurd (cc)

-- a block spells its entry whatever addresses other files' and tables' blocks have
pub spells_same : (m : LogMap) (A B : Entry → ℕ) → ((y : Entry) → IsOfFile y → B y ≡ A y) → (b : List ℕ) (x : Entry) → SpellsBlock m A b x
    → SpellsBlock m B b x
spells_same m A B same b (Data n i) is = is
spells_same m A B same b (Leaf n q) is = λ i low. is i low ∙ sym (same (Data n (112 + 128 * q + i)) (n, refl))
spells_same m A B same b (Double n) is = λ q low. is q low ∙ sym (same (Leaf n (suc q)) (n, refl))
spells_same m A B same b (Inode n) is = record {
  formed = is.formed;
  header = is.header;
  direct = λ i low. is.direct i low ∙ sym (same (Data n i) (n, refl));
  single = is.single ∙ sym (same (Leaf n 0) (n, refl));
  double = is.double ∙ sym (same (Double n) (n, refl));
}
spells_same m A B same b (Map j) is = tt
spells_same m A B same b (Usage j) is = tt

-- an inode map block stays right where it and its inodes stay
pub mapped_same : (m : LogMap) (M M' : Memory) (j : ℕ) → ((n : ℕ) → M'.at (Inode n) ≡ M.at (Inode n)) → M'.at (Map j) ≡ M.at (Map j)
    → M'.bytes (Map j) ≡ M.bytes (Map j) → IsMapped m M j → IsMapped m M' j
mapped_same m M M' j inodes at bytes is = record {
  settled = λ i low one. is.settled i low (sym (shows i) ∙ one);
  none = λ z i low. shows i ∙ is.none (sym at ∙ z) i low;
  long = λ le. ap length bytes ∙ is.long (omega (arith, le, at));
  spells = λ le i low. ap (λ (b : List ℕ). word b i) bytes ∙ is.spells (omega (arith, le, at)) i low ∙ sym (shows i);
  some = λ le. let w = is.some (omega (arith, le, at)) in (w.0, w.1, subst (λ (b : List ℕ). 0 < word b w.0) (sym bytes) w.2);
}
  where
    shows : (i : ℕ) → shown m M'.at (Inode (128 * j + i)) ≡ shown m M.at (Inode (128 * j + i))
    shows i = ap (λ (a : ℕ). cond (is_shown m (Inode (128 * j + i))) a 0) (inodes (128 * j + i))

-- ---- contents
pub block_at : (c : Content) (a : ℕ) → 0 < a → block c a ≡ bytes_of (cell_at c a)
block_at c zero lt = absurd (omega arith)
block_at c (suc a) lt = refl

-- a row is read from its summaries alone
pub row_kept : (e d : Content) (s : ℕ) (r : Row) → length r ≤ 64 → length d ≡ length e → ((o : ℕ) → o < length r → get_or r o None ≡ None
    → cell_at d (2 + 64 * s + o) ≡ cell_at e (2 + 64 * s + o)) → row_by e (length r) s ≡ Some r
    → row_by d (length r) s ≡ Some r
unfolding row_by
row_kept e d s r few size same is =
    let u = length r in
    let cs = drop (2 + 64 * s) e in
    let ds = drop (2 + 64 * s) d in
    let lc = length-take u cs in
    let ld = length-take u ds in
    let kc = length-drop (2 + 64 * s) e in
    let kd = length-drop (2 + 64 * s) d in
    chunks_same [] (take u cs) (take u ds) r is (omega arith)
    (λ o lt none.
    let below : o < u = omega arith in
    get_or-take u ds o None below ∙ get_or-drop (2 + 64 * s) d o None ∙ same o below none
    ∙ sym (get_or-drop (2 + 64 * s) e o None) ∙ sym (get_or-take u cs o None below))

pub empty_row : (e : Content) (t : ℕ) → row_by e 0 t ≡ Some []
unfolding row_by
empty_row e t = refl

-- ---- memory, where one block of the tables moves and nothing else
module _ (e : Content) (m : LogMap) (M : Memory) (o : ℕ) (laid : IsLaid e m M o) (x : Entry) (table : IsOfFile x → ⊥) (M' : Memory)
    (others : (y : Entry) → (y ≡ x → ⊥) → M'.at y ≡ M.at y) (kept : (y : Entry) → (y ≡ x → ⊥) → M'.bytes y ≡ M.bytes y) where
  pub of_file_other : (y : Entry) → IsOfFile y → y ≡ x → ⊥
  of_file_other y is same = table (subst IsOfFile same is)

  pub at_file : (y : Entry) → IsOfFile y → M'.at y ≡ M.at y
  at_file y is = others y (of_file_other y is)

  pub bytes_file : (y : Entry) → IsOfFile y → M'.bytes y ≡ M.bytes y
  bytes_file y is = kept y (of_file_other y is)

  pub parent_other : (y : Entry) → (y ≡ x → ⊥) → parent y ≡ x → ⊥
  parent_other y ne above = go (file_of y) refl
    where
      go : (f : Option ℕ) → file_of y ≡ f → ⊥
      go (Some n) is = table (n, ap file_of (sym above) ∙ file_of_parent y ∙ is)
      go None is = ne (sym (top y (λ (f : IsOfFile y). let bad : None ≡ Some f.0 = sym is ∙ f.1 in absurd (cc))) ∙ above)

  pub inode_at : (n : ℕ) → M'.at (Inode n) ≡ M.at (Inode n)
  inode_at n = at_file (Inode n) (n, refl)

  pub blocks_now : (n i : ℕ) → HasData m n i ↔ 0 < M'.at (Data n i)
  blocks_now n i = let s = at_file (Data n i) (n, refl) in
      (λ has. let lt = (laid.blocks n i).0 has in omega arith, λ lt. (laid.blocks n i).1 (omega arith))

  pub inodes_now : (n : ℕ) → HasInode m n ↔ 0 < M'.at (Inode n)
  inodes_now n = let s = inode_at n in (λ has. let lt = (laid.inodes n).0 has in omega arith, λ lt. (laid.inodes n).1 (omega arith))

  pub down_now : (y : Entry) → 0 < M'.at y → 0 < M'.at (parent y)
  down_now = by_entry x (λ y. 0 < M'.at y → 0 < M'.at (parent y)) (λ lt. subst (λ (z : Entry). 0 < M'.at z) (sym (top x table)) lt)
      (λ y ne lt. let s = others y ne in let t = others (parent y) (parent_other y ne) in let d = laid.down y (omega arith) in omega arith)

  pub low_now : (n q : ℕ) → 0 < M'.at (Leaf n q) → q ≤ 128
  low_now n q lt = let s = at_file (Leaf n q) (n, refl) in laid.low n q (omega arith)

  pub some_now : (y : Entry) → IsPointers y → 2 ≤ M'.at y → HasPointer (M'.bytes y)
  some_now y is le = let f = pointers_of_file y is in let s = at_file y f in
      subst HasPointer (sym (bytes_file y f)) (laid.some y is (omega arith))

  pub up_now : (y : Entry) → M'.at y ≡ 1 → M'.at (parent y) ≡ 1
  up_now = by_entry x (λ y. M'.at y ≡ 1 → M'.at (parent y) ≡ 1) (λ one. ap M'.at (top x table) ∙ one)
      (λ y ne one. others (parent y) (parent_other y ne) ∙ laid.up y (sym (others y ne) ∙ one))

  pub long_now : (y : Entry) → IsOfFile y → 0 < M'.at y → length (M'.bytes y) ≡ 512
  long_now y f lt = let s = at_file y f in ap length (bytes_file y f) ∙ laid.long y f (omega arith)

  pub spells_now : (y : Entry) → 0 < M'.at y → SpellsBlock m M'.at (M'.bytes y) y
  spells_now y lt = go (file_of y) refl
    where
      go : (f : Option ℕ) → file_of y ≡ f → SpellsBlock m M'.at (M'.bytes y) y
      go (Some n) is =
          let s = at_file y (n, is) in
          spells_same m M.at M'.at at_file (M'.bytes y) y
          (subst (λ (b : List ℕ). SpellsBlock m M.at b y) (sym (bytes_file y (n, is))) (laid.spells y (omega arith)))
      go None is = none y (λ (f : IsOfFile y). let bad : None ≡ Some f.0 = sym is ∙ f.1 in absurd (cc))
        where
          none : (y : Entry) → (IsOfFile y → ⊥) → SpellsBlock m M'.at (M'.bytes y) y
          none (Data n i) out = absurd (out (n, refl))
          none (Leaf n q) out = absurd (out (n, refl))
          none (Double n) out = absurd (out (n, refl))
          none (Inode n) out = absurd (out (n, refl))
          none (Map j) out = tt
          none (Usage j) out = tt

  pub mapped_other : (j : ℕ) → (Map j ≡ x → ⊥) → (M'.at (Map j) ≡ 1 → ⊥) → IsMapped m M' j
  mapped_other j ne none =
      mapped_same m M M' j inode_at (others (Map j) ne) (kept (Map j) ne) (laid.mapped j (λ one. none (others (Map j) ne ∙ one)))

  pub usages_other : (j : ℕ) → (Usage j ≡ x → ⊥) → M'.segments ≡ M.segments → (j < (M'.segments + 63) / 64) ↔ 0 < M'.at (Usage j)
  usages_other j ne same = let s = others (Usage j) ne in (
    λ lt. let a = (laid.usages j).0 (subst (λ (n : ℕ). j < (n + 63) / 64) same lt) in omega arith,
    λ lt. subst (λ (n : ℕ). j < (n + 63) / 64) (sym same) ((laid.usages j).1 (omega arith)),
  )

  pub shown_same : (i : ℕ) → shown m M'.at (Inode i) ≡ shown m M.at (Inode i)
  shown_same i = ap (λ (a : ℕ). cond (is_shown m (Inode i)) a 0) (inode_at i)
