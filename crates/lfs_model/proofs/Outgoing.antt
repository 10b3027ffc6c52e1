-- The blocks of the tables go out.
use Rattle.std.proofs.Common.{◌≡◌, ◌<◌, ◌≤◌, ◌↔◌, ⊎_elim, ◌+◌, ◌*◌, ◌-◌, ◌/◌, ◌%◌, ℕ, List, [], ◌∷◌, length, get_or, Some, None, refl, sym}
use Rattle.std.proofs.Common.{◌∙◌, ap, ap₂, subst, arith, length-set, length-append, get_or-set_other, get_or-set_same}
use Rattle.std.proofs.lemmas.List.{get_or_past, get_or_append_left}
use Rattle.std.proofs.lemmas.Bool.{cases_eq}
use Rattle.lfs_model.specs.Entry.{Entry, Inode, Map, Usage, word}
use Rattle.lfs_model.specs.Content.{Content, bytes_of, block}
use Rattle.lfs_model.specs.Device.{cell_at, put}
use Rattle.lfs_model.specs.Reach.{Row, row_by}
use Rattle.lfs_model.specs.Stands.{LogMap}
use Rattle.lfs_model.specs.Memory.{Memory, IsOfFile, HasPointer, shown}
use Rattle.lfs_model.specs.Laid.{IsLaid, IsMapped}
use Rattle.lfs_model.specs.Placing.{IsMoved, next_place, MapPlacing, MapLeaving, Settling, IsFilling, Filling}
use Rattle.lfs_model.specs.Lifting.{IsTaken, MapLifting, UsageLifting}
use Rattle.lfs_model.proofs.Counting.{by_entry, moved_named, taken_named}
use Rattle.lfs_model.proofs.Reach.{block_same}
use Rattle.lfs_model.proofs.Tables

module _ (e : Content) (m : LogMap) (M : Memory) (o : ℕ) (laid : IsLaid e m M o) where
  -- no block stands where the row of the open segment has no name
  pub apart : (at : ℕ) → get_or (M.rows o) at None ≡ None → at < 64 → (y : Entry) → 2 ≤ M.at y → M.at y ≡ 2 + 64 * o + at → ⊥
  apart at none low y above is =
      let es : (M.at y - 2) / 64 ≡ o = omega arith in
      let eo : (M.at y - 2) % 64 ≡ at = omega arith in
      let named : get_or (M.rows o) at None ≡ Some y = sym (ap₂ (λ (s t : ℕ). get_or (M.rows s) t None) es eo) ∙ laid.named y above in
      let bad : None ≡ Some y = sym none ∙ named in
      absurd (cc)

  -- a content that differs there alone
  module _ (at : ℕ) (none : get_or (M.rows o) at None ≡ None) (low : at < 64) (d : Content) (size : length d ≡ length e)
      (same : (a : ℕ) → (a ≡ 2 + 64 * o + at → ⊥) → cell_at d a ≡ cell_at e a) where
    pub still_there : (y : Entry) → 2 ≤ M.at y → block d (M.at y) ≡ M.bytes y
    still_there y above = block_same e d (M.at y) (λ lt. same (M.at y) (apart at none low y above)) ∙ laid.there y above

    pub other_rows : (s : ℕ) → (s ≡ o → ⊥) → row_by d (length (M.rows s)) s ≡ Some (M.rows s)
    other_rows s ne = Tables.row_kept e d s (M.rows s) (laid.short s) size
        (λ q lt blank. same (2 + 64 * s + q) (λ h. let f = laid.short s in ne (omega arith))) (laid.sealed s ne)

  -- an entry gets the next place
  module _ (x : Entry) (M' : Memory) (p : IsMoved M o x M') where
    pub end : get_or (M.rows o) (length (M.rows o)) None ≡ None
    end = get_or_past (M.rows o) (length (M.rows o)) None (omega arith)

    pub above : 2 ≤ M'.at x
    above = let at = p.at in omega arith

    long_row : length (M'.rows o) ≡ length (M.rows o) + 1
    long_row = ap length p.row ∙ length-append (M.rows o) (Some x ∷ [])

    pub short_now : (s : ℕ) → length (M'.rows s) ≤ 64
    short_now s = ⊎_elim
        (λ (here : s ≡ o). let l = ap (λ (t : ℕ). length (M'.rows t)) here in let r = p.room in let n = long_row in omega arith)
        (λ (away : s ≡ o → ⊥). let l = ap length (p.rows s away) in let k = laid.short s in omega arith)
        (cases_eq s o)

    pub first_now : (s : ℕ) → get_or (M'.rows s) 0 None ≡ None
    first_now s = ⊎_elim
        (λ (here : s ≡ o).
        ap (λ (t : ℕ). get_or (M'.rows t) 0 None) here ∙ ap (λ (r : Row). get_or r 0 None) p.row
        ∙ get_or_append_left (M.rows o) (Some x ∷ []) None 0 p.begun ∙ laid.first o)
        (λ (away : s ≡ o → ⊥). ap (λ (r : Row). get_or r 0 None) (p.rows s away) ∙ laid.first s)
        (cases_eq s o)

    pub past_now : (s : ℕ) → M'.segments ≤ s → M'.rows s ≡ []
    past_now s le = let i = p.opened in let n = p.segments in p.rows s (λ h. omega arith) ∙ laid.past s (omega arith)

    pub inside : next_place M o < 2 + 64 * M.segments
    inside = let i = p.opened in let r = p.room in omega arith

    pub within_now : (y : Entry) → 2 ≤ M'.at y → M'.at y < 2 + 64 * M'.segments
    within_now = by_entry x (λ y. 2 ≤ M'.at y → M'.at y < 2 + 64 * M'.segments)
        (λ lt. let a = p.at in let w = inside in let n = p.segments in omega arith)
        (λ y ne lt. let s = p.others y ne in let n = p.segments in let w = laid.within y (omega arith) in omega arith)

    pub sealed_now : (d : Content) → length d ≡ length e → ((a : ℕ) → (a ≡ next_place M o → ⊥) → cell_at d a ≡ cell_at e a) → (s : ℕ)
        → (s ≡ o → ⊥) → row_by d (length (M'.rows s)) s ≡ Some (M'.rows s)
    sealed_now d size same s ne =
        subst (λ (r : Row). row_by d (length r) s ≡ Some r) (sym (p.rows s ne)) (other_rows (length (M.rows o)) end p.room d size same s ne)

    pub there_other : (d : Content) → length d ≡ length e → ((a : ℕ) → (a ≡ next_place M o → ⊥) → cell_at d a ≡ cell_at e a) → (y : Entry)
        → (y ≡ x → ⊥) → M'.bytes y ≡ M.bytes y → 2 ≤ M'.at y → block d (M'.at y) ≡ M'.bytes y
    there_other d size same y ne bytes lt =
        let s = p.others y ne in
        ap (block d) s ∙ still_there (length (M.rows o)) end p.room d size same y (omega arith) ∙ sym bytes

  -- the content with the next place written
  module _ (x : Entry) (M' : Memory) (p : IsMoved M o x M') (bytes : List ℕ) where
    pub size_set : length (put e (next_place M o) bytes) ≡ length e
    size_set = length-set e (next_place M o) (Some bytes)

    pub cells_set : (a : ℕ) → (a ≡ next_place M o → ⊥) → cell_at (put e (next_place M o) bytes) a ≡ cell_at e a
    cells_set a ne = get_or-set_other e (next_place M o) a (Some bytes) None ne

    pub there_own : M'.bytes x ≡ bytes → block (put e (next_place M o) bytes) (M'.at x) ≡ M'.bytes x
    there_own own =
        ap (block (put e (next_place M o) bytes)) p.at
        ∙ Tables.block_at (put e (next_place M o) bytes) (next_place M o) (omega arith)
        ∙ ap bytes_of (get_or-set_same e (next_place M o) (Some bytes) None (let s = laid.size in let i = inside x M' p in omega arith))
        ∙ sym own

pub map_placing : MapPlacing
map_placing e m M o j bytes M' laid p = record {
  size = let l = size_set e m M o laid x M' q bytes in let s = laid.size in let n = q.segments in omega arith;
  few = let n = q.segments in let f = laid.few in omega arith;
  blocks = Tables.blocks_now e m M o laid x table M' q.others p.kept;
  inodes = Tables.inodes_now e m M o laid x table M' q.others p.kept;
  down = Tables.down_now e m M o laid x table M' q.others p.kept;
  low = Tables.low_now e m M o laid x table M' q.others p.kept;
  some = Tables.some_now e m M o laid x table M' q.others p.kept;
  up = Tables.up_now e m M o laid x table M' q.others p.kept;
  long = Tables.long_now e m M o laid x table M' q.others p.kept;
  spells = Tables.spells_now e m M o laid x table M' q.others p.kept;
  mapped = λ i none. ⊎_elim (λ (here : i ≡ j). subst (IsMapped m M') (sym here) own)
      (λ (away : i ≡ j → ⊥). Tables.mapped_other e m M o laid x table M' q.others p.kept i (λ h. away (cc)) none) (cases_eq i j);
  usages = λ i.
      Tables.usages_other e m M o laid x table M' q.others p.kept i (λ h. let bad : Usage i ≡ Map j = h in absurd (cc)) q.segments;
  there = by_entry x (λ y. 2 ≤ M'.at y → block (put e (next_place M o) bytes) (M'.at y) ≡ M'.bytes y)
      (λ lt. there_own e m M o laid x M' q bytes p.own)
      (λ y ne. there_other e m M o laid x M' q (put e (next_place M o) bytes) (size_set e m M o laid x M' q bytes)
      (cells_set e m M o laid x M' q bytes) y ne (p.kept y ne));
  within = within_now e m M o laid x M' q;
  named = moved_named M o x M' q laid.named;
  short = short_now e m M o laid x M' q;
  first = first_now e m M o laid x M' q;
  sealed = sealed_now e m M o laid x M' q (put e (next_place M o) bytes) (size_set e m M o laid x M' q bytes)
      (cells_set e m M o laid x M' q bytes);
  past = past_now e m M o laid x M' q;
}
  where
    x : Entry
    x = Map j

    q : IsMoved M o (Map j) M'
    q = p.moved

    table : IsOfFile (Map j) → ⊥
    table = Tables.map_table j

    same : (i : ℕ) → shown m M'.at (Inode i) ≡ shown m M.at (Inode i)
    same = Tables.shown_same e m M o laid (Map j) (Tables.map_table j) M' p.moved.others p.kept

    own : IsMapped m M' j
    own = record {
      settled = λ i low one. p.settled i low (sym (same (128 * j + i)) ∙ one);
      none = λ z. let a = above e m M o laid (Map j) M' p.moved in absurd (omega arith);
      long = λ le. ap length p.own ∙ p.long;
      spells = λ le i low. ap (λ (b : List ℕ). word b i) p.own ∙ p.spells i low ∙ sym (same (128 * j + i));
      some = λ le. subst HasPointer (sym p.own) p.some;
    }

-- a block of the tables is taken into memory, or is none any more, and the contents stay
module _ (e : Content) (m : LogMap) (M : Memory) (o : ℕ) (laid : IsLaid e m M o) (x : Entry) (table : IsOfFile x → ⊥) (v : ℕ) (M' : Memory)
    (p : IsTaken M x v M') (bytes : M'.bytes ≡ M.bytes) where
  kept : (y : Entry) → (y ≡ x → ⊥) → M'.bytes y ≡ M.bytes y
  kept y ne = ap (λ (b : Entry → List ℕ). b y) bytes

  taken_laid : ((j : ℕ) → (M'.at (Map j) ≡ 1 → ⊥) → IsMapped m M' j) → ((j : ℕ) → (j < (M'.segments + 63) / 64) ↔ 0 < M'.at (Usage j))
      → IsLaid e m M' o
  taken_laid maps usages = record {
    size = let s = laid.size in let n = p.segments in omega arith;
    few = let n = p.segments in let f = laid.few in omega arith;
    blocks = Tables.blocks_now e m M o laid x table M' p.others kept;
    inodes = Tables.inodes_now e m M o laid x table M' p.others kept;
    down = Tables.down_now e m M o laid x table M' p.others kept;
    low = Tables.low_now e m M o laid x table M' p.others kept;
    some = Tables.some_now e m M o laid x table M' p.others kept;
    up = Tables.up_now e m M o laid x table M' p.others kept;
    long = Tables.long_now e m M o laid x table M' p.others kept;
    spells = Tables.spells_now e m M o laid x table M' p.others kept;
    mapped = maps;
    usages = usages;
    there = by_entry x (λ y. 2 ≤ M'.at y → block e (M'.at y) ≡ M'.bytes y) (λ lt. let a = p.at in let l = p.least in absurd (omega arith))
        (λ y ne lt. let s = p.others y ne in ap (block e) s ∙ laid.there y (omega arith) ∙ sym (kept y ne));
    within = by_entry x (λ y. 2 ≤ M'.at y → M'.at y < 2 + 64 * M'.segments) (λ lt. let a = p.at in let l = p.least in absurd (omega arith))
        (λ y ne lt. let s = p.others y ne in let n = p.segments in let w = laid.within y (omega arith) in omega arith);
    named = taken_named M x v M' p laid.named;
    short = λ s. let l = ap (λ (r : ℕ → Row). length (r s)) p.rows in let k = laid.short s in omega arith;
    first = λ s. ap (λ (r : ℕ → Row). get_or (r s) 0 None) p.rows ∙ laid.first s;
    sealed = λ s ne. subst (λ (r : ℕ → Row). row_by e (length (r s)) s ≡ Some (r s)) (sym p.rows) (laid.sealed s ne);
    past = λ s le. ap (λ (r : ℕ → Row). r s) p.rows ∙ laid.past s (let n = p.segments in omega arith);
  }

  shows : (i : ℕ) → shown m M'.at (Inode i) ≡ shown m M.at (Inode i)
  shows = Tables.shown_same e m M o laid x table M' p.others kept

  -- the inode map blocks but for one
  maps_but : (j : ℕ) → x ≡ Map j → ((M'.at (Map j) ≡ 1 → ⊥) → IsMapped m M' j) → (i : ℕ) → (M'.at (Map i) ≡ 1 → ⊥) → IsMapped m M' i
  maps_but j is own i none = ⊎_elim
      (λ (here : i ≡ j). subst (λ (i : ℕ). (M'.at (Map i) ≡ 1 → ⊥) → IsMapped m M' i) (sym here) own none)
      (λ (away : i ≡ j → ⊥).
      Tables.mapped_other e m M o laid x table M' p.others kept i (λ h. let bad : Map i ≡ Map j = h ∙ is in away (cc)) none)
      (cases_eq i j)

  usages_all : (j : ℕ) → x ≡ Map j → (i : ℕ) → (i < (M'.segments + 63) / 64) ↔ 0 < M'.at (Usage i)
  usages_all j is i =
      Tables.usages_other e m M o laid x table M' p.others kept i (λ h. let bad : Usage i ≡ Map j = h ∙ is in absurd (cc)) p.segments

pub map_lifting : MapLifting
map_lifting e m M o j M' laid p = taken_laid e m M o laid (Map j) (Tables.map_table j) 1 M' p.taken p.bytes
    (maps_but e m M o laid (Map j) (Tables.map_table j) 1 M' p.taken p.bytes j refl (λ none. absurd (none p.taken.at)))
    (usages_all e m M o laid (Map j) (Tables.map_table j) 1 M' p.taken p.bytes j refl)

pub usage_lifting : UsageLifting
usage_lifting e m M o j M' laid p = taken_laid e m M o laid (Usage j) (Tables.usage_table j) 1 M' p.taken p.bytes
    (λ i none. Tables.mapped_other e m M o laid (Usage j) (Tables.usage_table j) M' p.taken.others
    (λ y ne. ap (λ (b : Entry → List ℕ). b y) p.bytes) i (λ h. let bad : Map i ≡ Usage j = h in absurd (cc)) none)
    (λ i. ⊎_elim (λ (here : i ≡ j). subst (λ (i : ℕ). (i < (M'.segments + 63) / 64) ↔ 0 < M'.at (Usage i)) (sym here) own)
    (λ (away : i ≡ j → ⊥). Tables.usages_other e m M o laid (Usage j) (Tables.usage_table j) M' p.taken.others
    (λ y ne. ap (λ (b : Entry → List ℕ). b y) p.bytes) i (λ h. let same : Usage i ≡ Usage j = h in away (cc)) p.taken.segments)
    (cases_eq i j))
  where
    own : (j < (M'.segments + 63) / 64) ↔ 0 < M'.at (Usage j)
    own = let a = p.taken.at in let w = p.was in
        (λ lt. omega arith, λ lt. subst (λ (n : ℕ). j < (n + 63) / 64) (sym p.taken.segments) ((laid.usages j).1 (omega arith)))

pub map_leaving : MapLeaving
map_leaving e m M o j M' laid p = taken_laid e m M o laid (Map j) (Tables.map_table j) 0 M' taken p.bytes
    (maps_but e m M o laid (Map j) (Tables.map_table j) 0 M' taken p.bytes j refl (λ none. own))
    (usages_all e m M o laid (Map j) (Tables.map_table j) 0 M' taken p.bytes j refl)
  where
    taken : IsTaken M (Map j) 0 M'
    taken = record { segments = p.segments; least = omega arith; at = p.at; others = p.others; rows = p.rows }

    same : (i : ℕ) → shown m M'.at (Inode i) ≡ shown m M.at (Inode i)
    same = shows e m M o laid (Map j) (Tables.map_table j) 0 M' taken p.bytes

    own : IsMapped m M' j
    own = record {
      settled = λ i low one. let z = p.none i low in let s = same (128 * j + i) in omega arith;
      none = λ z i low. same (128 * j + i) ∙ p.none i low;
      long = λ le. let a = p.at in absurd (omega arith);
      spells = λ le. let a = p.at in absurd (omega arith);
      some = λ le. let a = p.at in absurd (omega arith);
    }

pub settling : Settling
settling e m M o j M' laid p = record {
  size = let s = laid.size in let n = q.segments in omega arith;
  few = let n = q.segments in let f = laid.few in omega arith;
  blocks = Tables.blocks_now e m M o laid x table M' q.others p.kept;
  inodes = Tables.inodes_now e m M o laid x table M' q.others p.kept;
  down = Tables.down_now e m M o laid x table M' q.others p.kept;
  low = Tables.low_now e m M o laid x table M' q.others p.kept;
  some = Tables.some_now e m M o laid x table M' q.others p.kept;
  up = Tables.up_now e m M o laid x table M' q.others p.kept;
  long = Tables.long_now e m M o laid x table M' q.others p.kept;
  spells = Tables.spells_now e m M o laid x table M' q.others p.kept;
  mapped = λ i none. Tables.mapped_other e m M o laid x table M' q.others p.kept i (λ h. let bad : Map i ≡ Usage j = h in absurd (cc)) none;
  usages = λ i. ⊎_elim
      (λ (here : i ≡ j). subst (λ (i : ℕ). (i < (M'.segments + 63) / 64) ↔ 0 < M'.at (Usage i)) (sym here) own)
      (λ (away : i ≡ j → ⊥).
      Tables.usages_other e m M o laid x table M' q.others p.kept i (λ h. let same : Usage i ≡ Usage j = h in away (cc)) q.segments)
      (cases_eq i j);
  there = by_entry x (λ y. 2 ≤ M'.at y → block e (M'.at y) ≡ M'.bytes y)
      (λ lt. ap (block e) q.at ∙ sym p.own)
      (λ y ne. there_other e m M o laid x M' q e refl (λ a away. refl) y ne (p.kept y ne));
  within = within_now e m M o laid x M' q;
  named = moved_named M o x M' q laid.named;
  short = short_now e m M o laid x M' q;
  first = first_now e m M o laid x M' q;
  sealed = sealed_now e m M o laid x M' q e refl (λ a away. refl);
  past = past_now e m M o laid x M' q;
}
  where
    x : Entry
    x = Usage j

    q : IsMoved M o (Usage j) M'
    q = p.moved

    table : IsOfFile (Usage j) → ⊥
    table = Tables.usage_table j

    own : (j < (M'.segments + 63) / 64) ↔ 0 < M'.at (Usage j)
    own =
        let a = above e m M o laid (Usage j) M' p.moved in
        let w = p.moved.was in
        (λ lt. omega arith, λ lt. subst (λ (n : ℕ). j < (n + 63) / 64) (sym p.moved.segments) ((laid.usages j).1 (omega arith)))

-- a usage block is written where it has its place
module _ (e : Content) (m : LogMap) (M : Memory) (o : ℕ) (laid : IsLaid e m M o) (j : ℕ) (bytes : List ℕ) (M' : Memory)
    (p : IsFilling M j bytes M') where
  a : ℕ
  a = M.at (Usage j)

  named_there : (s t : ℕ) → t < 64 → 2 + 64 * s + t ≡ M.at (Usage j) → get_or (M.rows s) t None ≡ Some (Usage j)
  named_there s t low is =
      let w = p.was in
      let es : (M.at (Usage j) - 2) / 64 ≡ s = omega arith in
      let et : (M.at (Usage j) - 2) % 64 ≡ t = omega arith in
      sym (ap₂ (λ (s t : ℕ). get_or (M.rows s) t None) es et) ∙ laid.named (Usage j) p.was

  other_place : (y : Entry) → (y ≡ Usage j → ⊥) → 2 ≤ M.at y → M.at y ≡ M.at (Usage j) → ⊥
  other_place y ne le same =
      let both : Some y ≡ Some (Usage j) = sym (laid.named y le) ∙ ap (λ (a : ℕ). get_or (M.rows ((a - 2) / 64)) ((a - 2) % 64) None) same
      ∙ laid.named (Usage j) p.was in
      ne (cc)

  cells : (b : ℕ) → (b ≡ M.at (Usage j) → ⊥) → cell_at (put e (M.at (Usage j)) bytes) b ≡ cell_at e b
  cells b ne = get_or-set_other e (M.at (Usage j)) b (Some bytes) None ne

  now : (y : Entry) → M'.at y ≡ M.at y
  now y = ap (λ (f : Entry → ℕ). f y) p.at

  others : (y : Entry) → (y ≡ Usage j → ⊥) → M'.at y ≡ M.at y
  others y ne = now y

  filled : IsLaid (put e (M.at (Usage j)) bytes) m M' o
  filled = record {
    size = let l = length-set e (M.at (Usage j)) (Some bytes) in let s = laid.size in let n = p.segments in omega arith;
    few = let n = p.segments in let f = laid.few in omega arith;
    blocks = Tables.blocks_now e m M o laid (Usage j) (Tables.usage_table j) M' others p.kept;
    inodes = Tables.inodes_now e m M o laid (Usage j) (Tables.usage_table j) M' others p.kept;
    down = Tables.down_now e m M o laid (Usage j) (Tables.usage_table j) M' others p.kept;
    low = Tables.low_now e m M o laid (Usage j) (Tables.usage_table j) M' others p.kept;
    some = Tables.some_now e m M o laid (Usage j) (Tables.usage_table j) M' others p.kept;
    up = Tables.up_now e m M o laid (Usage j) (Tables.usage_table j) M' others p.kept;
    long = Tables.long_now e m M o laid (Usage j) (Tables.usage_table j) M' others p.kept;
    spells = Tables.spells_now e m M o laid (Usage j) (Tables.usage_table j) M' others p.kept;
    mapped = λ i none. Tables.mapped_other e m M o laid (Usage j) (Tables.usage_table j) M' others p.kept i
        (λ h. let bad : Map i ≡ Usage j = h in absurd (cc)) none;
    usages = λ i. let s = now (Usage i) in (
      λ lt. let b = (laid.usages i).0 (subst (λ (n : ℕ). i < (n + 63) / 64) p.segments lt) in omega arith,
      λ lt. subst (λ (n : ℕ). i < (n + 63) / 64) (sym p.segments) ((laid.usages i).1 (omega arith)),
    );
    there = by_entry (Usage j) (λ y. 2 ≤ M'.at y → block (put e (M.at (Usage j)) bytes) (M'.at y) ≡ M'.bytes y)
        (λ lt.
        ap (block (put e (M.at (Usage j)) bytes)) (now (Usage j))
        ∙ Tables.block_at (put e (M.at (Usage j)) bytes) (M.at (Usage j)) (let w = p.was in omega arith)
        ∙ ap bytes_of
        (get_or-set_same e (M.at (Usage j)) (Some bytes) None (let s = laid.size in let w = laid.within (Usage j) p.was in omega arith))
        ∙ sym p.own)
        (λ y ne lt.
        let s = now y in
        let le : 2 ≤ M.at y = omega arith in
        ap (block (put e (M.at (Usage j)) bytes)) s
        ∙ block_same e (put e (M.at (Usage j)) bytes) (M.at y) (λ lt. cells (M.at y) (other_place y ne le))
        ∙ laid.there y le ∙ sym (p.kept y ne));
    within = λ y le. let s = now y in let n = p.segments in let w = laid.within y (omega arith) in omega arith;
    named = λ y le. let s = now y in
        ap (λ (a : ℕ). get_or (M'.rows ((a - 2) / 64)) ((a - 2) % 64) None) s
        ∙ ap (λ (r : ℕ → Row). get_or (r ((M.at y - 2) / 64)) ((M.at y - 2) % 64) None) p.rows ∙ laid.named y (omega arith);
    short = λ s. let l = ap (λ (r : ℕ → Row). length (r s)) p.rows in let k = laid.short s in omega arith;
    first = λ s. ap (λ (r : ℕ → Row). get_or (r s) 0 None) p.rows ∙ laid.first s;
    sealed = λ s ne. subst (λ (r : ℕ → Row). row_by (put e (M.at (Usage j)) bytes) (length (r s)) s ≡ Some (r s)) (sym p.rows)
        (Tables.row_kept e (put e (M.at (Usage j)) bytes) s (M.rows s) (laid.short s) (length-set e (M.at (Usage j)) (Some bytes))
        (λ q lt blank. cells (2 + 64 * s + q)
        (λ is. let k = laid.short s in let bad : None ≡ Some (Usage j) = sym blank ∙ named_there s q (omega arith) is in absurd (cc)))
        (laid.sealed s ne));
    past = λ s le. ap (λ (r : ℕ → Row). r s) p.rows ∙ laid.past s (let n = p.segments in omega arith);
  }

pub filling : Filling
filling e m M o j bytes M' laid p = filled e m M o laid j bytes M' p

-- which number past the segments stands for none doesn't matter
pub closed_at : (e : Content) (m : LogMap) (M : Memory) (none other : ℕ) → IsLaid e m M none → M.segments ≤ none → M.segments ≤ other
    → IsLaid e m M other
closed_at e m M none other laid past after = record {
  size = laid.size;
  few = laid.few;
  blocks = laid.blocks;
  inodes = laid.inodes;
  down = laid.down;
  low = laid.low;
  some = laid.some;
  up = laid.up;
  long = laid.long;
  spells = laid.spells;
  mapped = laid.mapped;
  usages = laid.usages;
  there = laid.there;
  within = laid.within;
  named = laid.named;
  short = laid.short;
  first = laid.first;
  sealed = λ s ne. ⊎_elim
      (λ (here : s ≡ none). subst (λ (r : Row). row_by e (length r) s ≡ Some r) (sym (laid.past s (omega arith))) (Tables.empty_row e s))
      (λ (away : s ≡ none → ⊥). laid.sealed s away)
      (cases_eq s none);
  past = laid.past;
}
