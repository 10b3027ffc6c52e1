-- Segments are opened, sealed and given back.
use Rattle.std.proofs.Common.{◌≡◌, ◌<◌, ◌≤◌, ◌⊎◌, ⊎_elim, ◌+◌, ◌*◌, ◌-◌, ◌/◌, ◌%◌, ◌==◌, not, cond, inl, inr, ℕ, zero, suc, Bool, true}
use Rattle.std.proofs.Common.{false, List, [], ◌∷◌, ◌++◌, length, get_or, map, Option, Some, None, refl, sym, ◌∙◌, ap, subst, arith}
use Rattle.std.proofs.Common.{length-set, length-append, get_or-set_other, get_or-set_same, eq-eqb}
use Rattle.std.proofs.lemmas.List.{get_or_append_left}
use Rattle.std.proofs.lemmas.Bool.{cases_eq, cases_Bool}
use Rattle.lfs_model.specs.Entry.{Entry, Data, Leaf, Inode, Map, Usage, entries_in, word}
use Rattle.lfs_model.specs.Content.{Content, block}
use Rattle.lfs_model.specs.Device.{cell_at, put}
use Rattle.lfs_model.specs.Reach.{Row, View, place_in, row_by}
use Rattle.lfs_model.specs.Stands.{LogMap, count_up, is_live}
use Rattle.lfs_model.specs.Memory.{Memory, parent, HasPointer, count_of, live_of, held_of, is_shown, is_held, memory_view, shown}
use Rattle.lfs_model.specs.Memory.{settled_at, those}
use Rattle.lfs_model.specs.Laid.{IsLaid, IsMapped, SpellsBlock}
use Rattle.lfs_model.specs.Placing.{IsOpening, Opening, IsReopening, Reopening, Sealing}
use Rattle.lfs_model.specs.Live.{live_count}
use Rattle.lfs_model.specs.Counting.{segment_of}
use Rattle.lfs_model.specs.Finishing.{IsReleasing, Releasing}
use Rattle.lfs_model.proofs.Counting.{Named, same_counts, those_in, settled_above}
use Rattle.lfs_model.proofs.Live.{chunk_read, count_up_none, count_up_more}
use Rattle.lfs_model.proofs.Outgoing.{still_there, other_rows}
use Rattle.lfs_model.proofs.Tables.{empty_row, row_kept}
use Rattle.lfs_model.proofs.Chunks.{row_more}
use Rattle.lfs_model.proofs.Running.{row_length}

-- ---- the rows change and nothing else
pub record IsRowed (e : Content) (M : Memory) (opened_at : ℕ) (M' : Memory) : Type 0 where
  pub segments : M'.segments ≡ M.segments
  pub at : M'.at ≡ M.at
  pub bytes : M'.bytes ≡ M.bytes
  pub named : Named M.at M'.rows
  pub short : (s : ℕ) → length (M'.rows s) ≤ 64
  pub first : (s : ℕ) → get_or (M'.rows s) 0 None ≡ None
  pub sealed : (s : ℕ) → (s ≡ opened_at → ⊥) → row_by e (length (M'.rows s)) s ≡ Some (M'.rows s)
  pub past : (s : ℕ) → M.segments ≤ s → M'.rows s ≡ []

module _ (e : Content) (m : LogMap) (M : Memory) (o : ℕ) (laid : IsLaid e m M o) (q : ℕ) (M' : Memory) (p : IsRowed e M q M') where
  at_now : (y : Entry) → M'.at y ≡ M.at y
  at_now y = ap (λ (f : Entry → ℕ). f y) p.at

  bytes_now : (y : Entry) → M'.bytes y ≡ M.bytes y
  bytes_now y = ap (λ (f : Entry → List ℕ). f y) p.bytes

  mapped_now : (j : ℕ) → (M'.at (Map j) ≡ 1 → ⊥) → IsMapped m M' j
  mapped_now j none =
      let is = laid.mapped j (λ one. none (at_now (Map j) ∙ one)) in
      record {
        settled = λ i low. subst (λ (f : Entry → ℕ). shown m f (Inode (128 * j + i)) ≡ 1 → ⊥) (sym p.at) (is.settled i low);
        none = subst (λ (f : Entry → ℕ). f (Map j) ≡ 0 → (i : ℕ) → i < 128 → shown m f (Inode (128 * j + i)) ≡ 0) (sym p.at) is.none;
        long = λ le. ap length (bytes_now (Map j)) ∙ is.long (omega (arith, le, at_now (Map j)));
        spells = λ le i low. ap (λ (b : List ℕ). word b i) (bytes_now (Map j)) ∙ is.spells (omega (arith, le, at_now (Map j))) i low
            ∙ ap (λ (f : Entry → ℕ). shown m f (Inode (128 * j + i))) (sym p.at);
        some = λ le. subst HasPointer (sym (bytes_now (Map j))) (is.some (omega (arith, le, at_now (Map j))));
      }

  pub rowed : IsLaid e m M' q
  rowed = record {
    size = let s = laid.size in let n = p.segments in omega arith;
    few = let n = p.segments in let f = laid.few in omega arith;
    blocks = λ n i. let s = at_now (Data n i) in
        (λ has. let lt = (laid.blocks n i).0 has in omega arith, λ lt. (laid.blocks n i).1 (omega arith));
    inodes = λ n. let s = at_now (Inode n) in (λ has. let lt = (laid.inodes n).0 has in omega arith, λ lt. (laid.inodes n).1 (omega arith));
    down = λ y lt. let s = at_now y in let t = at_now (parent y) in let d = laid.down y (omega arith) in omega arith;
    low = λ n i lt. let s = at_now (Leaf n i) in laid.low n i (omega arith);
    some = λ y is le. let s = at_now y in subst HasPointer (sym (bytes_now y)) (laid.some y is (omega arith));
    up = λ y one. at_now (parent y) ∙ laid.up y (sym (at_now y) ∙ one);
    long = λ y f lt. let s = at_now y in ap length (bytes_now y) ∙ laid.long y f (omega arith);
    spells = λ y lt. let s = at_now y in
        subst (λ (f : Entry → ℕ). SpellsBlock m f (M'.bytes y) y) (sym p.at)
        (subst (λ (b : List ℕ). SpellsBlock m M.at b y) (sym (bytes_now y)) (laid.spells y (omega arith)));
    mapped = mapped_now;
    usages = λ i. let s = at_now (Usage i) in (
      λ lt. let b = (laid.usages i).0 (subst (λ (n : ℕ). i < (n + 63) / 64) p.segments lt) in omega arith,
      λ lt. subst (λ (n : ℕ). i < (n + 63) / 64) (sym p.segments) ((laid.usages i).1 (omega arith)),
    );
    there = λ y le. let s = at_now y in ap (block e) s ∙ laid.there y (omega arith) ∙ sym (bytes_now y);
    within = λ y le. let s = at_now y in let n = p.segments in let w = laid.within y (omega arith) in omega arith;
    named = subst (λ (f : Entry → ℕ). Named f M'.rows) (sym p.at) p.named;
    short = p.short;
    first = p.first;
    sealed = p.sealed;
    past = λ s le. p.past s (let n = p.segments in omega arith);
  }

  pub rowed_counts : (is : Entry → Bool) (t : ℕ) → count_of is M' t ≡ count_of is M t
  rowed_counts is = same_counts is is M M' laid.named (subst (λ (f : Entry → ℕ). Named f M'.rows) (sym p.at) p.named)
      (λ y. ap (λ (f : Entry → ℕ). settled_at (those is f y)) p.at)

-- ---- opening
module _ (e : Content) (m : LogMap) (M : Memory) (none_open : ℕ) (laid : IsLaid e m M none_open) (closed : M.segments ≤ none_open) (s : ℕ)
    (M' : Memory) (p : IsOpening M s M') where
  by_row : (P : Row → Type 0) (t : ℕ) → P (None ∷ []) → P (M.rows t) → P (M'.rows t)
  by_row P t here there = ⊎_elim
      (λ (is : t ≡ s). subst P (sym (ap M'.rows is ∙ p.row)) here)
      (λ (away : t ≡ s → ⊥). subst P (sym (p.rows t away)) there)
      (cases_eq t s)

  grown : (t at : ℕ) (x : Entry) → get_or (M.rows t) at None ≡ Some x → get_or (M'.rows t) at None ≡ Some x
  grown t at x is = ⊎_elim
      (λ (here : t ≡ s). let bad : None ≡ Some x = sym (ap (λ (r : Row). get_or r at None) (ap M.rows here ∙ p.none)) ∙ is in absurd (cc))
      (λ (away : t ≡ s → ⊥). ap (λ (r : Row). get_or r at None) (p.rows t away) ∙ is)
      (cases_eq t s)

  is_rowed : IsRowed e M s M'
  is_rowed = record {
    segments = p.segments;
    at = p.at;
    bytes = p.bytes;
    named = λ x le. grown ((M.at x - 2) / 64) ((M.at x - 2) % 64) x (laid.named x le);
    short = λ t. by_row (λ r. length r ≤ 64) t (omega arith) (laid.short t);
    first = λ t. by_row (λ r. get_or r 0 None ≡ None) t refl (laid.first t);
    sealed = λ t ne. subst (λ (r : Row). row_by e (length r) t ≡ Some r) (sym (p.rows t ne))
        (⊎_elim
        (λ (here : t ≡ none_open). subst (λ (r : Row). row_by e (length r) t ≡ Some r) (sym (laid.past t (omega arith))) (empty_row e t))
        (λ (away : t ≡ none_open → ⊥). laid.sealed t away)
        (cases_eq t none_open));
    past = λ t le. let i = p.inside in p.rows t (λ h. omega arith) ∙ laid.past t le;
  }

pub opening : Opening
opening e m M none_open s M' laid closed p =
    let is = is_rowed e m M none_open laid closed s M' p in
    (rowed e m M none_open laid s M' is, rowed_counts e m M none_open laid s M' is)

-- ---- opening again
module _ (e : Content) (m : LogMap) (M : Memory) (none_open : ℕ) (laid : IsLaid e m M none_open) (closed : M.segments ≤ none_open) (s : ℕ)
    (M' : Memory) (p : IsReopening M s M') where
  longer : length (M'.rows s) ≡ length (M.rows s) + 1
  longer = ap length p.row ∙ length-append (M.rows s) (None ∷ [])

  kept_labels : (t at : ℕ) (x : Entry) → get_or (M.rows t) at None ≡ Some x → get_or (M'.rows t) at None ≡ Some x
  kept_labels t at x is = ⊎_elim
      (λ (here : t ≡ s). ap (λ (t : ℕ). get_or (M'.rows t) at None) here ∙ ap (λ (r : Row). get_or r at None) p.row
      ∙ labelled (M.rows s) at (ap (λ (t : ℕ). get_or (M.rows t) at None) (sym here) ∙ is))
      (λ (away : t ≡ s → ⊥). ap (λ (r : Row). get_or r at None) (p.rows t away) ∙ is)
      (cases_eq t s)
    where
      labelled : (r : Row) (at : ℕ) → get_or r at None ≡ Some x → get_or (r ++ None ∷ []) at None ≡ Some x
      labelled [] at is = let bad : None ≡ Some x = is in absurd (cc)
      labelled (y ∷ r) zero is = is
      labelled (y ∷ r) (suc at) is = labelled r at is

  is_again : IsRowed e M s M'
  is_again = record {
    segments = p.segments;
    at = p.at;
    bytes = p.bytes;
    named = λ x le. kept_labels ((M.at x - 2) / 64) ((M.at x - 2) % 64) x (laid.named x le);
    short = λ t. ⊎_elim
        (λ (here : t ≡ s). let l = ap (λ (t : ℕ). length (M'.rows t)) here in let n = longer in let r = p.room in omega arith)
        (λ (away : t ≡ s → ⊥). let l = ap length (p.rows t away) in let k = laid.short t in omega arith)
        (cases_eq t s);
    first = λ t. ⊎_elim
        (λ (here : t ≡ s).
        ap (λ (t : ℕ). get_or (M'.rows t) 0 None) here ∙ ap (λ (r : Row). get_or r 0 None) p.row
        ∙ get_or_append_left (M.rows s) (None ∷ []) None 0 p.some ∙ laid.first s)
        (λ (away : t ≡ s → ⊥). ap (λ (r : Row). get_or r 0 None) (p.rows t away) ∙ laid.first t)
        (cases_eq t s);
    sealed = λ t ne. subst (λ (r : Row). row_by e (length r) t ≡ Some r) (sym (p.rows t ne))
        (⊎_elim
        (λ (here : t ≡ none_open). subst (λ (r : Row). row_by e (length r) t ≡ Some r) (sym (laid.past t (omega arith))) (empty_row e t))
        (λ (away : t ≡ none_open → ⊥). laid.sealed t away)
        (cases_eq t none_open));
    past = λ t le. let i = p.inside in p.rows t (λ h. omega arith) ∙ laid.past t le;
  }

pub reopening : Reopening
reopening e m M none_open s M' laid closed p =
    let is = is_again e m M none_open laid closed s M' p in
    (rowed e m M none_open laid s M' is, rowed_counts e m M none_open laid s M' is)

-- ---- sealing
-- a summary stands behind the chunks before it
at_summary : (before : Row) (es : List Entry) → get_or (before ++ None ∷ map Some es) (length before) None ≡ None
at_summary [] es = refl
at_summary (y ∷ before) es = at_summary before es

module _ (e : Content) (m : LogMap) (M : Memory) (seg : ℕ) (before : Row) (bytes : List ℕ) (es : List Entry) (laid : IsLaid e m M seg)
    (opened : seg < M.segments)
    (row : M.rows seg ≡ before ++ None ∷ map Some es) (sealed : row_by e (length before) seg ≡ Some before)
    (spelt : entries_in bytes ≡ Some es) where
  d : Content
  d = put e (2 + 64 * seg + length before) bytes

  size_now : length (put e (2 + 64 * seg + length before) bytes) ≡ length e
  size_now = length-set e (2 + 64 * seg + length before) (Some bytes)

  cells : (a : ℕ) → (a ≡ 2 + 64 * seg + length before → ⊥) → cell_at (put e (2 + 64 * seg + length before) bytes) a ≡ cell_at e a
  cells a ne = get_or-set_other e (2 + 64 * seg + length before) a (Some bytes) None ne

  long : length (M.rows seg) ≡ length before + suc (length es)
  long = row_length (M.rows seg) before es row

  place : length before < 64
  place = let l = long in let short = laid.short seg in omega arith

  blank : get_or (M.rows seg) (length before) None ≡ None
  blank = ap (λ (r : Row). get_or r (length before) None) row ∙ at_summary before es

  now_sealed : row_by (put e (2 + 64 * seg + length before) bytes) (length (M.rows seg)) seg ≡ Some (M.rows seg)
  now_sealed =
      let size = laid.size in
      let ls = size_now in
      let len = long in
      let short = laid.short seg in
      let at : cell_at (put e (2 + 64 * seg + length before) bytes) (2 + 64 * seg + length before) ≡ Some bytes =
      get_or-set_same e (2 + 64 * seg + length before) (Some bytes) None (omega arith) in
      let read = chunk_read (put e (2 + 64 * seg + length before) bytes) seg (length before) bytes es at spelt (omega arith) in
      let first = row_kept e (put e (2 + 64 * seg + length before) bytes) seg before (omega arith) size_now
      (λ q lt none. cells (2 + 64 * seg + q) (λ h. omega arith)) sealed in
      let en : length before + 1 + length es ≡ length (M.rows seg) = omega arith in
      ap (λ (n : ℕ). row_by (put e (2 + 64 * seg + length before) bytes) n seg) (sym en)
      ∙ row_more (put e (2 + 64 * seg + length before) bytes) seg (length before) (length before + 1 + length es) before
      (None ∷ map Some es) (omega arith) first read
      ∙ ap Some (sym row)

  is_sealed : (none : ℕ) → M.segments ≤ none → IsLaid (put e (2 + 64 * seg + length before) bytes) m M none
  is_sealed none past = record {
    size = let l = size_now in let s = laid.size in omega arith;
    few = laid.few;
    blocks = laid.blocks;
    inodes = laid.inodes;
    down = laid.down;
    low = laid.low;
    some = laid.some;
    up = laid.up;
    long = laid.long;
    spells = laid.spells;
    mapped = laid.mapped;
    usages = laid.usages;
    there = still_there e m M seg laid (length before) blank place (put e (2 + 64 * seg + length before) bytes) size_now cells;
    within = laid.within;
    named = laid.named;
    short = laid.short;
    first = laid.first;
    sealed = λ s ne. ⊎_elim
        (λ (here : s ≡ seg). subst (λ (t : ℕ). row_by (put e (2 + 64 * seg + length before) bytes) (length (M.rows t)) t ≡ Some (M.rows t))
        (sym here) now_sealed)
        (λ (away : s ≡ seg → ⊥).
        other_rows e m M seg laid (length before) blank place (put e (2 + 64 * seg + length before) bytes) size_now cells s away)
        (cases_eq s seg);
    past = laid.past;
  }

pub sealing : Sealing
sealing e m M seg before bytes es laid opened row sealed spelt none past =
    is_sealed e m M seg before bytes es laid opened row sealed spelt none past

-- ---- giving back
cond_one : (b : Bool) → b ≡ true → cond {A = ℕ} b 1 0 ≡ 1
cond_one b is = ap {B = ℕ} (λ (b : Bool). cond {A = ℕ} b 1 0) is

count_some : (p : ℕ → Bool) (n o : ℕ) → o < n → p o ≡ true → 0 < count_up p n
count_some p zero o lt on = absurd (omega arith)
count_some p (suc n) o lt on =
    ⊎_elim
    (λ (here : o ≡ n). let one = cond_one (p n) (ap p (sym here) ∙ on) in omega (arith, one, count_up_more p n))
    (λ (before : o ≡ n → ⊥). let rest = count_some p n o (omega arith) on in omega (arith, rest, count_up_more p n))
    (cases_eq o n)

pub count_none : (p : ℕ → Bool) (n : ℕ) → ((x : ℕ) → p x ≡ false) → count_up p n ≡ 0
count_none p zero off = count_up_none p
count_none p (suc n) off = let rest = count_none p n off in let z = ap {B = ℕ} (λ (b : Bool). cond {A = ℕ} b 1 0) (off n) in
    omega (arith, rest, z, count_up_more p n)

-- with nothing in its row, nothing in a segment is live
pub no_row_live : (v : View) (s : ℕ) → v.row s ≡ Some [] → live_count v s ≡ 0
no_row_live v s is = count_none (is_live v s) 64
    (λ x. ap (λ (o : Option Row). elim (place_in o x) [ None ↦ false | Some e ↦ v.address e == 2 + 64 * s + x ]) is)

-- where an entry stands that is counted, its segment's count isn't 0
pub some_counted : (is : Entry → Bool) (M : Memory) → Named M.at M.rows → (x : Entry) → is x ≡ true → 2 ≤ M.at x
    → 0 < count_of is M (segment_of (M.at x))
some_counted is M named x on le =
    let s = segment_of (M.at x) in
    let o = (M.at x - 2) % 64 in
    let there : settled_at (those is M.at x) ≡ 2 + 64 * segment_of (M.at x) + (M.at x - 2) % 64 = ap settled_at (those_in is M.at x on)
    ∙ settled_above (M.at x) le ∙ (omega arith) in
    count_some (is_live (memory_view is M) s) 64 o (omega arith)
    (ap (λ (y : Option Entry). elim y as (λ z. Bool) [ None ↦ false | Some e ↦ settled_at (those is M.at e) == 2 + 64 * s + o ])
    (named x le)
    ∙ eq-eqb (settled_at (those is M.at x)) (2 + 64 * s + o) there)

module _ (e : Content) (m : LogMap) (M M' : Memory) (opened_at : ℕ) (laid : IsLaid e m M opened_at) (closed : M.segments ≤ opened_at)
    (p : IsReleasing m M M') where
  by_live : (P : Row → Type 0) (s : ℕ) → P [] → P (M.rows s) → P (M'.rows s)
  by_live P s none some = ⊎_elim
      (λ (z : live_of m M s ≡ 0).
      ⊎_elim
      (λ (h : held_of m M s ≡ 0). subst P (sym (p.gone s z h)) none)
      (λ (nh : held_of m M s ≡ 0 → ⊥). subst P (sym (p.kept s (inr (omega arith)))) some)
      (cases_eq (held_of m M s) 0))
      (λ (nz : live_of m M s ≡ 0 → ⊥). subst P (sym (p.kept s (inl (omega arith)))) some)
      (cases_eq (live_of m M s) 0)

  stands_in : (x : Entry) → 2 ≤ M.at x → (0 < live_of m M (segment_of (M.at x))) ⊎ (0 < held_of m M (segment_of (M.at x)))
  stands_in x le = ⊎_elim
      (λ (on : is_shown m x ≡ true). inl (some_counted (is_shown m) M laid.named x on le))
      (λ (off : is_shown m x ≡ false). inr (some_counted (is_held m) M laid.named x (ap not off) le))
      (cases_Bool (is_shown m x))

  released : IsRowed e M opened_at M'
  released = record {
    segments = p.segments;
    at = p.at;
    bytes = p.bytes;
    named = λ x le. ap (λ (r : Row). get_or r ((M.at x - 2) % 64) None) (p.kept (segment_of (M.at x)) (stands_in x le)) ∙ laid.named x le;
    short = λ s. by_live (λ r. length r ≤ 64) s (omega arith) (laid.short s);
    first = λ s. by_live (λ r. get_or r 0 None ≡ None) s refl (laid.first s);
    sealed = λ s ne. by_live (λ r. row_by e (length r) s ≡ Some r) s (empty_row e s) (laid.sealed s ne);
    past = λ s le. by_live (λ r. r ≡ []) s refl (laid.past s le);
  }

pub releasing : Releasing
releasing e m M M' o laid closed p =
    let is = released e m M M' o laid closed p in
    (rowed e m M o laid o M' is, rowed_counts e m M o laid o M' is (is_shown m), rowed_counts e m M o laid o M' is (is_held m))
