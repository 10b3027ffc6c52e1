-- Labels of a row against the marks, one chunk at a time.
use Rattle.lfs_verify.proofs.Places.{put_own, put_before, put_after}
use Rattle.std.proofs.Common.{◌≡◌, ◌<◌, ◌≤◌, ⊎_elim, ◌+◌, ◌-◌, ◌*◌, ℕ, zero, suc, List, [], length, get_or, drop, map, Option, Some}
use Rattle.std.proofs.Common.{None, refl, sym, ◌∙◌, ap, subst, arith, ◌⊎◌, ◌/◌, ◌%◌, inl, inr, pred, set, length-set}
use Rattle.std.proofs.lemmas.Bool.{cases_eq, cases_lt}
use Rattle.std.proofs.lemmas.List.{get_or-map, length-map}
use Rattle.lfs_model.specs.declared.BlockKind.{BlockKind}
use Rattle.lfs_model.specs.declared.BlockKind.TheVariants as kind
use Rattle.lfs_model.specs.Checkpoint.{CheckpointValue}
use Rattle.lfs_model.specs.Content.{Content, bytes_of, block}
use Rattle.lfs_model.specs.Device.{Cell}
use Rattle.lfs_model.specs.Entry.{entry_by, entry_of, entries_in}
use Rattle.lfs_model.specs.Reach.{Row, after, chunks, row_by, place_in, view, View}
use Rattle.lfs_model.specs.Stands.{AreNamed}
use Rattle.lfs_model.specs.Summary.{BlockNameValue, FitsSummary, IsPlaced, no_block, summary_in}
use Rattle.lfs_model.proofs.RowPlaces as rows
use Rattle.lfs_verify.specs.Labels.{IsNamedIn, HasStep, Agrees, HasLabels, HasAllLabels, PutsLabels}
use Rattle.lfs_verify.specs.Rows.{HasRow, IsSummaryOf, part, from}
use Rattle.lfs_verify.specs.Tables.{IsUsedTable}
use Rattle.lfs_verify.specs.Walk.{InBounds, step_of, Walked, IsBounded}
use Rattle.lfs_verify.proofs.Sectors.{named_by_marks}
use Rattle.lfs_verify.proofs.RowSteps.{here, behind, opens, opens_names, entries_some, end_is, enough_behind, rest_is, next_chunk}
use Rattle.lfs_verify.proofs.RowSteps.{from_start, row_is}

-- what a summary may name is in bounds
bounds_of : (k : BlockKind) (file index : ℕ) → IsPlaced k file index → InBounds (entry_by k file index)
unfolding IsPlaced
bounds_of kind.Leaf file zero p = omega arith
bounds_of k file index p = omega arith

-- Up to a place of a row that begins a chunk, what is marked has its label.
pub record NamedTo (c : Content) (used segment : ℕ) (marks : List ℕ) (at : ℕ) : Type 0 where
  pub whole : rows.IsRowFrom (row_by c used segment) (from c used segment) at
  pub named : (o : ℕ) → o < at → IsNamedIn (row_by c used segment) marks segment o

abbrev pub AllNamed : Content → ℕ → ℕ → List ℕ → Type 0
AllNamed c used segment marks = (o : ℕ) → o < 64 → IsNamedIn (row_by c used segment) marks segment o

pub named_start : (c : Content) (used : ℕ) {segment : ℕ} {marks : List ℕ} → HasRow (row_by c used segment) → NamedTo c used segment marks 0
named_start c used {segment} h =
    record {
      whole = rows.row_start _ _ (from_start c used segment) h;
      named = λ o lt. absurd (omega arith);
    }

-- a sector without a label isn't marked
unlabelled : (row : Option Row) (marks : List ℕ) (s o m : ℕ) → get_or marks (2 + 64 * s + o) 0 ≡ m → place_in row o ≡ None
    → IsNamedIn row marks s o → m ≡ 0
unlabelled row marks s o zero is none named = refl
unlabelled row marks s o (suc p) is none named = let h = named p is in absurd (cc (sym none ∙ h.1))

unmarked_named : (row : Option Row) (marks : List ℕ) (s o : ℕ) → get_or marks (2 + 64 * s + o) 0 ≡ 0 → IsNamedIn row marks s o
unmarked_named row marks s o none p is = absurd (omega arith)

-- a place before the one at which a chunk begins, that place, or one of the chunk
by_place : (P : ℕ → Type 0) (at n : ℕ) {next : ℕ} → next ≡ at + 1 + n → ((o : ℕ) → o < at → P o) → P at
    → ((i : ℕ) → i < n → P (at + 1 + i)) → (o : ℕ) → o < next → P o
by_place P at n is before here after o lt = ⊎_elim (before o)
    (λ (later : at ≤ o). ⊎_elim
    (λ (same : o ≡ at). subst P (sym same) here)
    (λ (other : o ≡ at → ⊥).
    let e : at + 1 + (o - (at + 1)) ≡ o = omega (arith, later, other) in
    subst P e (after (o - (at + 1)) (omega (arith, is, lt, later, other))))
    (cases_eq o at))
    (cases_lt o at)

module _ (c : Content) {used segment at : ℕ} {marks : List ℕ} (long : 2 + 64 * segment + used ≤ length c) (few : used ≤ 64) (lt : at < used)
    (to : NamedTo c used segment marks at) where
  summary_place : place_in (row_by c used segment) at ≡ None
  summary_place =
      rows.summary_place _ _ at to.whole (entries_in (bytes_of (here c used segment at long lt)))
      (λ es. chunks es (behind c used segment at long lt)) (opens c used segment at long lt)

  module _ {bytes : List ℕ} (there : block c (2 + 64 * segment + at) ≡ bytes) (bs : List BlockNameValue) (is : Some bs ≡ summary_in bytes)
      (room : at + length bs < used) where
    abbrev known : IsSummaryOf (block c (2 + 64 * segment + at)) (length bs)
    known = (map entry_of bs, ap entries_in there ∙ entries_some bytes is, length-map bs entry_of)

    opened_row : from c used segment at ≡ after None (chunks (map entry_of bs) (behind c used segment at long lt))
    opened_row = opens_names c used segment at long lt (length bs) known

    label_is : (i : ℕ) → i < length bs → place_in (row_by c used segment) (at + 1 + i) ≡ Some (entry_of (get_or bs i no_block))
    label_is i small =
        rows.label_is _ _ at to.whole _ _ opened_row (entry_of no_block) i (omega (arith, length-map bs entry_of))
        ∙ ap Some (get_or-map entry_of bs i no_block (entry_of no_block) small)

    abbrev AreSteps : Type 0
    AreSteps = (i : ℕ) → i < length bs → HasStep (get_or marks (2 + 64 * segment + (at + 1 + i)) 0) (entry_of (get_or bs i no_block))

    -- where all are named, a chunk's blocks have the marks of their names
    steps_of : AllNamed c used segment marks → AreSteps
    steps_of all i small p marked =
        let h = all (at + 1 + i) (omega arith) p marked in
        let same : h.0 ≡ entry_of (get_or bs i no_block) = cc (sym h.1 ∙ label_is i small) in
        sym (ap step_of same) ∙ h.2

    next_is : (next : ℕ) → next ≡ at + 1 + length bs
        → from c used segment next ≡ chunks [] (drop (length (map entry_of bs)) (behind c used segment at long lt))
    unfolding from
    next_is next is_next =
        ap (λ (x : ℕ). chunks [] (drop x (part c used segment))) is_next
        ∙ ap (λ (x : List Cell). chunks [] x) (sym (rest_is c used segment at long lt (length bs) known))

    -- one chunk more is named
    chunk_taken : FitsSummary bs → get_or marks (2 + 64 * segment + at) 0 ≡ 0 → (next : ℕ) → next ≡ at + 1 + length bs → AreSteps
        → NamedTo c used segment marks next
    chunk_taken fits clear next is_next steps = record {
      whole = rows.row_next _ _ at to.whole _ _ opened_row next (omega (arith, length-map bs entry_of))
          (enough_behind c used segment at long lt (length bs) known room) (next_is next is_next)
          (subst (λ (x : ℕ). HasRow (from c used segment x)) (sym is_next)
          ((next_chunk c used segment at long lt (length bs) known room).0 to.whole.rest));
      named = by_place (IsNamedIn (row_by c used segment) marks segment) at (length bs) is_next to.named
          (unmarked_named _ marks segment at clear)
          (λ i low p marked. (
            entry_of (get_or bs i no_block),
            label_is i low,
            steps i low p marked,
            bounds_of _ _ _ (fits.each i low),
          ));
    }

-- ---- the end of a row
module _ (c : Content) {used segment : ℕ} {marks : List ℕ} (to : NamedTo c used segment marks used) where
  all_named : ((i : ℕ) → 2 + 64 * segment + used ≤ i → get_or marks i 0 ≡ 0) → AllNamed c used segment marks
  all_named clear o small = ⊎_elim (to.named o)
      (λ (later : used ≤ o). unmarked_named _ marks segment o (clear (2 + 64 * segment + o) (omega (arith, later))))
      (cases_lt o used)

  all_clear : 2 + 64 * segment + used ≤ length c → AllNamed c used segment marks → (o : ℕ) → used ≤ o → o < 64
      → get_or marks (2 + 64 * segment + o) 0 ≡ 0
  all_clear long all o le lt = unlabelled _ marks segment o _ refl
      (rows.row_end _ _ used (end_is c used segment long) to.whole o le) (all o lt)

-- ---- the rows of all segments
module _ (c : Content) (k : CheckpointValue) {used : List ℕ} (table : IsUsedTable (view c k) used) (s : ℕ) (lt : s < length used) where
  same_row : row_by c (get_or used s 0) s ≡ (view c k).row s
  same_row = ap (λ (u : ℕ). row_by c u s) (table.each s (omega (arith, table.size))) ∙ sym (row_is c k s)

  pub labels_there : {labels : List ℕ} → HasLabels (row_by c (get_or used s 0) s) labels s → HasLabels ((view c k).row s) labels s
  labels_there {labels} = subst (λ (r : Option Row). HasLabels r labels s) same_row

-- ---- the marks that labels give
-- Up to a place of a row that begins a chunk.
pub record LabelledTo (c : Content) (used segment : ℕ) (labels : List ℕ) (at : ℕ) : Type 0 where
  pub named : NamedTo c used segment labels at
  pub agree : (marks : List ℕ) → AllNamed c used segment marks → (o : ℕ) → o < at → Agrees marks labels (2 + 64 * segment + o)

pub labelled_start : (c : Content) (used segment : ℕ) (labels : List ℕ) → HasRow (row_by c used segment)
    → LabelledTo c used segment labels 0
labelled_start c used segment labels h =
    record { named = named_start c used h; agree = λ marks all o lt. absurd (omega (arith, lt)) }

-- a place of a row is one of any marks
named_as : {c : Content} {used segment : ℕ} {old : List ℕ} (new : List ℕ) {at : ℕ} → NamedTo c used segment old at
    → ((o : ℕ) → o < at → IsNamedIn (row_by c used segment) new segment o) → NamedTo c used segment new at
named_as new to named = record { whole = to.whole; named = named }

-- a mark that has the step of a label is the one that the label gives
step_label : (mark : ℕ) {label step : ℕ} → label ≡ suc step → ((p : ℕ) → mark ≡ suc p → step ≡ p) → (mark ≡ 0) ⊎ (mark ≡ label)
step_label zero is has = inl refl
step_label (suc p) is has = inr (ap suc (sym (has p refl)) ∙ sym is)

-- a label that stays
agree_as : (marks old new : List ℕ) (a : ℕ) → get_or new a 0 ≡ get_or old a 0 → Agrees marks old a → Agrees marks new a
agree_as marks old new a same = ⊎_elim inl (λ mark. inr (mark ∙ sym same))

module _ (c : Content) (used segment at : ℕ) (old new : List ℕ) (long : 2 + 64 * segment + used ≤ length c) (few : used ≤ 64)
    (lt : at < used) (to : LabelledTo c used segment old at)
    (bytes : List ℕ) (there : block c (2 + 64 * segment + at) ≡ bytes) (bs : List BlockNameValue) (is : Some bs ≡ summary_in bytes)
    (room : at + length bs < used) (next : ℕ) (is_next : next ≡ at + 1 + length bs)
    (labelled : (i : ℕ) → i < length bs → get_or new (2 + 64 * segment + at + 1 + i) 0 ≡ suc (step_of (entry_of (get_or bs i no_block))))
    (before : (i : ℕ) → i < 2 + 64 * segment + at + 1 → get_or new i 0 ≡ get_or old i 0)
    (empty : get_or old (2 + 64 * segment + at) 0 ≡ 0) where
  same : (o : ℕ) → o < at → get_or new (2 + 64 * segment + o) 0 ≡ get_or old (2 + 64 * segment + o) 0
  same o small = before (2 + 64 * segment + o) (omega (arith, small))

  so_far : NamedTo c used segment new at
  so_far = named_as new to.named (λ o small p marked. to.named.named o small p (sym (same o small) ∙ marked))

  own : (i : ℕ) → i < length bs → get_or new (2 + 64 * segment + (at + 1 + i)) 0 ≡ suc (step_of (entry_of (get_or bs i no_block)))
  own i small =
      let e : 2 + 64 * segment + (at + 1 + i) ≡ 2 + 64 * segment + at + 1 + i = omega arith in
      ap (λ (x : ℕ). get_or new x 0) e ∙ labelled i small

  agree_next : (marks : List ℕ) → AllNamed c used segment marks → (o : ℕ) → o < next → Agrees marks new (2 + 64 * segment + o)
  agree_next marks all = by_place (λ o. Agrees marks new (2 + 64 * segment + o)) at (length bs) is_next
      (λ o low. agree_as marks old new (2 + 64 * segment + o) (same o low) (to.agree marks all o low))
      (inl (unlabelled _ marks segment at _ refl (summary_place c long few lt so_far) (all at (omega (arith, lt, few)))))
      (λ i low. step_label (get_or marks (2 + 64 * segment + (at + 1 + i)) 0) (own i low) (steps_of c long few lt
      (named_as marks to.named (λ x lower. all x (omega (arith, lower, lt, few)))) there bs is room all i low))

  pub chunk_labelled : FitsSummary bs → LabelledTo c used segment new next
  chunk_labelled fits = record {
    named =
        chunk_taken c long few lt so_far there bs is room fits (before (2 + 64 * segment + at) (omega arith) ∙ empty) next is_next
        (λ i small p marked. ap pred (sym (own i small) ∙ marked));
    agree = agree_next;
  }

-- at the end
pub row_labelled : (c : Content) {used segment : ℕ} {labels : List ℕ} → 2 + 64 * segment + used ≤ length c → used ≤ 64
    → LabelledTo c used segment labels used → ((i : ℕ) → 2 + 64 * segment + used ≤ i → get_or labels i 0 ≡ 0)
    → HasLabels (row_by c used segment) labels segment
row_labelled c {used} long few to empty = record {
  named = all_named c to.named empty;
  all = λ marks all o small. ⊎_elim (to.agree marks all o)
      (λ (later : used ≤ o).
      inl (all_clear c (named_as marks to.named (λ x lower. all x (omega (arith, lower, few)))) long all o later small))
      (cases_lt o used);
}

-- labels of a segment stay where those of others are put in
pub labels_stay : {row : Option Row} {old : List ℕ} (new : List ℕ) (s : ℕ)
    → ((o : ℕ) → o < 64 → get_or new (2 + 64 * s + o) 0 ≡ get_or old (2 + 64 * s + o) 0) → HasLabels row old s → HasLabels row new s
labels_stay {old} new s same has = record {
  named = λ o small p is. has.named o small p (sym (same o small) ∙ is);
  all = λ marks each o small. agree_as marks old new (2 + 64 * s + o) (same o small) (has.all marks each o small);
}

-- ---- the labels of all segments against the marks of the walk
module _ (v : View) {labels marks : List ℕ} (has : HasAllLabels v labels) (w : Walked v marks 68628528) (bounded : IsBounded v) where
  pub all_agree : ((i : ℕ) → i < length marks → Agrees marks labels i) → AreNamed v
  all_agree agree = (named_by_marks v marks w bounded).1 (λ s o lt small p is. ⊎_elim
      (λ (none : get_or marks (2 + 64 * s + o) 0 ≡ 0). absurd (omega (arith, none, is)))
      (λ (same : get_or marks (2 + 64 * s + o) 0 ≡ get_or labels (2 + 64 * s + o) 0). (has.each s lt).named o small p (sym same ∙ is))
      (agree (2 + 64 * s + o) (omega (arith, w.size, lt, small))))

  -- no checkpoint slot is marked
  slot_unmarked : (i m : ℕ) → i < 2 → get_or marks i 0 ≡ m → m ≡ 0
  slot_unmarked i zero low is = refl
  slot_unmarked i (suc p) low is =
      let h = w.held i p is in
      let two = w.low h.0 (omega (arith, h.1, h.2)) h.3 h.4 in
      absurd (omega (arith, two, h.5, low))

  pub each_agrees : AreNamed v → (i : ℕ) → i < length marks → Agrees marks labels i
  each_agrees named i lt = ⊎_elim
      (λ (low : i < 2). inl (slot_unmarked i (get_or marks i 0) low refl))
      (λ (le : 2 ≤ i).
      let e : 2 + 64 * ((i - 2) / 64) + (i - 2) % 64 ≡ i = omega (arith, le) in
      let inside : (i - 2) / 64 < v.checkpoint.segments = omega (arith, w.size, lt, le) in
      let small : (i - 2) % 64 < 64 = omega arith in
      subst (Agrees marks labels) e ((has.each ((i - 2) / 64) inside).all marks
      (λ o few. (named_by_marks v marks w bounded).0 named ((i - 2) / 64) o inside few) ((i - 2) % 64) small))
      (cases_lt i 2)

-- ---- the labels of a chunk put into a table
pub puts_none : {names : List BlockNameValue} {labels : List ℕ} {at : ℕ} → PutsLabels names labels labels at 0
puts_none = record { own = λ i lt. absurd (omega (arith, lt)); before = λ j lt. refl; after = λ j le. refl; size = refl }

pub puts_more : {names : List BlockNameValue} {old mid : List ℕ} {at n x : ℕ} → at + n < length mid → x ≡ suc
    (step_of (entry_of (get_or names n no_block))) → PutsLabels names old mid at n → PutsLabels names old (set mid (at + n) x) at (n + 1)
puts_more {names} {mid} {at} {n} {x} inside is was = record {
  own = λ i lt. put_own mid at n x (λ a. suc (step_of (entry_of (get_or names a no_block)))) inside is i lt (was.own i);
  before = λ j lt. put_before mid at n x j lt ∙ was.before j lt;
  after = λ j le. put_after mid at n x j le ∙ was.after j (omega (arith, le));
  size = length-set mid (at + n) x ∙ was.size;
}
