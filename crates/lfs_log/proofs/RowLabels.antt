-- The labels of a segment's used part, read one chunk at a time.
use Rattle.std.proofs.Common.{◌≡◌, ◌<◌, ◌≤◌, ◌+◌, ◌-◌, ◌*◌, ℕ, zero, suc, List, [], ◌∷◌, length, get_or, drop, map, Option, Some, None}
use Rattle.std.proofs.Common.{refl, sym, ◌∙◌, ap, arith, zero-add}
use Rattle.std.proofs.lemmas.List.{get_or-map, get_or_past, length-map}
use Rattle.lfs_model.specs.Content.{Content, block}
use Rattle.lfs_model.specs.Device.{Cell}
use Rattle.lfs_model.specs.Entry.{Entry, entry_of, entries_in}
use Rattle.lfs_model.specs.Reach.{Row, after, opened, chunks, row_by, place_in}
use Rattle.lfs_model.specs.Summary.{BlockNameValue, no_block, summary_in}
use Rattle.lfs_log.specs.verify.Rows.{HasRow, IsSummaryOf, part, from}
use Rattle.lfs_log.proofs.of_verify.RowSteps.{here, behind, opens, opens_names, entries_some, end_is, enough_behind, rest_is, next_chunk}
use Rattle.lfs_log.proofs.of_verify.RowSteps.{from_start}

-- ---- places of a row
after_first : (x : Option Row) → place_in (after None x) 0 ≡ None
after_first None = refl
after_first (Some row) = refl

after_next : (e : Option Entry) (x : Option Row) (i : ℕ) → place_in (after e x) (suc i) ≡ place_in x i
after_next e None i = refl
after_next e (Some row) i = refl

opened_first : (o : Option (List Entry)) (rest : List Entry → Option Row) → place_in (opened o rest) 0 ≡ None
opened_first None rest = refl
opened_first (Some es) rest = after_first _

after_label : {e : Entry} (x : Option Row) → HasRow (after (Some e) x) → place_in (after (Some e) x) 0 ≡ Some e
after_label None h = let z = h.1 in absurd (cc)
after_label (Some row) h = refl

rest_row : (e : Option Entry) (x : Option Row) → HasRow (after e x) → HasRow x
rest_row e None h = let z = h.1 in absurd (cc)
rest_row e (Some row) h = (row, refl)

-- the blocks of a chunk have its labels
label_here : (es : List Entry) (ss : List Cell) (d : Entry) (i : ℕ) → HasRow (chunks es ss) → i < length es
    → place_in (chunks es ss) i ≡ Some (get_or es i d)
label_here [] ss d i h lt = absurd (omega arith)
label_here (e ∷ es) [] d i h lt = let z = h.1 in absurd (cc)
label_here (e ∷ es) (s ∷ ss) d zero h lt = after_label _ h
label_here (e ∷ es) (s ∷ ss) d (suc i) h lt = after_next _ _ i ∙ label_here es ss d i (rest_row _ _ h) (omega arith)

label_behind : (es : List Entry) (ss : List Cell) (j : ℕ) → length es ≤ length ss
    → place_in (chunks es ss) (length es + j) ≡ place_in (chunks [] (drop (length es) ss)) j
label_behind [] ss j le = ap (place_in (chunks [] ss)) (omega arith)
label_behind (e ∷ es) [] j le = absurd (omega arith)
label_behind (e ∷ es) (s ∷ ss) j le =
    ap (place_in (after (Some e) (chunks es ss))) (omega arith) ∙ after_next (Some e) (chunks es ss) (length es + j)
    ∙ label_behind es ss j (omega arith)

-- From a place of a segment's used part on there are whole chunks.
pub record IsRowFrom (c : Content) (used segment at : ℕ) : Type 0 where
  pub rest : HasRow (from c used segment at)
  pub places : (j : ℕ) → place_in (row_by c used segment) (at + j) ≡ place_in (from c used segment at) j

pub row_start : (c : Content) (used segment : ℕ) → HasRow (row_by c used segment) → IsRowFrom c used segment 0
row_start c used segment h =
    let e = from_start c used _ in
    record {
      rest = rw e h;
      places = λ j. ap (place_in (row_by c used segment)) (zero-add j) ∙ ap (λ (x : Option Row). place_in x j) (sym e);
    }

module _ {c : Content} {used segment at : ℕ} (long : 2 + 64 * segment + used ≤ length c) (lt : at < used)
    (to : IsRowFrom c used segment at) where
  -- a summary has no label
  pub summary_place : place_in (row_by c used segment) at ≡ None
  summary_place =
      let l = here c used segment at long lt in
      ap (place_in (row_by c used segment)) (omega arith) ∙ to.places 0 ∙ ap (λ (x : Option Row). place_in x 0) (opens c used _ at long lt)
      ∙ opened_first _ (λ es. chunks es (behind c used _ at long lt))

  module _ {bytes : List ℕ} (there : block c (2 + 64 * segment + at) ≡ bytes) {bs : List BlockNameValue} (is : Some bs ≡ summary_in bytes)
      (room : at + length bs < used) where
    abbrev known : IsSummaryOf (block c (2 + 64 * segment + at)) (length bs)
    known = (map entry_of bs, ap entries_in there ∙ entries_some _ is, length-map bs entry_of)

    opened_row : from c used segment at ≡ after None (chunks (map entry_of bs) (behind c used segment at long lt))
    opened_row = opens_names c used segment at long lt (length bs) known

    chunk_row : HasRow (chunks (map entry_of bs) (behind c used segment at long lt))
    chunk_row = rest_row None (chunks (map entry_of bs) (behind c used segment at long lt)) (rw (← opened_row) to.rest)

    -- a sector behind the summary, by its place there
    place_behind : (j : ℕ)
        → place_in (row_by c used segment) (at + 1 + j) ≡ place_in (chunks (map entry_of bs) (behind c used segment at long lt)) j
    place_behind j =
        ap (place_in (row_by c used segment)) (omega arith) ∙ to.places (suc j)
        ∙ ap (λ (x : Option Row). place_in x (suc j)) opened_row ∙ after_next None _ j

    pub label_is : (i : ℕ) → i < length bs → place_in (row_by c used segment) (at + 1 + i) ≡ Some (entry_of (get_or bs i no_block))
    label_is i small =
        place_behind i
        ∙ label_here (map entry_of bs) (behind c used segment at long lt) (entry_of no_block) i chunk_row
        (let x = length-map bs entry_of in omega arith)
        ∙ ap Some (get_or-map entry_of bs i no_block (entry_of no_block) small)

    behind_places : (next : ℕ) → next ≡ at + 1 + length bs → (j : ℕ)
        → place_in (row_by c used segment) (next + j) ≡ place_in (from c used segment next) j
    unfolding from
    behind_places next is_next j =
        let l = length-map bs entry_of in
        let e : next + j ≡ at + 1 + (length (map entry_of bs) + j) = omega arith in
        ap (place_in (row_by c used segment)) e ∙ place_behind (length (map entry_of bs) + j)
        ∙ label_behind (map entry_of bs) (behind c used segment at long lt) j
        (enough_behind c used segment at long lt (length bs) known room)
        ∙ ap (λ (x : List Cell). place_in (chunks [] x) j) (rest_is c used segment at long lt (length bs) known)
        ∙ ap (λ (x : ℕ). place_in (chunks [] (drop x (part c used segment))) j) (sym is_next)

    pub row_next : (next : ℕ) → next ≡ at + 1 + length bs → IsRowFrom c used segment next
    row_next next is_next = record {
      rest = rw is_next ((next_chunk c used segment at long lt (length bs) known room).0 to.rest);
      places = behind_places next is_next;
    }

-- behind the used part there is no label
pub row_end : {c : Content} (used : ℕ) {segment : ℕ} → 2 + 64 * segment + used ≤ length c → IsRowFrom c used segment used → (j : ℕ)
    → used ≤ j
    → place_in (row_by c used segment) j ≡ None
row_end {c} used {segment} long to j high =
    ap (place_in (row_by c used segment)) (omega arith) ∙ to.places (j - used)
    ∙ ap (λ (x : Option Row). place_in x (j - used)) (end_is c used _ long) ∙ get_or_past [] (j - used) None (omega arith)
