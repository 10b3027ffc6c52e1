-- The labels of a row of chunks, read one chunk at a time.
use Rattle.std.proofs.Common.{◌≡◌, ◌<◌, ◌≤◌, ◌+◌, ◌-◌, ℕ, zero, suc, List, [], ◌∷◌, length, get_or, drop, Option, Some, None}
use Rattle.std.proofs.Common.{refl, sym, ◌∙◌, ap, subst, arith, zero-add}
use Rattle.std.proofs.lemmas.List.{get_or_past}
use Rattle.lfs_model.specs.Device.{Cell}
use Rattle.lfs_model.specs.Entry.{Entry}
use Rattle.lfs_model.specs.Reach.{Row, after, opened, chunks, place_in}

-- it is a row
abbrev pub HasRow : Option Row → Type 0
HasRow x = (q : Row) × (x ≡ Some q)

-- ---- places of a row
after_first : (x : Option Row) → place_in (after None x) 0 ≡ None
after_first None = refl
after_first (Some row) = refl

after_next : (e : Option Entry) (x : Option Row) (i : ℕ) → place_in (after e x) (suc i) ≡ place_in x i
after_next e None i = refl
after_next e (Some row) i = refl

opened_first : (o : Option (List Entry)) (rest : List Entry → Option Row) → place_in (opened o rest) 0 ≡ None
opened_first None rest = refl
opened_first (Some es) rest = after_first (rest es)

after_label : (e : Entry) (x : Option Row) → HasRow (after (Some e) x) → place_in (after (Some e) x) 0 ≡ Some e
after_label e None h = let z = h.1 in absurd (cc)
after_label e (Some row) h = refl

rest_row : (e : Option Entry) (x : Option Row) → HasRow (after e x) → HasRow x
rest_row e None h = let z = h.1 in absurd (cc)
rest_row e (Some row) h = (row, refl)

-- the blocks of a chunk have its labels
label_here : (es : List Entry) (ss : List Cell) (d : Entry) (i : ℕ) → HasRow (chunks es ss) → i < length es
    → place_in (chunks es ss) i ≡ Some (get_or es i d)
label_here [] ss d i h lt = absurd (omega (arith, lt))
label_here (e ∷ es) [] d i h lt = let z = h.1 in absurd (cc)
label_here (e ∷ es) (s ∷ ss) d zero h lt = after_label e (chunks es ss) h
label_here (e ∷ es) (s ∷ ss) d (suc i) h lt = after_next (Some e) (chunks es ss) i
    ∙ label_here es ss d i (rest_row (Some e) (chunks es ss) h) (omega (arith, lt))

label_behind : (es : List Entry) (ss : List Cell) (j : ℕ) → length es ≤ length ss
    → place_in (chunks es ss) (length es + j) ≡ place_in (chunks [] (drop (length es) ss)) j
label_behind [] ss j le = ap (place_in (chunks [] ss)) (omega arith)
label_behind (e ∷ es) [] j le = absurd (omega (arith, le))
label_behind (e ∷ es) (s ∷ ss) j le =
    ap (place_in (after (Some e) (chunks es ss))) (omega arith) ∙ after_next (Some e) (chunks es ss) (length es + j)
    ∙ label_behind es ss j (omega (arith, le))

-- ---- a row, and what it is read as from each place on
module _ (row : Option Row) (from : ℕ → Option Row) where
  -- From a place on there are whole chunks.
  pub record IsRowFrom (at : ℕ) : Type 0 where
    pub rest : HasRow (from at)
    pub places : (j : ℕ) → place_in row (at + j) ≡ place_in (from at) j

  pub row_start : from 0 ≡ row → HasRow row → IsRowFrom 0
  row_start is has = record {
    rest = subst HasRow (sym is) has;
    places = λ j. ap (place_in row) (zero-add j) ∙ ap (λ (x : Option Row). place_in x j) (sym is);
  }

  -- behind the end there is no label
  pub row_end : (end : ℕ) → from end ≡ Some [] → IsRowFrom end → (j : ℕ) → end ≤ j → place_in row j ≡ None
  row_end end is to j high =
      ap (place_in row) (omega (arith, high)) ∙ to.places (j - end) ∙ ap (λ (x : Option Row). place_in x (j - end)) is
      ∙ get_or_past [] (j - end) None (omega arith)

  module _ (at : ℕ) (to : IsRowFrom at) where
    -- a summary has no label
    pub summary_place : (o : Option (List Entry)) (rest : List Entry → Option Row) → from at ≡ opened o rest → place_in row at ≡ None
    summary_place o rest opens =
        ap (place_in row) (omega arith) ∙ to.places 0 ∙ ap (λ (x : Option Row). place_in x 0) opens ∙ opened_first o rest

    -- the summary opens a chunk of these entries, and these sectors stand behind it
    module _ (es : List Entry) (ss : List Cell) (opens : from at ≡ after None (chunks es ss)) where
      place_behind : (j : ℕ) → place_in row (at + 1 + j) ≡ place_in (chunks es ss) j
      place_behind j =
          ap (place_in row) (omega arith) ∙ to.places (suc j) ∙ ap (λ (x : Option Row). place_in x (suc j)) opens
          ∙ after_next None (chunks es ss) j

      pub label_is : (d : Entry) (i : ℕ) → i < length es → place_in row (at + 1 + i) ≡ Some (get_or es i d)
      label_is d i small =
          place_behind i ∙ label_here es ss d i (rest_row None (chunks es ss) (subst HasRow opens to.rest)) small

      pub row_next : (next : ℕ) → next ≡ at + 1 + length es → length es ≤ length ss → from next ≡ chunks [] (drop (length es) ss)
          → HasRow (from next) → IsRowFrom next
      row_next next is enough behind has = record {
        rest = has;
        places = λ j.
            let e : next + j ≡ at + 1 + (length es + j) = omega (arith, is) in
            ap (place_in row) e ∙ place_behind (length es + j) ∙ label_behind es ss j enough
            ∙ ap (λ (x : Option Row). place_in x j) (sym behind);
      }
