-- What a run holds is what was last written.
use Rattle.std.proofs.Common.{◌≡◌, ◌≢◌, ℕ, zero, suc, ◌+◌, ◌-◌, ◌<◌, ◌≤◌, max, min, true, false, Bool, if◌then◌else◌}
use Rattle.std.proofs.Common.{List, [], ◌∷◌, length, Some, None, inl, inr, refl, sym, ap, subst, ◌∙◌, arith}
use Rattle.std.proofs.Common.{eq-eqb, get_or-set_same, get_or-set_other}
use Rattle.std.proofs.lemmas.Bool.{cases_eq, ne_eqb}
use Rattle.std.specs.Prelude.{slice_index_or}
use Rattle.lfs_model.specs.Device.{cell_at, put}
use Rattle.lfs_model.specs.declared.Order.{Order}
use Rattle.lfs_model.specs.declared.Order.TheVariants as order
use Rattle.lfs_device.specs.Event.{Event, Called, Kept, Shown, WriteRefused, SyncRefused, kept, last_kept}
use Rattle.lfs_device.specs.Fate.{Fate}
use Rattle.lfs_device.specs.File.{AreAnswers, content_after, orders_in, size_after}
use Rattle.lfs_device.specs.FileCalls.{ReadsFile, SyncsFile, from_file, from_run, is_sent, none_kept, sync_refused}
use Rattle.lfs_device.specs.History.{calls_of}
use Rattle.lfs_device.specs.HostCall.{Length, Read, Write, Sync}
use Rattle.lfs_device.specs.InOrder.{AreInOrder, orders_told}
use Rattle.lfs_device.specs.Runs.{IsEmpty, IsOf, Run, Takes, added, bytes_of, placed, taken}

-- a sector in its place
placed_length : (k : ℕ) (bytes : List ℕ) (sectors : List (List ℕ)) → k ≤ length sectors
    → length (placed k bytes sectors) ≡ max (length sectors) (k + 1)
placed_length zero bytes [] le = refl
placed_length zero bytes (old ∷ sectors) le = omega arith
placed_length (suc k) bytes [] le = absurd (omega (arith, le))
placed_length (suc k) bytes (old ∷ sectors) le =
    let before = placed_length k bytes sectors (omega (arith, le)) in omega (arith, before)

placed_there : (k : ℕ) (bytes : List ℕ) (sectors : List (List ℕ)) → k ≤ length sectors
    → slice_index_or (placed k bytes sectors) k [] ≡ bytes
placed_there zero bytes [] le = refl
placed_there zero bytes (old ∷ sectors) le = refl
placed_there (suc k) bytes [] le = absurd (omega (arith, le))
placed_there (suc k) bytes (old ∷ sectors) le = placed_there k bytes sectors (omega (arith, le))

placed_elsewhere : (k j : ℕ) (bytes : List ℕ) (sectors : List (List ℕ)) → j ≢ k
    → slice_index_or (placed k bytes sectors) j [] ≡ slice_index_or sectors j []
placed_elsewhere zero zero bytes sectors ne = absurd (ne refl)
placed_elsewhere zero (suc j) bytes [] ne = refl
placed_elsewhere zero (suc j) bytes (old ∷ sectors) ne = refl
placed_elsewhere (suc k) zero bytes [] ne = refl
placed_elsewhere (suc k) zero bytes (old ∷ sectors) ne = refl
placed_elsewhere (suc k) (suc j) bytes [] ne = refl
placed_elsewhere (suc k) (suc j) bytes (old ∷ sectors) ne = placed_elsewhere k j bytes sectors (λ e. ne (ap (λ (n : ℕ). suc n) e))

abbrev run : ℕ → List (List ℕ) → ℕ → Run
run first sectors ahead = record { first = first; sectors = sectors; ahead = ahead }

-- a sector before all, or in its place
module _ (first sector : ℕ) (bytes : List ℕ) (sectors : List (List ℕ)) (ahead left : ℕ) (low : first ≤ sector + 1)
    (high : sector ≤ first + length sectors) where
  abbrev with_it : ℕ → Run
  with_it before = record { first = min sector first; sectors = added before (sector - first) bytes sectors; ahead = left }

  own_in : (before : ℕ) → before ≡ first - sector → IsOf (with_it before) sector
  own_in zero e =
      let many = placed_length (sector - first) bytes sectors (omega (arith, high)) in
      record { low = omega arith; high = omega (arith, e, many, high) }
  own_in (suc before) e = record { low = omega arith; high = omega (arith, e) }

  bytes_in : (before : ℕ) → before ≡ first - sector → bytes_of (with_it before) sector ≡ bytes
  bytes_in zero e =
      let at : sector - min sector first ≡ sector - first = omega (arith, e) in
      ap (λ (k : ℕ). slice_index_or (placed (sector - first) bytes sectors) k []) at
      ∙ placed_there (sector - first) bytes sectors (omega (arith, high))
  bytes_in (suc before) e =
      let at : sector - min sector first ≡ 0 = omega (arith, e) in
      ap (λ (k : ℕ). slice_index_or (bytes ∷ sectors) k []) at

  still_in : (before k : ℕ) → before ≡ first - sector → IsOf (run first sectors ahead) k → IsOf (with_it before) k
  still_in zero k e of =
      let many = placed_length (sector - first) bytes sectors (omega (arith, high)) in
      let from = of.low in let end = of.high in
      record { low = omega (arith, from); high = omega (arith, e, end, many) }
  still_in (suc before) k e of =
      let from = of.low in let end = of.high in
      record { low = omega (arith, from); high = omega (arith, e, low, end) }

  had_in : (before k : ℕ) → before ≡ first - sector → k ≢ sector → IsOf (with_it before) k → IsOf (run first sectors ahead) k
  had_in zero k e ne of =
      let many = placed_length (sector - first) bytes sectors (omega (arith, high)) in
      let from = of.low in let end = of.high in
      record { low = omega (arith, e, from); high = omega (arith, e, high, end, many, ne) }
  had_in (suc before) k e ne of =
      let from = of.low in let end = of.high in
      record { low = omega (arith, e, low, from, ne); high = omega (arith, e, low, end) }

  other_in : (before k : ℕ) → before ≡ first - sector → k ≢ sector → IsOf (run first sectors ahead) k
      → bytes_of (with_it before) k ≡ bytes_of (run first sectors ahead) k
  other_in zero k e ne of =
      let from = of.low in
      let at : k - min sector first ≡ k - first = omega (arith, e) in
      ap (λ (j : ℕ). slice_index_or (placed (sector - first) bytes sectors) j []) at
      ∙ placed_elsewhere (sector - first) (k - first) bytes sectors (omega (arith, e, from, ne))
  other_in (suc before) k e ne of =
      let from = of.low in
      let at : k - min sector first ≡ suc (k - first) = omega (arith, e, low, from) in
      ap (λ (j : ℕ). slice_index_or (bytes ∷ sectors) j []) at

-- a run that takes a sector
module _ (first sector ahead : ℕ) (bytes : List ℕ) where
  pub has_own : (sectors : List (List ℕ)) → Takes (run first sectors ahead) sector
      → IsOf (taken (run first sectors ahead) sector bytes) sector
  has_own [] takes = own_in sector sector bytes [] ahead (ahead - (sector - sector)) (omega arith) (omega arith) (sector - sector) refl
  has_own (x ∷ sectors) takes =
      let on = takes (omega arith) in
      own_in first sector bytes (x ∷ sectors) ahead (ahead - (first - sector)) on.low on.high (first - sector) refl

  own_bytes : (sectors : List (List ℕ)) → Takes (run first sectors ahead) sector
      → bytes_of (taken (run first sectors ahead) sector bytes) sector ≡ bytes
  own_bytes [] takes = bytes_in sector sector bytes [] ahead (ahead - (sector - sector)) (omega arith) (omega arith) (sector - sector) refl
  own_bytes (x ∷ sectors) takes =
      let on = takes (omega arith) in
      bytes_in first sector bytes (x ∷ sectors) ahead (ahead - (first - sector)) on.low on.high (first - sector) refl

  has_still : (sectors : List (List ℕ)) → Takes (run first sectors ahead) sector → (k : ℕ) → IsOf (run first sectors ahead) k
      → IsOf (taken (run first sectors ahead) sector bytes) k
  has_still [] takes k of = absurd (let low = of.low in let high = of.high in omega (arith, low, high))
  has_still (x ∷ sectors) takes k of =
      let on = takes (omega arith) in
      still_in first sector bytes (x ∷ sectors) ahead (ahead - (first - sector)) on.low on.high (first - sector) k refl of

  had_other : (sectors : List (List ℕ)) → Takes (run first sectors ahead) sector → (k : ℕ) → k ≢ sector
      → IsOf (taken (run first sectors ahead) sector bytes) k → IsOf (run first sectors ahead) k
  had_other [] takes k ne of =
      let left = ahead - (sector - sector) in
      let had = had_in sector sector bytes [] ahead left (omega arith) (omega arith) (sector - sector) k refl ne of in
      absurd (let low = had.low in let high = had.high in omega (arith, low, high))
  had_other (x ∷ sectors) takes k ne of =
      let on = takes (omega arith) in
      had_in first sector bytes (x ∷ sectors) ahead (ahead - (first - sector)) on.low on.high (first - sector) k refl ne of

  other_bytes : (sectors : List (List ℕ)) → Takes (run first sectors ahead) sector → (k : ℕ) → k ≢ sector
      → IsOf (run first sectors ahead) k
      → bytes_of (taken (run first sectors ahead) sector bytes) k ≡ bytes_of (run first sectors ahead) k
  other_bytes [] takes k ne of = absurd (let low = of.low in let high = of.high in omega (arith, low, high))
  other_bytes (x ∷ sectors) takes k ne of =
      let on = takes (omega arith) in
      other_in first sector bytes (x ∷ sectors) ahead (ahead - (first - sector)) on.low on.high (first - sector) k refl ne of

-- what was told
pub told_same : (events : List Event) → orders_in (calls_of events) ≡ orders_told events
told_same [] = refl
told_same (Called (Length told) ∷ events) = told_same events
told_same (Called (Read offset bytes true) ∷ events) = told_same events
told_same (Called (Read offset bytes false) ∷ events) = told_same events
told_same (Called (Write offset bytes done) ∷ events) = told_same events
told_same (Called (Sync true) ∷ events) = ap (λ (orders : List Order). order.Sync ∷ orders) (told_same events)
told_same (Called (Sync false) ∷ events) = told_same events
told_same (Kept sector bytes ∷ events) = ap (λ (orders : List Order). order.Write sector bytes ∷ orders) (told_same events)
told_same (Shown sector bytes ∷ events) = told_same events
told_same (WriteRefused sector bytes ∷ events) = told_same events
told_same (SyncRefused ∷ events) = told_same events

-- a write more
last_own : (events : List Event) (sector k : ℕ) (bytes : List ℕ) → k ≡ sector → last_kept (Kept sector bytes ∷ events) k ≡ Some bytes
last_own events sector k bytes e =
    ap (λ (here : Bool). if here then Some bytes else last_kept events k) (eq-eqb k sector e)

last_other : (events : List Event) (sector k : ℕ) (bytes : List ℕ) → k ≢ sector
    → last_kept (Kept sector bytes ∷ events) k ≡ last_kept events k
last_other events sector k bytes ne =
    ap (λ (here : Bool). if here then Some bytes else last_kept events k) (ne_eqb k sector ne)

-- the bytes of the last write of each
pub last_is : (n : ℕ) (events : List Event) → AreInOrder n events → (k : ℕ) → IsOf (kept events) k
    → last_kept events k ≡ Some (bytes_of (kept events) k)
last_is n [] is k of = absurd (let low = of.low in let high = of.high in omega (arith, low, high))
last_is n (Called (Length told) ∷ events) is k of = last_is n events is.1 k of
last_is n (Called (Read offset bytes done) ∷ events) is k of = last_is n events is.1 k of
last_is n (Called (Write offset bytes true) ∷ events) is k of = absurd (let low = of.low in let high = of.high in omega (arith, low, high))
last_is n (Called (Write offset bytes false) ∷ events) is k of = last_is n events is.1 k of
last_is n (Called (Sync done) ∷ events) is k of = last_is n events is.1 k of
last_is n (Kept sector bytes ∷ events) is k of = elim (cases_eq k sector) [
  | inl e ↦ last_own events sector k bytes e
      ∙ ap (λ (b : List ℕ). Some b) (sym (own_bytes (kept events).first sector (kept events).ahead bytes (kept events).sectors is.2))
      ∙ ap (λ (j : ℕ). Some (bytes_of (taken (kept events) sector bytes) j)) (sym e)
  | inr ne ↦ let had = had_other (kept events).first sector (kept events).ahead bytes (kept events).sectors is.2 k ne of in
      last_other events sector k bytes ne ∙ last_is n events is.3 k had
      ∙ ap (λ (b : List ℕ). Some b)
      (sym (other_bytes (kept events).first sector (kept events).ahead bytes (kept events).sectors is.2 k ne had))
]
last_is n (Shown sector bytes ∷ events) is k of = last_is n events is.2 k of
last_is n (WriteRefused sector bytes ∷ events) is k of = last_is n events is.2 k of
last_is n (SyncRefused ∷ events) is k of = last_is n events is.1 k of

-- and no others were written
pub others_none : (n : ℕ) (events : List Event) → AreInOrder n events → (k : ℕ) → (IsOf (kept events) k → ⊥) → last_kept events k ≡ None
others_none n [] is k off = refl
others_none n (Called (Length told) ∷ events) is k off = others_none n events is.1 k off
others_none n (Called (Read offset bytes done) ∷ events) is k off = others_none n events is.1 k off
others_none n (Called (Write offset bytes true) ∷ events) is k off = refl
others_none n (Called (Write offset bytes false) ∷ events) is k off = others_none n events is.1 k off
others_none n (Called (Sync done) ∷ events) is k off = others_none n events is.1 k off
others_none n (Kept sector bytes ∷ events) is k off = elim (cases_eq k sector) [
  | inl e ↦ absurd (off (subst (IsOf (taken (kept events) sector bytes)) (sym e)
      (has_own (kept events).first sector (kept events).ahead bytes (kept events).sectors is.2)))
  | inr ne ↦ last_other events sector k bytes ne
      ∙ others_none n events is.3 k
      (λ of. off (has_still (kept events).first sector (kept events).ahead bytes (kept events).sectors is.2 k of))
]
others_none n (Shown sector bytes ∷ events) is k off = others_none n events is.2 k off
others_none n (WriteRefused sector bytes ∷ events) is k off = others_none n events is.2 k off
others_none n (SyncRefused ∷ events) is k off = others_none n events is.1 k off

-- the file holds them by its reckoning
cell_kept : {n : ℕ} (fate : Fate n) (events : List Event) → AreInOrder n events → (k : ℕ) (b : List ℕ) → last_kept events k ≡ Some b
    → cell_at (content_after fate (calls_of events)) k ≡ Some b
cell_kept fate [] is k b last = absurd (cc)
cell_kept fate (Called (Length told) ∷ events) is k b last = cell_kept fate events is.1 k b last
cell_kept fate (Called (Read offset bytes true) ∷ events) is k b last = cell_kept fate events is.1 k b last
cell_kept fate (Called (Read offset bytes false) ∷ events) is k b last = cell_kept fate events is.1 k b last
cell_kept fate (Called (Write offset bytes true) ∷ events) is k b last = absurd (cc)
cell_kept fate (Called (Write offset bytes false) ∷ events) is k b last = cell_kept fate events is.1 k b last
cell_kept fate (Called (Sync true) ∷ events) is k b last = cell_kept fate events is.1 k b last
cell_kept fate (Called (Sync false) ∷ events) is k b last = cell_kept fate events is.1 k b last
cell_kept {n} fate (Kept sector bytes ∷ events) is k b last = elim (cases_eq k sector) [
  | inl e ↦ let size = size_after fate (calls_of events) in
      let low : sector < length (content_after fate (calls_of events)) = omega (arith, size, is.0) in
      ap (λ (j : ℕ). cell_at (put (content_after fate (calls_of events)) sector bytes) j) e
      ∙ get_or-set_same (content_after fate (calls_of events)) sector (Some bytes) None low
      ∙ sym (last_own events sector k bytes e) ∙ last
  | inr ne ↦ get_or-set_other (content_after fate (calls_of events)) sector k (Some bytes) None ne
      ∙ cell_kept fate events is.3 k b (sym (last_other events sector k bytes ne) ∙ last)
]
cell_kept fate (Shown sector bytes ∷ events) is k b last = cell_kept fate events is.2 k b last
cell_kept fate (WriteRefused sector bytes ∷ events) is k b last = cell_kept fate events is.2 k b last
cell_kept fate (SyncRefused ∷ events) is k b last = cell_kept fate events is.1 k b last

-- so a read of the run answers as that says
pub keeps_answers : {n : ℕ} (fate : Fate n) (sector : ℕ) (bytes : List ℕ) {done : Bool} {old new : List Event}
    → ReadsFile sector bytes done old new → AreInOrder n old → IsOf (kept old) sector
    → AreAnswers fate (calls_of old) → AreAnswers fate (calls_of new)
keeps_answers {n} fate sector bytes {done} {old} {new} (from_run of is well made) in_order has are =
    subst (λ (events : List Event). AreAnswers fate (calls_of events)) (sym made)
    (are, cell_kept fate old in_order sector bytes (last_is n old in_order sector of ∙ ap (λ (b : List ℕ). Some b) (sym is)))
keeps_answers fate sector bytes (from_file off made) in_order has are = absurd (off has)

pub sent_by_sync : {old new : List Event} → SyncsFile true old new → IsEmpty (kept new)
sent_by_sync {old} {new} (none_kept none made) = subst (λ (events : List Event). IsEmpty (kept events)) (sym made) none
sent_by_sync {old} {new} (is_sent some made) = subst (λ (events : List Event). IsEmpty (kept events)) (sym made) refl
sent_by_sync {old} {new} (sync_refused some failed made) = absurd (cc)
