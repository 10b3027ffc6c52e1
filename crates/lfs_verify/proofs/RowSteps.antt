-- A row of chunks, read one chunk at a time.
use Rattle.std.proofs.Common.{◌≡◌, ◌<◌, ◌≤◌, ◌↔◌, ⊎_elim, ◌+◌, ◌-◌, ◌*◌, ℕ, suc, List, [], ◌∷◌, length, get_or, take, drop, map, Option}
use Rattle.std.proofs.Common.{Some, None, refl, sym, ◌∙◌, ap, subst, arith, length-take, length-drop, get_or-take, get_or-drop}
use Rattle.std.proofs.Math.Seq.{drop-cons}
use Rattle.std.proofs.lemmas.Bool.{cases_eq, cases_lt}
use Rattle.std.proofs.lemmas.List.{drop_all, drop-drop, length-map}
use Rattle.lfs_model.specs.Checkpoint.{CheckpointValue}
use Rattle.lfs_model.specs.Content.{Content, bytes_of, block}
use Rattle.lfs_model.specs.Device.{Cell, DeviceState, IsLawful, cell_at}
use Rattle.lfs_model.specs.Entry.{Entry, entry_of, entries_in}
use Rattle.lfs_model.specs.Fields.{read16, run}
use Rattle.lfs_model.specs.Fields as fields
use Rattle.lfs_model.specs.Reach.{View, Row, after, opened, chunks, row_by, address, view}
use Rattle.lfs_model.specs.Stands.{IsRows, used_in}
use Rattle.lfs_model.specs.Summary.{BlockNameValue, summary_in}
use Rattle.std.specs.Option.{option_map}
use Rattle.lfs_verify.specs.Rows.{HasRow, IsSummaryOf, part, from}
use Rattle.lfs_verify.specs.Tables.{IsUsedTable}
use Rattle.lfs_verify.specs.Take.{ReadsContent}
use Rattle.lfs_verify.proofs.Takes.{block_at}

abbrev Sectors : Type 0
Sectors = List Cell

has_after : (e : Option Entry) (x : Option Row) → HasRow (after e x) ↔ HasRow x
has_after e None = (λ h. absurd (cc (h.1)), λ h. absurd (cc (h.1)))
has_after e (Some row) = (λ h. (row, refl), λ h. (e ∷ row, refl))

pub both_then : {A B C : Type 0} → A ↔ B → B ↔ C → A ↔ C
both_then one two = (λ a. two.0 (one.0 a), λ c. one.1 (two.1 c))

pub same_rows : {x y : Option Row} → x ≡ y → HasRow x ↔ HasRow y
same_rows e = (subst HasRow e, subst HasRow (sym e))

-- the blocks of a chunk are passed by
wait : (es : List Entry) (ss : Sectors) → length es ≤ length ss → HasRow (chunks es ss) ↔ HasRow (chunks [] (drop (length es) ss))
wait [] ss le = (λ h. h, λ h. h)
wait (e ∷ es) [] le = absurd (omega arith)
wait (e ∷ es) (s ∷ ss) le =
    both_then (has_after (Some e) (chunks es ss)) (wait es ss (omega arith))

-- too few blocks
too_few : (es : List Entry) (ss : Sectors) → length ss < length es → HasRow (chunks es ss) → ⊥
too_few [] ss lt h = absurd (omega arith)
too_few (e ∷ es) [] lt h = absurd (cc (h.1))
too_few (e ∷ es) (s ∷ ss) lt h = too_few es ss (omega arith) ((has_after (Some e) (chunks es ss)).0 h)

-- a chunk at the front
front_is : (s : Cell) (ss : Sectors) {es : List Entry} → entries_in (bytes_of s) ≡ Some es → chunks [] (s ∷ ss) ≡ after None (chunks es ss)
front_is s ss {es} is = ap (λ (o : Option (List Entry)). opened o (λ es. chunks es ss)) is

front : (s : Cell) (ss : Sectors) {es : List Entry} → entries_in (bytes_of s) ≡ Some es
    → HasRow (chunks [] (s ∷ ss)) ↔ HasRow (chunks es ss)
front s ss {es} is = both_then (same_rows (front_is s ss is)) (has_after None (chunks es ss))

no_front : (s : Cell) (ss : Sectors) → entries_in (bytes_of s) ≡ None → HasRow (chunks [] (s ∷ ss)) → ⊥
no_front s ss is h =
    let e : chunks [] (s ∷ ss) ≡ None = ap (λ (o : Option (List Entry)). opened o (λ es. chunks es ss)) is in
    absurd (cc (sym e ∙ h.1))

module _ (c : Content) (used segment at : ℕ) (long : 2 + 64 * segment + used ≤ length c) (lt : at < used) where
  part_length : length (part c used segment) ≡ used
  unfolding part
  part_length = omega (arith, length-drop (2 + 64 * segment) c, length-take used (drop (2 + 64 * segment) c))

  -- the sector at a place, and those behind it
  pub here : Cell
  here = get_or (part c used segment) at None

  pub behind : Sectors
  behind = drop (suc at) (part c used segment)

  pub opens : from c used segment at ≡ chunks [] (here ∷ behind)
  unfolding from here behind
  opens = ap (chunks []) (drop-cons (part c used segment) at None (omega (arith, part_length)))

  sector_is : here ≡ cell_at c (2 + 64 * segment + at)
  unfolding part here
  sector_is = get_or-take used (drop (2 + 64 * segment) c) at None lt ∙ get_or-drop (2 + 64 * segment) c at None

  pub bytes_is : bytes_of here ≡ block c (2 + 64 * segment + at)
  bytes_is = ap bytes_of sector_is ∙ sym (block_at c (2 + 64 * segment + at) (omega arith))

  rest_length : length behind ≡ used - suc at
  unfolding behind
  rest_length = length-drop (suc at) (part c used segment) ∙ ap (λ (x : ℕ). x - suc at) part_length

  pub no_chunk : entries_in (block c (2 + 64 * segment + at)) ≡ None → HasRow (from c used segment at) → ⊥
  no_chunk is h = no_front here behind (ap entries_in bytes_is ∙ is) (subst HasRow opens h)

  module _ (n : ℕ) (names : IsSummaryOf (block c (2 + 64 * segment + at)) n) where
    pub opens_names : from c used segment at ≡ after None (chunks names.0 behind)
    opens_names = opens ∙ front_is here behind (ap entries_in bytes_is ∙ names.1)

    first : HasRow (from c used segment at) ↔ HasRow (chunks names.0 behind)
    first = both_then (same_rows opens) (front here behind (ap entries_in bytes_is ∙ names.1))

    pub cut_chunk : used ≤ at + n → HasRow (from c used segment at) → ⊥
    cut_chunk le h = too_few names.0 behind (omega (arith, names.2, rest_length)) (first.0 h)

    pub enough_behind : at + n < used → length names.0 ≤ length behind
    enough_behind few = omega (arith, names.2, rest_length)

    pub rest_is : drop (length names.0) behind ≡ drop (at + 1 + n) (part c used segment)
    unfolding behind
    rest_is = drop-drop (length names.0) (suc at) (part c used segment)
        ∙ ap (λ (x : ℕ). drop x (part c used segment)) (omega (arith, names.2))

    pub next_chunk : at + n < used → HasRow (from c used segment at) ↔ HasRow (from c used segment (at + 1 + n))
    unfolding from
    next_chunk few = both_then first (both_then (wait names.0 behind (enough_behind few)) (same_rows (ap (chunks []) rest_is)))

-- at the end
pub end_is : (c : Content) (used segment : ℕ) → 2 + 64 * segment + used ≤ length c → from c used segment used ≡ Some []
unfolding from part
end_is c used segment long =
    let a = length-take used (drop (2 + 64 * segment) c) in
    let e : drop used (take used (drop (2 + 64 * segment) c)) ≡ [] = drop_all used (take used (drop (2 + 64 * segment) c)) (omega arith) in
    ap (chunks []) e

pub from_end : (c : Content) (used segment : ℕ) → 2 + 64 * segment + used ≤ length c → HasRow (from c used segment used)
from_end c used segment long = ([], end_is c used segment long)

pub from_start : (c : Content) (used segment : ℕ) → from c used segment 0 ≡ row_by c used segment
unfolding from part row_by
from_start c used segment = refl

pub long_enough : {d d' : DeviceState} {c : Content} (used segment : ℕ) → IsLawful d → ReadsContent d d' c → 66 + 64 * segment ≤ d.size
    → used ≤ 64 → 2 + 64 * segment + used ≤ length c
long_enough used segment lawful reads inside few = omega (arith, lawful.size, ap length reads.content)

pub no_entries : entries_in [] ≡ None
unfolding entries_in summary_in read16 fields.part run
no_entries = refl

-- what a summary names, as entries
pub entries_some : (bytes : List ℕ) {names : List BlockNameValue} → Some names ≡ summary_in bytes
    → entries_in bytes ≡ Some (map entry_of names)
unfolding entries_in
entries_some bytes is = ap (option_map (map entry_of)) (sym is)

pub entries_none : (bytes : List ℕ) → None ≡ summary_in bytes → entries_in bytes ≡ None
unfolding entries_in
entries_none bytes is = ap (option_map (map entry_of)) (sym is)

pub names_of : (bytes : List ℕ) {names : List BlockNameValue} {n : ℕ} → Some names ≡ summary_in bytes → n ≡ length names
    → IsSummaryOf bytes n
names_of bytes {names} is long = (map entry_of names, entries_some bytes is, length-map names entry_of ∙ sym long)

pub names_at : {b : List ℕ} (bytes : List ℕ) → b ≡ bytes → {names : List BlockNameValue} {n : ℕ} → Some names ≡ summary_in bytes
    → n ≡ length names → IsSummaryOf b n
names_at bytes there {n = n} is long = subst (λ (b : List ℕ). IsSummaryOf b n) (sym there) (names_of bytes is long)

-- a segment's row, by its table
pub row_is : (c : Content) (k : CheckpointValue) (s : ℕ) → (view c k).row s ≡ row_by c (used_in (view c k) s) s
unfolding address
row_is c k s = refl

-- whole rows in the table are whole rows in the volume
pub rows_of : (c : Content) (k : CheckpointValue) {used : List ℕ} → IsUsedTable (view c k) used
    → ((s : ℕ) → s < length used → HasRow (row_by c (get_or used s 0) s)) → IsRows (view c k)
rows_of c k table rows s some = ⊎_elim
    (λ (lt : s < k.segments).
    let h = rows s (omega (arith, table.size)) in
    (h.0, row_is c k s ∙ ap (λ (u : ℕ). row_by c u s) (sym (table.each s lt)) ∙ h.1))
    (λ (le : k.segments ≤ s). absurd (omega (arith, table.past s le)))
    (cases_lt s k.segments)

-- no sector at all is a row
pub no_sectors : (c : Content) (s : ℕ) {u : ℕ} → u ≡ 0 → HasRow (row_by c u s)
unfolding row_by
no_sectors c s {u} none = ([], ap (λ (u : ℕ). row_by c u s) none)

pub no_rows : (c : Content) (k : CheckpointValue) {used : List ℕ} → IsUsedTable (view c k) used → (s : ℕ) → s < length used
    → (HasRow (row_by c (get_or used s 0) s) → ⊥) → IsRows (view c k) → ⊥
no_rows c k {used} table s lt none rows = ⊎_elim
    (λ (clean : get_or used s 0 ≡ 0). none (no_sectors c s clean))
    (λ (some : get_or used s 0 ≡ 0 → ⊥).
    let inside : s < k.segments = omega (arith, table.size) in
    let h = rows s (omega arith) in
    none (h.0, ap (λ (u : ℕ). row_by c u s) (table.each s inside) ∙ sym (row_is c k s) ∙ h.1))
    (cases_eq (get_or used s 0) 0)

pub too_many : {v : View} {used : List ℕ} → IsUsedTable v used → (s : ℕ) → s < length used → 64 < get_or used s 0 → ⊥
too_many {v} table s lt many =
    let inside : s < v.checkpoint.segments = omega (arith, table.size) in
    omega (arith, table.fit s, table.each s inside)
