-- Which sectors of a memory device are unsynced.
use Rattle.std.proofs.Common.{◌≡◌, ◌<◌, ◌≤◌, ◌+◌, inl, inr, ◌||◌, ◌++◌, ℕ, zero, suc, Bool, true, false, not, cond, None, Some, List, []}
use Rattle.std.proofs.Common.{◌∷◌, length, map, drop, get_or, replicate, All, filter, nat_eq, refl, sym, ◌∙◌, ap, subst, arith, length-set}
use Rattle.std.specs.Prelude.{slice_set, slice_index_or, IsSome, is_none, if◌then◌else◌}
use Rattle.std.proofs.lemmas.Bool.{cases_eq, eq-eqb, ne_eqb, or_parts, false≢true}
use Rattle.std.proofs.lemmas.List.{drop_all, drop_more, get_or_default}
use Rattle.std.proofs.lemmas.List.Elements.{All-nil, All-push, All-filter}
use Rattle.std.proofs.lemmas.List.Folds.{list_any-append}
use Rattle.lfs_model.specs.Device.{Cell}
use Rattle.lfs_device.specs.declared.rows.Row.{Row}
use Rattle.lfs_device.specs.Rows.{stands_at, settled}
use Rattle.lfs_device.specs.Unsynced.{is_listed, IsSyncedAt, written_once, written_count, IsUnsyncedList}

abbrev no_row : Row
no_row = stands_at None

-- a row that is written over
abbrev at : List Row → ℕ → Row
at rows k = slice_index_or rows k no_row

at_same : (rows : List Row) (s : ℕ) (row : Row) → s < length rows → at (slice_set rows s row) s ≡ row
at_same [] s row lt = absurd (omega (arith, lt))
at_same (r ∷ rows) zero row lt = refl
at_same (r ∷ rows) (suc s) row lt = at_same rows s row (omega (arith, lt))

at_other : (rows : List Row) (s k : ℕ) (row : Row) → (k ≡ s → ⊥) → at (slice_set rows s row) k ≡ at rows k
at_other [] s k row apart = refl
at_other (r ∷ rows) zero zero row apart = absurd (apart refl)
at_other (r ∷ rows) zero (suc k) row apart = refl
at_other (r ∷ rows) (suc s) zero row apart = refl
at_other (r ∷ rows) (suc s) (suc k) row apart = at_other rows s k row (λ same. apart (ap (λ (n : ℕ). suc n) same))

synced_same : (rows : List Row) (s : ℕ) (x : Cell) → s < length rows → IsSyncedAt (slice_set rows s (stands_at x)) s
synced_same rows s x lt = subst (λ (row : Row). settled row ≡ row) (sym (at_same rows s (stands_at x) lt)) refl

synced_other : (rows : List Row) (s k : ℕ) (row : Row) → (k ≡ s → ⊥) → IsSyncedAt rows k → IsSyncedAt (slice_set rows s row) k
synced_other rows s k row apart is = subst (λ (r : Row). settled r ≡ r) (sym (at_other rows s k row apart)) is

-- numbers
apart_from : (k s : ℕ) → nat_eq k s ≡ false → k ≡ s → ⊥
apart_from k s missing same = false≢true (sym missing ∙ eq-eqb k s same)

neither : {a b : Bool} → a ≡ false → b ≡ false → (a || b) ≡ false
neither {b} first second = subst (λ (x : Bool). (x || b) ≡ false) (sym first) second

pub listed_first : (k s : ℕ) (rest : List ℕ) → (k ≡ s → ⊥) → is_listed k rest ≡ false → is_listed k (s ∷ rest) ≡ false
listed_first k s rest apart missing = neither (ne_eqb k s apart) missing

listed_last : (k s : ℕ) (listed : List ℕ) → is_listed k (listed ++ s ∷ []) ≡ false → (is_listed k listed ≡ false) × (k ≡ s → ⊥)
listed_last k s listed missing =
    let parts = or_parts (is_listed k listed) (is_listed k (s ∷ [])) (sym (list_any-append (nat_eq k) listed (s ∷ [])) ∙ missing) in
    (parts.0, apart_from k s (or_parts (nat_eq k s) false parts.1).0)

-- a sync: the listed sectors one after the other
synced_next : (rows : List Row) (s : ℕ) (x : Cell) (rest : List ℕ) → s < length rows
    → ((k : ℕ) → is_listed k (s ∷ rest) ≡ false → IsSyncedAt rows k)
    → (k : ℕ) → is_listed k rest ≡ false → IsSyncedAt (slice_set rows s (stands_at x)) k
synced_next rows s x rest lt others k missing = elim (cases_eq k s) [
  | inl same ↦ subst (IsSyncedAt (slice_set rows s (stands_at x))) (sym same) (synced_same rows s x lt)
  | inr apart ↦ synced_other rows s k (stands_at x) apart (others k (listed_first k s rest apart missing))
]

pub settled_set : (rows : List Row) (s : ℕ) {row : Row} → row ≡ slice_index_or rows s row
    → map settled (slice_set rows s (settled row)) ≡ map settled rows
settled_set [] s is = refl
settled_set (r ∷ rows) zero is = ap (λ (x : Row). settled x ∷ map settled rows) is
settled_set (r ∷ rows) (suc s) {row} is = ap (λ (l : List Row). settled r ∷ l) (settled_set rows s is)

all_synced : (rows : List Row) → ((k : ℕ) → IsSyncedAt rows k) → map settled rows ≡ rows
all_synced [] each = refl
all_synced (row ∷ rows) each = λ i. each 0 i ∷ all_synced rows (λ k. each (suc k)) i

-- The first i of the listed sectors are synced so far.
pub record Settling (old rows : List Row) (listed : List ℕ) (i : ℕ) : Type 0 where
  pub long : length rows ≡ length old
  pub same : map settled rows ≡ map settled old
  pub others : (k : ℕ) → is_listed k (drop i listed) ≡ false → IsSyncedAt rows k

pub settling_begins : {old : List Row} {listed : List ℕ} → IsUnsyncedList listed old → Settling old old listed 0
settling_begins is = record { long = refl; same = refl; others = is.others }

module _ {old rows : List Row} {listed : List ℕ} (is : IsUnsyncedList listed old) {i : ℕ} (was : Settling old rows listed i) where
  pub settling_within : i < length listed → get_or listed i 0 < length rows
  settling_within inside = let lt = is.within i 0 inside in let long = was.long in omega (arith, lt, long)

  pub settling_next : i < length listed → {row new : Row} → row ≡ get_or rows (get_or listed i 0) row → new ≡ stands_at row.present
      → Settling old (slice_set rows (get_or listed i 0) new) listed (i + 1)
  settling_next inside {row} own stands =
      let s : ℕ = get_or listed i 0 in
      subst (λ (r : Row). Settling old (slice_set rows s r) listed (i + 1)) (sym stands) (record {
        long = length-set rows s (stands_at row.present) ∙ was.long;
        same = settled_set rows s own ∙ was.same;
        others = synced_next rows s row.present (drop (i + 1) listed) (settling_within inside)
            (subst (λ (l : List ℕ). (k : ℕ) → is_listed k l ≡ false → IsSyncedAt rows k) (drop_more listed i 0 inside) was.others);
      })

  pub settling_ends : length listed ≤ i → rows ≡ map settled old
  settling_ends past = sym
      (all_synced rows (λ k. was.others k (subst (λ (l : List ℕ). is_listed k l ≡ false) (sym (drop_all i listed past)) refl))) ∙ was.same

-- no sector is listed
pub none_listed : (rows : List Row) → ((k : ℕ) → IsSyncedAt rows k) → IsUnsyncedList [] rows
none_listed rows each = record { within = All-nil _; others = λ k missing. each k; few = omega arith }

pub each_settled : (rows : List Row) (k : ℕ) → IsSyncedAt (map settled rows) k
each_settled [] k = refl
each_settled (row ∷ rows) zero = refl
each_settled (row ∷ rows) (suc k) = each_settled rows k

pub none_after_sync : {listed : List ℕ} (old new : List Row) → listed ≡ [] → new ≡ map settled old → IsUnsyncedList listed new
none_after_sync old new none is =
    subst (λ (l : List ℕ). IsUnsyncedList l new) (sym none)
    (subst (IsUnsyncedList []) (sym is) (none_listed (map settled old) (each_settled old)))

pub each_new : (n : ℕ) (x : Cell) (k : ℕ) → IsSyncedAt (replicate n (stands_at x)) k
each_new zero x k = refl
each_new (suc n) x zero = refl
each_new (suc n) x (suc k) = each_new n x k

pub none_if_new : {listed : List ℕ} (n : ℕ) (x : Cell) (rows : List Row) → listed ≡ [] → rows ≡ replicate n (stands_at x)
    → IsUnsyncedList listed rows
none_if_new n x rows none is =
    subst (λ (l : List ℕ). IsUnsyncedList l rows) (sym none)
    (subst (IsUnsyncedList []) (sym is) (none_listed (replicate n (stands_at x)) (each_new n x)))

-- how many were written
once_most : (b : Bool) → (if b then 0 else 1) ≤ 1
once_most true = omega arith
once_most false = omega arith

count_most : (rows : List Row) → written_count rows ≤ length rows
count_most [] = omega arith
count_most (row ∷ rows) = omega (arith, once_most (is_none row.written), count_most rows)

count_set : (rows : List Row) (s : ℕ) (row : Row) → s < length rows
    → written_count (slice_set rows s row) + written_once (at rows s) ≡ written_count rows + written_once row
count_set [] s row lt = absurd (omega (arith, lt))
count_set (r ∷ rows) zero row lt = omega arith
count_set (r ∷ rows) (suc s) row lt = omega (arith, count_set rows s row (omega (arith, lt)))

not_written : (row : Row) → is_none row.written ≡ true → written_once row ≡ 0
not_written row none = ap (λ (b : Bool). if b then 0 else 1) none

was_written : (row : Row) → is_none row.written ≡ false → written_once row ≡ 1
was_written row some = ap (λ (b : Bool). if b then 0 else 1) some

some_not_none : (x : Cell) → IsSome x → is_none x ≡ false
some_not_none None some = absurd (false≢true some)
some_not_none (Some bytes) some = refl

synced_not_written : {row : Row} → settled row ≡ row → written_once row ≡ 0
synced_not_written is = sym (ap written_once is)

-- a sector is written
module _ {listed : List ℕ} {rows : List Row} (s : ℕ) (is : IsUnsyncedList listed rows) (lt : s < length rows) where
  pub room_left : is_none (at rows s).written ≡ true → length listed < length rows
  room_left none =
      let few = is.few in
      let set = count_set rows s (record no_row { written = Some [] }) lt in
      let most = count_most (slice_set rows s (record no_row { written = Some [] })) in
      let same = length-set rows s (record no_row { written = Some [] }) in
      let before = not_written (at rows s) none in
      omega (arith, few, set, most, same, before)

  within_set : (row : Row) → All (λ t. t < length (slice_set rows s row)) listed
  within_set row = subst (λ (n : ℕ). All (λ t. t < n) listed) (sym (length-set rows s row)) is.within

  pub listed_again : is_none (at rows s).written ≡ false → (row : Row) → IsSome row.written → IsUnsyncedList listed (slice_set rows s row)
  listed_again some row now = record {
    within = within_set row;
    others = λ k missing. synced_other rows s k row (λ same. let zero_ = synced_not_written (subst (IsSyncedAt rows) same
        (is.others k missing)) in let one = was_written (at rows s) some in omega (arith, zero_, one)) (is.others k missing);
    few = let few = is.few in let set = count_set rows s row lt in let one = was_written (at rows s) some in
        let new = was_written row (some_not_none row.written now) in omega (arith, few, set, one, new);
  }

  pub listed_anew : is_none (at rows s).written ≡ true → (row : Row) → IsSome row.written
      → IsUnsyncedList (listed ++ s ∷ []) (slice_set rows s row)
  listed_anew none row now = record {
    within = All-push (λ t. t < length (slice_set rows s row)) listed s (within_set row)
        (subst (λ (n : ℕ). s < n) (sym (length-set rows s row)) lt);
    others = λ k missing. let parts = listed_last k s listed missing in synced_other rows s k row parts.1 (is.others k parts.0);
    few = let few = is.few in let set = count_set rows s row lt in let zero_ = not_written (at rows s) none in let new =
        was_written row (some_not_none row.written now) in let long = length_push listed in omega (arith, few, set, zero_, new, long);
  }
    where
      length_push : (l : List ℕ) → length (l ++ s ∷ []) ≡ length l + 1
      length_push [] = refl
      length_push (t ∷ l) = omega (arith, length_push l)

  -- and one is made unreadable
  abbrev others_of : List ℕ → List ℕ
  others_of l = filter (λ t. not (nat_eq t s)) l

  kept_listed : (l : List ℕ) {k : ℕ} → (k ≡ s → ⊥) → is_listed k (others_of l) ≡ false → is_listed k l ≡ false
  kept_listed [] apart missing = refl
  kept_listed (t ∷ l) {k} apart missing = elim (cases_eq t s) [
    | inl same ↦ listed_first k t l (λ too. apart (too ∙ same)) (kept_listed l apart
        (subst (λ (b : Bool). is_listed k (cond (not b) (t ∷ others_of l) (others_of l)) ≡ false) (eq-eqb t s same) missing))
    | inr other ↦
        let parts = or_parts (nat_eq k t) (is_listed k (others_of l))
        (subst (λ (b : Bool). is_listed k (cond (not b) (t ∷ others_of l) (others_of l)) ≡ false) (ne_eqb t s other) missing) in
        listed_first k t l (apart_from k t parts.0) (kept_listed l apart parts.1)
  ]

  no_longer : (l : List ℕ) → length (others_of l) ≤ length l
  no_longer [] = omega arith
  no_longer (t ∷ l) = elim (cases_eq t s) [
    | inl same ↦ subst (λ (b : Bool). length (cond (not b) (t ∷ others_of l) (others_of l)) ≤ length (t ∷ l)) (sym (eq-eqb t s same))
        (let rest = no_longer l in omega (arith, rest))
    | inr other ↦ subst (λ (b : Bool). length (cond (not b) (t ∷ others_of l) (others_of l)) ≤ length (t ∷ l)) (sym (ne_eqb t s other))
        (let rest = no_longer l in omega (arith, rest))
  ]

  shorter : (l : List ℕ) → is_listed s l ≡ true → length (others_of l) + 1 ≤ length l
  shorter [] listed_ = absurd (false≢true listed_)
  shorter (t ∷ l) listed_ = elim (cases_eq t s) [
    | inl same ↦ subst (λ (b : Bool). length (cond (not b) (t ∷ others_of l) (others_of l)) + 1 ≤ length (t ∷ l)) (sym (eq-eqb t s same))
        (let rest = no_longer l in omega (arith, rest))
    | inr other ↦ subst (λ (b : Bool). length (cond (not b) (t ∷ others_of l) (others_of l)) + 1 ≤ length (t ∷ l)) (sym (ne_eqb t s other))
        (let rest = shorter l (subst (λ (b : Bool). (b || is_listed s l) ≡ true) (ne_eqb s t (λ same. other (sym same))) listed_) in
        omega (arith, rest))
  ]

  few_kept : (row : Row) → row ≡ no_row → (b : Bool) → is_listed s listed ≡ b
      → length (others_of listed) ≤ written_count (slice_set rows s row)
  few_kept row unreadable true found =
      let few = is.few in let set = count_set rows s row lt in let most = once_most (is_none (at rows s).written) in
      let less = shorter listed found in
      let none = ap written_once unreadable in omega (arith, few, set, most, less, none)
  few_kept row unreadable false missing =
      let few = is.few in let set = count_set rows s row lt in let before = synced_not_written (is.others s missing) in
      let less = no_longer listed in
      let none = ap written_once unreadable in omega (arith, few, set, before, less, none)

  pub let_go_of : {new : List ℕ} (row : Row) → new ≡ others_of listed → row ≡ no_row → IsUnsyncedList new (slice_set rows s row)
  let_go_of row are unreadable = subst (λ (l : List ℕ). IsUnsyncedList l (slice_set rows s row)) (sym are) (record {
    within = All-filter (λ t. not (nat_eq t s)) (λ t. t < length (slice_set rows s row)) listed (within_set row);
    others = λ k missing. elim (cases_eq k s) [
      | inl same ↦ subst (IsSyncedAt (slice_set rows s row)) (sym same)
          (subst (λ (r : Row). IsSyncedAt (slice_set rows s r) s) (sym unreadable) (synced_same rows s None lt))
      | inr apart ↦ synced_other rows s k row apart (is.others k (kept_listed listed apart missing))
    ];
    few = few_kept row unreadable (is_listed s listed) refl;
  })

-- the row that is looked at
pub looked_at : (rows : List Row) (s : ℕ) {row : Row} (b : Bool) → s < length rows → row ≡ slice_index_or rows s row
    → is_none row.written ≡ b → is_none (slice_index_or rows s no_row).written ≡ b
looked_at rows s {row} b lt own is = ap (λ (r : Row). is_none r.written) (get_or_default rows s no_row row lt ∙ sym own) ∙ is

-- there stays room for as many numbers as there are sectors
pub room_set : (rows : List Row) (s : ℕ) (row : Row) (room : ℕ) → length rows ≤ room → length (slice_set rows s row) ≤ room
room_set rows s row room le = omega (arith, le, length-set rows s row)
