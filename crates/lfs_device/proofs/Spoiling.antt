-- What a stop makes of the rows of a memory device.
use Rattle.std.proofs.Common.{◌≡◌, ◌⊎◌, ◌<◌, ◌≤◌, inl, inr, ℕ, zero, suc, ◌+◌, None, Some, List, [], ◌∷◌, length, map, get_or}
use Rattle.std.proofs.Common.{drop, All, Bool, true, false, refl, sym, ◌∙◌, ap, subst, arith}
use Rattle.std.specs.Prelude.{IsSome, is_none, is_some, if◌then◌else◌}
use Rattle.std.proofs.lemmas.Bool.{cases_eq, false≢true}
use Rattle.std.proofs.lemmas.List.{drop_all, drop_more, get_or_default, length-map}
use Rattle.lfs_model.specs.Device.{Cell}
use Rattle.lfs_device.specs.declared.rows.Row.{Row}
use Rattle.lfs_device.specs.declared.rows.Left.{Left}
use Rattle.lfs_device.specs.declared.rows.Left.TheVariants.{Old, New, Bad}
use Rattle.lfs_device.specs.Memory.{all_at, cell_left, present_at, whole_at}
use Rattle.lfs_device.specs.Rows.{AreSectorRows, AreSpoilt, CanLeave, CellLeft, IsSectorRow, IsTouched, IsUnitLost, chosen_row}
use Rattle.lfs_device.specs.Rows.{chosen_rows, first_or, present_of, row_at, settled, stands_at}
use Rattle.lfs_device.specs.Rows.{left_synced, left_present, left_spoilt, left_written}
use Rattle.lfs_device.specs.Unsynced.{IsSyncedAt, IsUnsyncedList, is_listed}
use Rattle.lfs_device.proofs.UnsyncedLists.{listed_first, none_listed}
use Rattle.lfs_device.proofs.Whole.{whole_at as whole_stands}

-- what is chosen of a sector
data IsChosen (row new : Row) : Type 0 where
  is_settled : new ≡ stands_at row.present → IsChosen row new
  is_old : IsSome row.written → new ≡ stands_at row.synced → IsChosen row new
  is_new : IsSome row.written → new ≡ stands_at row.written → IsChosen row new
  is_kept : IsSome row.written → new ≡ row → IsChosen row new

by_choice : (choice : Left) (row : Row) → IsSome row.written → IsChosen row (chosen_row choice row)
by_choice Old row some = is_old some refl
by_choice New row some = is_new some refl
by_choice Bad row some = is_kept some refl

-- whether something was written
pub was_it_written : (x : Cell) → (is_none x ≡ true) ⊎ ((is_none x ≡ false) × (IsSome x))
was_it_written None = inl refl
was_it_written (Some bytes) = inr (refl, refl)

first_chosen : (row : Row) (choice : Left) (xs ys : List Row)
    → IsChosen row (row_at (if is_none row.written then stands_at row.present ∷ xs else chosen_row choice row ∷ ys) 0)
first_chosen row choice xs ys = elim (was_it_written row.written) [
  | inl none ↦
      subst (λ (b : Bool). IsChosen row (row_at (if b then stands_at row.present ∷ xs else chosen_row choice row ∷ ys) 0)) (sym none)
      (is_settled refl)
  | inr some ↦
      subst (λ (b : Bool). IsChosen row (row_at (if b then stands_at row.present ∷ xs else chosen_row choice row ∷ ys) 0)) (sym some.0)
      (by_choice choice row some.1)
]

rest_chosen : (b : Bool) {row : Row} (x y : Row) (xs ys : List Row) (k : ℕ) → IsChosen row (row_at xs k) → IsChosen row (row_at ys k)
    → IsChosen row (row_at (if b then x ∷ xs else y ∷ ys) (suc k))
rest_chosen true x y xs ys k one two = one
rest_chosen false x y xs ys k one two = two

chosen_at : (choices : List Left) (rest : Left) (rows : List Row) (k : ℕ)
    → IsChosen (row_at rows k) (row_at (chosen_rows choices rest rows) k)
chosen_at choices rest [] k = is_settled refl
chosen_at choices rest (row ∷ rows) zero = first_chosen row (first_or rest choices) _ _
chosen_at choices rest (row ∷ rows) (suc k) =
    rest_chosen (is_none row.written) _ _ _ _ k (chosen_at choices rest rows k) (chosen_at (drop 1 choices) rest rows k)

pub length_either : (b : Bool) (x y : Row) (xs ys : List Row) {n : ℕ} → length xs ≡ n → length ys ≡ n
    → length (if b then x ∷ xs else y ∷ ys) ≡ n + 1
length_either true x y xs ys one two = omega (arith, one)
length_either false x y xs ys one two = omega (arith, two)

pub length-chosen_rows : (choices : List Left) (rest : Left) (rows : List Row) → length (chosen_rows choices rest rows) ≡ length rows
length-chosen_rows choices rest [] = refl
length-chosen_rows choices rest (row ∷ rows) =
    length_either (is_none row.written) _ _ _ _ (length-chosen_rows choices rest rows) (length-chosen_rows (drop 1 choices) rest rows)
    ∙ omega arith

-- what is still written after a choice, was written before it
written_before : {row new : Row} → IsChosen row new → IsSome new.written → IsSome row.written
written_before (is_settled is) some = absurd (false≢true (subst (λ (r : Row). IsSome r.written) is some))
written_before (is_old was is) some = was
written_before (is_new was is) some = was
written_before (is_kept was is) some = was

-- the sectors that aren't listed stay synced
pub unlisted_chosen : (choices : List Left) (rest : Left) (rows : List Row) (k : ℕ) → IsSyncedAt rows k
    → IsSyncedAt (chosen_rows choices rest rows) k
unlisted_chosen choices rest rows k synced = elim (chosen_at choices rest rows k) [
  | is_settled is ↦ subst (λ (r : Row). settled r ≡ r) (sym is) refl
  | is_old was is ↦ subst (λ (r : Row). settled r ≡ r) (sym is) refl
  | is_new was is ↦ subst (λ (r : Row). settled r ≡ r) (sym is) refl
  | is_kept was is ↦ subst (λ (r : Row). settled r ≡ r) (sym is) synced
]

-- each sector stands after a stop, with what a stop may leave of it
module _ (unit : ℕ → ℕ) (choices : List Left) (rest : Left) (old new : List Row)
    (are : AreSpoilt unit (chosen_rows choices rest old) new) where
  pub stopped_row : (Before : Cell → Type 0) (k : ℕ)
      → (x : Cell) × (row_at new k ≡ stands_at x) × CellLeft (row_at old k) (IsTouched unit old k) Before x
  stopped_row Before k = elim (are.each k) [
    | inl (touched, lost) ↦ (
      None,
      lost,
      left_spoilt (touched.0, touched.1, written_before (chosen_at choices rest old touched.0) touched.2) refl,
    )
    | inr (alone, same) ↦ elim (chosen_at choices rest old k) [
      | is_settled is ↦ ((row_at old k).present, same ∙ is, left_present refl)
      | is_old was is ↦ ((row_at old k).synced, same ∙ is, left_synced refl)
      | is_new was is ↦ ((row_at old k).written, same ∙ is, left_written was refl)
      | is_kept was is ↦ absurd (alone (k, refl, subst (λ (r : Row). IsSome r.written) (sym is) was))
    ]
  ]

  pub length_stopped : length new ≡ length old
  length_stopped = are.size ∙ length-chosen_rows choices rest old

  pub each_stopped : (k : ℕ) → IsSyncedAt new k
  each_stopped k = let row = stopped_row (λ x. ⊥) k in subst (λ (r : Row). settled r ≡ r) (sym row.1) refl

  pub none_after_stop : {listed : List ℕ} → listed ≡ [] → IsUnsyncedList listed new
  none_after_stop none = subst (λ (l : List ℕ). IsUnsyncedList l new) (sym none) (none_listed new each_stopped)

  pub whole_after_stop : AreSectorRows old → AreSectorRows new
  whole_after_stop whole = all_at IsSectorRow new (stands_at None) (λ k.
      let row = stopped_row (λ x. ⊥) k in
      subst IsSectorRow (sym row.1) (whole_stands row.0 (cell_left row.0 (whole_at old k whole) (λ none. absurd none) row.2)))

  -- a stop chooses a content that it may leave
  pub chosen_by_stop : (Before : ℕ → Cell → Type 0) → CanLeave unit old Before (map present_of new)
  chosen_by_stop Before = record {
    size = length-map new present_of ∙ length_stopped;
    each = λ k.
        let row = stopped_row (Before k) k in
        subst (CellLeft (row_at old k) (IsTouched unit old k) (Before k))
        (sym (present_at new k ∙ ap (λ (r : Row). r.present) row.1)) row.2;
  }

-- The first i of the listed sectors are done: where one was unsynced, its unit is lost.
pub record Spoiling (unit : ℕ → ℕ) (old rows : List Row) (listed : List ℕ) (i : ℕ) : Type 0 where
  pub size : length rows ≡ length old
  pub each : (k : ℕ) → (IsTouched unit old k × ((j : ℕ) → unit j ≡ unit k → row_at rows j ≡ stands_at None))
      ⊎ (((j : ℕ) → unit j ≡ unit k → row_at rows j ≡ row_at old j)
      × ((j : ℕ) → unit j ≡ unit k → is_listed j (drop i listed) ≡ false → IsSome (row_at old j).written → ⊥))

-- The sectors from begin on, up to this place, are lost.
pub record Losing (old rows : List Row) (begin place : ℕ) : Type 0 where
  pub size : length rows ≡ length old
  pub lost : (k : ℕ) → begin ≤ k → k < place → row_at rows k ≡ stands_at None
  pub before : (k : ℕ) → k < begin → row_at rows k ≡ row_at old k
  pub after : (k : ℕ) → place ≤ k → row_at rows k ≡ row_at old k

module _ (unit : ℕ → ℕ) {old rows : List Row} {listed : List ℕ} {i : ℕ} (was : Spoiling unit old rows listed i) where
  -- what isn't listed behind this place, isn't listed from it on, unless it stands there
  unlisted_from : i < length listed → (j : ℕ) → (j ≡ get_or listed i 0 → ⊥) → is_listed j (drop (i + 1) listed) ≡ false
      → is_listed j (drop i listed) ≡ false
  unlisted_from inside j ne missing =
      subst (λ (l : List ℕ). is_listed j l ≡ false) (sym (drop_more listed i 0 inside)) (listed_first j (get_or listed i 0) _ ne missing)

  spoiling_within : All (λ s. s < length old) listed → i < length listed → get_or listed i 0 < length rows
  spoiling_within within inside = let lt = within i 0 inside in let size = was.size in omega (arith, lt, size)

  -- the row that is looked at there
  row_there : All (λ s. s < length old) listed → i < length listed → {row : Row} → row ≡ get_or rows (get_or listed i 0) row
      → row_at rows (get_or listed i 0) ≡ row
  row_there within inside {row} own =
      get_or_default rows (get_or listed i 0) (stands_at None) row (spoiling_within within inside) ∙ sym own

  -- the sector that stands there is no more unsynced
  pub spoiling_passes : All (λ s. s < length old) listed → i < length listed → {row : Row} → row ≡ get_or rows (get_or listed i 0) row
      → is_some row.written ≡ false → Spoiling unit old rows listed (i + 1)
  spoiling_passes within inside {row} own none = record {
    size = was.size;
    each = λ k. elim (was.each k) [
      | inl lost ↦ inl lost
      | inr (same, past) ↦ inr (
        same,
        λ j e missing some. elim (cases_eq j (get_or listed i 0)) [
          | inl at ↦ false≢true (sym none ∙ ap (λ (r : Row). is_some r.written)
              (sym (row_there within inside own) ∙ sym (ap (row_at rows) at) ∙ same j e) ∙ some)
          | inr ne ↦ past j e (unlisted_from inside j ne missing) some
        ],
      )
    ];
  }

  -- it is, and then its unit is lost
  pub spoiling_loses : All (λ s. s < length old) listed → i < length listed → {row : Row} → row ≡ get_or rows (get_or listed i 0) row
      → is_some row.written ≡ true → {new : List Row} → IsUnitLost unit (get_or listed i 0) rows new
      → Spoiling unit old new listed (i + 1)
  spoiling_loses within inside {row} own unsynced {new} lost = record {
    size = lost.size ∙ was.size;
    each = λ k. elim (cases_eq (unit k) (unit (get_or listed i 0))) [
      | inl same ↦ inl ((get_or listed i 0, sym same, was_unsynced), λ j e. lost.own j (e ∙ same))
      | inr apart ↦ elim (was.each k) [
        | inl (touched, all) ↦ inl (touched, λ j e. lost.others j (λ e'. apart (sym e ∙ e')) ∙ all j e)
        | inr (same, past) ↦ inr (
          λ j e. lost.others j (λ e'. apart (sym e ∙ e')) ∙ same j e,
          λ j e missing some. past j e (unlisted_from inside j (λ at. apart (sym e ∙ ap unit at)) missing) some,
        )
      ]
    ];
  }
    where
      was_unsynced : IsSome (row_at old (get_or listed i 0)).written
      was_unsynced = elim (was.each (get_or listed i 0)) [
        | inl (touched, all) ↦ absurd (false≢true (ap (λ (r : Row). is_some r.written)
            (sym (all (get_or listed i 0) refl) ∙ row_there within inside own) ∙ unsynced))
        | inr (same, past) ↦ ap (λ (r : Row). is_some r.written)
            (sym (same (get_or listed i 0) refl) ∙ row_there within inside own) ∙ unsynced
      ]

  pub spoiling_ends : length listed ≤ i → AreSpoilt unit old rows
  spoiling_ends past_all = record {
    size = was.size;
    each = λ k. elim (was.each k) [
      | inl (touched, all) ↦ inl (touched, all k refl)
      | inr (same, past) ↦ inr (
        λ touched. past touched.0 touched.1
            (subst (λ (l : List ℕ). is_listed touched.0 l ≡ false) (sym (drop_all i listed past_all)) refl) touched.2,
        same k refl,
      )
    ];
  }
