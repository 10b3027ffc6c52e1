-- What a write and a sync make of what a stop may leave.
use Rattle.std.proofs.Common.{◌≡◌, ◌⊎◌, ◌<◌, ◌≤◌, inl, inr, ℕ, zero, suc, Some, None, List, [], ◌∷◌, length, map, replicate, refl, sym, ◌∙◌}
use Rattle.std.proofs.Common.{ap, subst, arith, length-set, get_or-set_same, get_or-set_other}
use Rattle.std.specs.Prelude.{slice_set, slice_index_or, IsSome}
use Rattle.std.specs.List.{AllByRecursion, range_with_len}
use Rattle.std.proofs.lemmas.Bool.{cases_eq, cases_lt, false≢true}
use Rattle.std.proofs.lemmas.List.{ext_get_or, get_or_default, get_or_past, length-map, set-get_or, set-set}
use Rattle.std.proofs.lemmas.List.FromFn.{get_or-map-range_with_len, length-map-range_with_len}
use Rattle.lfs_model.specs.Device.{Cell, MayWriteUnit, cell_at, lose}
use Rattle.lfs_device.specs.declared.rows.Row.{Row}
use Rattle.lfs_device.specs.Memory.{present, present_at}
use Rattle.lfs_device.specs.Rows.{After, AreSectorRows, CanLeave, CellLeft, IsTouched, PassedThrough, present_of, row_at, settled}
use Rattle.lfs_device.specs.Rows.{stands_at, left_synced, left_present, left_spoilt, left_written, left_before}
use Rattle.lfs_device.specs.Unsynced.{IsSyncedAt}
use Rattle.lfs_device.proofs.UnsyncedLists.{each_new, each_settled}

-- a row whose sector is written, done or failed
pub record Wrote (bytes : List ℕ) (old new : Row) : Type 0 where
  pub synced : new.synced ≡ old.synced
  pub written : new.written ≡ Some bytes
  pub present : (new.present ≡ old.present) ⊎ (new.present ≡ Some bytes)

abbrev Reaches : Type 1
Reaches = ℕ → Cell → Type 0

-- what a stop leaves of a sector that is written, comes from what one could leave of it before
own_back : {bytes : List ℕ} {old new : Row} {Touched Touched' : Type 0} {Before : Cell → Type 0} (x : Cell) → Wrote bytes old new
    → CellLeft new Touched' (CellLeft old Touched Before) x
    → (e : Cell) × CellLeft old Touched Before e × ((x ≡ e) ⊎ ((x ≡ Some bytes) ⊎ (x ≡ None)))
own_back x wrote (left_synced is) = (x, left_synced (is ∙ wrote.synced), inl refl)
own_back {old} x wrote (left_present is) = elim wrote.present [
  | inl same ↦ (x, left_present (is ∙ same), inl refl)
  | inr other ↦ (old.synced, left_synced refl, inr (inl (is ∙ other)))
]
own_back {old} x wrote (left_spoilt touched is) = (old.synced, left_synced refl, inr (inr is))
own_back {old} x wrote (left_written some is) = (old.synced, left_synced refl, inr (inl (is ∙ wrote.written)))
own_back x wrote (left_before some before) = (x, before, inl refl)

-- of another sector of the unit
beside_back : {row : Row} {Touched Touched' : Type 0} {Before : Cell → Type 0} (x : Cell)
    → CellLeft row Touched' (CellLeft row Touched Before) x → (e : Cell) × CellLeft row Touched Before e × ((x ≡ e) ⊎ (x ≡ None))
beside_back x (left_synced is) = (x, left_synced is, inl refl)
beside_back x (left_present is) = (x, left_present is, inl refl)
beside_back {row} x (left_spoilt touched is) = (row.synced, left_synced refl, inr is)
beside_back x (left_written some is) = (x, left_written some is, inl refl)
beside_back x (left_before some before) = (x, before, inl refl)

-- and of one of another unit
other_back : {row : Row} {Touched Touched' : Type 0} {Before : Cell → Type 0} {x : Cell} → (Touched' → Touched)
    → CellLeft row Touched' (CellLeft row Touched Before) x → CellLeft row Touched Before x
other_back back (left_synced is) = left_synced is
other_back back (left_present is) = left_present is
other_back back (left_spoilt touched is) = left_spoilt (back touched) is
other_back back (left_written some is) = left_written some is
other_back back (left_before some before) = before

-- what a stop could leave of a sector that isn't written, it can leave after the write
still_left : {row : Row} {Touched Touched' : Type 0} {Before : Cell → Type 0} {x : Cell} → (Touched → Touched')
    → CellLeft row Touched Before x → CellLeft row Touched' (CellLeft row Touched Before) x
still_left on (left_synced is) = left_synced is
still_left on (left_present is) = left_present is
still_left on (left_spoilt touched is) = left_spoilt (on touched) is
still_left on (left_written some is) = left_written some is
still_left on (left_before some before) = left_before some (left_before some before)

-- what a write makes of the cell at k
record Comes (unit : ℕ → ℕ) (s : ℕ) (bytes : List ℕ) (k : ℕ) (old new : Cell) : Type 0 where
  own : k ≡ s → (new ≡ old) ⊎ ((new ≡ Some bytes) ⊎ (new ≡ None))
  beside : unit k ≡ unit s → (k ≡ s → ⊥) → (new ≡ old) ⊎ (new ≡ None)
  others : (unit k ≡ unit s → ⊥) → new ≡ old

-- a content by a function of the sector
abbrev made : (ℕ → Cell) → ℕ → List Cell
made f n = map f (range_with_len 0 n)

made_at : (f : ℕ → Cell) (n k : ℕ) → k < n → cell_at (made f n) k ≡ f k
made_at f n k lt = get_or-map-range_with_len f 0 n k k None lt (omega arith)

module _ (unit : ℕ → ℕ) (rows : List Row) (s : ℕ) (new : Row) (lt : s < length rows) where
  abbrev changed : List Row
  changed = slice_set rows s new

  at_own : row_at changed s ≡ new
  at_own = get_or-set_same rows s new (stands_at None) lt

  at_other : (k : ℕ) → (k ≡ s → ⊥) → row_at changed k ≡ row_at rows k
  at_other k ne = get_or-set_other rows s k new (stands_at None) ne

  -- a unit that wasn't touched before is touched by this sector alone
  touched_back : (k : ℕ) → (IsSome new.written → unit k ≡ unit s → ⊥) → IsTouched unit changed k → IsTouched unit rows k
  touched_back k unwritten touched = elim (cases_eq touched.0 s) [
    | inl e ↦ absurd (unwritten (subst (λ (r : Row). IsSome r.written) (ap (row_at changed) e ∙ at_own) touched.2)
        (sym touched.1 ∙ ap unit e))
    | inr ne ↦ (touched.0, touched.1, subst (λ (r : Row). IsSome r.written) (at_other touched.0 ne) touched.2)
  ]

  module _ (some : IsSome new.written) where
    touched_now : (k : ℕ) → unit k ≡ unit s → IsTouched unit changed k
    touched_now k same = (s, sym same, subst (λ (r : Row). IsSome r.written) (sym at_own) some)

    touched_on : (k : ℕ) → IsTouched unit rows k → IsTouched unit changed k
    touched_on k touched = elim (cases_eq touched.0 s) [
      | inl e ↦ touched_now k (sym touched.1 ∙ ap unit e)
      | inr ne ↦ (touched.0, touched.1, subst (λ (r : Row). IsSome r.written) (sym (at_other touched.0 ne)) touched.2)
    ]

  -- the sector is written
  module _ (Before : Reaches) (bytes : List ℕ) {old : Row} (is : old ≡ slice_index_or rows s old) (write : Wrote bytes old new) where
    wrote : Wrote bytes (row_at rows s) (row_at changed s)
    wrote = subst (Wrote bytes (row_at rows s)) (sym at_own)
        (subst (λ (r : Row). Wrote bytes r new) (is ∙ get_or_default rows s old (stands_at None) lt) write)

    some_new : IsSome new.written
    some_new = subst IsSome (sym write.written) refl

    own_from : (c : List Cell) → CanLeave unit changed (After unit rows Before) c
        → (x : Cell) × After unit rows Before s x × Comes unit s bytes s x (cell_at c s)
    own_from c left = let from = own_back (cell_at c s) wrote (left.each s) in (
      from.0,
      from.1,
      record {
        own = λ e. from.2;
        beside = λ e ne. absurd (ne refl);
        others = λ ne. absurd (ne refl);
      },
    )

    from_cell : (c : List Cell) → CanLeave unit changed (After unit rows Before) c → (k : ℕ)
        → (x : Cell) × After unit rows Before k x × Comes unit s bytes k x (cell_at c k)
    from_cell c left k = elim (cases_eq k s) [
      | inl e ↦ subst (λ (i : ℕ). (x : Cell) × After unit rows Before i x × Comes unit s bytes i x (cell_at c i)) (sym e) (own_from c left)
      | inr ne ↦
          let here : CellLeft (row_at rows k) (IsTouched unit changed k) (After unit rows Before k) (cell_at c k) =
          subst (λ (r : Row). CellLeft r (IsTouched unit changed k) (After unit rows Before k) (cell_at c k)) (at_other k ne)
          (left.each k) in
          elim (cases_eq (unit k) (unit s)) [
            | inl same ↦ (let from = beside_back (cell_at c k) here in (
              from.0,
              from.1,
              record {
                own = λ e. absurd (ne e);
                beside = λ e apart. from.2;
                others = λ apart. absurd (apart same);
              },
            ))
            | inr apart ↦ (
              cell_at c k,
              other_back (touched_back k (λ some same. apart same)) here,
              record {
                own = λ e. inl refl;
                beside = λ e other. inl refl;
                others = λ other. refl;
              },
            )
          ]
    ]

    -- each content that a stop may leave comes from one that it could leave before
    pub crash_set : (c : List Cell) → CanLeave unit changed (After unit rows Before) c
        → (d : List Cell) × CanLeave unit rows Before d × MayWriteUnit unit s bytes d c
    crash_set c left = (
      made f (length rows),
      record { size = length-map-range_with_len f 0 (length rows); each = λ k. (at_made k).0 },
      record {
        size = left.size ∙ length-set rows s new ∙ sym (length-map-range_with_len f 0 (length rows));
        own = (let comes = (at_made s).1 in comes.own refl);
        beside = λ k. (let comes = (at_made k).1 in comes.beside);
        others = λ k. (let comes = (at_made k).1 in comes.others);
      },
    )
      where
        f : ℕ → Cell
        f k = (from_cell c left k).0

        none_made : {k : ℕ} → length rows ≤ k → cell_at (made f (length rows)) k ≡ None
        none_made {k} past = get_or_past (made f (length rows)) k None
            (let size = length-map-range_with_len f 0 (length rows) in omega (arith, size, past))

        same_past : {k : ℕ} → length rows ≤ k → cell_at c k ≡ cell_at (made f (length rows)) k
        same_past {k} past =
            let size = left.size in
            let same = length-set rows s new in
            get_or_past c k None (omega (arith, size, same, past)) ∙ sym (none_made past)

        at_made : (k : ℕ) → After unit rows Before k (cell_at (made f (length rows)) k)
            × Comes unit s bytes k (cell_at (made f (length rows)) k) (cell_at c k)
        at_made k = elim (cases_lt k (length rows)) [
          | inl inside ↦ subst (λ (x : Cell). After unit rows Before k x × Comes unit s bytes k x (cell_at c k))
              (sym (made_at f (length rows) k inside)) ((from_cell c left k).1, (from_cell c left k).2)
          | inr past ↦ (
            left_synced (none_made past ∙ sym (ap (λ (r : Row). r.synced) (get_or_past rows k (stands_at None) past))),
            record {
              own = λ e. inl (same_past past);
              beside = λ e ne. inl (same_past past);
              others = λ ne. same_past past;
            },
          )
        ]

    -- and each that comes so, it may leave
    pub spread_set : (d c : List Cell) → CanLeave unit rows Before d → MayWriteUnit unit s bytes d c
        → CanLeave unit changed (After unit rows Before) c
    spread_set d c left may = record {
      size = may.size ∙ left.size ∙ sym (length-set rows s new);
      each = λ k. elim (cases_eq k s) [
        | inl e ↦ subst (λ (i : ℕ). CellLeft (row_at changed i) (IsTouched unit changed i) (After unit rows Before i) (cell_at c i))
            (sym e) own
        | inr ne ↦ subst (λ (r : Row). CellLeft r (IsTouched unit changed k) (After unit rows Before k) (cell_at c k))
            (sym (at_other k ne)) (other k ne)
      ];
    }
      where
        own : CellLeft (row_at changed s) (IsTouched unit changed s) (After unit rows Before s) (cell_at c s)
        own = let some = subst (λ (r : Row). IsSome r.written) (sym at_own) some_new in elim may.own [
          | inl same ↦ left_before some (subst (After unit rows Before s) (sym same) (left.each s))
          | inr (inl is) ↦ left_written some (is ∙ sym wrote.written)
          | inr (inr bad) ↦ left_spoilt (touched_now some_new s refl) bad
        ]

        same_as : (k : ℕ) → cell_at c k ≡ cell_at d k
            → CellLeft (row_at rows k) (IsTouched unit changed k) (After unit rows Before k) (cell_at c k)
        same_as k same = subst (CellLeft (row_at rows k) (IsTouched unit changed k) (After unit rows Before k)) (sym same)
            (still_left (touched_on some_new k) (left.each k))

        other : (k : ℕ) → (k ≡ s → ⊥)
            → CellLeft (row_at rows k) (IsTouched unit changed k) (After unit rows Before k) (cell_at c k)
        other k ne = elim (cases_eq (unit k) (unit s)) [
          | inl same ↦ elim (may.beside k same ne) [ inl is ↦ same_as k is | inr bad ↦ left_spoilt (touched_now some_new k same) bad ]
          | inr apart ↦ same_as k (may.others k apart)
        ]

-- the sector is made unreadable
none_left : {Touched : Type 0} {Before : Cell → Type 0} {x : Cell} → CellLeft (stands_at None) Touched Before x → x ≡ None
none_left (left_synced is) = is
none_left (left_present is) = is
none_left (left_spoilt touched is) = is
none_left (left_written some is) = is
none_left (left_before some before) = absurd (false≢true some)

lose_leaves : (unit : ℕ → ℕ) (rows : List Row) (Before : Reaches) (s : ℕ) → s < length rows → (c : List Cell)
    → CanLeave unit (slice_set rows s (stands_at None)) (After unit rows Before) c
    → (d : List Cell) × CanLeave unit rows Before d × (c ≡ lose d s)
lose_leaves unit rows Before s lt c left = (
  slice_set c s (row_at rows s).synced,
  record { size = length-set c s _ ∙ size; each = each },
  sym (set-set c s (row_at rows s).synced None ∙ ap (slice_set c s) (sym none) ∙ set-get_or c s None),
)
  where
    size : length c ≡ length rows
    size = left.size ∙ length-set rows s _

    none : cell_at c s ≡ None
    none = none_left
        (subst (λ (r : Row). CellLeft r (IsTouched unit (slice_set rows s (stands_at None)) s) (After unit rows Before s) (cell_at c s))
        (at_own unit rows s (stands_at None) lt) (left.each s))

    other : (k : ℕ) → (k ≡ s → ⊥) → After unit rows Before k (cell_at c k)
    other k ne = other_back (touched_back unit rows s (stands_at None) lt k (λ some same. false≢true some))
        (subst (λ (r : Row). CellLeft r (IsTouched unit (slice_set rows s (stands_at None)) k) (After unit rows Before k) (cell_at c k))
        (at_other unit rows s (stands_at None) lt k ne) (left.each k))

    each : (k : ℕ) → After unit rows Before k (cell_at (slice_set c s (row_at rows s).synced) k)
    each k = elim (cases_eq k s) [
      | inl e ↦ subst (λ (i : ℕ). After unit rows Before i (cell_at (slice_set c s (row_at rows s).synced) i)) (sym e)
          (left_synced (get_or-set_same c s (row_at rows s).synced None (omega (arith, size, lt))))
      | inr ne ↦ subst (After unit rows Before k) (sym (get_or-set_other c s k (row_at rows s).synced None ne)) (other k ne)
    ]

-- what is synced, a stop leaves as it is
synced_cell : {row : Row} {Touched : Type 0} {Before : Cell → Type 0} {x : Cell} → settled row ≡ row → (Touched → ⊥)
    → CellLeft row Touched Before x → x ≡ row.present
synced_cell is alone (left_synced same) = same ∙ sym (ap (λ (r : Row). r.synced) is)
synced_cell is alone (left_present same) = same
synced_cell is alone (left_spoilt touched bad) = absurd (alone touched)
synced_cell is alone (left_written some same) = absurd (false≢true (subst (λ (r : Row). IsSome r.written) (sym is) some))
synced_cell is alone (left_before some before) = absurd (false≢true (subst (λ (r : Row). IsSome r.written) (sym is) some))

pub only_synced : (unit : ℕ → ℕ) (rows : List Row) (Before : Reaches) → ((k : ℕ) → IsSyncedAt rows k) → (c : List Cell)
    → CanLeave unit rows Before c → c ≡ map present_of rows
only_synced unit rows Before synced c left =
    ext_get_or None c (map present_of rows) (left.size ∙ sym (length-map rows present_of))
    (λ k inside. synced_cell (synced k) alone (left.each k) ∙ sym (present_at rows k))
  where
    alone : {k : ℕ} → IsTouched unit rows k → ⊥
    alone touched = false≢true (subst (λ (r : Row). IsSome r.written) (sym (synced touched.0)) touched.2)

pub were_whole : {rows : List Row} {past now : List (List Row)} → now ≡ rows ∷ past → AreSectorRows rows
    → AllByRecursion AreSectorRows past → AllByRecursion AreSectorRows now
were_whole is whole were = subst (AllByRecursion AreSectorRows) (sym is) (whole, were)

-- the same, of states that are known by an equation
module _ (unit : ℕ → ℕ) {rows : List Row} {past now : List (List Row)} (is_now : now ≡ rows ∷ past) where
  pub crash_write : (s : ℕ) (bytes : List ℕ) {old : Row} (new : Row) → s < length rows → old ≡ slice_index_or rows s old
      → Wrote bytes old new → (c : List Cell) → CanLeave unit (slice_set rows s new) (PassedThrough unit now) c
      → (d : List Cell) × CanLeave unit rows (PassedThrough unit past) d × MayWriteUnit unit s bytes d c
  crash_write s bytes new lt is wrote c left = crash_set unit rows s new lt (PassedThrough unit past) bytes is wrote c
      (subst (λ (l : List (List Row)). CanLeave unit (slice_set rows s new) (PassedThrough unit l) c) is_now left)

  pub crash_spreads : (s : ℕ) (bytes : List ℕ) {old : Row} (new : Row) → s < length rows → old ≡ slice_index_or rows s old
      → Wrote bytes old new → (d c : List Cell) → CanLeave unit rows (PassedThrough unit past) d → MayWriteUnit unit s bytes d c
      → CanLeave unit (slice_set rows s new) (PassedThrough unit now) c
  crash_spreads s bytes new lt is wrote d c left may =
      subst (λ (l : List (List Row)). CanLeave unit (slice_set rows s new) (PassedThrough unit l) c) (sym is_now)
      (spread_set unit rows s new lt (PassedThrough unit past) bytes is wrote d c left may)

  pub lost_leaves : (s : ℕ) (row : Row) → s < length rows → row ≡ stands_at None → (c : List Cell)
      → CanLeave unit (slice_set rows s row) (PassedThrough unit now) c
      → (d : List Cell) × CanLeave unit rows (PassedThrough unit past) d × (c ≡ lose d s)
  lost_leaves s row lt is c left =
      lose_leaves unit rows (PassedThrough unit past) s lt c
      (subst (λ (r : Row). CanLeave unit (slice_set rows s r) (After unit rows (PassedThrough unit past)) c) is
      (subst (λ (l : List (List Row)). CanLeave unit (slice_set rows s row) (PassedThrough unit l) c) is_now left))

-- a row that is written over
pub present_set : (rows : List Row) (s : ℕ) (new : Row)
    → map present_of (slice_set rows s new) ≡ slice_set (map present_of rows) s new.present
present_set [] s new = refl
present_set (row ∷ rows) zero new = refl
present_set (row ∷ rows) (suc s) new = ap (λ (l : List Cell). row.present ∷ l) (present_set rows s new)

pub present_same : (rows : List Row) (s : ℕ) {old : Row} (new : Row) → old ≡ slice_index_or rows s old → new.present ≡ old.present
    → map present_of (slice_set rows s new) ≡ map present_of rows
present_same [] s new is same = refl
present_same (row ∷ rows) zero new is same = ap (λ (x : Cell). x ∷ map present_of rows) (same ∙ ap present_of is)
present_same (row ∷ rows) (suc s) {old} new is same = ap (λ (l : List Cell). row.present ∷ l) (present_same rows s new is same)

pub present_settled : (rows : List Row) → map present_of (map settled rows) ≡ map present_of rows
present_settled [] = refl
present_settled (row ∷ rows) = ap (λ (l : List Cell). row.present ∷ l) (present_settled rows)

pub present_after_sync : (old : List Row) {new : List Row} → new ≡ map settled old → map present_of new ≡ map present_of old
present_after_sync old is = ap (λ (rows : List Row). map present_of rows) is ∙ present_settled old

pub only_after_sync : (unit : ℕ → ℕ) (old new : List Row) (Before : Reaches) → new ≡ map settled old → (c : List Cell)
    → CanLeave unit new Before c → c ≡ map present_of new
only_after_sync unit old new Before is =
    only_synced unit new Before (subst (λ (rows : List Row). (k : ℕ) → IsSyncedAt rows k) (sym is) (each_settled old))

pub crash_after_sync : (unit : ℕ → ℕ) (old : List Row) {new : List Row} (Before Past : Reaches) → new ≡ map settled old → (c : List Cell)
    → CanLeave unit new Before c → CanLeave unit old Past c
crash_after_sync unit old {new} Before Past is c left =
    subst (CanLeave unit old Past) (sym (only_after_sync unit old new Before is c left ∙ present_after_sync old is)) (present unit old Past)

-- a new device
pub present_new : (n : ℕ) (x : Cell) → map present_of (replicate n (stands_at x)) ≡ replicate n x
present_new zero x = refl
present_new (suc n) x = ap (λ (l : List Cell). x ∷ l) (present_new n x)

pub present_if_new : (n : ℕ) (x : Cell) {rows : List Row} → rows ≡ replicate n (stands_at x) → map present_of rows ≡ replicate n x
present_if_new n x is = ap (λ (l : List Row). map present_of l) is ∙ present_new n x

pub only_if_new : (unit : ℕ → ℕ) (n : ℕ) (x : Cell) (rows : List Row) (Before : Reaches) → rows ≡ replicate n (stands_at x)
    → (c : List Cell) → CanLeave unit rows Before c → c ≡ map present_of rows
only_if_new unit n x rows Before is =
    only_synced unit rows Before (subst (λ (l : List Row). (k : ℕ) → IsSyncedAt l k) (sym is) (each_new n x))

pub lost_row : (rows : List Row) (s : ℕ) (row : Row) → row ≡ stands_at None
    → map present_of (slice_set rows s row) ≡ lose (map present_of rows) s
lost_row rows s row is = present_set rows s row ∙ ap (λ (r : Row). slice_set (map present_of rows) s r.present) is
