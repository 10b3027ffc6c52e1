-- Writes that no sync is between: what a stop leaves is each sector as it was, as one of them writes it, or unreadable.
use Rattle.std.proofs.Common.{◌≡◌, ◌⊎◌, ◌<◌, inl, inr, ℕ, zero, suc, Bool, true, false, cond, Option, Some, None, List}
use Rattle.std.proofs.Common.{[], ◌∷◌, ◌++◌, length, refl, sym, ◌∙◌, ap, subst, arith, get_or-set_same, get_or-set_other}
use Rattle.std.proofs.lemmas.Bool.{cases_eq, eq-eqb, ne_eqb}
use Rattle.std.proofs.lemmas.List.{ext_get_or}
use Rattle.lfs_model.specs.Device.{Cell, MayWriteUnit, cell_at}
use Rattle.lfs_model.specs.declared.Order.{Order}
use Rattle.lfs_model.specs.declared.Order.TheVariants.{Write, Sync}
use Rattle.lfs_queue.specs.Orders.{MayLeave, content_after, size_after}
use Rattle.lfs_queue.specs.Stops.{AnySequenceLeaves, AreAmong, AreDoneFor, AreEnoughOf, AreSyncedFor, AreWrites, AreWritesOf}
use Rattle.lfs_queue.specs.Stops.{DoneLeavesTold, FewerLeaveNoMore, IsOneOf, LastIsEnough, ToldAreDone, are_done, last_bytes, none, synced}

-- ---- a content with some cells of another
abbrev chosen : (ℕ → Bool) → List Cell → List Cell → List Cell
chosen of [] new = []
chosen of (x ∷ old) [] = x ∷ old
chosen of (x ∷ old) (y ∷ new) = cond (of 0) y x ∷ chosen (λ k. of (suc k)) old new

chosen_length : (of : ℕ → Bool) (old new : List Cell) → length (chosen of old new) ≡ length old
chosen_length of [] new = refl
chosen_length of (x ∷ old) [] = refl
chosen_length of (x ∷ old) (y ∷ new) = ap suc (chosen_length (λ k. of (suc k)) old new)

chosen_at : (of : ℕ → Bool) (old new : List Cell) → length new ≡ length old → (k : ℕ)
    → cell_at (chosen of old new) k ≡ cond (of k) (cell_at new k) (cell_at old k)
chosen_at of [] [] same k = none_at (of k)
  where
    none_at : (b : Bool) → None ≡ cond b (cell_at [] k) (cell_at [] k)
    none_at true = refl
    none_at false = refl
chosen_at of [] (y ∷ new) same k = absurd (omega (arith, same))
chosen_at of (x ∷ old) [] same k = absurd (omega (arith, same))
chosen_at of (x ∷ old) (y ∷ new) same zero = refl
chosen_at of (x ∷ old) (y ∷ new) same (suc k) = chosen_at (λ j. of (suc j)) old new (omega (arith, same)) k

-- ---- what writes make of each cell
module _ (unit : ℕ → ℕ) where
  -- the cell is as it was, a write to its unit has made it unreadable, or one to it has given it its bytes
  data Comes (writes : List Order) (was now : Cell) (k : ℕ) : Type 0 where
    as_was : now ≡ was → Comes writes was now k
    spoilt : (sector : ℕ) (bytes : List ℕ) → unit k ≡ unit sector → IsOneOf (Write sector bytes) writes → now ≡ None
        → Comes writes was now k
    written : (bytes : List ℕ) → IsOneOf (Write k bytes) writes → now ≡ Some bytes → Comes writes was now k

  record Reaches (writes : List Order) (old new : List Cell) : Type 0 where
    pub size : length new ≡ length old
    pub each : (k : ℕ) → Comes writes (cell_at old k) (cell_at new k) k

  wider : {writes others : List Order} → AreAmong writes others → {was now : Cell} {k : ℕ} → Comes writes was now k
      → Comes others was now k
  wider among (as_was is) = as_was is
  wider among (spoilt sector bytes same one is) = spoilt sector bytes same (among (Write sector bytes) one) is
  wider among {k = k} (written bytes one is) = written bytes (among (Write k bytes) one) is

  -- the next write leaves a cell
  left_by_next : {order : Order} {writes : List Order} {was mid now : Cell} {k : ℕ} → Comes writes was mid k → now ≡ mid
      → Comes (order ∷ writes) was now k
  left_by_next (as_was is) same = as_was (same ∙ is)
  left_by_next (spoilt sector bytes unit_is one is) same = spoilt sector bytes unit_is (inr one) (same ∙ is)
  left_by_next (written bytes one is) same = written bytes (inr one) (same ∙ is)

  -- ---- one write more
  module _ (sector : ℕ) (bytes : List ℕ) (writes : List Order) where
    next_at : {old mid new : List Cell} → Reaches writes old mid → MayWriteUnit unit sector bytes mid new → (k : ℕ)
        → Comes (Write sector bytes ∷ writes) (cell_at old k) (cell_at new k) k
    next_at {old} {mid} {new} reaches may k = elim (cases_eq k sector) [
      | inl e ↦ subst (λ (j : ℕ). Comes (Write sector bytes ∷ writes) (cell_at old j) (cell_at new j) j) (sym e) (elim may.own [
        | inl same ↦ left_by_next (reaches.each sector) same
        | inr (inl is) ↦ written bytes (inl refl) is
        | inr (inr is) ↦ spoilt sector bytes refl (inl refl) is
      ])
      | inr ne ↦ elim (cases_eq (unit k) (unit sector)) [
        | inl e ↦ elim (may.beside k e ne) [
          | inl same ↦ left_by_next (reaches.each k) same
          | inr is ↦ spoilt sector bytes e (inl refl) is
        ]
        | inr other ↦ left_by_next (reaches.each k) (may.others k other)
      ]
    ]

    next_reaches : {old mid new : List Cell} → Reaches writes old mid → MayWriteUnit unit sector bytes mid new
        → Reaches (Write sector bytes ∷ writes) old new
    next_reaches reaches may = record {
      size = (let one = reaches.size in let two = may.size in omega (arith, one, two));
      each = next_at reaches may;
    }

    -- whether a cell was so before the last write
    abbrev before_last : {was now : Cell} {k : ℕ} → Comes (Write sector bytes ∷ writes) was now k → Bool
    before_last (as_was is) = true
    before_last (spoilt at other same (inl one) is) = false
    before_last (spoilt at other same (inr one) is) = true
    before_last (written other (inl one) is) = false
    before_last (written other (inr one) is) = true

    -- then it comes of those before
    comes_before : {was now : Cell} {k : ℕ} (comes : Comes (Write sector bytes ∷ writes) was now k)
        → Comes writes was (cond (before_last comes) now was) k
    comes_before (as_was is) = as_was is
    comes_before (spoilt at other same (inl one) is) = as_was refl
    comes_before (spoilt at other same (inr one) is) = spoilt at other same one is
    comes_before (written other (inl one) is) = as_was refl
    comes_before (written other (inr one) is) = written other one is

    -- and what becomes of it is what the last write may make
    data Ends (mid now : Cell) (k : ℕ) : Type 0 where
      left_so : now ≡ mid → Ends mid now k
      lost : unit k ≡ unit sector → now ≡ None → Ends mid now k
      put_there : k ≡ sector → now ≡ Some bytes → Ends mid now k

    ends : {was now : Cell} {k : ℕ} (comes : Comes (Write sector bytes ∷ writes) was now k) → Ends (cond (before_last comes) now was) now k
    ends (as_was is) = left_so refl
    ends {k = k} (spoilt at other same (inl one) is) = lost (same ∙ ap unit (cc one)) is
    ends (spoilt at other same (inr one) is) = left_so refl
    ends (written other (inl one) is) = put_there (cc one) (is ∙ ap Some (cc one))
    ends (written other (inr one) is) = left_so refl

    ends_write : {mid new : List Cell} → length new ≡ length mid → ((k : ℕ) → Ends (cell_at mid k) (cell_at new k) k)
        → MayWriteUnit unit sector bytes mid new
    ends_write {mid} {new} size each = record {
      size = size;
      own = own (each sector);
      beside = λ k e ne. beside k ne (each k);
      others = λ k ne. others k ne (each k);
    }
      where
        own : Ends (cell_at mid sector) (cell_at new sector) sector
            → (cell_at new sector ≡ cell_at mid sector) ⊎ ((cell_at new sector ≡ Some bytes) ⊎ (cell_at new sector ≡ None))
        own (left_so is) = inl is
        own (lost same is) = inr (inr is)
        own (put_there here is) = inr (inl is)

        beside : (k : ℕ) → (k ≡ sector → ⊥) → Ends (cell_at mid k) (cell_at new k) k
            → (cell_at new k ≡ cell_at mid k) ⊎ (cell_at new k ≡ None)
        beside k ne (left_so is) = inl is
        beside k ne (lost same is) = inr is
        beside k ne (put_there here is) = absurd (ne here)

        others : (k : ℕ) → (unit k ≡ unit sector → ⊥) → Ends (cell_at mid k) (cell_at new k) k → cell_at new k ≡ cell_at mid k
        others k ne (left_so is) = is
        others k ne (lost same is) = absurd (ne same)
        others k ne (put_there here is) = absurd (ne (ap unit here))

    -- the content before the last write
    record Before (old new : List Cell) : Type 0 where
      pub mid : List Cell
      pub reaches : Reaches writes old mid
      pub last : MayWriteUnit unit sector bytes mid new

    split : {old new : List Cell} → Reaches (Write sector bytes ∷ writes) old new → Before old new
    split {old} {new} all =
        let of : (ℕ → Bool) = λ k. before_last (all.each k) in
        let mid = chosen of old new in
        let long : length mid ≡ length old = chosen_length of old new in
        let at : ((k : ℕ) → cell_at mid k ≡ cond (of k) (cell_at new k) (cell_at old k)) = chosen_at of old new all.size in record {
          mid = mid;
          reaches = record {
            size = long;
            each = λ k. subst (λ (x : Cell). Comes writes (cell_at old k) x k) (sym (at k)) (comes_before (all.each k));
          };
          last = ends_write (let size = all.size in omega (arith, long, size))
              (λ k. subst (λ (x : Cell). Ends x (cell_at new k) k) (sym (at k)) (ends (all.each k)));
        }

  reaches_none : (c : List Cell) → Reaches [] c c
  reaches_none c = record { size = refl; each = λ k. as_was refl }

  none_same : {was now : Cell} {k : ℕ} → Comes [] was now k → now ≡ was
  none_same (as_was is) = is
  none_same (spoilt sector bytes same one is) = absurd one
  none_same (written bytes one is) = absurd one

  module _ (start : List Cell) where
    -- what a stop leaves behind writes, by what it leaves before them
    record Leaves (writes told : List Order) (c : List Cell) : Type 0 where
      pub before : List Cell
      pub left : MayLeave unit start told before
      pub reaches : Reaches writes before c

    to_cells : (writes told : List Order) → AreWrites writes → (c : List Cell) → MayLeave unit start (writes ++ told) c
        → Leaves writes told c
    to_cells [] told are c left = record { before = c; left = left; reaches = reaches_none c }
    to_cells (Write sector bytes ∷ writes) told are c left =
        let rest = to_cells writes told are left.0 left.1 in
        record { before = rest.before; left = rest.left; reaches = next_reaches sector bytes writes rest.reaches left.2 }
    to_cells (Sync ∷ writes) told are c left = absurd are

    from_cells : (writes told : List Order) → AreWrites writes → (before c : List Cell) → MayLeave unit start told before
        → Reaches writes before c
        → MayLeave unit start (writes ++ told) c
    from_cells [] told are before c left reaches = subst (MayLeave unit start told)
        (sym (ext_get_or None c before reaches.size (λ k lt. none_same (reaches.each k)))) left
    from_cells (Write sector bytes ∷ writes) told are before c left reaches =
        let one = split sector bytes writes reaches in
        (one.mid, from_cells writes told are before one.mid left one.reaches, one.last)
    from_cells (Sync ∷ writes) told are before c left reaches = absurd are

    some_leave : (writes others done told : List Order) → AreWritesOf writes others
        → ((d : List Cell) → MayLeave unit start done d → MayLeave unit start told d) → (c : List Cell)
        → MayLeave unit start (writes ++ done) c → MayLeave unit start (others ++ told) c
    some_leave writes others done told are below c left =
        let by = to_cells writes done are.writes c left in
        from_cells others told are.told_writes by.before c (below by.before by.left)
        (record { size = by.reaches.size; each = λ k. wider are.among (by.reaches.each k) })

-- ---- what they make of the content
abbrev over : Option (List ℕ) → Cell → Cell
over (Some bytes) was = Some bytes
over None was = was

module _ (start : List Cell) where
  last_at : (writes told : List Order) → AreWrites writes → (k : ℕ) → k < length start
      → cell_at (content_after start (writes ++ told)) k ≡ over (last_bytes writes k) (cell_at (content_after start told) k)
  last_at [] told are k lt = refl
  last_at (Write sector bytes ∷ writes) told are k lt = elim (cases_eq k sector) [
    | inl e ↦ rw (eq-eqb k sector e) (ap (cell_at (content_after start (Write sector bytes ∷ (writes ++ told)))) e
        ∙ get_or-set_same (content_after start (writes ++ told)) sector (Some bytes) None
        (let long = size_after start (writes ++ told) in omega (arith, long, lt, e)))
    | inr ne ↦ rw (ne_eqb k sector ne) (get_or-set_other (content_after start (writes ++ told)) sector k (Some bytes) None ne
        ∙ last_at writes told are k lt)
  ]
  last_at (Sync ∷ writes) told are k lt = absurd are

  same_content : (writes others done told : List Order) → AreEnoughOf writes others
      → content_after start done ≡ content_after start told
      → content_after start (writes ++ done) ≡ content_after start (others ++ told)
  same_content writes others done told enough below = ext_get_or None (content_after start (writes ++ done))
      (content_after start (others ++ told)) (size_after start (writes ++ done) ∙ sym (size_after start (others ++ told)))
      (λ k lt. (let inside : k < length start = (let long = size_after start (writes ++ done) in omega (arith, lt, long)) in
      last_at writes done enough.are.writes k inside ∙ ap (λ (o : Option (List ℕ)). over o (cell_at (content_after start done) k))
      (enough.last k)
      ∙ ap (λ (c : List Cell). over (last_bytes others k) (cell_at c k)) below
      ∙ sym (last_at others told enough.are.told_writes k inside)))

  synced_content : {done told : List Order} → AreSyncedFor done told → content_after start done ≡ content_after start told
  synced_content none = refl
  synced_content (synced {done} {told} writes others enough before) =
      same_content writes others done told enough (synced_content before)

synced_leaves : (unit : ℕ → ℕ) (start : List Cell) {done told : List Order} → AreSyncedFor done told → (c : List Cell)
    → MayLeave unit start done c → MayLeave unit start told c
synced_leaves unit start none c left = left
synced_leaves unit start (synced {done} {told} writes others enough before) c left =
    left ∙ same_content start writes others done told enough (synced_content start before)

-- ---- the laws
pub any_sequence_leaves : AnySequenceLeaves
any_sequence_leaves unit start writes others told one two c = (
  some_leave unit start writes others told told one (λ d left. left) c,
  some_leave unit start others writes told told two (λ d left. left) c,
)

pub fewer_leave_no_more : FewerLeaveNoMore
fewer_leave_no_more unit start writes others told are c left =
    some_leave unit start writes others told told are (λ d was. was) c left

pub last_is_enough : LastIsEnough
last_is_enough start writes others told enough = same_content start writes others told told enough refl

by_done : (unit : ℕ → ℕ) (start : List Cell) {done told : List Order} → AreDoneFor done told → (c : List Cell)
    → MayLeave unit start done c → MayLeave unit start told c
by_done unit start (are_done {done} {told} writes others are before) c left =
    some_leave unit start writes others done told are (synced_leaves unit start before) c left

pub done_leaves_told : DoneLeavesTold
done_leaves_told unit start done told are c left = by_done unit start are c left

-- the writes behind the last sync
record LastWrites (told : List Order) : Type 0 where
  pub writes : List Order
  pub before : List Order
  pub all : told ≡ writes ++ before
  pub are : AreWrites writes
  pub synced : AreSyncedFor before before

themselves : (writes : List Order) → AreWrites writes → AreWritesOf writes writes
themselves writes are = record { writes = are; told_writes = are; among = λ order one. one }

last_writes : (told : List Order) → LastWrites told
last_writes [] = record { writes = []; before = []; all = refl; are = tt; synced = none }
last_writes (Write sector bytes ∷ told) =
    let rest = last_writes told in record {
      writes = Write sector bytes ∷ rest.writes;
      before = rest.before;
      all = ap (λ (l : List Order). Write sector bytes ∷ l) rest.all;
      are = rest.are;
      synced = rest.synced;
    }
last_writes (Sync ∷ told) =
    let rest = last_writes told in record {
      writes = [];
      before = Sync ∷ told;
      all = refl;
      are = tt;
      synced = subst (λ (l : List Order). AreSyncedFor (Sync ∷ l) (Sync ∷ l)) (sym rest.all)
          (synced rest.writes rest.writes (record { are = themselves rest.writes rest.are; last = λ sector. refl }) rest.synced);
    }

pub told_are_done : ToldAreDone
told_are_done told =
    let last = last_writes told in
    subst (λ (l : List Order). AreDoneFor l l) (sym last.all)
    (are_done last.writes last.writes (themselves last.writes last.are) last.synced)
