-- What a write of the next checkpoint makes of the newest.
use Rattle.std.proofs.Common.{◌≡◌, ◌≢◌, ◌⊎◌, inl, inr, Bool, true, false, cond, nat_lt, ℕ, zero, suc, ◌+◌, ◌%◌, ◌^◌, ◌<◌, ◌≤◌, Option, Some}
use Rattle.std.proofs.Common.{None, Result, Ok, Err, OnOk, List}
use Rattle.std.proofs.Common.{length, refl, sym, ◌∙◌, ap, subst, arith, get_or-set_same, get_or-set_other}
use Rattle.std.proofs.lemmas.Bool.{cases_eq, le-ltb, lt-ltb}
use Rattle.lfs_model.specs.Checkpoint.{CheckpointValue, FitsCheckpoint, checkpoint_sector, is_last, layout_version, rank}
use Rattle.lfs_model.specs.Device.{Cell, cell_at, put, MayWriteUnit, AreSectors, DeviceState, IsLawful, Only, AllLeft, LeavesOnly}
use Rattle.lfs_model.specs.Device.{ComesFrom}
use Rattle.lfs_model.proofs.Moments.{weaker}
use Rattle.lfs_model.specs.Slots.{HoldsCheckpoint, SlotHolds, IsNewest, NewestIs, NewestIsOneOf}
use Rattle.lfs_model.proofs.Newest.{rank_next, rank_number}
use Rattle.lfs_model.proofs.Slots.{held_same}
use Rattle.lfs_model.proofs.CheckpointPlaces.{one_checkpoint}
use Rattle.lfs_root.specs.Apart.{SlotsApart}

some_is : {X : Type 0} {x y : X} → Some x ≡ Some y → x ≡ y
some_is is = cc is

-- a cell holds one checkpoint
pub one_held : {content : List Cell} {j k : ℕ} {c d : CheckpointValue} → j ≡ k → HoldsCheckpoint content j c → HoldsCheckpoint content k d
    → c ≡ d
one_held {content} {c} {d} same one two =
    one_checkpoint c d one.fits two.fits (some_is (sym one.spells ∙ ap (λ (i : ℕ). cell_at content i) same ∙ two.spells))

-- a content has one newest checkpoint
pub one_newest : (content : List Cell) (c d : CheckpointValue) → IsNewest content c → IsNewest content d → c ≡ d
one_newest content c d one two =
    let below : rank c ≤ rank d = two.greatest (c.number % 2) c (omega arith) one.held in
    let above : rank d ≤ rank c = one.greatest (d.number % 2) d (omega arith) two.held in
    let same : c.number ≡ d.number = rank_number c d one.held.fits.number_fits two.held.fits.number_fits (omega (arith, below, above)) in
    one_held (ap (λ (n : ℕ). n % 2) same) one.held two.held

slot_cases : (slot : ℕ) → slot < 2 → (slot ≡ 0) ⊎ (slot ≡ 1)
slot_cases zero lt = inl refl
slot_cases (suc zero) lt = inr refl
slot_cases (suc (suc slot)) lt = absurd (omega (arith, lt))

-- slots that lie apart are of different units
units_differ : (unit : ℕ → ℕ) → SlotsApart unit → (j k : ℕ) → j < 2 → k < 2 → (j ≡ k → ⊥) → unit j ≡ unit k → ⊥
units_differ unit apart j k low high ne same = elim (slot_cases j low) [
  | inl first ↦ elim (slot_cases k high) [
    | inl is ↦ ne (first ∙ sym is)
    | inr is ↦ apart (ap unit (sym first) ∙ same ∙ ap unit is)
  ]
  | inr second ↦ elim (slot_cases k high) [
    | inl is ↦ apart (ap unit (sym is) ∙ sym same ∙ ap unit second)
    | inr is ↦ ne (second ∙ sym is)
  ]
]

-- units that are sectors lie apart
pub sectors_apart : {unit : ℕ → ℕ} → AreSectors unit → SlotsApart unit
sectors_apart sectors same = let e : 0 ≡ 1 = sectors 0 1 same in absurd (omega (arith, e))

module _ {last next : CheckpointValue} (follows : next.number ≡ last.number + 1)
    (same_kind : is_last (layout_version next) ≡ is_last (layout_version last)) (fits : FitsCheckpoint next) {content : List Cell}
    (newest : IsNewest content last) where
  abbrev at : ℕ
  at = next.number % 2

  -- a content whose other slot is as it was
  module _ {e : List Cell} (elsewhere : (slot : ℕ) → slot < 2 → slot ≢ at → cell_at e slot ≡ cell_at content slot) where
    still_held : HoldsCheckpoint e (last.number % 2) last
    still_held =
        let ne : last.number % 2 ≢ at = λ same. absurd (omega (arith, follows, same)) in
        held_same e last (elsewhere (last.number % 2) (omega arith) ne) newest.held

    -- the slot is as it was
    newest_same : cell_at e at ≡ cell_at content at → IsNewest e last
    newest_same is = record {
      held = still_held;
      greatest = λ slot d lt held. elim (cases_eq slot at) [
        | inl same ↦ newest.greatest slot d lt (held_same content d (sym (ap (λ (i : ℕ). cell_at e i) same ∙ is
            ∙ sym (ap (λ (i : ℕ). cell_at content i) same))) held)
        | inr ne ↦ newest.greatest slot d lt (held_same content d (sym (elsewhere slot lt ne)) held)
      ];
    }

    -- the slot became unreadable
    newest_lost : cell_at e at ≡ None → IsNewest e last
    newest_lost is = record {
      held = still_held;
      greatest = λ slot d lt held. elim (cases_eq slot at) [
        | inl same ↦ (let none : None ≡ Some (checkpoint_sector d) = sym is ∙ ap (λ (i : ℕ). cell_at e i) (sym same) ∙ held.spells in
            absurd (cc none))
        | inr ne ↦ newest.greatest slot d lt (held_same content d (sym (elsewhere slot lt ne)) held)
      ];
    }

    -- the slot got the next checkpoint
    newest_written : cell_at e at ≡ Some (checkpoint_sector next) → IsNewest e next
    newest_written is =
        let written : HoldsCheckpoint e at next = record { fits = fits; spells = is; parity = refl } in
        record {
          held = written;
          greatest = λ slot d lt held. elim (cases_eq slot at) [
            | inl same ↦ (let is : d ≡ next = one_held same held written in
                let n : rank d ≡ rank next = ap rank is in omega (arith, n))
            | inr ne ↦ (let was = held_same content d (sym (elsewhere slot lt ne)) held in
                let le : rank d ≤ rank last = newest.greatest slot d lt was in
                let more : rank next ≡ rank last + 1 = rank_next last next follows same_kind in omega (arith, le, more))
          ];
        }

  -- a stop leaves the one or the other
  pub newest_torn : (unit : ℕ → ℕ) → SlotsApart unit → {e : List Cell} → MayWriteUnit unit at (checkpoint_sector next) content e
      → NewestIsOneOf last next e
  newest_torn unit apart {e} may = elim may.own [
    | inl is ↦ inl (newest_same elsewhere is)
    | inr (inl is) ↦ inr (newest_written elsewhere is)
    | inr (inr is) ↦ inl (newest_lost elsewhere is)
  ]
    where
      elsewhere : (slot : ℕ) → slot < 2 → slot ≢ at → cell_at e slot ≡ cell_at content slot
      elsewhere slot lt ne = may.others slot (units_differ unit apart slot at lt (omega arith) ne)

  -- what is written is newest
  pub newest_put : 2 ≤ length content → IsNewest (put content at (checkpoint_sector next)) next
  newest_put long =
      newest_written (λ slot lt ne. get_or-set_other content at slot (Some (checkpoint_sector next)) None ne)
      (let lt : at < 2 = omega arith in get_or-set_same content at (Some (checkpoint_sector next)) None (omega (arith, lt, long)))

-- one of an older version counts before one of the last
pub last_before : (b c : Bool) (i j : ℕ) → i < 2 ^ 64 → b ≡ true → c ≡ false
    → true ≡ nat_lt (cond b 0 (2 ^ 64) + i) (cond c 0 (2 ^ 64) + j)
last_before true true i j fits is other = absurd (cc other)
last_before true false i j fits is other = sym (lt-ltb (0 + i) (2 ^ 64 + j) (omega (arith, fits)))
last_before false c i j fits is other = absurd (cc is)

pub older_not_before : (b c : Bool) (i j : ℕ) → j < 2 ^ 64 → b ≡ false → c ≡ true
    → false ≡ nat_lt (cond b 0 (2 ^ 64) + i) (cond c 0 (2 ^ 64) + j)
older_not_before true c i j fits is other = absurd (cc is)
older_not_before false true i j fits is other = sym (le-ltb (2 ^ 64 + i) (0 + j) (omega (arith, fits)))
older_not_before false false i j fits is other = absurd (cc other)

-- the greater of what the two slots hold
held_by : (content : List Cell) (slot : ℕ) {x : Option CheckpointValue} {a : CheckpointValue} → x ≡ Some a → SlotHolds content slot x
    → HoldsCheckpoint content slot a
held_by content slot is held = subst (SlotHolds content slot) is held

at_parity : {content : List Cell} {slot : ℕ} {a : CheckpointValue} → HoldsCheckpoint content slot a
    → HoldsCheckpoint content (a.number % 2) a
at_parity {content} {a} held = subst (λ (s : ℕ). HoldsCheckpoint content s a) (sym held.parity) held

both : {content : List Cell} (a b : CheckpointValue) {c : CheckpointValue} → HoldsCheckpoint content 0 a → HoldsCheckpoint content 1 b
    → HoldsCheckpoint content (c.number % 2) c → rank a ≤ rank c → rank b ≤ rank c
    → IsNewest content c
both {content} a b one two held first second = record {
  held = held;
  greatest = λ slot d lt has. elim (slot_cases slot lt) [
    | inl zero_is ↦ (let is : d ≡ a = one_held zero_is has one in
        let n : rank d ≡ rank a = ap rank is in omega (arith, n, first))
    | inr one_is ↦ (let is : d ≡ b = one_held one_is has two in
        let n : rank d ≡ rank b = ap rank is in omega (arith, n, second))
  ];
}

pub newest_second : {content : List Cell} (x y : Option CheckpointValue) (a b : CheckpointValue) → x ≡ Some a → y ≡ Some b
    → (FitsCheckpoint a → FitsCheckpoint b → rank a < rank b) → SlotHolds content 0 x → SlotHolds content 1 y → IsNewest content b
newest_second {content} x y a b x_is y_is lt first second =
    let one = held_by content 0 x_is first in
    let two = held_by content 1 y_is second in
    let less = lt one.fits two.fits in
    both a b one two (at_parity two) (omega (arith, less)) (omega arith)

pub newest_first : {content : List Cell} (x y : Option CheckpointValue) (a b : CheckpointValue) → x ≡ Some a → y ≡ Some b
    → (FitsCheckpoint a → FitsCheckpoint b → rank b ≤ rank a) → SlotHolds content 0 x → SlotHolds content 1 y → IsNewest content a
newest_first {content} x y a b x_is y_is le first second =
    let one = held_by content 0 x_is first in
    let two = held_by content 1 y_is second in
    both a b one two (at_parity one) (omega arith) (le one.fits two.fits)

pub newest_alone : {content : List Cell} (x y : Option CheckpointValue) (a : CheckpointValue) → x ≡ Some a → y ≡ None
    → SlotHolds content 0 x → SlotHolds content 1 y → IsNewest content a
newest_alone {content} x y a x_is y_is first second =
    let one = held_by content 0 x_is first in
    let none = subst (SlotHolds content 1) y_is second in
    record {
      held = at_parity one;
      greatest = λ slot d lt has. elim (slot_cases slot lt) [
        | inl zero_is ↦ (let is : d ≡ a = one_held zero_is has one in
            let n : rank d ≡ rank a = ap rank is in omega (arith, n))
        | inr one_is ↦ absurd (none d (subst (λ (s : ℕ). HoldsCheckpoint content s d) one_is has))
      ];
    }

-- where slot 0 holds none, the other decides
newest_default : (content : List Cell) (y : Option CheckpointValue) → SlotHolds content 0 None → SlotHolds content 1 y → NewestIs content y
newest_default content None none second = λ slot d lt has. elim (slot_cases slot lt) [
  | inl zero_is ↦ none d (subst (λ (s : ℕ). HoldsCheckpoint content s d) zero_is has)
  | inr one_is ↦ second d (subst (λ (s : ℕ). HoldsCheckpoint content s d) one_is has)
]
newest_default content (Some b) none second = record {
  held = at_parity second;
  greatest = λ slot d lt has. elim (slot_cases slot lt) [
    | inl zero_is ↦ absurd (none d (subst (λ (s : ℕ). HoldsCheckpoint content s d) zero_is has))
    | inr one_is ↦ (let is : d ≡ b = one_held one_is has second in
        let n : rank d ≡ rank b = ap rank is in omega (arith, n))
  ];
}

pub newest_of_second : (content : List Cell) (x y : Option CheckpointValue) → x ≡ None → SlotHolds content 0 x → SlotHolds content 1 y
    → NewestIs content y
newest_of_second content x y x_is first second = newest_default content y (subst (SlotHolds content 0) x_is first) second

-- a checkpoint with the other slot's parity
pub misplaced : (content : List Cell) (slot : ℕ) {bytes : List ℕ} (c : CheckpointValue) → FitsCheckpoint c → bytes ≡ checkpoint_sector c
    → cell_at content slot ≡ Some bytes → c.number % 2 ≢ slot
    → SlotHolds content slot None
misplaced content slot c fits spelt cell other d held =
    let same : c ≡ d = one_checkpoint c d fits held.fits (sym spelt ∙ some_is (sym cell ∙ held.spells)) in
    other (ap (λ (x : CheckpointValue). x.number % 2) same ∙ held.parity)

-- the slots are read one after the other
pub found_newest : (x y z : List Cell) (first second : Option CheckpointValue) {found : Option CheckpointValue} (c : CheckpointValue)
    → y ≡ x → z ≡ y
    → SlotHolds y 0 first → SlotHolds z 1 second
    → ((content : List Cell) → SlotHolds content 0 first → SlotHolds content 1 second → NewestIs content found) → found ≡ Some c
    → IsNewest x c
found_newest x y z first second c y_is z_is one two decides is =
    let zero : SlotHolds x 0 first = subst (λ (l : List Cell). SlotHolds l 0 first) y_is one in
    let other : SlotHolds x 1 second = subst (λ (l : List Cell). SlotHolds l 1 second) (z_is ∙ y_is) two in
    subst (NewestIs x) is (decides x zero other)

-- the slot's write, where all that a stop could leave had the same newest checkpoint
-- two facts of an Ok
pub on_ok : {A E : Type 0} (r : Result A E) (P Q R : Type 0) → (P → Q → R) → OnOk r P → OnOk r Q → OnOk r R
on_ok (Ok x) P Q R gives p q = gives p q
on_ok (Err e) P Q R gives p q = tt

module _ (a b : DeviceState) (last : CheckpointValue) {next : CheckpointValue} (slot : ℕ) (bytes : List ℕ) (place : slot ≡ next.number % 2)
    (spelt : bytes ≡ checkpoint_sector next) (fits : FitsCheckpoint next) (lawful : IsLawful a) (two : 2 ≤ a.size)
    (all : AllLeft a (λ c. IsNewest c last)) (follows : next.number ≡ last.number + 1)
    (same_kind : is_last (layout_version next) ≡ is_last (layout_version last)) where
  pub one_of : SlotsApart a.unit → (x : List Cell) → ComesFrom a (MayWriteUnit a.unit slot bytes) x → NewestIsOneOf last next x
  one_of apart x from =
      newest_torn follows same_kind fits (all from.0 from.1) a.unit apart
      (subst (λ (s : List ℕ). MayWriteUnit a.unit (next.number % 2) s from.0 x) spelt
      (subst (λ (k : ℕ). MayWriteUnit a.unit k bytes from.0 x) place from.2))

  pub one_at_each_moment : SlotsApart a.unit → LeavesOnly a b (ComesFrom a (MayWriteUnit a.unit slot bytes))
      → LeavesOnly a b (NewestIsOneOf last next)
  one_at_each_moment apart leaves = weaker (ComesFrom a (MayWriteUnit a.unit slot bytes)) (NewestIsOneOf last next) (one_of apart) leaves

  pub next_alone : a.keeps_model → b.content ≡ put a.content slot bytes → Only b.content b → AllLeft b (λ c. IsNewest c next)
  next_alone keeps content only x left =
      let present = lawful.present keeps in
      let is : x ≡ put a.content (next.number % 2) (checkpoint_sector next) = only x left ∙ content
      ∙ ap (λ (s : List ℕ). put a.content slot s) spelt ∙ ap (λ (k : ℕ). put a.content k (checkpoint_sector next)) place in
      subst (λ (c : List Cell). IsNewest c next) (sym is)
      (newest_put follows same_kind fits (all a.content present) (omega (arith, two, lawful.size)))
