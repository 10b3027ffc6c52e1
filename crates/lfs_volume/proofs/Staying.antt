-- What places tell of a volume, and that they stay.
use Rattle.std.proofs.Common.{◌≡◌, inl, inr, ◌⊎◌, ◌||◌, ◌%◌, ◌<◌, ◌≤◌, ℕ, zero, suc, Bool, true, false, cond, not, nat_lt, Option, Some}
use Rattle.std.proofs.Common.{None, refl, sym, ◌∙◌, ap, arith}
use Rattle.std.proofs.lemmas.Bool.{cases_Bool, ltb-false}
use Rattle.std.specs.List.{AllByRecursion}
use Rattle.lfs_model.specs.Checkpoint.{CheckpointValue, Shape, checkpoint_in, is_last, layout_version, shape_of}
use Rattle.lfs_model.specs.Content.{Content, bytes_of, newest, slot, with_parity}
use Rattle.lfs_model.specs.Device.{Cell, IsSector}
use Rattle.lfs_model.specs.UnitLaws.{shape_by, shape_in}
use Rattle.lfs_model.proofs.Newest.{last_stands_alone, slot_newest}
use Rattle.lfs_places.specs.declared.Places.{Places}
use Rattle.lfs_places.specs.declared.Places.TheVariants.{Old, New}
use Rattle.lfs_places.specs.Lawful.{cells_are, cells_stand}
use Rattle.lfs_places.specs.Places.{place_of, volume_content, volume_size}
use Rattle.lfs_volume.specs.Finding.{found_places, holds_older, is_older}
use Rattle.lfs_volume.specs.FindingLaws.{NewAreLast, OldAreOlder, PlacesStay}

-- ---- the tests
-- where a volume stands, by the tests of it
abbrev found_by : Bool → Bool → Bool → Option Places
found_by small old other = cond small None (cond old (Some Old) (cond other None (Some New)))

old_tests : (small old other : Bool) → found_by small old other ≡ Some Old → (small ≡ false) × (old ≡ true)
old_tests true old other e = absurd (cc)
old_tests false true other e = (refl, refl)
old_tests false false true e = absurd (cc)
old_tests false false false e = absurd (cc)

new_tests : (small old other : Bool) → found_by small old other ≡ Some New → (small ≡ false) × (old ≡ false) × (other ≡ false)
new_tests true old other e = absurd (cc)
new_tests false true other e = absurd (cc)
new_tests false false true e = absurd (cc)
new_tests false false false e = (refl, refl, refl)

old_by : (small old other : Bool) → small ≡ false → old ≡ true → found_by small old other ≡ Some Old
old_by small old other is was = ap (λ b. found_by b old other) is ∙ ap (λ b. found_by false b other) was

new_by : (small old other : Bool) → small ≡ false → old ≡ false → other ≡ false → found_by small old other ≡ Some New
new_by small old other is was none =
    ap (λ b. found_by b old other) is ∙ ap (λ b. found_by false b other) was ∙ ap (λ b. found_by false false b) none

either : (a b : Bool) → (a || b) ≡ true → (a ≡ true) ⊎ (b ≡ true)
either true b e = inl refl
either false b e = inr e

neither : (a b : Bool) → (a || b) ≡ false → (a ≡ false) × (b ≡ false)
neither true b e = absurd (cc)
neither false b e = (refl, e)

first_true : (a b : Bool) → a ≡ true → (a || b) ≡ true
first_true a b e = ap (λ x. x || b) e

second_true : (a b : Bool) → b ≡ true → (a || b) ≡ true
second_true true b e = refl
second_true false b e = e

both_false : (a b : Bool) → a ≡ false → b ≡ false → (a || b) ≡ false
both_false a b e e' = ap (λ x. x || b) e ∙ e'

-- ---- what is older
older_some : (o : Option CheckpointValue) → is_older o ≡ true → (d : CheckpointValue) × (o ≡ Some d) × (is_last (layout_version d) ≡ false)
older_some None e = absurd (cc)
older_some (Some d) e = (d, refl, not_true (is_last (layout_version d)) e)
  where
    not_true : (b : Bool) → not b ≡ true → b ≡ false
    not_true true e = absurd (cc)
    not_true false e = refl

older_is : (o : Option CheckpointValue) (d : CheckpointValue) → o ≡ Some d → is_last (layout_version d) ≡ false → is_older o ≡ true
older_is o d is last = ap is_older is ∙ ap not last

not_older : (o : Option CheckpointValue) → ((d : CheckpointValue) → o ≡ Some d → is_last (layout_version d) ≡ true) → is_older o ≡ false
not_older None each = refl
not_older (Some d) each = ap not (each d refl)

last_is : (o : Option CheckpointValue) (d : CheckpointValue) → o ≡ Some d → is_older o ≡ false → is_last (layout_version d) ≡ true
last_is o d is none = not_false (is_last (layout_version d)) (sym (ap is_older is) ∙ none)
  where
    not_false : (b : Bool) → not b ≡ false → b ≡ true
    not_false true e = refl
    not_false false e = absurd (cc)

-- ---- what the slots of a volume hold
-- a slot of the volume is one of the device
slot_at : (places : Places) (c : Content) (p : ℕ) → is_older (slot (volume_content places c) p) ≡ holds_older c (place_of places p) p
slot_at places c p = ap (λ (x : Cell). is_older (with_parity p (checkpoint_in (bytes_of x)))) (cells_stand places c p)

-- A slot of two holds the newest.
newest_slot : (c : Content) (k : CheckpointValue) → newest c ≡ Some k → (slot c 0 ≡ Some k) ⊎ (slot c 1 ≡ Some k)
newest_slot c k is = go (k.number % 2) (omega arith) (slot_newest c k is)
  where
    go : (p : ℕ) → p < 2 → slot c p ≡ Some k → (slot c 0 ≡ Some k) ⊎ (slot c 1 ≡ Some k)
    go zero lt e = inl e
    go (suc zero) lt e = inr e
    go (suc (suc p)) lt e = absurd (omega (arith, lt))

-- Where the newest is older, a slot holds an older one.
some_older : (c : Content) (k : CheckpointValue) → newest c ≡ Some k → is_last (layout_version k) ≡ false
    → (holds_older c 0 0 || holds_older c 1 1) ≡ true
some_older c k is last = elim (newest_slot c k is) [
  | inl first ↦ first_true (holds_older c 0 0) (holds_older c 1 1) (older_is (slot c 0) k first last)
  | inr second ↦ second_true (holds_older c 0 0) (holds_older c 1 1) (older_is (slot c 1) k second last)
]

-- Where a slot holds an older one, the newest is older.
newest_older : (c : Content) → AllByRecursion IsSector c → (holds_older c 0 0 || holds_older c 1 1) ≡ true → (k : CheckpointValue)
    → newest c ≡ Some k → is_last (layout_version k) ≡ false
newest_older c all some k is = elim (cases_Bool (is_last (layout_version k))) [
  | inl last ↦ absurd (elim (either (holds_older c 0 0) (holds_older c 1 1) some) [
    | inl first ↦ none last 0 (omega arith) first
    | inr second ↦ none last 1 (omega arith) second
  ])
  | inr other ↦ other
]
  where
    none : is_last (layout_version k) ≡ true → (p : ℕ) → p < 2 → is_older (slot c p) ≡ true → ⊥
    none last p lt older =
        let has = older_some (slot c p) older in
        let is_so = last_stands_alone c all k is last p has.0 lt has.1 in
        let no : false ≡ true = sym has.2 ∙ is_so in
        cc

pub old_are_older : OldAreOlder
old_are_older n c all found k is =
    newest_older c all (old_tests (nat_lt n 4098) (holds_older c 0 0 || holds_older c 1 1) (nat_lt n 4352 || holds_older c 128 1) found).1
    k is

pub new_are_last : NewAreLast
new_are_last n c found k is =
    let tests = new_tests (nat_lt n 4098) (holds_older c 0 0 || holds_older c 1 1) (nat_lt n 4352 || holds_older c 128 1) found in
    let first = (neither (holds_older c 0 0) (holds_older c 1 1) tests.1).0 in
    let second = (neither (nat_lt n 4352) (holds_older c 128 1) tests.2).1 in
    elim (newest_slot (volume_content New c) k is) [
      | inl e ↦ last_is (slot (volume_content New c) 0) k e (slot_at New c 0 ∙ first)
      | inr e ↦ last_is (slot (volume_content New c) 1) k e (slot_at New c 1 ∙ second)
    ]

-- ---- they stay
some_is : {X : Type 0} {x y : X} → Some x ≡ Some y → x ≡ y
some_is is = cc is

shape_some : (o : Option CheckpointValue) (s : Shape) → shape_by o ≡ Some s → (d : CheckpointValue) × (o ≡ Some d) × (shape_of d ≡ s)
shape_some None s e = absurd (cc)
shape_some (Some d) s e = (d, refl, some_is e)

-- Volumes of one shape are both of the last version, or neither is.
same_last : (b c : Content) → shape_in c ≡ shape_in b → (k : CheckpointValue) → newest b ≡ Some k
    → (d : CheckpointValue) × (newest c ≡ Some d) × (is_last (layout_version d) ≡ is_last (layout_version k))
same_last b c same k is =
    let has = shape_some (newest c) (shape_of k) (same ∙ ap shape_by is) in
    (has.0, has.1, ap (λ (s : Shape). s.last) has.2)

stay_old : (n : ℕ) (b c : Content) → AllByRecursion IsSector b → found_places n b ≡ Some Old → shape_in c ≡ shape_in b
    → (k : CheckpointValue) → newest b ≡ Some k → found_places n c ≡ Some Old
stay_old n b c all found same k is =
    let tests = old_tests (nat_lt n 4098) (holds_older b 0 0 || holds_older b 1 1) (nat_lt n 4352 || holds_older b 128 1) found in
    let has = same_last b c same k is in
    old_by (nat_lt n 4098) (holds_older c 0 0 || holds_older c 1 1) (nat_lt n 4352 || holds_older c 128 1) tests.0
    (some_older c has.0 has.1 (has.2 ∙ newest_older b all tests.1 k is))

stay_new : (n : ℕ) (b c : Content) → AllByRecursion IsSector c → found_places n b ≡ Some New → holds_older c 1 1 ≡ false
    → shape_in (volume_content New c) ≡ shape_in (volume_content New b) → (k : CheckpointValue) → newest (volume_content New b) ≡ Some k
    → found_places n c ≡ Some New
stay_new n b c all found apart same k is =
    let tests = new_tests (nat_lt n 4098) (holds_older b 0 0 || holds_older b 1 1) (nat_lt n 4352 || holds_older b 128 1) found in
    let has = same_last (volume_content New b) (volume_content New c) same k is in
    let last = has.2 ∙ new_are_last n b found k is in
    new_by (nat_lt n 4098) (holds_older c 0 0 || holds_older c 1 1) (nat_lt n 4352 || holds_older c 128 1) tests.0
    (both_false (holds_older c 0 0) (holds_older c 1 1) (sym (slot_at New c 0) ∙ none has.0 has.1 last 0 (omega arith))
    apart)
    (both_false (nat_lt n 4352) (holds_older c 128 1) (neither (nat_lt n 4352) (holds_older b 128 1) tests.2).0
    (sym (slot_at New c 1) ∙ none has.0 has.1 last 1 (omega arith)))
  where
    none : (d : CheckpointValue) → newest (volume_content New c) ≡ Some d → is_last (layout_version d) ≡ true → (p : ℕ) → p < 2
        → is_older (slot (volume_content New c) p) ≡ false
    none d is last p lt = not_older (slot (volume_content New c) p)
        (λ x e. last_stands_alone (volume_content New c) (cells_are New c all) d is last p x lt e)

pub places_stay : PlacesStay
places_stay n Old b c before after found apart same k is = stay_old n b c before found same k is
places_stay n New b c before after found apart same k is = stay_new n b c after found (apart refl) same k is

-- ---- the sizes of devices by the same places
pub same_size : (n m : ℕ) (c : Content) (places : Places) → found_places n c ≡ Some places → volume_size places m ≡ volume_size places n
    → m ≡ n
same_size n m c Old found same = same
same_size n m c New found same =
    let tests = new_tests (nat_lt n 4098) (holds_older c 0 0 || holds_older c 1 1) (nat_lt n 4352 || holds_older c 128 1) found in
    let large : 4352 ≤ n = ltb-false n 4352 (neither (nat_lt n 4352) (holds_older c 128 1) tests.2).0 in
    omega (arith, large, same)
