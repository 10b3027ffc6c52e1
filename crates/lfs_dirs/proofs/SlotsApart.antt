-- Slots of which no two have one name: one of them may be replaced, or taken, and the last moved into its place.
use Rattle.std.specs.Prelude.{is_some, not}
use Rattle.std.proofs.Common.{◌≡◌, ◌≢◌, ◌≤◌, ◌+◌, ℕ, suc, true, false, cond, T, List, [], ◌∷◌, ◌++◌, length, Option, Some, None, refl, sym}
use Rattle.std.proofs.Common.{◌∙◌, ap, arith, length-append}
use Rattle.std.specs.List.{AllByRecursion}
use Rattle.std.specs.Ordering.{eq_by_cmp}
use Rattle.std.specs.Cmp.Lexicographic.{nat_list_cmp_total}
use Rattle.std.specs.FinMap.{find, put, is_sorted}
use Rattle.std.specs.FinMap.Entries.{find-put, is_sorted-put, is_sorted-where_key, length-put, length_without}
use Rattle.lfs_model.specs.Slot.{SlotValue, slot_in}
use Rattle.lfs_model.specs.Tree.{Names, byte_cmp, without}
use Rattle.lfs_model.specs.TreeOf.{map_of, with_slot}
use Rattle.lfs_model.proofs.Sums.{find_without}
use Rattle.lfs_dirs.specs.Directory.{LastSlotTaken, SlotReplaced, SlotTaken}
use Rattle.lfs_dirs.proofs.SlotNames.{found_behind, found_first, gives_none, gives_some, same_names, sorted_names, tied, ties}

module _ (form : ℕ) where
  abbrev gives : List ℕ → List (List ℕ) → Option ℕ
  gives name a = find byte_cmp name (map_of form a)

  abbrev pub AreApart : List (List ℕ) → Type 0
  AreApart a = length (map_of form a) ≡ length a

  abbrev pub AreFormed : List (List ℕ) → Type 0
  AreFormed a = AllByRecursion (λ b. slot_in form b ≢ None) a

  -- ---- no two have one name
  few_with : (o : Option SlotValue) (m : Names) (n : ℕ) (order : T (is_sorted byte_cmp m)) → length m ≤ n → length (with_slot o m) ≤ suc n
  few_with None m n order le = omega arith
  few_with (Some s) m n order le =
      elim (is_some (find byte_cmp s.name m)) as (λ b. length (put byte_cmp s.name s.number m) ≡ cond b (length m) (length m + 1)
      → length (put byte_cmp s.name s.number m) ≤ suc n) [
        | true ↦ λ e. omega arith
        | false ↦ λ e. omega arith
      ] (length-put byte_cmp nat_list_cmp_total s.name s.number m order)

  few_names : (a : List (List ℕ)) → length (map_of form a) ≤ length a
  few_names [] = omega arith
  few_names (x ∷ a) = few_with (slot_in form x) (map_of form a) (length a) (sorted_names form a) (few_names a)

  -- a slot whose name none behind it has
  record IsFirst (x : List ℕ) (a : List (List ℕ)) : Type 0 where
    value : SlotValue
    slot : slot_in form x ≡ Some value
    new : gives value.name a ≡ None
    rest : AreApart a

  not_some : (o : Option ℕ) → is_some o ≡ false → o ≡ None
  not_some None e = refl
  not_some (Some n) e = cc

  first_with : (x : List ℕ) (a : List (List ℕ)) (o : Option SlotValue) → slot_in form x ≡ o → length (map_of form a) ≤ length a
      → length (with_slot o (map_of form a)) ≡ suc (length a) → IsFirst x a
  first_with x a None is few long = absurd (omega arith)
  first_with x a (Some s) is few long =
      elim (is_some (gives s.name a)) as (λ b. is_some (gives s.name a) ≡ b → length (put byte_cmp s.name s.number (map_of form a))
      ≡ cond b (length (map_of form a)) (length (map_of form a) + 1) → IsFirst x a) [
        | true ↦ λ t e. absurd (omega arith)
        | false ↦ λ t e. record { value = s; slot = is; new = not_some (gives s.name a) t; rest = omega arith }
      ] refl (length-put byte_cmp nat_list_cmp_total s.name s.number (map_of form a) (sorted_names form a))

  is_first : (x : List ℕ) (a : List (List ℕ)) → AreApart (x ∷ a) → IsFirst x a
  is_first x a distinct = first_with x a (slot_in form x) refl (few_names a) distinct

  apart_right : (a b : List (List ℕ)) → AreApart (a ++ b) → AreApart b
  apart_right [] b distinct = distinct
  apart_right (x ∷ a) b distinct = apart_right a b (is_first x (a ++ b) distinct).rest

  -- ---- what parts give
  none_left : (a b : List (List ℕ)) (name : List ℕ) → gives name (a ++ b) ≡ None → gives name a ≡ None
  none_left a b name none = elim (gives name a) as (λ (o : Option ℕ). gives name a ≡ o → o ≡ None) [
    | None ↦ λ e. refl
    | Some n ↦ λ e. cc (gives_some form a b name n e)
  ] refl

  none_right : (a b : List (List ℕ)) (name : List ℕ) → gives name (a ++ b) ≡ None → gives name b ≡ None
  none_right a b name none = sym (gives_none form a b name (none_left a b name none)) ∙ none

  none_both : (a b : List (List ℕ)) (name : List ℕ) → gives name a ≡ None → gives name b ≡ None → gives name (a ++ b) ≡ None
  none_both a b name left right = gives_none form a b name left ∙ right

  -- a name that slots give isn't given by those behind them
  given_once : (a b : List (List ℕ)) (name : List ℕ) {n : ℕ} → AreApart (a ++ b) → gives name a ≡ Some n → gives name b ≡ None
  given_once [] b name distinct some = cc
  given_once (x ∷ a) b name {n} distinct some =
      let f = is_first x (a ++ b) distinct in
      elim (eq_by_cmp byte_cmp name f.value.name) as (λ t. eq_by_cmp byte_cmp name f.value.name ≡ t → gives name b ≡ None) [
        | true ↦ λ e. none_right a b name (cc (tied name f.value.name e))
        | false ↦ λ e.
            let other : name ≢ f.value.name =
            λ same. cc (ties same) in
            given_once a b name f.rest (sym (found_behind name f.value (map_of form a) f.slot other) ∙ some)
      ] refl

  -- ---- one slot among others
  module _ (a b : List (List ℕ)) (x : List ℕ) {s : SlotValue} (is : slot_in form x ≡ Some s) (distinct : AreApart (a ++ x ∷ b)) where
    found_here : (y : List ℕ) (t : SlotValue) (c : List (List ℕ)) → slot_in form y ≡ Some t → gives t.name (y ∷ c) ≡ Some t.number
    found_here y t c own = found_first {name = t.name} t (map_of form c) own refl

    none_before : gives s.name a ≡ None
    none_before = elim (gives s.name a) as (λ (o : Option ℕ). gives s.name a ≡ o → o ≡ None) [
      | None ↦ λ e. refl
      | Some n ↦ λ e. cc (found_here x s b is, given_once a (x ∷ b) s.name distinct e)
    ] refl

    none_behind : gives s.name b ≡ None
    none_behind =
        let f = is_first x b (apart_right a (x ∷ b) distinct) in
        let name : s.name ≡ f.value.name = cc in
        cc

    pub there : gives s.name (a ++ x ∷ b) ≡ Some s.number
    there = gives_none form a (x ∷ b) s.name none_before ∙ found_here x s b is

    other_behind : (name : List ℕ) → name ≢ s.name → gives name (x ∷ b) ≡ gives name b
    other_behind name ne = found_behind name s (map_of form b) is ne

    -- ---- another number
    module _ (y : List ℕ) {t : SlotValue} (own : slot_in form y ≡ Some t) (same : t.name ≡ s.name) where
      replaced_gives : (name : List ℕ)
          → gives name (a ++ y ∷ b) ≡ cond (eq_by_cmp byte_cmp name s.name) (Some t.number) (gives name (a ++ x ∷ b))
      replaced_gives name = elim (eq_by_cmp byte_cmp name s.name)
          as (λ e. eq_by_cmp byte_cmp name s.name ≡ e → gives name (a ++ y ∷ b) ≡ cond e (Some t.number) (gives name (a ++ x ∷ b))) [
            | true ↦ λ e.
                let here : name ≡ s.name = tied name s.name e in
                gives_none form a (y ∷ b) name (cc none_before)
                ∙ found_first t (map_of form b) own (cc)
            | false ↦ λ e.
                let other : name ≢ s.name =
                λ here. cc (ties here) in
                let skipped : gives name (y ∷ b) ≡ gives name (x ∷ b) =
                found_behind name t (map_of form b) own (λ h. other (h ∙ same)) ∙ sym (other_behind name other) in
                elim (gives name a) as (λ (o : Option ℕ). gives name a ≡ o → gives name (a ++ y ∷ b) ≡ gives name (a ++ x ∷ b)) [
                  | None ↦ λ none. cc (gives_none form a (y ∷ b) name none, gives_none form a (x ∷ b) name none)
                  | Some n ↦ λ some. gives_some form a (y ∷ b) name n some ∙ sym (gives_some form a (x ∷ b) name n some)
                ] refl
          ] refl

      pub replaced : map_of form (a ++ y ∷ b) ≡ put byte_cmp s.name t.number (map_of form (a ++ x ∷ b))
      replaced =
          same_names form (sorted_names form (a ++ y ∷ b))
          (is_sorted-put byte_cmp nat_list_cmp_total s.name t.number (map_of form (a ++ x ∷ b)) (sorted_names form (a ++ x ∷ b)))
          (λ name. replaced_gives name ∙ sym (find-put byte_cmp nat_list_cmp_total name s.name t.number (map_of form (a ++ x ∷ b))))

      pub replaced_apart : AreApart (a ++ y ∷ b)
      replaced_apart =
          let one = ap length replaced
          ∙ length-put byte_cmp nat_list_cmp_total s.name t.number (map_of form (a ++ x ∷ b)) (sorted_names form (a ++ x ∷ b))
          ∙ ap (λ (o : Option ℕ). cond (is_some o) (length (map_of form (a ++ x ∷ b))) (length (map_of form (a ++ x ∷ b)) + 1)) there in
          omega (arith, length-append a (x ∷ b), length-append a (y ∷ b))

    -- ---- one less
    taken_from : (c : List (List ℕ))
        → ((name : List ℕ) → gives name c ≡ cond (eq_by_cmp byte_cmp name s.name) None (gives name (a ++ x ∷ b)))
        → map_of form c ≡ without byte_cmp s.name (map_of form (a ++ x ∷ b))
    taken_from c each =
        same_names form {m = map_of form c} {m' = without byte_cmp s.name (map_of form (a ++ x ∷ b))} (sorted_names form c)
        (is_sorted-where_key byte_cmp (λ q. not (eq_by_cmp byte_cmp s.name q)) (map_of form (a ++ x ∷ b)) (sorted_names form (a ++ x ∷ b)))
        (λ name. each name ∙ sym (find_without nat_list_cmp_total s.name name (map_of form (a ++ x ∷ b))))

    taken_few : (c : List (List ℕ)) → map_of form c ≡ without byte_cmp s.name (map_of form (a ++ x ∷ b))
        → length c + 1 ≡ length (a ++ x ∷ b) → AreApart c
    taken_few c is less =
        let some : ◌≡◌ {A = ℕ} (cond (is_some (gives s.name (a ++ x ∷ b))) 1 0) 1 =
        cc there in
        omega (
          arith,
          length_without byte_cmp nat_list_cmp_total s.name (map_of form (a ++ x ∷ b)) (sorted_names form (a ++ x ∷ b)),
          ap length is,
        )

    -- what is there after it goes, where the slots without it give what the others gave
    taken_gives : (c : List (List ℕ)) → gives s.name c ≡ None
        → ((name : List ℕ) → gives name a ≡ None → name ≢ s.name → gives name c ≡ gives name b)
        → ((name : List ℕ) (n : ℕ) → gives name a ≡ Some n → gives name c ≡ Some n) → (name : List ℕ)
        → gives name c ≡ cond (eq_by_cmp byte_cmp name s.name) None (gives name (a ++ x ∷ b))
    taken_gives c gone none some name = elim (eq_by_cmp byte_cmp name s.name)
        as (λ e. eq_by_cmp byte_cmp name s.name ≡ e → gives name c ≡ cond e None (gives name (a ++ x ∷ b))) [
          | true ↦ λ e. cc (tied name s.name e)
          | false ↦ λ e.
              let other : name ≢ s.name = λ here. cc (ties here) in
              elim (gives name a) as (λ (o : Option ℕ). gives name a ≡ o → gives name c ≡ gives name (a ++ x ∷ b)) [
                | None ↦ λ before. none name before other ∙ sym (gives_none form a (x ∷ b) name before ∙ other_behind name other)
                | Some n ↦ λ before. some name n before ∙ sym (gives_some form a (x ∷ b) name n before)
              ] refl
        ] refl

  -- the last slot goes
  pub last_taken : (a : List (List ℕ)) (x : List ℕ) (s : SlotValue) → slot_in form x ≡ Some s → AreApart (a ++ x ∷ [])
      → (map_of form a ≡ without byte_cmp s.name (map_of form (a ++ x ∷ []))) × AreApart a
  last_taken a x s is distinct =
      let names = taken_from a [] x is distinct a
      (taken_gives a [] x is distinct a (none_before a [] x is distinct) (λ name none ne. none) (λ name n some. some)) in
      (names, taken_few a [] x is distinct a names (omega (arith, length-append a (x ∷ []))))

  -- a slot goes, and the last one comes into its place
  module _ (a b : List (List ℕ)) (x y : List ℕ) (s : SlotValue) (is : slot_in form x ≡ Some s)
      (distinct : AreApart (a ++ x ∷ (b ++ y ∷ []))) where
    behind_apart : AreApart (b ++ y ∷ [])
    behind_apart = (is_first x (b ++ y ∷ []) (apart_right a (x ∷ (b ++ y ∷ [])) distinct)).rest

    -- two parts may change places
    swapped : (name : List ℕ) → gives name (y ∷ b) ≡ gives name (b ++ y ∷ [])
    swapped name =
        elim (gives name (y ∷ [])) as (λ (o : Option ℕ). gives name (y ∷ []) ≡ o → gives name (y ∷ b) ≡ gives name (b ++ y ∷ [])) [
          | Some n ↦ λ some.
              let none : gives name b ≡ None = elim (gives name b) as (λ (o : Option ℕ). gives name b ≡ o → o ≡ None) [
                | None ↦ λ e. refl
                | Some k ↦ λ e. cc (given_once b (y ∷ []) name behind_apart e)
              ] refl in
              cc (gives_some form (y ∷ []) b name n some, gives_none form b (y ∷ []) name none)
          | None ↦ λ none. gives_none form (y ∷ []) b name none
              ∙ elim (gives name b) as (λ (o : Option ℕ). gives name b ≡ o → gives name b ≡ gives name (b ++ y ∷ [])) [
                | None ↦ λ e. cc (gives_none form b (y ∷ []) name e)
                | Some k ↦ λ e. e ∙ sym (gives_some form b (y ∷ []) name k e)
              ] refl
        ] refl

    pub moved : (map_of form (a ++ y ∷ b) ≡ without byte_cmp s.name (map_of form (a ++ x ∷ (b ++ y ∷ [])))) × AreApart (a ++ y ∷ b)
    moved =
        let c = b ++ y ∷ [] in
        let less : length (a ++ y ∷ b) + 1 ≡ length (a ++ x ∷ c) =
        let j = length-append b (y ∷ []) in omega (arith, length-append a (x ∷ c), length-append a (y ∷ b)) in
        let names = taken_from a c x is distinct (a ++ y ∷ b) (taken_gives a c x is distinct (a ++ y ∷ b)
        (none_both a (y ∷ b) s.name (none_before a c x is distinct) (swapped s.name ∙ none_behind a c x is distinct))
        (λ name none ne. gives_none form a (y ∷ b) name none ∙ swapped name)
        (λ name n some. gives_some form a (y ∷ b) name n some)) in
        (names, taken_few a c x is distinct (a ++ y ∷ b) names less)

  -- ---- each is a slot
  all_left : (a b : List (List ℕ)) → AreFormed (a ++ b) → AreFormed a
  all_left [] b all = tt
  all_left (x ∷ a) b all = (all.0, all_left a b all.1)

  all_right : (a b : List (List ℕ)) → AreFormed (a ++ b) → AreFormed b
  all_right [] b all = all
  all_right (x ∷ a) b all = all_right a b all.1

  all_both : (a b : List (List ℕ)) → AreFormed a → AreFormed b → AreFormed (a ++ b)
  all_both [] b left right = right
  all_both (x ∷ a) b left right = (left.0, all_both a b left.1 right)

  pub replaced_formed : (a b : List (List ℕ)) (x y : List ℕ) → slot_in form y ≢ None → AreFormed (a ++ x ∷ b) → AreFormed (a ++ y ∷ b)
  replaced_formed a b x y own all = all_both a (y ∷ b) (all_left a (x ∷ b) all) (own, (all_right a (x ∷ b) all).1)

  pub last_formed : (a : List (List ℕ)) (x : List ℕ) → AreFormed (a ++ x ∷ []) → AreFormed a
  last_formed a x all = all_left a (x ∷ []) all

  pub moved_formed : (a b : List (List ℕ)) (x y : List ℕ) → AreFormed (a ++ x ∷ (b ++ y ∷ [])) → AreFormed (a ++ y ∷ b)
  moved_formed a b x y all =
      let behind = (all_right a (x ∷ (b ++ y ∷ [])) all).1 in
      all_both a (y ∷ b) (all_left a (x ∷ (b ++ y ∷ [])) all) ((all_right b (y ∷ []) behind).0, all_left b (y ∷ []) behind)

-- ---- laws
pub slot_replaced : SlotReplaced
slot_replaced form a b x y s t is own same distinct = replaced form a b x is distinct y own same

pub last_slot_taken : LastSlotTaken
last_slot_taken form a x s is distinct = (last_taken form a x s is distinct).0

pub slot_taken : SlotTaken
slot_taken form a b x y s is distinct = (moved form a b x y s is distinct).0
