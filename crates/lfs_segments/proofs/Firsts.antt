-- Lists that are the first ones of an order: of two the shorter one is the beginning of the other.
use Rattle.std.proofs.Common.{◌≡◌, ◌<◌, ◌≤◌, ◌⊎◌, ⊎_elim, ℕ, zero, suc, List, [], ◌∷◌, ◌++◌, length, get_or, take, drop, take-append-drop}
use Rattle.std.proofs.Common.{refl, sym, ap₂, ◌∙◌, subst, inl, inr, arith}
use Rattle.std.specs.Prelude.{AllPairs}
use Rattle.std.specs.List.{AllByRecursion}
use Rattle.std.proofs.lemmas.Bool.{cases_eq}
use Rattle.lfs_model.specs.Members.{IsIn, AreApart}
use Rattle.lfs_segments.specs.Table.{UsageTable}
use Rattle.lfs_segments.specs.Victims.{MayBeVictim, AreFirst}
use Rattle.lfs_segments.proofs.LeastSums.{all_in}
use Rattle.lfs_segments.proofs.Orders.{IsOrder}

-- ---- members
pub in_or_out : (xs : List ℕ) (y : ℕ) → IsIn xs y ⊎ (IsIn xs y → ⊥)
in_or_out [] y = inr (λ is. is)
in_or_out (x ∷ xs) y = ⊎_elim
    (λ here. inl (inl here))
    (λ away. ⊎_elim
    (λ later. inl (inr later))
    (λ out. inr (⊎_elim away out))
    (in_or_out xs y))
    (cases_eq y x)

-- what stands at a place is a member
pub at_in : (xs : List ℕ) (k d : ℕ) → k < length xs → IsIn xs (get_or xs k d)
at_in [] k d low = absurd (omega arith)
at_in (x ∷ xs) zero d low = inl refl
at_in (x ∷ xs) (suc k) d low = inr (at_in xs k d (omega arith))

-- what holds of each member holds of all
pub all_from : (P : ℕ → Type 0) (xs : List ℕ) → ((x : ℕ) → IsIn xs x → P x) → AllByRecursion P xs
all_from P [] each = tt
all_from P (x ∷ xs) each = (each x (inl refl), all_from P xs (λ y is. each y (inr is)))

-- of two lists, one behind the other
pub in_either : (xs ys : List ℕ) (y : ℕ) → IsIn (xs ++ ys) y → IsIn xs y ⊎ IsIn ys y
in_either [] ys y is = inr is
in_either (x ∷ xs) ys y is = ⊎_elim
    (λ here. inl (inl here))
    (λ later. ⊎_elim (λ i. inl (inr i)) (λ j. inr j) (in_either xs ys y later))
    is

pub in_left : (xs ys : List ℕ) (y : ℕ) → IsIn xs y → IsIn (xs ++ ys) y
in_left [] ys y is = absurd is
in_left (x ∷ xs) ys y is = ⊎_elim (λ here. inl here) (λ later. inr (in_left xs ys y later)) is

pub apart_left : (xs ys : List ℕ) → AreApart (xs ++ ys) → AreApart xs
apart_left [] ys apart = tt
apart_left (x ∷ xs) ys apart = (λ is. apart.0 (in_left xs ys x is), apart_left xs ys apart.1)

pub all_left : (P : ℕ → Type 0) (xs ys : List ℕ) → AllByRecursion P (xs ++ ys) → AllByRecursion P xs
all_left P [] ys all = tt
all_left P (x ∷ xs) ys all = (all.0, all_left P xs ys all.1)

-- ---- lists in order
module _ (R : ℕ → ℕ → Type 0) where
  -- the first one comes before the others
  pub before_all : (x : ℕ) (xs : List ℕ) → ((k d : ℕ) → k < length xs → R x (get_or xs k d)) → (y : ℕ) → IsIn xs y → R x y
  before_all x [] each y is = absurd is
  before_all x (z ∷ zs) each y is = ⊎_elim
      (λ here. subst (λ w. R x w) (sym here) (each 0 0 (omega arith)))
      (λ later. before_all x zs (λ k d low. each (suc k) d (omega arith)) y later)
      is

  first_before : (x : ℕ) (xs : List ℕ) → AllPairs R (x ∷ xs) → (y : ℕ) → IsIn xs y → R x y
  first_before x xs pairs = before_all x xs (λ k d low. pairs 0 (suc k) d (omega arith) (omega arith))

  others_pairs : (x : ℕ) (xs : List ℕ) → AllPairs R (x ∷ xs) → AllPairs R xs
  others_pairs x xs pairs i j d less low = pairs (suc i) (suc j) d (omega arith) (omega arith)

  -- those of a beginning come before those behind it
  pairs_across : (xs ys : List ℕ) → AllPairs R (xs ++ ys) → (v s : ℕ) → IsIn xs v → IsIn ys s → R v s
  pairs_across [] ys pairs v s is there = absurd is
  pairs_across (x ∷ xs) ys pairs v s is there = ⊎_elim
      (λ here. subst (λ w. R w s) (sym here) (first_before x (xs ++ ys) pairs s (behind xs)))
      (λ later. pairs_across xs ys (others_pairs x (xs ++ ys) pairs) v s later there)
      is
    where
      behind : (xs : List ℕ) → IsIn (xs ++ ys) s
      behind [] = there
      behind (z ∷ zs) = inr (behind zs)

  -- a beginning is in order
  pairs_left : (xs ys : List ℕ) → AllPairs R (xs ++ ys) → AllPairs R xs
  pairs_left [] ys pairs i j d less low = absurd (omega arith)
  pairs_left (x ∷ xs) ys pairs zero zero d less low = absurd (omega arith)
  pairs_left (x ∷ xs) ys pairs zero (suc j) d less low =
      first_before x (xs ++ ys) pairs (get_or xs j d) (in_left xs ys (get_or xs j d) (at_in xs j d (omega arith)))
  pairs_left (x ∷ xs) ys pairs (suc i) zero d less low = absurd (omega arith)
  pairs_left (x ∷ xs) ys pairs (suc i) (suc j) d less low =
      pairs_left xs ys (others_pairs x (xs ++ ys) pairs) i j d (omega arith) (omega arith)

  -- ---- the first ones of those for which P holds
  record AreFirstOf (P : ℕ → Type 0) (xs : List ℕ) : Type 0 where
    ordered : AllPairs R xs
    each : (x : ℕ) → IsIn xs x → P x
    others : (v s : ℕ) → IsIn xs v → P s → (IsIn xs s → ⊥) → R v s

  module _ (order : IsOrder R) where
    never : (a : ℕ) → R a a → ⊥
    never a is = order.one_way a a is is

    -- of two such lists the first ones are the same
    same_head : (P : ℕ → Type 0) (x w : ℕ) (xs ws : List ℕ) → AreFirstOf P (x ∷ xs) → AreFirstOf P (w ∷ ws) → w ≡ x
    same_head P x w xs ws one other = ⊎_elim
        (λ same. same)
        (λ away. absurd (⊎_elim
        (λ less. order.one_way w x less (ahead x w xs one (other.each w (inl refl)) away))
        (λ more. order.one_way x w more (ahead w x ws other (one.each x (inl refl)) (λ e. away (sym e))))
        (order.either w x away)))
        (cases_eq w x)
      where
        ahead : (a b : ℕ) (rest : List ℕ) → AreFirstOf P (a ∷ rest) → P b → (b ≡ a → ⊥) → R a b
        ahead a b rest first is away = ⊎_elim
            (λ there. first_before a rest first.ordered b there)
            (λ out. first.others a b (inl refl) is (⊎_elim away out))
            (in_or_out rest b)

    -- what follows the first one are the first ones of the rest
    rest_first : (P : ℕ → Type 0) (a x : ℕ) (xs : List ℕ) → x ≡ a → AreFirstOf P (x ∷ xs) → AreFirstOf (λ s. P s × (s ≡ a → ⊥)) xs
    rest_first P a x xs same first = record {
      ordered = others_pairs x xs first.ordered;
      each = λ y is. (
        first.each y (inr is),
        λ e. never x (subst (λ w. R x w) (e ∙ sym same) (first_before x xs first.ordered y is)),
      );
      others = λ v s is there out. grind arith;
    }

    same_firsts : (P : ℕ → Type 0) (xs ws : List ℕ) → AreFirstOf P xs → AreFirstOf P ws → length ws ≤ length xs → ws ≡ take (length ws) xs
    same_firsts P xs [] one other few = refl
    same_firsts P [] (w ∷ ws) one other few = absurd (omega arith)
    same_firsts P (x ∷ xs) (w ∷ ws) one other few =
        let head = same_head P x w xs ws one other in
        let rest = same_firsts (λ s. P s × (s ≡ x → ⊥)) xs ws (rest_first P x x xs refl one) (rest_first P x w ws head other)
        (omega arith) in
        ap₂ (λ y ys. y ∷ ys) head rest

-- ---- the first ones of those that may be cleaned
module _ (t : UsageTable) (R : ℕ → ℕ → Type 0) where
  pub beginning_first : {xs : List ℕ} (ys : List ℕ) → AreFirst t R (xs ++ ys) → AreFirst t R xs
  beginning_first {xs} ys first = record {
    ordered = pairs_left R xs ys first.ordered;
    others = λ v s is used out. ⊎_elim
        (λ later. pairs_across R xs ys first.ordered v s is later)
        (λ past. first.others v s (in_left xs ys v is) used (λ there. ⊎_elim out past (in_either xs ys s there)))
        (in_or_out ys s);
  }

  pub taken_first : {xs : List ℕ} (k : ℕ) → AreFirst t R xs → AreFirst t R (take k xs)
  taken_first {xs} k first = beginning_first (drop k xs) (subst (AreFirst t R) (sym (take-append-drop k xs)) first)

  pub taken_each : (xs : List ℕ) (k : ℕ) → AllByRecursion (MayBeVictim t) xs → AllByRecursion (MayBeVictim t) (take k xs)
  taken_each xs k each =
      all_left (MayBeVictim t) (take k xs) (drop k xs) (subst (AllByRecursion (MayBeVictim t)) (sym (take-append-drop k xs)) each)

  pub taken_apart : (xs : List ℕ) (k : ℕ) → AreApart xs → AreApart (take k xs)
  taken_apart xs k apart = apart_left (take k xs) (drop k xs) (subst AreApart (sym (take-append-drop k xs)) apart)

  pub same_beginning : IsOrder R → (xs ws : List ℕ) → AreFirst t R xs → AreFirst t R ws → AllByRecursion (MayBeVictim t) xs
      → AllByRecursion (MayBeVictim t) ws → length ws ≤ length xs → ws ≡ take (length ws) xs
  same_beginning order xs ws one other each each' few =
      same_firsts R order (MayBeVictim t) xs ws
      (record { ordered = one.ordered; each = all_in (MayBeVictim t) xs each; others = one.others })
      (record { ordered = other.ordered; each = all_in (MayBeVictim t) ws each'; others = other.others })
      few
