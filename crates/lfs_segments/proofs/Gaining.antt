-- Of the beginnings of a list that is chosen, that which gains most so far; at the end it is the choice.
use Rattle.std.proofs.Common.{◌≡◌, ◌<◌, ◌≤◌, ◌⊎◌, ⊎_elim, ◌+◌, ◌-◌, ◌/◌, ℕ, List, [], ◌∷◌, ◌++◌, length, take, length-take-le}
use Rattle.std.proofs.Common.{take_all, refl, sym, ap, ◌∙◌, subst, arith}
use Rattle.std.specs.Prelude.{sum_by, Option, Some, None, IfSome, IfNone, is_some, true}
use Rattle.std.specs.List.{AllByRecursion}
use Rattle.std.proofs.lemmas.List.{take-append-le}
use Rattle.std.proofs.lemmas.List.Sums.{sum_by_push}
use Rattle.lfs_model.specs.Members.{IsIn, AreApart}
use Rattle.lfs_segments.specs.declared.candidate.Preference.{Preference}
use Rattle.lfs_segments.specs.Choosing.{Exhausts, Precedes}
use Rattle.lfs_segments.specs.Table.{UsageTable, FitsTable}
use Rattle.lfs_segments.specs.Victims.{load_of, gain_of, MayBeVictim, AreFirst, AreVictims, IsChoice}
use Rattle.lfs_segments.proofs.LeastSums.{all_in, fewer}
use Rattle.lfs_segments.proofs.Choosing.{length_pushed}
use Rattle.lfs_segments.proofs.Firsts.{same_beginning, taken_apart, taken_each, taken_first}
use Rattle.lfs_segments.proofs.Orders.{is_order}

-- ---- what a function answers
pub on_some : {X : Type 0} (r : Option X) (P Q : X → Type 0) → ((x : X) → P x → Q x) → IfSome r P → IfSome r Q
on_some None P Q give is = tt
on_some (Some x) P Q give is = give x is

pub on_none : {X : Type 0} (r : Option X) (P Q : Type 0) → (P → Q) → IfNone r P → IfNone r Q
on_none None P Q give is = give is
on_none (Some x) P Q give is = tt

pub some_then : {X : Type 0} (r : Option X) (P : Type 0) → (P → ⊥) → IfNone r P → is_some r ≡ true
some_then None P never is = absurd (never is)
some_then (Some x) P never is = refl

-- ---- the beginnings of a list
pub record Tried (t : UsageTable) (meta wanted : ℕ) (xs : List ℕ) (best count : ℕ) : Type 0 where
  pub inside : count ≤ length xs
  pub gains : gain_of t meta (take count xs) ≡ best
  pub all : (k : ℕ) → k ≤ length xs → gain_of t meta (take k xs) ≤ best
  pub fewer : (k : ℕ) → k < count → gain_of t meta (take k xs) < best
  pub none : best ≡ 0 → count ≡ 0
  pub low : best < wanted

-- those of a list with one more: those of the list, and itself
module _ (t : UsageTable) {meta wanted : ℕ} (xs : List ℕ) (x : ℕ) {best count : ℕ} (was : Tried t meta wanted xs best count) where
  same_gain : (k : ℕ) → k ≤ length xs → gain_of t meta (take k (xs ++ x ∷ [])) ≡ gain_of t meta (take k xs)
  same_gain k le = ap (gain_of t meta) (take-append-le k xs (x ∷ []) le)

  whole_gain : (k : ℕ) → length xs < k → gain_of t meta (take k (xs ++ x ∷ [])) ≡ gain_of t meta (xs ++ x ∷ [])
  whole_gain k lt = ap (gain_of t meta) (take_all k (xs ++ x ∷ []) (omega (arith, length_pushed xs x)))

  all_pushed_gain : (most : ℕ) → best ≤ most → gain_of t meta (xs ++ x ∷ []) ≤ most → (k : ℕ)
      → gain_of t meta (take k (xs ++ x ∷ [])) ≤ most
  all_pushed_gain most old new k = grind (arith, whole_gain k, same_gain k, was.all k)

  pub tried_more : best < gain_of t meta (xs ++ x ∷ []) → gain_of t meta (xs ++ x ∷ []) < wanted
      → Tried t meta wanted (xs ++ x ∷ []) (gain_of t meta (xs ++ x ∷ [])) (length xs + 1)
  tried_more more small = record {
    inside = omega (arith, length_pushed xs x);
    gains = whole_gain (length xs + 1) (omega arith);
    all = λ k le. all_pushed_gain (gain_of t meta (xs ++ x ∷ [])) (omega arith) (omega arith) k;
    fewer = λ k lt. grind (arith, same_gain k, was.all k);
    none = λ is. absurd (omega arith);
    low = small;
  }

  pub tried_still : gain_of t meta (xs ++ x ∷ []) ≤ best → Tried t meta wanted (xs ++ x ∷ []) best count
  tried_still less = record {
    inside = omega (arith, length_pushed xs x);
    gains = same_gain count was.inside ∙ was.gains;
    all = λ k le. all_pushed_gain best (omega arith) less k;
    fewer = λ k lt. omega (arith, same_gain k (omega arith), was.fewer k lt);
    none = was.none;
    low = was.low;
  }

  -- with the numbers that a step has for them
  pub tried_next_more : {best' : ℕ} (count' : ℕ) → best' ≡ gain_of t meta (xs ++ x ∷ []) → count' ≡ length xs + 1 → best < best'
      → best' < wanted → Tried t meta wanted (xs ++ x ∷ []) best' count'
  tried_next_more {best'} count' gain longer more small =
      subst (λ n. Tried t meta wanted (xs ++ x ∷ []) best' n) (sym longer)
      (subst (λ n. Tried t meta wanted (xs ++ x ∷ []) n (length xs + 1)) (sym gain)
      (tried_more (omega arith) (omega arith)))

  pub tried_next_still : {best' count' gain : ℕ} → best' ≡ best → count' ≡ count → gain ≡ gain_of t meta (xs ++ x ∷ []) → gain ≤ best
      → Tried t meta wanted (xs ++ x ∷ []) best' count'
  tried_next_still {best'} same as_many is less =
      subst (λ n. Tried t meta wanted (xs ++ x ∷ []) best' n) (sym as_many)
      (subst (λ n. Tried t meta wanted (xs ++ x ∷ []) n count) (sym same) (tried_still (omega arith)))

-- what a list with one more gains
pub gain_pushed : (t : UsageTable) (meta : ℕ) (xs : List ℕ) (x : ℕ) {blocks load others gain : ℕ} → blocks ≡ sum_by (load_of t) xs
    → load ≡ load_of t x → length xs ≡ others
    → gain ≡ others + 1 - (blocks + load + meta + 48 + 62) / 63 → gain ≡ gain_of t meta (xs ++ x ∷ [])
gain_pushed t meta xs x sum own long is = omega (arith, sum_by_push (load_of t) xs x, length_pushed xs x)

-- ---- victims
-- what gains is a list of victims
pub gains_some : {t : UsageTable} {meta most : ℕ} {xs : List ℕ} → length xs ≤ most → AreApart xs → AllByRecursion (MayBeVictim t) xs
    → 0 < gain_of t meta xs → AreVictims t meta most xs
gains_some few apart each some = grind arith

-- and such a list gains
pub victims_gain : (t : UsageTable) {meta most : ℕ} {ws : List ℕ} → AreVictims t meta most ws → 0 < gain_of t meta ws
victims_gain t are = omega arith

module _ {t : UsageTable} (meta most : ℕ) (p : Preference) {xs : List ℕ} (first : AreFirst t (Precedes t p) xs)
    (each : AllByRecursion (MayBeVictim t) xs) (apart : AreApart xs) where
  abbrev R : ℕ → ℕ → Type 0
  R = Precedes t p

  -- other first ones are a beginning of these
  pub gain_there : {ws : List ℕ} → AreVictims t meta most ws → AreFirst t R ws → length ws ≤ length xs
      → gain_of t meta ws ≡ gain_of t meta (take (length ws) xs)
  gain_there {ws} are other few = ap (gain_of t meta) (same_beginning t R (is_order t p) xs ws first other each are.each few)

  -- as many as there are or may be taken: no list of victims is longer
  pub not_longer : (length xs ≡ most) ⊎ ((s : ℕ) → MayBeVictim t s → IsIn xs s) → {ws : List ℕ} → AreVictims t meta most ws
      → length ws ≤ length xs
  not_longer ended {ws} are = ⊎_elim
      (λ full. omega arith)
      (λ all. fewer xs ws are.apart (λ y is. all y (all_in (MayBeVictim t) ws are.each y is)))
      ended

  -- The one that is chosen at the end gains most.
  pub choice_at_end : {wanted best count : ℕ} → Tried t meta wanted xs best count → length xs ≤ most
      → (length xs ≡ most) ⊎ ((s : ℕ) → MayBeVictim t s → IsIn xs s) → 0 < count → IsChoice t meta most wanted R (take count xs)
  choice_at_end {wanted} {best} {count} tried few ended some =
      let inside = tried.inside in
      let long = length-take-le count xs inside in
      record {
        victims = gains_some (omega arith) (taken_apart t R xs count apart) (taken_each t R xs count each)
            (omega (arith, tried.fewer 0 some));
        first = taken_first t R count first;
        best = λ ws are other.
            let le = not_longer ended are in
            omega (arith, gain_there are other le, tried.all (length ws) le);
        fewest = grind (arith, gain_there, tried.fewer);
      }

  -- Where none gains, no first ones are victims.
  pub exhausts : FitsTable t → {wanted best count : ℕ} → Tried t meta wanted xs best count → length xs ≤ most
      → (length xs ≡ most) ⊎ ((s : ℕ) → MayBeVictim t s → IsIn xs s) → count ≡ 0 → Exhausts t meta most p
  exhausts table tried few ended none = grind arith

-- The first one that gains as many as are wanted is the choice.
pub choice_at_once : (t : UsageTable) {meta : ℕ} (most : ℕ) {wanted : ℕ} (p : Preference) (xs : List ℕ) (x : ℕ) {best count : ℕ}
    → 0 < wanted → Tried t meta wanted xs best count
    → AreFirst t (Precedes t p) (xs ++ x ∷ []) → AllByRecursion (MayBeVictim t) (xs ++ x ∷ []) → AreApart (xs ++ x ∷ [])
    → length xs < most → wanted ≤ gain_of t meta (xs ++ x ∷ []) → IsChoice t meta most wanted (Precedes t p) (xs ++ x ∷ [])
choice_at_once t {meta} most {wanted} p xs x {best} some tried first each apart few enough =
    let long = length_pushed xs x in
    record {
      victims = gains_some (omega arith) apart each (omega arith);
      first = first;
      best = λ ws are other. omega arith;
      fewest = λ ws are other short.
          let le : length ws ≤ length xs = omega arith in
          omega (
            arith,
            gain_there meta most p first each apart are other (omega arith),
            ap (gain_of t meta) (take-append-le (length ws) xs (x ∷ []) le),
            tried.all (length ws) le,
          );
    }

-- So no first ones of an order of which no beginning gains are victims.
pub no_choice : {t : UsageTable} {meta most : ℕ} {p : Preference} → Exhausts t meta most p → (ws : List ℕ) → AreVictims t meta most ws
    → AreFirst t (Precedes t p) ws → ⊥
no_choice {t} {meta} {most} {p} is ws are other =
    let le = not_longer meta most p is.first is.each is.apart is.ended are in
    omega (arith, gain_there meta most p is.first is.each is.apart are other le, is.lacks (length ws) le, victims_gain t are)
