-- Sums over lists whose members differ: none is greater than the sum over a list that has all those that count.
use Rattle.std.proofs.Common.{◌≡◌, ◌<◌, ◌≤◌, ◌⊎◌, ⊎_elim, ◌+◌, ◌-◌, ◌*◌, ◌==◌, cond, ℕ, zero, suc, List, [], ◌∷◌, ◌++◌, length, refl, sym}
use Rattle.std.proofs.Common.{arith, inl, inr, subst, eq-eqb}
use Rattle.std.specs.Prelude.{sum_by}
use Rattle.std.specs.List.{AllByRecursion}
use Rattle.std.proofs.lemmas.Bool.{cases_eq, cases_lt, cond-true, cond-false, ne_eqb}
use Rattle.std.proofs.Math.Nat.{suc-mul, add-mul}
use Rattle.std.proofs.lemmas.List.Sums.{sum_by-cons}
use Rattle.lfs_model.specs.Members.{IsIn, AreApart}
use Rattle.lfs_model.proofs.BelowSums.{sum_below}

-- ---- members
-- what holds of each holds of a member
pub all_in : (P : ℕ → Type 0) (xs : List ℕ) → AllByRecursion P xs → (x : ℕ) → IsIn xs x → P x
all_in P [] all x is = absurd is
all_in P (y ∷ ys) all x is = ⊎_elim (λ here. subst P (sym here) all.0) (λ later. all_in P ys all.1 x later) is

-- a member of a list with one more is that one, or was a member
pub in_pushed : (xs : List ℕ) (y x : ℕ) → IsIn (xs ++ y ∷ []) x → IsIn xs x ⊎ (x ≡ y)
in_pushed [] y x is = ⊎_elim (λ here. inr here) (λ none. absurd none) is
in_pushed (z ∷ zs) y x is = ⊎_elim (λ here. inl (inl here))
    (λ later. ⊎_elim (λ i. inl (inr i)) (λ e. inr e) (in_pushed zs y x later)) is

-- a member stays one
pub was_in : (xs : List ℕ) (y x : ℕ) → IsIn xs x → IsIn (xs ++ y ∷ []) x
was_in [] y x is = absurd is
was_in (z ∷ zs) y x is = ⊎_elim (λ here. inl here) (λ later. inr (was_in zs y x later)) is

-- the one more is a member
pub last_in : (xs : List ℕ) (y : ℕ) → IsIn (xs ++ y ∷ []) y
last_in [] y = inl refl
last_in (z ∷ zs) y = inr (last_in zs y)

-- a new one leaves them apart
pub apart_pushed : (xs : List ℕ) (y : ℕ) → AreApart xs → (IsIn xs y → ⊥) → AreApart (xs ++ y ∷ [])
apart_pushed [] y apart out = (λ is. is, tt)
apart_pushed (z ∷ zs) y apart out = (
  λ is. ⊎_elim (λ i. apart.0 i) (λ e. out (inl (sym e))) (in_pushed zs y z is),
  apart_pushed zs y apart.1 (λ is. out (inr is)),
)

-- what holds of each and of the one more holds of all
pub all_pushed : (P : ℕ → Type 0) (xs : List ℕ) (y : ℕ) → AllByRecursion P xs → P y → AllByRecursion P (xs ++ y ∷ [])
all_pushed P [] y all is = (is, tt)
all_pushed P (z ∷ zs) y all is = (all.0, all_pushed P zs y all.1 is)

-- ---- sums where one number counts for nothing
-- f, but 0 at y
abbrev except : (ℕ → ℕ) → ℕ → ℕ → ℕ
except f y x = cond (x == y) 0 (f x)

except_own : (f : ℕ → ℕ) (y x : ℕ) → x ≡ y → except f y x ≡ 0
except_own f y x e = cond-true _ _ _ (eq-eqb x y e)

except_other : (f : ℕ → ℕ) (y x : ℕ) → (x ≡ y → ⊥) → except f y x ≡ f x
except_other f y x ne = cond-false _ _ _ (ne_eqb x y ne)

-- so the sum is no more
except_most : (f : ℕ → ℕ) (y : ℕ) (xs : List ℕ) → sum_by (except f y) xs ≤ sum_by f xs
except_most f y [] = omega arith
except_most f y (x ∷ xs) =
    grind (arith, except_own f y x, except_other f y x, except_most f y xs, sum_by-cons (except f y) x xs, sum_by-cons f x xs)

-- and less by what y counts, where y is a member
except_in : (f : ℕ → ℕ) (y : ℕ) (xs : List ℕ) → IsIn xs y → f y + sum_by (except f y) xs ≤ sum_by f xs
except_in f y [] is = absurd is
except_in f y (x ∷ xs) is =
    grind (
      arith,
      except_own f y x,
      except_most f y xs,
      except_other f y x,
      except_in f y xs,
      sum_by-cons (except f y) x xs,
      sum_by-cons f x xs,
    )

-- but the same where it is none
except_out : (f : ℕ → ℕ) (y : ℕ) (xs : List ℕ) → (IsIn xs y → ⊥) → sum_by (except f y) xs ≡ sum_by f xs
except_out f y [] out = refl
except_out f y (x ∷ xs) out =
    omega (
      arith,
      except_out f y xs (λ is. out (inr is)),
      except_other f y x (λ h. out (inl (sym h))),
      sum_by-cons (except f y) x xs,
      sum_by-cons f x xs,
    )

-- ---- lists with all members that count
-- a list whose counting members are all in another has no greater sum
pub sum_among : (ys : List ℕ) (f : ℕ → ℕ) (xs : List ℕ) → AreApart ys → ((y : ℕ) → IsIn ys y → 0 < f y → IsIn xs y)
    → sum_by f ys ≤ sum_by f xs
sum_among [] f xs apart among = omega arith
sum_among (y ∷ ys) f xs apart among =
    let a = sum_by-cons f y ys in
    ⊎_elim
    (λ some.
    let rest = sum_among ys (except f y) xs apart.1 (λ z is counts. ⊎_elim
    (λ here. let e = except_own f y z here in absurd (omega arith))
    (λ away. let e = except_other f y z away in among z (inr is) (omega arith))
    (cases_eq z y)) in
    omega (arith, except_out f y ys apart.0, except_in f y xs (among y (inl refl) some)))
    (λ none. omega (arith, sum_among ys f xs apart.1 (λ z is counts. among z (inr is) counts)))
    (cases_lt 0 (f y))

-- ones add up to the length
pub sum_ones : (xs : List ℕ) → sum_by (λ (x : ℕ). 1) xs ≡ length xs
sum_ones [] = refl
sum_ones (x ∷ xs) = omega (arith, sum_ones xs, sum_by-cons (λ x. 1) x xs)

-- a list whose members are all in another is no longer
pub fewer : (xs ys : List ℕ) → AreApart ys → ((y : ℕ) → IsIn ys y → IsIn xs y) → length ys ≤ length xs
fewer xs ys apart among = omega (arith, sum_among ys (λ x. 1) xs apart (λ y is some. among y is), sum_ones xs, sum_ones ys)

-- ---- t for each of a list is the sum with what lacks to t
-- for any list at least
pub filled : (t : ℕ) (f : ℕ → ℕ) (ys : List ℕ) → length ys * t ≤ sum_by f ys + sum_by (λ (y : ℕ). t - f y) ys
filled t f [] = omega arith
filled t f (y ∷ ys) =
    let rest = filled t f ys in
    let a = sum_by-cons f y ys in
    let b = sum_by-cons (λ y. t - f y) y ys in
    let m : length (y ∷ ys) * t ≡ length ys * t + t = suc-mul (length ys) t in
    omega arith

-- for a list of no greater ones exactly
pub filled_up : (t : ℕ) (f : ℕ → ℕ) (xs : List ℕ) → ((x : ℕ) → IsIn xs x → f x ≤ t)
    → sum_by f xs + sum_by (λ (x : ℕ). t - f x) xs ≡ length xs * t
filled_up t f [] most = omega arith
filled_up t f (x ∷ xs) most =
    let rest = filled_up t f xs (λ y is. most y (inr is)) in
    let here = most x (inl refl) in
    let a = sum_by-cons f x xs in
    let b = sum_by-cons (λ x. t - f x) x xs in
    let m : length (x ∷ xs) * t ≡ length xs * t + t = suc-mul (length xs) t in
    omega arith

-- So no list of as many members has a smaller sum than one that has all members below its greatest.
pub least_sum : (t : ℕ) (f : ℕ → ℕ) (xs ys : List ℕ) → AreApart ys → length ys ≡ length xs → ((x : ℕ) → IsIn xs x → f x ≤ t)
    → ((y : ℕ) → IsIn ys y → f y < t → IsIn xs y) → sum_by f xs ≤ sum_by f ys
least_sum t f xs ys apart same most among = grind (arith, sum_among ys, filled t f ys, filled_up t f xs most)

-- ---- sums over all numbers below n
-- the numbers below n
abbrev down : ℕ → List ℕ
down zero = []
down (suc n) = n ∷ down n

-- each is below n
in_down : (n x : ℕ) → IsIn (down n) x → x < n
in_down zero x is = absurd is
in_down (suc n) x is = grind (arith, in_down n x)

-- no two are the same
apart_down : (n : ℕ) → AreApart (down n)
apart_down zero = tt
apart_down (suc n) = (λ is. omega (arith, in_down n n is), apart_down n)

-- they have the sum below n
sum_down : (f : ℕ → ℕ) (n : ℕ) → sum_by f (down n) ≡ sum_below f n
sum_down f zero = refl
sum_down f (suc n) = omega (arith, sum_down f n, sum_by-cons f n (down n))

-- so the sum below n is no more than over a list that has all that count
pub below_among : (n : ℕ) (f : ℕ → ℕ) (xs : List ℕ) → ((y : ℕ) → y < n → 0 < f y → IsIn xs y) → sum_below f n ≤ sum_by f xs
below_among n f xs among = omega (arith, sum_among (down n) f xs (apart_down n) (λ y is some. among y (in_down n y is) some), sum_down f n)

-- where t times u is no more than a and b together, so are the sums
pub below_times : (t : ℕ) (u a b : ℕ → ℕ) (n : ℕ) → ((x : ℕ) → x < n → u x * t ≤ a x + b x)
    → sum_below u n * t ≤ sum_below a n + sum_below b n
below_times t u a b zero most = omega arith
below_times t u a b (suc n) most = grind (arith, below_times t u a b n, most n, add-mul (sum_below u n) (u n) t)

-- lesser numbers have no greater sum
pub sum_less : (f g : ℕ → ℕ) (xs : List ℕ) → ((x : ℕ) → f x ≤ g x) → sum_by f xs ≤ sum_by g xs
sum_less f g [] less = omega arith
sum_less f g (x ∷ xs) less = omega (arith, sum_less f g xs less, less x, sum_by-cons f x xs, sum_by-cons g x xs)
