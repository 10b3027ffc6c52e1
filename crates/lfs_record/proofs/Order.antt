-- Names are ordered as their numbers are.
use Rattle.std.proofs.Common.{◌≡◌, ◌<◌, ◌≤◌, ℕ, zero, suc, ◌+◌, ◌-◌, ◌*◌, true, List, [], ◌∷◌, refl, sym, ◌∙◌, subst, length, take, arith}
use Rattle.std.proofs.lemmas.List.{length-take-le}
use Rattle.std.specs.Ordering.{nat_cmp, ordering_then}
use Rattle.std.specs.Cmp.{ranked}
use Rattle.std.specs.declared.cmp.Ordering.TheVariants.{Less, Equal, Greater}
use Rattle.lfs_model.specs.Tree.{byte_cmp}
use Rattle.lfs_record.specs.Names.{is_digit, is_name, number_of, value}
use Rattle.std.specs.Prelude.{slice_index}
use Rattle.lfs_record.proofs.Digits.{digit_bounds, digit_in, name_pattern, same_lengths}

-- each is a digit
abbrev pub AreDigits : List ℕ → Type 0
AreDigits [] = Unit {0}
AreDigits (b ∷ digits) = (48 ≤ b) × (b ≤ 57) × AreDigits digits

-- a smaller number stays smaller, whatever digits follow
pub stays_less : (a b : ℕ) (xs ys : List ℕ) → AreDigits xs → AreDigits ys → length xs ≡ length ys → a < b → value a xs < value b ys
stays_less a b [] [] dx dy same less = less
stays_less a b [] (y ∷ ys) dx dy same less = absurd (omega (arith, same))
stays_less a b (x ∷ xs) [] dx dy same less = absurd (omega (arith, same))
stays_less a b (x ∷ xs) (y ∷ ys) dx dy same less =
    let low : x ≤ 57 = dx.1 in
    stays_less (10 * a + (x - 48)) (10 * b + (y - 48)) xs ys dx.2 dy.2 (omega (arith, same)) (omega (arith, less, low))

-- Of two texts that begin with as many digits, the one with the smaller number is before the other.
pub less_first : (v k : ℕ) (a b : List ℕ) → k ≤ length a → k ≤ length b → AreDigits (take k a) → AreDigits (take k b)
    → value v (take k a) < value v (take k b) → byte_cmp a b ≡ Less
less_first v zero a b la lb da db less = absurd (omega (arith, less))
less_first v (suc k) [] b la lb da db less = absurd (omega (arith, la))
less_first v (suc k) (x ∷ a) [] la lb da db less = absurd (omega (arith, lb))
less_first v (suc k) (x ∷ a) (y ∷ b) la lb da db less =
    elim (nat_cmp x y) as (λ r. r ≡ nat_cmp x y → ordering_then r (byte_cmp a b) ≡ Less) [
      | Less ↦ λ e. refl
      | Equal ↦ λ e. (let same : x ≡ y = ranked x y Equal e in
          less_first (10 * v + (x - 48)) k a b (omega (arith, la)) (omega (arith, lb)) da.2 db.2
          (subst (λ (z : ℕ). value (10 * v + (x - 48)) (take k a) < value (10 * v + (z - 48)) (take k b)) (sym same) less))
      | Greater ↦ λ e. (let more : y < x = ranked x y Greater e in
          let low : 48 ≤ y = db.0 in
          let other = stays_less (10 * v + (y - 48)) (10 * v + (x - 48)) (take k b) (take k a) db.2 da.2
          (length-take-le k b (omega (arith, lb)) ∙ sym (length-take-le k a (omega (arith, la)))) (omega (arith, more, low)) in
          absurd (omega (arith, less, other)))
    ] refl

digits_in : (a : List ℕ) (k : ℕ) → ((i : ℕ) → i < k → is_digit (slice_index a i) ≡ true) → k ≤ length a → AreDigits (take k a)
digits_in a zero at long = tt
digits_in [] (suc k) at long = absurd (omega (arith, long))
digits_in (x ∷ a) (suc k) at long =
    let b = digit_bounds x (at 0 (omega arith)) in
    (b.0, b.1, digits_in a k (λ i low. at (suc i) (omega (arith, low))) (omega (arith, long)))

long_name : (a : List ℕ) → is_name a ≡ true → 8 ≤ length a
long_name a is = (let long : length a ≡ 19 = same_lengths name_pattern a is in omega (arith, long))

-- the name with the smaller number is the first in byte order
pub numbers_order : (a b : List ℕ) → is_name a ≡ true → is_name b ≡ true → number_of a < number_of b → byte_cmp a b ≡ Less
numbers_order a b is is' less =
    less_first 0 8 a b (long_name a is) (long_name b is') (digits_in a 8 (λ i low. digit_in a i is low) (long_name a is))
    (digits_in b 8 (λ i low. digit_in b i is' low) (long_name b is')) less
