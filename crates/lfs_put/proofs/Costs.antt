-- How many blocks of pointers an object has whose first blocks are all stored.
use Rattle.std.proofs.Common.{◌≡◌, ◌<◌, ◌≤◌, ℕ, zero, suc, ◌+◌, ◌-◌, ◌*◌, Bool, true, false, sym, ◌∙◌, ap, subst}
use Rattle.std.proofs.Common.{nat_lt, cond, IsTrue, ◌↔◌, rules, arith}
use Rattle.std.proofs.lemmas.Bool.Decides.{nat_tests}
use Rattle.std.specs.Prelude.{◌||◌, ◌&&◌, count_by, nat_le, min}
use Rattle.std.specs.Int.{div_ceil}
use Rattle.std.specs.List.{list_any, range_with_len}
use Rattle.std.proofs.lemmas.List.Sums.{sum_by-cons}
use Rattle.lfs_model.specs.Need.{lies_in, pointers}

less : (a b : ℕ) → a < b → nat_lt a b ≡ true
less a b h = grind (arith, nat_tests)

not_less : (a b : ℕ) → b ≤ a → nat_lt a b ≡ false
not_less a b h = grind (arith, nat_tests)

at_most : (a b : ℕ) → a ≤ b → nat_le a b ≡ true
at_most a b h = grind (arith, nat_tests)

above : (a b : ℕ) → b < a → nat_le a b ≡ false
above a b h = grind (arith, nat_tests)

-- a test that holds of no number before t, and of t, holds of some number of
-- a range that begins d numbers before it exactly where the range is longer
any_of : (p : ℕ → Bool) (s d n t : ℕ) → s + d ≡ t → ((i : ℕ) → i < t → p i ≡ false) → p t ≡ true
    → list_any p (range_with_len s n) ≡ nat_lt d n
any_of p s d zero t same low at = sym (not_less d 0 (omega arith))
any_of p s zero (suc n) t same low at =
    let is : t ≡ s = omega (arith, same) in
    let here : p s ≡ true = subst (λ (i : ℕ). p i ≡ true) is at in
    ap (λ (b : Bool). b || list_any p (range_with_len (s + 1) n)) here ∙ sym (less 0 (suc n) (omega arith))
any_of p s (suc d) (suc n) t same low at =
    ap (λ (b : Bool). b || list_any p (range_with_len (s + 1) n)) (low s (omega (arith, same)))
    ∙ any_of p (s + 1) d n t (omega (arith, same)) low at
    ∙ both d n
  where
    both : (d n : ℕ) → nat_lt d n ≡ nat_lt (suc d) (suc n)
    both d n = grind (arith, nat_tests)

lies_at : (a b : ℕ) → a < b → lies_in a b a ≡ true
lies_at a b h = ap (λ (x : Bool). x && nat_lt a b) (at_most a a (omega arith)) ∙ less a b h

lies_behind : (a b i : ℕ) → i < a → lies_in a b i ≡ false
lies_behind a b i h = ap (λ (x : Bool). x && nat_lt i b) (above a i h)

any_in : (a b k : ℕ) → a < b → list_any (lies_in a b) (range_with_len 0 k) ≡ nat_lt a k
any_in a b k h = any_of (lies_in a b) 0 a k a (omega arith) (λ i low. lies_behind a b i low) (lies_at a b h)

any_from : (a k : ℕ) → list_any (nat_le a) (range_with_len 0 k) ≡ nat_lt a k
any_from a k = any_of (nat_le a) 0 a k a (omega arith) (λ i low. above a i low) (at_most a a (omega arith))

-- the groups of blocks behind the first 240
abbrev group : ℕ → ℕ → Bool
group k g = list_any (lies_in (240 + 128 * g) (368 + 128 * g)) (range_with_len 0 k)

group_is : (k g : ℕ) → group k g ≡ nat_lt (240 + 128 * g) k
group_is k g = any_in (240 + 128 * g) (368 + 128 * g) k (omega arith)

group_step : (b : Bool) (k d s n : ℕ) {rest : ℕ} → k ≤ 240 + 128 * d → (0 < d → 112 + 128 * d < k) → b ≡ nat_lt (240 + 128 * s) k
    → rest ≡ min n (d - (s + 1)) → cond b 1 0 + rest ≡ min (suc n) (d - s)
group_step true k d s n up low is more =
    let past : 240 + 128 * s < k = grind (arith, nat_tests, is) in
    omega (arith, up, past, more)
group_step false k d s n up low is more =
    let end : k ≤ 240 + 128 * s = grind (arith, nat_tests, is) in
    let few : d ≤ s = few_of k d s low end in
    omega (arith, few, more)
  where
    few_of : (k d s : ℕ) → (0 < d → 112 + 128 * d < k) → k ≤ 240 + 128 * s → d ≤ s
    few_of k zero s low end = omega arith
    few_of k (suc d) s low end = let some = low (omega arith) in omega (arith, some, end)

groups : (k d s n : ℕ) → k ≤ 240 + 128 * d → (0 < d → 112 + 128 * d < k) → count_by (group k) (range_with_len s n) ≡ min n (d - s)
groups k d s zero up low = omega arith
groups k d s (suc n) up low =
    sum_by-cons (λ (x : ℕ). cond (group k x) 1 0) s (range_with_len (s + 1) n)
    ∙ group_step (group k s) k d s n up low (group_is k s) (groups k d (s + 1) n up low)

-- so many groups, d, have a stored block
pointers_are : (k d : ℕ) → k ≤ 240 + 128 * d → (0 < d → 112 + 128 * d < k) → d ≤ 128
    → pointers (range_with_len 0 k) ≡ cond (nat_lt 112 k) 1 0 + d + cond (nat_lt 240 k) 1 0
pointers_are k d up low few =
    let one = ap (λ (b : Bool). cond b 1 0) (any_in 112 240 k (omega arith)) in
    let two = groups k d 0 128 up low in
    let three = ap (λ (b : Bool). cond b 1 0) (any_from 240 k) in
    sums _ _ _ _ _ d one two three few
  where
    sums : (a a' b c c' d : ℕ) → a ≡ a' → b ≡ min 128 (d - 0) → c ≡ c' → d ≤ 128 → a + b + c ≡ a' + d + c'
    sums a a' b c c' d one two three few = omega (arith, one, two, three, few)

pub no_pointers : (k : ℕ) → k ≤ 112 → 0 ≡ pointers (range_with_len 0 k)
no_pointers k low =
    sym (pointers_are k 0 (omega (arith, low)) (λ some. absurd (omega (arith, some))) (omega arith)
    ∙ ap (λ (b : Bool). cond b 1 0 + 0 + cond (nat_lt 240 k) 1 0) (not_less 112 k low)
    ∙ ap (λ (b : Bool). 0 + cond b 1 0) (not_less 240 k (omega (arith, low))))

pub one_pointer : (k : ℕ) → 112 < k → k ≤ 240 → 1 ≡ pointers (range_with_len 0 k)
one_pointer k low high =
    sym (pointers_are k 0 (omega (arith, high)) (λ some. absurd (omega (arith, some))) (omega arith)
    ∙ ap (λ (b : Bool). cond b 1 0 + 0 + cond (nat_lt 240 k) 1 0) (less 112 k low)
    ∙ ap (λ (b : Bool). 1 + 0 + cond b 1 0) (not_less 240 k high))

pub more_pointers : (k : ℕ) → 240 < k → k ≤ 16624 → 2 + div_ceil (k - 112 - 128) 128 ≡ pointers (range_with_len 0 k)
more_pointers k low high =
    let d = div_ceil (k - 112 - 128) 128 in
    sym (pointers_are k d (omega (arith, low)) (λ some. omega (arith, low)) (omega (arith, high))
    ∙ ap (λ (b : Bool). cond b 1 0 + d + cond (nat_lt 240 k) 1 0) (less 112 k (omega (arith, low)))
    ∙ ap (λ (b : Bool). 1 + d + cond b 1 0) (less 240 k low) ∙ last d)
  where
    last : (d : ℕ) → 1 + d + 1 ≡ 2 + d
    last d = omega arith

le_iff : (x y : ℕ) → IsTrue (nat_le x y) ↔ (x ≤ y)
le_iff x y = search rules

-- a comparison of sums, by their parts
pub compares : {need limit cost : ℕ} (next : ℕ) {now n l c x f a : ℕ} → n ≡ need → a ≡ c + x → c ≡ cost → x ≡ next → l ≡ limit → f ≡ now
    → IsTrue (nat_le (n + a) (l + f)) ↔ (need + cost + next ≤ limit + now)
compares next {n} {l} {f} {a} is sum one two three four = (
  λ is_less. let less = (le_iff (n + a) (l + f)).0 is_less in omega (arith, is, sum, one, two, three, four, less),
  λ less. (le_iff (n + a) (l + f)).1 (omega (arith, is, sum, one, two, three, four, less)),
)
