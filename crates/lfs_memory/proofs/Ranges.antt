-- How many numbers of a range pass a test.
use Rattle.std.proofs.Common.{◌≡◌, ◌<◌, ◌≤◌, ◌+◌, ℕ, zero, suc, cond, Bool, true, false, List, ◌∷◌, length, refl, ap, ap₂, arith}
use Rattle.std.specs.Prelude.{filter}
use Rattle.std.specs.List.{range_with_len}
use Rattle.lfs_model.specs.Objects.{one_if}
use Rattle.lfs_model.proofs.ObjectNeeds.{filter_same}

abbrev pub passing : (ℕ → Bool) → ℕ → ℕ → ℕ
passing p a n = length (filter p (range_with_len a n))

one_more : (b : Bool) (a : ℕ) (rest : List ℕ) → length (cond b (a ∷ rest) rest) ≡ one_if b + length rest
one_more true a rest = omega arith
one_more false a rest = omega arith

pub passing_none : (p : ℕ → Bool) (a : ℕ) → passing p a 0 ≡ 0
passing_none p a = refl

pub passing_first : (p : ℕ → Bool) (a n : ℕ) → passing p a (suc n) ≡ one_if (p a) + passing p (a + 1) n
passing_first p a n = one_more (p a) a (filter p (range_with_len (a + 1) n))

-- a range in two parts
pub passing_split : (p : ℕ → Bool) (a x y b n : ℕ) → a + x ≡ b → x + y ≡ n → passing p a n ≡ passing p a x + passing p b y
passing_split p a zero y b n at all =
    let from : a ≡ b = omega arith in
    let many : n ≡ y = omega arith in
    let same = ap₂ (λ (s l : ℕ). passing p s l) from many in
    omega arith
passing_split p a (suc x) y b zero at all = omega arith
passing_split p a (suc x) y b (suc n) at all =
    let rest = passing_split p (a + 1) x y b n (omega arith) (omega arith) in
    omega (arith, rest, passing_first p a n, passing_first p a x)

pub passing_more : (p : ℕ → Bool) (a n i : ℕ) → a + n ≡ i → passing p a (n + 1) ≡ passing p a n + one_if (p i)
passing_more p a n i at =
    let split = passing_split p a n 1 i (n + 1) at refl in
    omega (arith, split, passing_first p i 0, passing_none p (i + 1))

pub passing_same : (p q : ℕ → Bool) (a n : ℕ) → ((x : ℕ) → a ≤ x → x < a + n → p x ≡ q x) → passing p a n ≡ passing q a n
passing_same p q a n same = rw (filter_same p q a n same)

pub passing_nothing : (p : ℕ → Bool) (a n : ℕ) → ((x : ℕ) → a ≤ x → x < a + n → p x ≡ false) → passing p a n ≡ 0
passing_nothing p a zero none = passing_none p a
passing_nothing p a (suc n) none =
    let rest = passing_nothing p (a + 1) n (λ x le lt. none x (omega arith) (omega arith)) in
    let off : one_if (p a) ≡ 0 = ap one_if (none a (omega arith) (omega arith)) in
    omega (arith, rest, off, passing_first p a n)
