-- A directory with fewer entries costs no more.
use Rattle.std.proofs.Common.{◌≡◌, refl, ap, ℕ, zero, suc, ◌+◌, ◌*◌, ◌/◌, ◌≤◌, Bool, true, false, ◌||◌, List, [], ◌∷◌, arith, cond, length}
use Rattle.std.specs.Prelude.{count_by, if◌then◌else◌, nat_le}
use Rattle.std.specs.List.{list_any, range_with_len}
use Rattle.std.proofs.lemmas.List.Sums.{sum_by-cons}
use Rattle.lfs_model.specs.Tree.{Names, Dir, slot_len}
use Rattle.lfs_model.specs.Need.{cost, data_of, meta_of, pointers, lies_in}

any_more : (p : ℕ → Bool) (s a b : ℕ) → a ≤ b → list_any p (range_with_len s a) ≡ true → list_any p (range_with_len s b) ≡ true
any_more p s zero b h e = cc
any_more p s (suc a) zero h e = absurd (omega arith)
any_more p s (suc a) (suc b) h e =
    elim (p s) as (λ v. (v || list_any p (range_with_len (s + 1) a)) ≡ true → (v || list_any p (range_with_len (s + 1) b)) ≡ true) [
      | true ↦ λ e. refl
      | false ↦ λ e. any_more p (s + 1) a b (omega arith) e
    ] e

one_more : (x y : Bool) → (x ≡ true → y ≡ true) → (if x then 1 else 0) ≤ (if y then 1 else 0)
one_more true y h = rw (h refl) (omega arith)
one_more false y h = omega arith

pub counts_more : {X : Type 0} (p q : X → Bool) → ((x : X) → p x ≡ true → q x ≡ true) → (xs : List X) → count_by p xs ≤ count_by q xs
counts_more p q h [] = omega arith
counts_more {X} p q h (x ∷ xs) = omega (
  arith,
  sum_by-cons (λ (x : X). cond (p x) 1 0) x xs,
  sum_by-cons (λ (x : X). cond (q x) 1 0) x xs,
  one_more (p x) (q x) (h x),
  counts_more p q h xs,
)

length-range : (s n : ℕ) → length (range_with_len s n) ≡ n
length-range s zero = refl
length-range s (suc n) = ap suc (length-range (s + 1) n)

three_more : {a b c x y z : ℕ} → a ≤ x → b ≤ y → c ≤ z → a + b + c ≤ x + y + z
three_more p q r = omega arith

-- more indices have no fewer pointer blocks
pub pointers_sub : (xs ys : List ℕ) → ((p : ℕ → Bool) → list_any p xs ≡ true → list_any p ys ≡ true) → pointers xs ≤ pointers ys
pointers_sub xs ys sub =
    let one = one_more (list_any (lies_in 112 240) xs) (list_any (lies_in 112 240) ys) (sub (lies_in 112 240)) in
    let two = counts_more (λ g. list_any (lies_in (240 + 128 * g) (368 + 128 * g)) xs)
    (λ g. list_any (lies_in (240 + 128 * g) (368 + 128 * g)) ys)
    (λ g. sub (lies_in (240 + 128 * g) (368 + 128 * g))) (range_with_len 0 128) in
    let three = one_more (list_any (nat_le 240) xs) (list_any (nat_le 240) ys) (sub (nat_le 240)) in
    three_more one two three

pointers_more : (a b : ℕ) → a ≤ b → pointers (range_with_len 0 a) ≤ pointers (range_with_len 0 b)
pointers_more a b h = pointers_sub (range_with_len 0 a) (range_with_len 0 b) (λ p. any_more p 0 a b h)

length_more : (a b : ℕ) → a ≤ b → length (range_with_len 0 a) ≤ length (range_with_len 0 b)
length_more a b h = omega (arith, length-range 0 a, length-range 0 b)

pub costs_more : (la lb pa pb : ℕ) → la ≤ lb → pa ≤ pb → la + 7 * (1 + pa) ≤ lb + 7 * (1 + pb)
costs_more la lb pa pb h k = omega arith

blocks_more : (form a b : ℕ) → a ≤ b → (slot_len form * a + 511) / 512 ≤ (slot_len form * b + 511) / 512
blocks_more zero a b h = omega arith
blocks_more (suc form) a b h = omega arith

range_cost : (a b : ℕ) → a ≤ b → length (range_with_len 0 a) + 7 * (1 + pointers (range_with_len 0 a))
    ≤ length (range_with_len 0 b) + 7 * (1 + pointers (range_with_len 0 b))
range_cost a b h = costs_more (length (range_with_len 0 a)) (length (range_with_len 0 b)) (pointers (range_with_len 0 a))
    (pointers (range_with_len 0 b)) (length_more a b h) (pointers_more a b h)

pub dir_cost : (form : ℕ) (m k : Names) → length m ≤ length k → cost (Dir form m) ≤ cost (Dir form k)
unfolding data_of meta_of
dir_cost form m k h =
    range_cost ((slot_len form * length m + 511) / 512) ((slot_len form * length k + 511) / 512) (blocks_more form (length m) (length k) h)
