-- A file that is cut, or filled with zeros, costs no more.
use Rattle.std.proofs.Common.{◌≡◌, refl, sym, ap, subst, ℕ, zero, suc, ◌+◌, ◌*◌, ◌-◌, ◌/◌, ◌<◌, ◌≤◌, Bool, true, false, ◌||◌, List, [], ◌∷◌}
use Rattle.std.proofs.Common.{◌++◌, arith, cond, length}
use Rattle.std.specs.Prelude.{filter, not, take, drop, replicate, ◌==◌}
use Rattle.std.specs.List.{AllByRecursion, list_any, range_with_len}
use Rattle.lfs_model.specs.Bytes.{cut}
use Rattle.lfs_model.specs.Tree.{File}
use Rattle.lfs_model.specs.Need.{cost, data_of, meta_of, data_pieces, is_data, pointers}
use Rattle.lfs_model.proofs.DirCosts.{pointers_sub, costs_more}
use Rattle.lfs_model.proofs.FileBytes.{all_take, all_drop}

-- a byte that isn't zero
abbrev is_nonzero : ℕ → Bool
is_nonzero c = not (c == 0)

none_of_zeros : (xs : List ℕ) → AllByRecursion (λ (c : ℕ). c ≡ 0) xs → list_any is_nonzero xs ≡ false
none_of_zeros [] h = refl
none_of_zeros (x ∷ xs) h = rw h.0 (none_of_zeros xs h.1)

all_zero : (z : ℕ) → AllByRecursion (λ (c : ℕ). c ≡ 0) (replicate z 0)
all_zero zero = tt
all_zero (suc z) = (refl, all_zero z)

zeros_have_none : (z m k : ℕ) → list_any is_nonzero (take k (drop m (replicate z 0))) ≡ false
zeros_have_none z m k = none_of_zeros (take k (drop m (replicate z 0)))
    (all_take (λ (c : ℕ). c ≡ 0) k (drop m (replicate z 0)) (all_drop (λ (c : ℕ). c ≡ 0) m (replicate z 0) (all_zero z)))

front : (b : List ℕ) (n z k : ℕ) → list_any is_nonzero (take k (take n b ++ replicate z 0)) ≡ true → list_any is_nonzero (take k b) ≡ true
front b n z zero e = cc
front [] zero z (suc k) e = let no = zeros_have_none z 0 (suc k) in cc
front [] (suc n) z (suc k) e = let no = zeros_have_none z 0 (suc k) in cc
front (x ∷ b) zero z (suc k) e = let no = zeros_have_none z 0 (suc k) in cc
front (x ∷ b) (suc n) z (suc k) e =
    elim (is_nonzero x)
    as (λ v. (v || list_any is_nonzero (take k (take n b ++ replicate z 0))) ≡ true → (v || list_any is_nonzero (take k b)) ≡ true) [
      | true ↦ λ e. refl
      | false ↦ λ e. front b n z k e
    ] e

inside : (b : List ℕ) (n z m k : ℕ) → list_any is_nonzero (take k (drop m (take n b ++ replicate z 0))) ≡ true
    → list_any is_nonzero (take k (drop m b)) ≡ true
inside b n z zero k e = front b n z k e
inside [] zero z (suc m) k e = let no = zeros_have_none z (suc m) k in cc
inside [] (suc n) z (suc m) k e = let no = zeros_have_none z (suc m) k in cc
inside (x ∷ b) zero z (suc m) k e = let no = zeros_have_none z (suc m) k in cc
inside (x ∷ b) (suc n) z (suc m) k e = inside b n z m k e

-- a piece with data in what is left had data before
still_data : (b : List ℕ) (n i : ℕ) → is_data (cut b n) i ≡ true → is_data b i ≡ true
still_data b n i e = inside b n (n - length b) (512 * i) 512 e

begins_before : (b : List ℕ) (m k : ℕ) → list_any is_nonzero (take k (drop m b)) ≡ true → m < length b
begins_before [] zero zero e = cc
begins_before [] zero (suc k) e = cc
begins_before [] (suc m) zero e = cc
begins_before [] (suc m) (suc k) e = cc
begins_before (x ∷ b) zero k e = omega arith
begins_before (x ∷ b) (suc m) k e = let rest = begins_before b m k e in omega arith

data_within : (b : List ℕ) (i : ℕ) → is_data b i ≡ true → i < (length b + 511) / 512
data_within b i e = let before = begins_before b (512 * i) 512 e in omega arith

-- ---- fewer indices

module _ (p q : ℕ → Bool) (sub : (i : ℕ) → p i ≡ true → q i ≡ true) where
  none_after : (s a : ℕ) → ((i : ℕ) → p i ≡ true → i < s) → filter p (range_with_len s a) ≡ []
  none_after s zero low = refl
  none_after s (suc a) low =
      elim (p s) as (λ v. p s ≡ v → cond v (s ∷ filter p (range_with_len (s + 1) a)) (filter p (range_with_len (s + 1) a)) ≡ []) [
        | true ↦ λ e. absurd (let past = low s e in omega arith)
        | false ↦ λ e. none_after (s + 1) a (λ i h. let past = low i h in omega arith)
      ] refl

  fewer : (s a b : ℕ) → ((i : ℕ) → p i ≡ true → i < s + b) → length (filter p (range_with_len s a)) ≤ length (filter q (range_with_len s b))
  fewer s zero b low = omega arith
  fewer s (suc a) zero low = subst (λ (xs : List ℕ). length xs ≤ length (filter q (range_with_len s zero)))
      (sym (none_after s (suc a) (λ i h. let past = low i h in omega arith))) (omega arith)
  fewer s (suc a) (suc b) low =
      let rest = fewer (s + 1) a b (λ i h. let past = low i h in omega arith) in
      elim (p s) as (λ v. p s ≡ v → length (cond v (s ∷ filter p (range_with_len (s + 1) a)) (filter p (range_with_len (s + 1) a)))
      ≤ length (filter q (range_with_len s (suc b)))) [
        | true ↦ λ e. rw (sub s e) (omega (arith, rest))
        | false ↦ λ e. elim (q s) as (λ w. length (filter p (range_with_len (s + 1) a))
            ≤ length (cond w (s ∷ filter q (range_with_len (s + 1) b)) (filter q (range_with_len (s + 1) b)))) [
              | true ↦ omega (arith, rest)
              | false ↦ rest
            ]
      ] refl

  any_fewer : (f : ℕ → Bool) (s a b : ℕ) → ((i : ℕ) → p i ≡ true → i < s + b) → list_any f (filter p (range_with_len s a)) ≡ true
      → list_any f (filter q (range_with_len s b)) ≡ true
  any_fewer f s zero b low e = cc
  any_fewer f s (suc a) zero low e = absurd (let none = none_after s (suc a) (λ i h. let past = low i h in omega arith) in
      let no : list_any f (filter p (range_with_len s (suc a))) ≡ false = ap (list_any f) none in cc)
  any_fewer f s (suc a) (suc b) low e =
      elim (p s) as (λ v. p s ≡ v → list_any f (cond v (s ∷ filter p (range_with_len (s + 1) a)) (filter p (range_with_len (s + 1) a)))
      ≡ true → list_any f (filter q (range_with_len s (suc b))) ≡ true) [
        | true ↦ λ h e. rw (sub s h) (elim (f s) as (λ w. (w || list_any f (filter p (range_with_len (s + 1) a))) ≡ true
            → (w || list_any f (filter q (range_with_len (s + 1) b))) ≡ true) [
              | true ↦ λ e. refl
              | false ↦ λ e. any_fewer f (s + 1) a b (λ i h. let past = low i h in omega arith) e
            ] e)
        | false ↦ λ h e. (
            let rest = any_fewer f (s + 1) a b (λ i h. let past = low i h in omega arith) e in
            elim (q s)
            as (λ w. list_any f (cond w (s ∷ filter q (range_with_len (s + 1) b)) (filter q (range_with_len (s + 1) b))) ≡ true) [
              | true ↦ elim (f s) as (λ w. (w || list_any f (filter q (range_with_len (s + 1) b))) ≡ true) [ true ↦ refl | false ↦ rest ]
              | false ↦ rest
            ])
      ] refl e

lists_cost : (xs ys : List ℕ) → length xs ≤ length ys → ((p : ℕ → Bool) → list_any p xs ≡ true → list_any p ys ≡ true)
    → length xs + 7 * (1 + pointers xs) ≤ length ys + 7 * (1 + pointers ys)
lists_cost xs ys few sub = costs_more (length xs) (length ys) (pointers xs) (pointers ys) few (pointers_sub xs ys sub)

pub cut_cost : (b : List ℕ) (n : ℕ) → cost (File (cut b n)) ≤ cost (File b)
unfolding data_of meta_of
cut_cost b n =
    let low : (i : ℕ) → is_data (cut b n) i ≡ true
    → i < 0 + (length b + 511) / 512 = λ i e. let within = data_within b i (still_data b n i e) in omega arith in
    lists_cost (data_pieces (File (cut b n))) (data_pieces (File b))
    (fewer (is_data (cut b n)) (is_data b) (still_data b n) 0 ((length (cut b n) + 511) / 512) ((length b + 511) / 512) low)
    (λ f. any_fewer (is_data (cut b n)) (is_data b) (still_data b n) f 0 ((length (cut b n) + 511) / 512) ((length b + 511) / 512) low)
