-- The blocks of pointers of a file, by its leaves.
use Rattle.std.specs.Prelude.{min, max}
use Rattle.std.specs.Int.{div_ceil}
use Rattle.std.proofs.Common.{◌≡◌, ◌<◌, ◌≤◌, ◌⊎◌, ⊎_elim, ◌+◌, ◌-◌, ◌*◌, ◌||◌, ℕ, zero, suc, Bool, true, false, length, refl, sym, ◌∙◌, ap}
use Rattle.std.proofs.Common.{ap₂, arith, inl, inr}
use Rattle.std.specs.List.{list_any, range_with_len}
use Rattle.std.proofs.lemmas.Bool.{cases_lt, false_from_ne_true, lt-ltb}
use Rattle.std.proofs.lemmas.List.Sums.{length-filter}
use Rattle.lfs_model.specs.Need.{pointers}
use Rattle.lfs_model.specs.Objects.{has_double, has_leaf, one_if, stored_blocks}
use Rattle.lfs_model.specs.Stands.{LogMap, count_up}
use Rattle.lfs_model.proofs.ObjectPointers.{leaf_tests, pointer_count}
use Rattle.lfs_store.specs.Measuring.{EndsBy}
use Rattle.lfs_model.specs.Totals.{leaves_in}
use Rattle.lfs_cleaner.proofs.of_log.of_memory.Ranges.{passing, passing_none, passing_first, passing_split, passing_nothing, passing_same}

-- ---- ranges
one_or : (b c : Bool) (k : ℕ) → one_if c ≡ min k 1 → one_if (b || c) ≡ min (one_if b + k) 1
one_or true c k is = omega arith
one_or false c k is = omega arith

-- whether one passes, by how many do
any_count : (p : ℕ → Bool) (a n : ℕ) → one_if (list_any p (range_with_len a n)) ≡ min (passing p a n) 1
any_count p a zero = refl
any_count p a (suc n) =
    one_or (p a) (list_any p (range_with_len (a + 1) n)) (passing p (a + 1) n) (any_count p (a + 1) n)
    ∙ ap (λ (k : ℕ). min k 1) (sym (passing_first p a n))

up_count : (p : ℕ → Bool) (n : ℕ) → count_up p n ≡ passing p 0 n
unfolding count_up
up_count p n = sym (length-filter p (range_with_len 0 n))

shifted : (p : ℕ → Bool) (a n : ℕ) → passing (λ q. p (suc q)) a n ≡ passing p (a + 1) n
shifted p a zero = refl
shifted p a (suc n) =
    let next : suc a ≡ a + 1 = omega arith in
    omega (arith, shifted p (a + 1) n, ap (λ (q : ℕ). one_if (p q)) next, passing_first (λ q. p (suc q)) a n, passing_first p (a + 1) n)

-- ---- leaves
module _ (m : LogMap) (n : ℕ) where
  double_count : one_if (has_double m n) ≡ min (passing (λ q. has_leaf m n (suc q)) 0 128) 1
  unfolding has_double
  double_count = any_count (λ q. has_leaf m n (suc q)) 0 128

  -- those below the double root, so many
  below_count : passing (λ q. has_leaf m n (suc q)) 0 128 ≡ passing (has_leaf m n) 1 128
  below_count = shifted (has_leaf m n) 0 128

  by_leaves : (single below : ℕ) → one_if (has_leaf m n 0) ≡ single → passing (has_leaf m n) 1 128 ≡ below
      → pointers (stored_blocks m n) ≡ single + below + min below 1
  by_leaves single below first others =
      let up = up_count (λ q. has_leaf m n (suc q)) _ ∙ below_count ∙ others in
      let root = double_count ∙ ap (λ (k : ℕ). min k 1) (below_count ∙ others) in
      pointer_count m n ∙ ap₂ (λ (a b : ℕ). a + b) (ap₂ (λ (a b : ℕ). a + b) first up) root

  -- all of them, and the double root where one of those below it is stored
  pointers_of : (all below : ℕ) → all ≡ suc below → below ≡ 128
      → pointers (stored_blocks m n) ≡ passing (has_leaf m n) 0 all + min (passing (has_leaf m n) 1 below) 1
  pointers_of all below next is =
      omega (
        arith,
        by_leaves (one_if (has_leaf m n 0)) (passing (has_leaf m n) 1 below) refl (cc),
        ap (passing (has_leaf m n) 0) next ∙
            passing_first (has_leaf m n) 0 below,
      )

  double_of : (below : ℕ) → below ≡ 128 → one_if (has_double m n) ≡ min (passing (has_leaf m n) 1 below) 1
  double_of below is = double_count ∙ ap (λ (k : ℕ). min k 1) (below_count ∙ ap (passing (has_leaf m n) 1) (sym is))

  pub double_is : one_if (has_double m n) ≡ min (leaves_in m n 1 129) 1
  unfolding leaves_in
  double_is = double_of (129 - 1) (omega arith)

  pub pointers_all : pointers (stored_blocks m n) ≡ leaves_in m n 0 129 + min (leaves_in m n 1 129) 1
  unfolding leaves_in
  pointers_all = pointers_of (129 - 0) (129 - 1) (omega arith) (omega arith)

  -- ---- ranges of leaves
  pub leaves_none : (a b : ℕ) → ((q : ℕ) → a ≤ q → q < b → has_leaf m n q ≡ false) → leaves_in m n a b ≡ 0
  unfolding leaves_in
  leaves_none a b none = passing_nothing _ a _ (λ q le lt. none q le (omega arith))

  pub leaves_split : (a b c : ℕ) → a ≤ b → b ≤ c → leaves_in m n a c ≡ leaves_in m n a b + leaves_in m n b c
  unfolding leaves_in
  leaves_split a b c low high = passing_split (has_leaf m n) a (b - a) (c - b) b (c - a) (omega arith) (omega arith)

  leaves_one : (q : ℕ) → has_leaf m n q ≡ true → leaves_in m n q (q + 1) ≡ 1
  unfolding leaves_in
  leaves_one q on =
      let one : q + 1 - q ≡ 1 = omega arith in
      ap (passing (has_leaf m n) q) one ∙ omega (arith, passing_first (has_leaf m n) q 0, passing_none (has_leaf m n) (q + 1), ap one_if on)

  -- ---- the double root
  pub double_found : (q : ℕ) → 1 ≤ q → q ≤ 128 → has_leaf m n q ≡ true → min (leaves_in m n 1 129) 1 ≡ 1
  double_found q some few on =
      omega (
        arith,
        leaves_split 1 q 129 some (omega (arith, few)),
        leaves_split q (q + 1) 129 (omega arith) (omega (arith, few)),
        leaves_one q on,
      )

  pub double_beside : (a b : ℕ) → 1 ≤ a → a ≤ b → b ≤ 129 → 1 ≤ leaves_in m n a b → min (leaves_in m n 1 129) 1 ≡ 1
  double_beside a b some order few on =
      omega (arith, leaves_split 1 a 129 some (omega (arith, order, few)), leaves_split a b 129 order few)

  -- no leaf from an end on is stored
  module _ (size end : ℕ) (ends : EndsBy m n size) (past : (size ≤ 512 * (112 + 128 * end)) ⊎ (129 ≤ end)) where
    pub empty : (q : ℕ) → end ≤ q → q ≤ 128 → has_leaf m n q ≡ false
    empty q le low = false_from_ne_true (has_leaf m n q) (λ on.
        let has = ((leaf_tests m n).0 q).0 on in
        let there = lt-ltb 0 (length (m.block n (112 + 128 * q + has.0))) has.2 in
        let off = ends (112 + 128 * q + has.0) (⊎_elim
        (λ (covers : size ≤ 512 * (112 + 128 * end)). omega arith)
        (λ (all : 129 ≤ end). absurd (omega arith)) past) in
        let bad : true ≡ false = cc in
        absurd (cc))

    pub double_none : leaves_in m n 1 (max end 1) ≡ 0 → end ≤ 129 → min (leaves_in m n 1 129) 1 ≡ 0
    double_none none few =
        omega (
          arith,
          leaves_split 1 (max end 1) 129 (omega arith) (omega (arith, few)),
          leaves_none (max end 1) 129
              (λ q le lt. empty q (omega (arith, le)) (omega (arith, lt))),
        )

-- the same leaves are as many
pub leaves_same : (m m' : LogMap) (n a b : ℕ) → ((q : ℕ) → a ≤ q → q < b → has_leaf m' n q ≡ has_leaf m n q)
    → leaves_in m' n a b ≡ leaves_in m n a b
unfolding leaves_in
leaves_same m m' n a b same = passing_same _ _ a _ (λ q le lt. same q le (omega arith))

-- as many leaves as the blocks of a size need, or all
pub leaves_cover : (size : ℕ) {blocks leaves end : ℕ} → blocks ≡ div_ceil size 512 → leaves ≡ div_ceil (blocks - 112) 128
    → end ≡ min leaves 129
    → (size ≤ 512 * (112 + 128 * end)) ⊎ (129 ≤ end)
leaves_cover size {end} up down few = ⊎_elim
    (λ (less : end < 129). inl (omega arith))
    (λ (all : 129 ≤ end). inr all)
    (cases_lt end 129)
