-- The blocks of pointers of an object, by what a log map stores.
use Rattle.std.proofs.Common.{◌≡◌, ◌<◌, ◌≤◌, ◌↔◌, ⊎_elim, ◌+◌, ◌*◌, ◌-◌, ◌/◌, ◌&&◌, ◌||◌, cond, Bool, true, false, nat_le, nat_lt, ℕ, zero}
use Rattle.std.proofs.Common.{suc, List, [], ◌∷◌, length, refl, sym, ◌∙◌, ap, ap₂, subst, arith}
use Rattle.std.specs.Prelude.{count_by, filter}
use Rattle.std.specs.List.{list_any, range_with_len}
use Rattle.std.proofs.lemmas.Bool.{and_from, and_parts, cases_eq, le-leb, leb-true, lt-ltb, ltb-true, or_cases, or_left, or_right}
use Rattle.lfs_model.specs.Changing.{IsWithBlock}
use Rattle.lfs_model.specs.Encodes.{HasData, HasDouble, HasLeaf}
use Rattle.lfs_model.specs.Need.{lies_in, pointers}
use Rattle.lfs_model.specs.Stands.{LogMap, count_up}
use Rattle.lfs_model.specs.Objects.{has_double, has_leaf, is_stored, one_if, stored_below, LeafTests, PointerBlocks, PointersChanged}
use Rattle.lfs_model.proofs.Live.{count_same, count_up_same}
use Rattle.lfs_model.proofs.ObjectNeeds.{count_changed, same_tests}

-- ---- tests of ranges

any_found : (p : ℕ → Bool) (a n : ℕ) → list_any p (range_with_len a n) ≡ true → (x : ℕ) × (a ≤ x) × (x < a + n) × (p x ≡ true)
any_found p a zero any = absurd (cc)
any_found p a (suc n) any = ⊎_elim
    (λ (here : p a ≡ true). (a, omega arith, omega arith, here))
    (λ (later : list_any p (range_with_len (a + 1) n) ≡ true). let one = any_found p (a + 1) n later in
    (one.0, (let le = one.1 in omega arith), (let lt = one.2 in omega arith), one.3))
    (or_cases (p a) (list_any p (range_with_len (a + 1) n)) any)

any_at : (p : ℕ → Bool) (a n x : ℕ) → a ≤ x → x < a + n → p x ≡ true → list_any p (range_with_len a n) ≡ true
any_at p a zero x le lt on = absurd (omega arith)
any_at p a (suc n) x le lt on = ⊎_elim
    (λ (here : a ≡ x). or_left (p a) (list_any p (range_with_len (a + 1) n)) (ap p here ∙ on))
    (λ (later : a ≡ x → ⊥). or_right (p a) (list_any p (range_with_len (a + 1) n)) (any_at p (a + 1) n x (omega arith) (omega arith) on))
    (cases_eq a x)

any_same : (p q : ℕ → Bool) (a n : ℕ) → ((x : ℕ) → a ≤ x → x < a + n → p x ≡ q x)
    → list_any p (range_with_len a n) ≡ list_any q (range_with_len a n)
any_same p q a zero same = refl
any_same p q a (suc n) same = ap₂ (λ (x y : Bool). x || y) (same a (omega arith) (omega arith))
    (any_same p q (a + 1) n (λ x le lt. same x (omega arith) (omega arith)))

any_filtered : (p s : ℕ → Bool) (xs : List ℕ) → list_any p (filter s xs) ≡ list_any (λ x. s x && p x) xs
any_filtered p s [] = refl
any_filtered p s (x ∷ xs) = by (s x) (any_filtered p s xs)
  where
    by : (b : Bool) → list_any p (filter s xs) ≡ list_any (λ x. s x && p x) xs
        → list_any p (cond b (x ∷ filter s xs) (filter s xs)) ≡ (b && p x || list_any (λ x. s x && p x) xs)
    by true rest = ap (λ (r : Bool). p x || r) rest
    by false rest = rest

-- ---- leaves

module _ (m : LogMap) (n : ℕ) where
  stored_any : (p : ℕ → Bool) (end : ℕ) → list_any p (stored_below m n end) ≡ true
      → (x : ℕ) × (x < end) × (is_stored m n x ≡ true) × (p x ≡ true)
  unfolding stored_below
  stored_any p end any =
      let one = any_found (λ x. is_stored m n x && p x) 0 end (sym (any_filtered p (is_stored m n) (range_with_len 0 end)) ∙ any) in
      let both = and_parts (is_stored m n one.0) (p one.0) one.3 in
      (one.0, (let lt = one.2 in omega arith), both.0, both.1)

  any_stored : (p : ℕ → Bool) (end x : ℕ) → x < end → is_stored m n x ≡ true → p x ≡ true → list_any p (stored_below m n end) ≡ true
  unfolding stored_below
  any_stored p end x lt there on =
      any_filtered p (is_stored m n) (range_with_len 0 end)
      ∙ any_at (λ x. is_stored m n x && p x) 0 end x (omega arith) (omega arith) (and_from (is_stored m n x) (p x) there on)

  leaf_found : (q : ℕ) → has_leaf m n q ≡ true → (x : ℕ) × (112 + 128 * q ≤ x) × (x < 240 + 128 * q) × (is_stored m n x ≡ true)
  unfolding has_leaf
  leaf_found q any = let one = any_found (is_stored m n) (112 + 128 * q) 128 any in (one.0, one.1, (let lt = one.2 in omega arith), one.3)

  leaf_at : (q x : ℕ) → 112 + 128 * q ≤ x → x < 240 + 128 * q → is_stored m n x ≡ true → has_leaf m n q ≡ true
  unfolding has_leaf
  leaf_at q x le lt there = any_at (is_stored m n) (112 + 128 * q) 128 x le (omega arith) there

  double_found : has_double m n ≡ true → (q : ℕ) × (q < 128) × (has_leaf m n (suc q) ≡ true)
  unfolding has_double
  double_found any = let one = any_found (λ q. has_leaf m n (suc q)) 0 128 any in (one.0, (let lt = one.2 in omega arith), one.3)

  double_at : (q : ℕ) → q < 128 → has_leaf m n (suc q) ≡ true → has_double m n ≡ true
  unfolding has_double
  double_at q lt there = any_at (λ q. has_leaf m n (suc q)) 0 128 q (omega arith) (omega arith) there

  leaf_test : (q : ℕ) → (has_leaf m n q ≡ true) ↔ HasLeaf m n q
  leaf_test q = (
    λ on.
        let one = leaf_found q on in
        let le = one.1 in
        let at : 112 + 128 * q + (one.0 - (112 + 128 * q)) ≡ one.0 = omega arith in (
          one.0 - (112 + 128 * q),
          (let lt = one.2 in
              omega arith),
          subst (HasData m n) (sym at) (ltb-true 0 (length (m.block n one.0)) one.3),
        ),
    λ has. (let lt = has.1 in
        leaf_at q (112 + 128 * q + has.0) (omega arith) (omega arith) (lt-ltb 0 (length (m.block n (112 + 128 * q + has.0))) has.2)),
  )

  double_test : (has_double m n ≡ true) ↔ HasDouble m n
  double_test = (
    λ on. (let one = double_found on in (one.0, one.1, (leaf_test (suc one.0)).0 one.2)),
    λ has. double_at has.0 has.1 ((leaf_test (suc has.0)).1 has.2),
  )

  -- what the cost asks of the indices of a leaf
  leaf_asked : (q a b end : ℕ) → a ≡ 112 + 128 * q → b ≡ 240 + 128 * q → b ≤ end
      → list_any (lies_in a b) (stored_below m n end) ≡ has_leaf m n q
  leaf_asked q a b end from to room = same_tests (list_any (lies_in a b) (stored_below m n end)) (has_leaf m n q)
      (λ any.
      let one = stored_any (lies_in a b) end any in
      let both = and_parts (nat_le a one.0) (nat_lt one.0 b) one.3 in
      let le = leb-true a one.0 both.0 in
      let lt = ltb-true one.0 b both.1 in
      leaf_at q one.0 (omega arith) (omega arith) one.2)
      (λ on.
      let one = leaf_found q on in
      let le = one.1 in
      let lt = one.2 in
      any_stored (lies_in a b) end one.0 (omega arith) one.3
      (and_from (nat_le a one.0) (nat_lt one.0 b) (le-leb a one.0 (omega arith)) (lt-ltb one.0 b (omega arith))))

  double_asked : (end : ℕ) → end ≡ 16624 → list_any (nat_le 240) (stored_below m n end) ≡ has_double m n
  double_asked end top = same_tests (list_any (nat_le 240) (stored_below m n end)) (has_double m n)
      (λ any.
      let one = stored_any (nat_le 240) end any in
      let lt = one.1 in
      let le = leb-true 240 one.0 one.3 in
      double_at ((one.0 - 240) / 128) (omega arith) (leaf_at (suc ((one.0 - 240) / 128)) one.0 (omega arith) (omega arith) one.2))
      (λ on.
      let two = double_found on in
      let low = two.1 in
      let one = leaf_found (suc two.0) two.2 in
      let le = one.1 in
      let lt = one.2 in
      any_stored (nat_le 240) end one.0 (omega arith) one.3 (le-leb 240 one.0 (omega arith)))

  leaves_asked : (end many : ℕ) → end ≡ 16624 → many ≤ 128
      → count_by (λ g. list_any (lies_in (240 + 128 * g) (368 + 128 * g)) (stored_below m n end)) (range_with_len 0 many)
      ≡ count_up (λ q. has_leaf m n (suc q)) many
  unfolding count_up
  leaves_asked end many top few =
      count_same (λ g. list_any (lies_in (240 + 128 * g) (368 + 128 * g)) (stored_below m n end)) (λ q. has_leaf m n (suc q)) 0 many
      (λ g le lt. leaf_asked (suc g) (240 + 128 * g) (368 + 128 * g) end (omega arith) (omega arith) (omega arith))

  pointers_by : (end : ℕ) → end ≡ 16624
      → pointers (stored_below m n end) ≡ one_if (has_leaf m n 0) + count_up (λ q. has_leaf m n (suc q)) 128 + one_if (has_double m n)
  pointers_by end top =
      let single = leaf_asked 0 112 240 end refl refl (omega arith) in
      let leaves = leaves_asked end 128 top (omega arith) in
      let double = double_asked end top in
      λ j. one_if (single j) + leaves j + one_if (double j)

pub leaf_tests : LeafTests
leaf_tests m n = (leaf_test m n, double_test m n)

pub pointer_count : PointerBlocks
pointer_count m n = pointers_by m n 16624 refl

-- ---- one block changed

count_up_changed : (p q : ℕ → Bool) (n o : ℕ) → o < n → ((x : ℕ) → (x ≡ o → ⊥) → p x ≡ q x)
    → count_up q n + one_if (p o) ≡ count_up p n + one_if (q o)
unfolding count_up
count_up_changed p q n o lt same = count_changed p q 0 n o (omega arith) (omega arith) same

-- the blocks of pointers in all, with the leaves of the double root counted up to a variable end
abbrev blocks_above : LogMap → ℕ → ℕ → ℕ
blocks_above m n many = one_if (has_leaf m n 0) + count_up (λ q. has_leaf m n (suc q)) many + one_if (has_double m n)

module _ (m m' : LogMap) (n i : ℕ) (bytes : List ℕ) (is : IsWithBlock m n i bytes m') where
  leaf_same : (q : ℕ) → (112 + 128 * q ≤ i → i < 240 + 128 * q → ⊥) → has_leaf m' n q ≡ has_leaf m n q
  unfolding has_leaf
  leaf_same q away = any_same (is_stored m' n) (is_stored m n) (112 + 128 * q) 128
      (λ x le lt. ap (λ (b : List ℕ). nat_lt 0 (length b)) (is.others n x (λ e. let here : x ≡ i = cc in away (omega arith) (omega arith))))

  double_same : ((q : ℕ) → q < 128 → has_leaf m' n (suc q) ≡ has_leaf m n (suc q)) → has_double m' n ≡ has_double m n
  unfolding has_double
  double_same same = any_same (λ q. has_leaf m' n (suc q)) (λ q. has_leaf m n (suc q)) 0 128 (λ q le lt. same q (omega arith))

  low_same : (many : ℕ) → i < 240 → count_up (λ q. has_leaf m' n (suc q)) many ≡ count_up (λ q. has_leaf m n (suc q)) many
  low_same many low =
      count_up_same (λ q. has_leaf m' n (suc q)) (λ q. has_leaf m n (suc q)) many (λ q lt. leaf_same (suc q) (λ le lt. omega arith))

  low_double : i < 240 → has_double m' n ≡ has_double m n
  low_double low = double_same (λ q lt. leaf_same (suc q) (λ le lt. omega arith))

  direct : (many : ℕ) → i < 112 → blocks_above m' n many ≡ blocks_above m n many
  direct many low =
      let single = leaf_same 0 (λ le lt. omega arith) in
      let leaves = low_same many (omega arith) in
      let double = low_double (omega arith) in
      λ j. one_if (single j) + leaves j + one_if (double j)

  under : (m : LogMap) (g : ℕ) → one_if (nat_lt 0 (suc g) && has_double m n) ≡ one_if (has_double m n)
  under m g = ap (λ (b : Bool). one_if (b && has_double m n)) (lt-ltb 0 (suc g) (omega arith))

  below : (many q : ℕ) → many ≡ 128 → q ≤ 128 → 112 + 128 * q ≤ i → i < 240 + 128 * q
      → blocks_above m' n many + one_if (has_leaf m n q) + one_if (nat_lt 0 q && has_double m n)
      ≡ blocks_above m n many + one_if (has_leaf m' n q) + one_if (nat_lt 0 q && has_double m' n)
  below many zero top le from to =
      let leaves = low_same many (omega arith) in
      let double = ap one_if (low_double (omega arith)) in
      omega (arith, leaves, double)
  below many (suc g) top le from to =
      let single = ap one_if (leaf_same 0 (λ le lt. omega arith)) in
      let leaves = count_up_changed (λ q. has_leaf m n (suc q)) (λ q. has_leaf m' n (suc q)) many g (omega arith)
      (λ q ne. sym (leaf_same (suc q) (λ le lt. ne (omega arith)))) in
      let was = under m g in
      let now = under m' g in
      omega (arith, single, leaves, was, now)

pub pointers_changed : PointersChanged
pointers_changed m m' n i bytes is = (
  λ low. pointer_count m' n ∙ direct m m' n i bytes is 128 low ∙ sym (pointer_count m n),
  λ q few from to.
      ap (λ (k : ℕ). k + one_if (has_leaf m n q) + one_if (nat_lt 0 q && has_double m n)) (pointer_count m' n)
      ∙ below m m' n i bytes is 128 q refl few from to
      ∙ sym (ap (λ (k : ℕ). k + one_if (has_leaf m' n q) + one_if (nat_lt 0 q && has_double m' n)) (pointer_count m n)),
)
