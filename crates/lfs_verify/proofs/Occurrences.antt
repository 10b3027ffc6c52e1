-- How often a number stands in a list, and how many numbers of a list are above one.
use Rattle.std.proofs.Common.{◌≡◌, ◌<◌, ◌≤◌, ⊎_elim, ◌+◌, ◌==◌, ℕ, zero, suc, Bool, true, false, nat_lt, List, length, get_or, refl}
use Rattle.std.proofs.Common.{sym, ◌∙◌, ap, arith, eq-eqb, eqb-true, subst}
use Rattle.std.proofs.lemmas.Bool.{cases_eq, cases_lt, false_from_ne_true, lt-ltb, ltb-true}
use Rattle.lfs_model.specs.Objects.{one_if}
use Rattle.lfs_model.specs.Stands.{count_up}
use Rattle.lfs_model.specs.Totals.{sum_upto}
use Rattle.lfs_model.proofs.Live.{count_up_none, count_up_more}
use Rattle.lfs_verify.specs.Totals.{is_above, above_count}

-- ---- counts of one test
-- one place more: it passes, or not
pub count_on : (p : ℕ → Bool) (n : ℕ) → p n ≡ true → count_up p (n + 1) ≡ count_up p n + 1
count_on p n on = let e : n + 1 ≡ suc n = omega arith in omega (arith, ap (count_up p) e, ap one_if on, count_up_more p n)

pub count_stays : (p : ℕ → Bool) (n : ℕ) → p n ≡ false → count_up p (n + 1) ≡ count_up p n
count_stays p n off = let e : n + 1 ≡ suc n = omega arith in omega (arith, ap (count_up p) e, ap one_if off, count_up_more p n)

-- none passes
pub count_off : (p : ℕ → Bool) (n : ℕ) → ((x : ℕ) → x < n → p x ≡ false) → count_up p n ≡ 0
count_off p zero off = count_up_none p
count_off p (suc n) off =
    let rest = count_off p n (λ x lt. off x (omega (arith, lt))) in
    let here = ap one_if (off n (omega arith)) in
    omega (arith, rest, here, count_up_more p n)

-- one place alone passes
pub count_single : (p : ℕ → Bool) (n o : ℕ) → o < n → p o ≡ true → ((x : ℕ) → x < n → p x ≡ true → x ≡ o) → count_up p n ≡ 1
count_single p zero o lt on only = absurd (omega (arith, lt))
count_single p (suc n) o lt on only = ⊎_elim
    (λ (here : o ≡ n).
    let rest = count_off p n (λ x low.
    false_from_ne_true (p x) (λ there. let same = only x (omega (arith, low)) there in absurd (omega (arith, same, here, low)))) in
    omega (arith, ap one_if (ap p (sym here) ∙ on), rest, count_up_more p n))
    (λ (before : o ≡ n → ⊥).
    let none = ap one_if (false_from_ne_true (p n) (λ there. let same = only n (omega arith) there in before (sym same))) in
    let rest = count_single p n o (omega (arith, lt, before)) on (λ x low. only x (omega (arith, low))) in
    omega (arith, none, rest, count_up_more p n))
    (cases_eq o n)

-- a test that splits in two
count_parts : (p q r : ℕ → Bool) (n : ℕ) → ((x : ℕ) → one_if (p x) ≡ one_if (q x) + one_if (r x))
    → count_up p n ≡ count_up q n + count_up r n
count_parts p q r zero each = omega (arith, count_up_none p, count_up_none q, count_up_none r)
count_parts p q r (suc n) each =
    omega (arith, count_parts p q r n each, each n, count_up_more p n, count_up_more q n, count_up_more r n)

-- ---- the numbers of a list
abbrev pub is_at : List ℕ → ℕ → ℕ → Bool
is_at xs y a = get_or xs a 0 == y

unfoldable pub occurrences : List ℕ → ℕ → ℕ
occurrences xs y = count_up (is_at xs y) (length xs)

unfoldable pub above : List ℕ → ℕ → ℕ
above xs h = above_count xs h (length xs)

pub above_is : (xs : List ℕ) (h : ℕ) → above_count xs h (length xs) ≡ above xs h
unfolding above
above_is xs h = refl

not_lt : (a b : ℕ) → b ≤ a → nat_lt a b ≡ false
not_lt a b le = false_from_ne_true (nat_lt a b) (λ on. absurd (omega (arith, ltb-true a b on, le)))

-- sector by sector
pub above_start : (xs : List ℕ) (h : ℕ) → above_count xs h 0 ≡ 0
unfolding above_count
above_start xs h = count_up_none (is_above xs h)

pub above_step : (xs : List ℕ) (h n : ℕ) → above_count xs h (suc n) ≡ above_count xs h n + one_if (is_above xs h n)
unfolding above_count
above_step xs h n = count_up_more (is_above xs h) n

pub above_on : (xs : List ℕ) (h n : ℕ) → h < get_or xs n 0 → above_count xs h (n + 1) ≡ above_count xs h n + 1
unfolding above_count
above_on xs h n on = count_on (is_above xs h) n (lt-ltb h (get_or xs n 0) on)

pub above_off : (xs : List ℕ) (h n : ℕ) → get_or xs n 0 ≤ h → above_count xs h (n + 1) ≡ above_count xs h n
unfolding above_count
above_off xs h n off = count_stays (is_above xs h) n (not_lt h (get_or xs n 0) off)

-- fewer numbers are above a greater one
higher : (h l x : ℕ) → l ≤ h → one_if (nat_lt h x) ≤ one_if (nat_lt l x)
higher h l x le = by (nat_lt h x) refl
  where
    by : (b : Bool) → nat_lt h x ≡ b → one_if b ≤ one_if (nat_lt l x)
    by true on = let one = ap one_if (lt-ltb l x (omega (arith, ltb-true h x on, le))) in omega (arith, one)
    by false off = omega arith

pub above_fewer : (xs : List ℕ) (h l n : ℕ) → l ≤ h → above_count xs h n ≤ above_count xs l n
above_fewer xs h l zero le = omega (arith, above_start xs h)
above_fewer xs h l (suc n) le =
    omega (arith, above_fewer xs h l n le, higher h l (get_or xs n 0) le, above_step xs h n, above_step xs l n)

-- above h: h + 1, and what is above that
next_above : (h x : ℕ) → one_if (nat_lt h x) ≡ one_if (nat_lt (suc h) x) + one_if (x == suc h)
next_above h x = ⊎_elim
    (λ (low : x < suc h). cc (
      not_lt h x (omega (arith, low)),
      not_lt (suc h) x (omega (arith, low)),
      not_eq x (suc h) (λ same. omega (arith, same, low)),
    ))
    (λ (high : suc h ≤ x). ⊎_elim
    (λ (same : x ≡ suc h). cc (lt-ltb h x high, not_lt (suc h) x (omega (arith, same)), eq-eqb x (suc h) same))
    (λ (ne : x ≡ suc h → ⊥). cc (lt-ltb h x high, lt-ltb (suc h) x (omega (arith, high, ne)), not_eq x (suc h) ne))
    (cases_eq x (suc h)))
    (cases_lt x (suc h))
  where
    not_eq : (a b : ℕ) → (a ≡ b → ⊥) → (a == b) ≡ false
    not_eq a b ne = false_from_ne_true (a == b) (λ on. ne (eqb-true a b on))

pub above_next : (xs : List ℕ) (h n : ℕ) → suc h ≡ n → above xs h ≡ above xs n + occurrences xs (suc h)
unfolding above above_count occurrences
above_next xs h n is = subst (λ (n : ℕ). above xs h ≡ above xs n + occurrences xs (suc h)) is
    (count_parts (is_above xs h) (is_above xs (suc h)) (is_at xs (suc h)) (length xs) (λ a. next_above h (get_or xs a 0)))

pub above_none : (xs : List ℕ) (h : ℕ) → ((a : ℕ) → get_or xs a 0 ≤ h) → above xs h ≡ 0
unfolding above above_count
above_none xs h low = count_off (is_above xs h) (length xs) (λ a lt. not_lt h (get_or xs a 0) (low a))

pub occurs_once : (xs : List ℕ) {y : ℕ} (a : ℕ) → a < length xs → get_or xs a 0 ≡ y → ((b : ℕ) → get_or xs b 0 ≡ y → b ≡ a)
    → occurrences xs y ≡ 1
unfolding occurrences
occurs_once xs {y} a lt here only =
    count_single (is_at xs y) (length xs) a lt (eq-eqb (get_or xs a 0) y here) (λ b low on. only b (eqb-true (get_or xs b 0) y on))

pub occurs_never : (xs : List ℕ) (y : ℕ) → ((a : ℕ) → get_or xs a 0 ≡ y → ⊥) → occurrences xs y ≡ 0
unfolding occurrences
occurs_never xs y none =
    count_off (is_at xs y) (length xs) (λ a lt. false_from_ne_true (is_at xs y a) (λ on. none a (eqb-true (get_or xs a 0) y on)))

-- ---- numbers of a range that each occur once or never
pub above_range : (xs : List ℕ) (test : ℕ → Bool) (from n to : ℕ) → from + n ≡ to
    → ((i : ℕ) → i < n → occurrences xs (suc (from + i)) ≡ one_if (test i)) → above xs from ≡ above xs to + count_up test n
above_range xs test from zero to is each =
    let same : from ≡ to = omega (arith, is) in omega (arith, ap (above xs) same, count_up_none test)
above_range xs test from (suc n) to is each = omega (
  arith,
  above_range xs test from n (from + n) refl (λ i lt. each i (omega (arith, lt))),
  above_next xs (from + n) to (omega (arith, is)),
  each n (omega arith),
  count_up_more test n,
)

-- ---- sums over files
pub sum_first : (f : ℕ → ℕ) → sum_upto f 0 ≡ 0
unfolding sum_upto
sum_first f = refl

pub sum_last : (f : ℕ → ℕ) (n : ℕ) → sum_upto f (suc n) ≡ sum_upto f n + f (suc n)
unfolding sum_upto
sum_last f n = refl

pub sum_both : (f g h : ℕ → ℕ) (k : ℕ) → ((n : ℕ) → f n + g n ≡ h n) → sum_upto f k + sum_upto g k ≡ sum_upto h k
sum_both f g h zero each = omega (arith, sum_first f, sum_first g, sum_first h)
sum_both f g h (suc k) each =
    omega (arith, sum_both f g h k each, each (suc k), sum_last f k, sum_last g k, sum_last h k)

-- ranges one behind the other, the first of which is empty
pub above_ranges : (xs : List ℕ) (start : ℕ → ℕ) (f : ℕ → ℕ) (k : ℕ) → f 0 ≡ 0
    → ((n : ℕ) → n ≤ k → above xs (start n) ≡ above xs (start (suc n)) + f n) → above xs (start 0) ≡ above xs (start (suc k)) + sum_upto f k
above_ranges xs start f zero none each =
    let first = each 0 (omega arith) in
    omega (arith, first, none, sum_first f)
above_ranges xs start f (suc k) none each =
    let rest = above_ranges xs start f k none (λ n le. each n (omega (arith, le))) in
    omega (arith, rest, each (suc k) (omega arith), sum_last f k)
