-- Data blocks in memory, counted by the keys' order.
use Rattle.std.proofs.Common.{◌≡◌, ◌<◌, ◌≤◌, ◌+◌, ◌∙◌, cond, get_or, ℕ, zero, suc, Bool, T, true, false, List, [], ◌∷◌, length}
use Rattle.std.proofs.Common.{refl, ap, arith, rules}
use Rattle.std.specs.Prelude.{sum_by}
use Rattle.std.specs.Ordering.{nat_cmp}
use Rattle.std.specs.FinMap.{is_sorted, put}
use Rattle.lfs_model.specs.Tree.{without}
use Rattle.std.proofs.lemmas.List.Sums.{sum_by-cons, sum_by-remove, sum_by-set}
use Rattle.lfs_inodes.specs.Blocks.{Blocks, TableValue, HasNumberAt, altered, altered_as, number_at}
use Rattle.lfs_inodes.specs.Data.{is_data_code, data_count}
use Rattle.lfs_inodes.proofs.Blocks.{find_at, put_at, rises, without_at}

abbrev one : ℕ × List ℕ → ℕ
one e = cond (is_data_code e.0) 1 0

abbrev Rising : Blocks → Type 0
Rising es = (i j : ℕ) → i < j → j < length es → number_at es i < number_at es j

rising_rest : (e : ℕ × List ℕ) (es : Blocks) → Rising (e ∷ es) → Rising es
rising_rest e es up i j lt room = up (suc i) (suc j) (omega arith) (omega arith)

below : (c : ℕ) → is_data_code c ≡ true → c < 134217728
below c is = search (rules, arith)

from_below : (c : ℕ) → c < 134217728 → is_data_code c ≡ true
from_below c lt = search (rules, arith)

above : (c : ℕ) → is_data_code c ≡ false → 134217728 ≤ c
above c is = search (rules, arith)

from_above : (c : ℕ) → 134217728 ≤ c → is_data_code c ≡ false
from_above c le = search (rules, arith)

-- behind a key that isn't of data there is none
none_past : (es : Blocks) → ((j : ℕ) → j < length es → 134217728 ≤ number_at es j) → sum_by one es ≡ 0
none_past [] far = refl
none_past (e ∷ es) far =
    omega (
      arith,
      none_past es (λ j lt. far (suc j) (omega arith)),
      ap (λ b. cond {A = ℕ} b 1 0)
          (from_above e.0 (far 0 (omega arith))),
      sum_by-cons one e es,
    )

-- up to one that is there are as many as keys
all_before : (es : Blocks) → Rising es → (i : ℕ) → i < length es → number_at es i < 134217728 → i < sum_by one es
all_before [] up i lt low = absurd (omega (arith, lt))
all_before (e ∷ es) up zero lt low =
    let first = ap (λ b. cond {A = ℕ} b 1 0) (from_below e.0 low) in
    omega (arith, first, sum_by-cons one e es)
all_before (e ∷ es) up (suc i) lt low = grind (arith, lt, low, sum_by-cons one e es, all_before es (rising_rest e es up) i, up 0 (suc i))

few_before : (es : Blocks) → Rising es → (i : ℕ) → (i < length es → 134217728 ≤ number_at es i) → sum_by one es ≤ i
few_before [] up i far = omega arith
few_before (e ∷ es) up zero far =
    let first = far (omega arith) in
    let none = none_past (e ∷ es) (λ j lt. from_first j lt first) in
    omega (arith, none)
  where
    from_first : (j : ℕ) → j < length (e ∷ es) → 134217728 ≤ e.0 → 134217728 ≤ number_at (e ∷ es) j
    from_first zero lt le = le
    from_first (suc j) lt le = grind (arith, le, up 0 (suc j))
few_before (e ∷ es) up (suc i) far = grind (arith, sum_by-cons one e es, few_before es (rising_rest e es up) i, at_most (is_data_code e.0))
  where
    at_most : (b : Bool) → cond b 1 0 ≤ 1
    at_most true = omega arith
    at_most false = omega arith

pub has_data : (t : TableValue) → T (is_sorted nat_cmp t.blocks) → (i : ℕ) → i < length t.blocks
    → is_data_code (number_at t.blocks i) ≡ true → i < data_count t
unfolding data_count
has_data t sorted i lt is = all_before t.blocks (rises t.blocks sorted) i lt (below _ is)

pub lacks_data : (t : TableValue) → T (is_sorted nat_cmp t.blocks) → (i : ℕ)
    → (i < length t.blocks → is_data_code (number_at t.blocks i) ≡ false) → data_count t ≤ i
unfolding data_count
lacks_data t sorted i far = few_before t.blocks (rises t.blocks sorted) i (λ lt. above _ (far lt))

pub no_data : (t : TableValue) → t.blocks ≡ [] → data_count t ≡ 0
unfolding data_count
no_data t none = ap (sum_by one) none

-- ---- the first, one that is patched, and one that leaves
pub first_data : (t : TableValue) → T (is_sorted nat_cmp t.blocks) → {c : ℕ} → HasNumberAt t.blocks c 0 → 1 ≤ data_count t
    → is_data_code c ≡ true
first_data t sorted {c} at some = by_kind (is_data_code c) refl
  where
    by_kind : (b : Bool) → is_data_code c ≡ b → is_data_code c ≡ true
    by_kind true is = is
    by_kind false is =
        let number = at.number in
        absurd (omega (arith, lacks_data t sorted 0 (λ lt. ap is_data_code number ∙ is)))

same_number : {es : Blocks} (c i : ℕ) (v : List ℕ) → HasNumberAt es c i → one (get_or es i (0, [])) ≡ one (c, v)
same_number c i v at = grind arith

put_keeps : {es : Blocks} → T (is_sorted nat_cmp es) → (c i : ℕ) (v : List ℕ) → HasNumberAt es c i
    → sum_by one (put nat_cmp c v es) ≡ sum_by one es
put_keeps {es} sorted c i v at =
    omega (arith, ap (sum_by one) (put_at sorted c v i at), sum_by-set one es i (c, v) (0, []) at.within, same_number c i v at)

pub data_patched : (t : TableValue) {t' : TableValue} → T (is_sorted nat_cmp t.blocks) → {c i : ℕ} (f : List ℕ → List ℕ)
    → HasNumberAt t.blocks c i
    → t' ≡ record t { blocks = altered f c t.blocks } → data_count t' ≡ data_count t
unfolding data_count
data_patched t sorted {c} {i} f at is =
    ap (λ u. sum_by one u.blocks) is
    ∙ ap (λ o. sum_by one (altered_as o f c t.blocks)) (find_at sorted c i at)
    ∙ put_keeps sorted c i (f (get_or t.blocks i (0, [])).1) at

pub data_removed : (t : TableValue) {t' : TableValue} → T (is_sorted nat_cmp t.blocks) → (c i : ℕ) → HasNumberAt t.blocks c i
    → t' ≡ record t { blocks = without nat_cmp c t.blocks } → is_data_code c ≡ true → data_count t' + 1 ≡ data_count t
unfolding data_count
data_removed t sorted c i at is kind =
    let now = ap (λ u. sum_by one u.blocks) is in
    let left = ap (sum_by one) (without_at sorted c i at) in
    let gone = sum_by-remove one t.blocks i (0, []) at.within in
    let number = at.number in
    let counted : one (get_or t.blocks i (0, [])) ≡ 1 = ap (λ n. cond (is_data_code n) 1 0) number
    ∙ ap (λ b. cond b 1 0) kind in
    omega arith
