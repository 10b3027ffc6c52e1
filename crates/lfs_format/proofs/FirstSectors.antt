-- The summary and the addresses of a new volume, as they are put together.
use Rattle.std.proofs.Common.{◌≡◌, ⊎_elim, ℕ, zero, suc, ◌+◌, ◌-◌, ◌<◌, ◌≤◌, List, length, take, get_or, cond, nat_lt, refl, subst, sym}
use Rattle.std.proofs.Common.{map, ◌∙◌, ap, arith}
use Rattle.std.proofs.lemmas.Bool.{cases_lt, cond-true, cond-false, lt-ltb, le-ltb}
use Rattle.std.proofs.lemmas.List.{ext_get_or, get_or-take, length-take-le}
use Rattle.std.proofs.lemmas.List.FromFn.{get_or-map-range_with_len, length-map-range_with_len}
use Rattle.std.specs.List.{range_with_len}
use Rattle.lfs_model.specs.Checkpoint.{usage_blocks}
use Rattle.lfs_model.specs.Image.{first_usage_address, first_name, first_names, first_used}
use Rattle.lfs_model.specs.Summary.{BlockNameValue, FitsSummary, IsPlaced, no_block}

index_low : (u : ℕ) → u ≤ 16 → (j : ℕ) → cond (nat_lt j u) j 0 ≤ 15
index_low u most j = ⊎_elim
    (λ (lt : j < u). let own = cond-true (nat_lt j u) j 0 (lt-ltb j u lt) in omega (arith, own, most, lt))
    (λ (le : u ≤ j). let none = cond-false (nat_lt j u) j 0 (le-ltb j u le) in omega (arith, none)) (cases_lt j u)

-- the first of 63 names
pub named : (N p : ℕ) (names : List BlockNameValue) → first_used N p - 1 ≤ length names
    → ((k : ℕ) → k < first_used N p - 1 → get_or names k no_block ≡ first_name N k) → take (first_used N p - 1) names ≡ first_names N p
named N p names long each =
    let n : ℕ = first_used N p - 1 in
    let count : length (take n names) ≡ n = length-take-le n names long in
    ext_get_or no_block (take n names) (first_names N p) (count ∙ sym (length-map-range_with_len (first_name N) 0 n)) (λ i lt.
    let below : i < n = omega arith in
    get_or-take n names i no_block below ∙ each i below
    ∙ sym (get_or-map-range_with_len (first_name N) 0 n i i no_block below (omega arith)))

pub fits_first_names : (N p : ℕ) → 3 + usage_blocks N ≤ first_used N p → first_used N p ≤ 64
    → ((j : ℕ) → IsPlaced (first_name N j).kind (first_name N j).file (first_name N j).index) → FitsSummary (first_names N p)
fits_first_names N p least most placed =
    let n : ℕ = first_used N p - 1 in
    let count : length (first_names N p) ≡ n = length-map-range_with_len (first_name N) 0 n in
    record {
      some = omega (arith, count, least);
      room = omega (arith, count, most);
      each = λ i lt.
          let below : i < n = omega (arith, count, lt) in
          subst (λ b. IsPlaced b.kind b.file b.index)
          (sym (get_or-map-range_with_len (first_name N) 0 n i i no_block below (omega arith))) (placed i);
    }

pub placed_names : (N : ℕ) → usage_blocks N ≤ 16 → (j : ℕ) → IsPlaced (first_name N j).kind (first_name N j).file (first_name N j).index
unfolding IsPlaced
placed_names N most zero = ((omega arith, omega arith), refl)
placed_names N most (suc zero) = (refl, omega arith)
placed_names N most (suc (suc j)) = (refl, index_low (usage_blocks N) most j)

pub addressed : (N : ℕ) {n : ℕ} {usage : List ℕ} → n ≡ usage_blocks N → length usage ≡ 16
    → ((k : ℕ) → k < 16 → get_or usage k 0 ≡ cond (nat_lt k n) (5 + k) 0) → usage ≡ map (first_usage_address N) (range_with_len 0 16)
addressed N {usage} is long each =
    ext_get_or 0 usage (map (first_usage_address N) (range_with_len 0 16))
    (long ∙ sym (length-map-range_with_len (first_usage_address N) 0 16)) (λ i lt.
    let below : i < 16 = omega arith in
    each i below ∙ ap (λ m. cond (nat_lt i m) (5 + i) 0) is
    ∙ sym (get_or-map-range_with_len (first_usage_address N) 0 16 i i 0 below (omega arith)))
