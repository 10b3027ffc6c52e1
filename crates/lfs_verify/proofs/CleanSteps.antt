-- Clean segments, counted one by one.
use Rattle.lfs_verify.proofs.Occurrences.{count_on, count_stays}
use Rattle.std.proofs.Common.{◌≡◌, ◌≤◌, ◌↔◌, ◌+◌, ◌*◌, ◌==◌, ℕ, List, length, get_or, ◌∙◌, ap, arith, eq-eqb, eqb-true}
use Rattle.std.proofs.lemmas.Bool.{false_from_ne_true}
use Rattle.lfs_model.specs.Reach.{View}
use Rattle.lfs_model.specs.Stands.{EnoughClean, count_up, is_clean}
use Rattle.lfs_model.proofs.Live.{count_up_none, count_up_same}
use Rattle.lfs_verify.specs.Tables.{IsUsedTable, is_unused, clean_count}

pub clean_none : (used : List ℕ) → clean_count used 0 ≡ 0
unfolding clean_count
clean_none used = count_up_none (is_unused used)

-- one more segment: clean, and not
pub clean_on : (used : List ℕ) (n : ℕ) → get_or used n 0 ≡ 0 → clean_count used (n + 1) ≡ clean_count used n + 1
unfolding clean_count
clean_on used n none = count_on (is_unused used) n (eq-eqb (get_or used n 0) 0 none)

pub clean_off : (used : List ℕ) (n : ℕ) → (get_or used n 0 ≡ 0 → ⊥) → clean_count used (n + 1) ≡ clean_count used n
unfolding clean_count
clean_off used n some =
    count_stays (is_unused used) n (false_from_ne_true (is_unused used n) (λ on. some (eqb-true (get_or used n 0) 0 on)))

-- the count by the table is that of the volume
clean_is : (v : View) (used : List ℕ) → IsUsedTable v used → clean_count used (length used) ≡ count_up (is_clean v) v.checkpoint.segments
unfolding clean_count
clean_is v used table =
    ap (λ (n : ℕ). count_up (is_unused used) n) table.size
    ∙ count_up_same (is_unused used) (is_clean v) v.checkpoint.segments (λ s lt. ap (λ (x : ℕ). x == 0) (table.each s lt))

pub enough_clean : (v : View) {used : List ℕ} {n : ℕ} → IsUsedTable v used → n ≡ clean_count used (length used)
    → (length used ≤ 8 * n) ↔ EnoughClean v
enough_clean v {used} table is =
    let e = clean_is v used table in
    let s = table.size in
    (λ le. omega (arith, le, e, s, is), λ le. omega (arith, le, e, s, is))
