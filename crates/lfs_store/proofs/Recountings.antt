-- The totals of a log map in which one file changes, by its measure before and after.
use Rattle.std.specs.Prelude.{count_by, if◌then◌else◌, nat_le}
use Rattle.std.specs.List.{list_any, range_with_len}
use Rattle.std.proofs.Common.{◌≡◌, ◌<◌, ◌≤◌, ◌⊎◌, ◌+◌, ◌-◌, ◌*◌, ◌^◌, ℕ, zero, suc, Bool, true, false, List, [], ◌∷◌, length, Option, Some}
use Rattle.std.proofs.Common.{None, refl, sym, ◌∙◌, ap, arith}
use Rattle.std.proofs.lemmas.List.Sums.{length-filter}
use Rattle.lfs_model.specs.Encodes.{IsLogMap}
use Rattle.lfs_model.specs.Entry.{Header}
use Rattle.lfs_model.specs.Need.{pointers, lies_in}
use Rattle.lfs_model.specs.Objects.{IsChangedAt, stored_blocks, one_if}
use Rattle.lfs_model.specs.Stands.{LogMap}
use Rattle.lfs_store.specs.declared.totals.Measure.{Measure}
use Rattle.lfs_cleaner.specs.log.verify.declared.totals.BlockTotals.{BlockTotals}
use Rattle.lfs_store.specs.Recounting.{Replaces, AreTotals, Recounts}
use Rattle.lfs_model.specs.Totals.{stored_in, data_of_file, meta_of_file, sum_upto, data_in, meta_in, HasMeasure}
use Rattle.lfs_store.proofs.Leaves.{beside_same}
use Rattle.lfs_cleaner.proofs.of_log.of_memory.Ranges.{passing, passing_first, passing_none}
use Rattle.lfs_store.proofs.Summing.{stored_all, totals_of_change}

-- ---- all totals are numbers of 32 bits

one_most : (b : Bool) → one_if b ≤ 1
one_most true = omega arith
one_most false = omega arith

passing_most : (p : ℕ → Bool) (a n : ℕ) → passing p a n ≤ n
passing_most p a zero = omega (arith, passing_none p a)
passing_most p a (suc n) =
    omega (arith, passing_most p (a + 1) n, passing_first p a n, one_most (p a))

stored_most : (m : LogMap) (n from to : ℕ) → stored_in m n from to ≤ to - from
unfolding stored_in
stored_most m n from to = passing_most _ _ _

data_few : (m : LogMap) (n : ℕ) → data_of_file m n ≤ 16624
data_few m n = omega (arith, stored_all m n 16624, stored_most m n 0 16624)

either_most : (b : Bool) → (if b then 1 else 0) ≤ 1
either_most true = omega arith
either_most false = omega arith

groups_most : (a b : Bool) (p : ℕ → Bool) (n : ℕ) → (if a then 1 else 0) + count_by p (range_with_len 0 n) + (if b then 1 else 0) ≤ n + 2
groups_most a b p n =
    omega (arith, either_most a, either_most b, length-filter p (range_with_len 0 n), passing_most p 0 n)

meta_few : (o : Option Header) (is : List ℕ) → elim o [ None ↦ 0 | Some h ↦ 1 + pointers is ] ≤ 16624
meta_few None is = omega arith
meta_few (Some h) is = let most : pointers is ≤ 130 = groups_most _ (list_any (nat_le 240) is)
    (λ g. list_any (lies_in (240 + 128 * g) (368 + 128 * g)) is) 128 in omega arith

sum_most : (f : ℕ → ℕ) (k : ℕ) → ((j : ℕ) → f j ≤ 16624) → sum_upto f k ≤ 16624 * k
unfolding sum_upto
sum_most f zero few = omega arith
sum_most f (suc k) few = omega (arith, sum_most f k few, few (suc k))

pub data_low : (m : LogMap) → data_in m < 2 ^ 32
data_low m = omega (arith, sum_most (data_of_file m) 4095 (data_few m))

pub meta_low : (m : LogMap) → meta_in m < 2 ^ 32
meta_low m = omega (arith, sum_most (meta_of_file m) 4095 (λ n. meta_few (m.header n) (stored_blocks m n)))

-- ---- one file changes

replaced : {old before after new all was now total : ℕ} → Replaces old before after new → old ≡ total → before ≡ was → after ≡ now
    → all + was ≡ total + now → all < 2 ^ 32 → new ≡ all
replaced replaces a b c law low =
    omega (arith, replaces (omega (arith, a, b, c, law)) (omega (arith, a, b, c, law, low)))

pub recounted : (m : LogMap) {m' : LogMap} (n : ℕ) {from to : ℕ} {old new : BlockTotals} {before after : Measure} → IsChangedAt m n m'
    → 1 ≤ n → n ≤ 4095
    → from ≤ to → to ≤ 16624
    → ((i : ℕ) → (i < from) ⊎ (to ≤ i) → m'.block n i ≡ m.block n i)
    → HasMeasure m n from to before.data_blocks before.meta_blocks → HasMeasure m' n from to after.data_blocks after.meta_blocks
    → Recounts old new before after → AreTotals m old → AreTotals m' new
recounted m {m'} n {from} {to} {old} {new} {before} {after} changed some few order low same was now recounts are =
    let law = totals_of_change m m' n from to changed some few order low same in
    record {
      stored = replaced recounts.stored are.stored was.stored now.stored law.0 (data_low m');
      above = replaced {before = before.meta_blocks} {after = after.meta_blocks} {was = before.meta_blocks}
          {now = after.meta_blocks} recounts.above are.above refl refl (omega (arith, beside_same m m' n from to same)) (meta_low m');
    }

-- a log map has no block from 16624 on
pub none_high : (m : LogMap) (n i : ℕ) → IsLogMap m → 16624 ≤ i → m.block n i ≡ []
none_high m n i is high = by (m.block n i) refl
  where
    by : (b : List ℕ) → m.block n i ≡ b → b ≡ []
    by [] e = refl
    by (x ∷ b) e = absurd (omega (arith, is.small n i (omega (arith, ap length e))))

pub same_high : {m : LogMap} {m' : LogMap} {n i : ℕ} → IsLogMap m → IsLogMap m' → 16624 ≤ i → m'.block n i ≡ m.block n i
same_high {m'} is is' high = none_high _ _ _ is' high ∙ sym (none_high _ _ _ is high)
