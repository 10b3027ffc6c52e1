-- The totals of a log map, when one file changes, and over its tree.
use Rattle.std.proofs.Common.{◌≡◌, ◌<◌, ◌≤◌, ◌⊎◌, ⊎_elim, ◌+◌, ◌-◌, ℕ, zero, suc, List, length, Option, Some, None, refl, ap, ap₂, arith}
use Rattle.std.proofs.Common.{inl, inr, nat_lt}
use Rattle.std.proofs.lemmas.Bool.{cases_eq}
use Rattle.lfs_model.specs.Entry.{Header}
use Rattle.lfs_model.specs.Need.{pointers}
use Rattle.lfs_model.specs.Objects.{IsChangedAt, is_stored, stored_below}
use Rattle.lfs_model.specs.Stands.{LogMap}
use Rattle.lfs_model.proofs.ObjectNeeds.{filter_same}
use Rattle.lfs_model.specs.Totals.{stored_in, meta_of_file, sum_upto, TotalsOfChange}
use Rattle.lfs_cleaner.proofs.of_log.of_memory.Ranges.{passing, passing_split, passing_same}

-- ---- sums
sum_same : (f g : ℕ → ℕ) (k : ℕ) → ((j : ℕ) → j ≤ k → g j ≡ f j) → sum_upto g k ≡ sum_upto f k
unfolding sum_upto
sum_same f g zero same = refl
sum_same f g (suc k) same =
    omega (arith, sum_same f g k (λ j low. same j (omega (arith, low))), same (suc k) (omega arith))

-- one number changes
pub sum_changed : {f g : ℕ → ℕ} {n : ℕ} (k : ℕ) → 1 ≤ n → n ≤ k → ((j : ℕ) → (j ≡ n → ⊥) → g j ≡ f j)
    → sum_upto g k + f n ≡ sum_upto f k + g n
unfolding sum_upto
sum_changed zero some le same = absurd (omega arith)
sum_changed {f} {g} {n} (suc k) some le same = ⊎_elim
    (λ (here : suc k ≡ n).
    omega (arith, sum_same f g k (λ j low. same j (λ e. omega (arith, e, here, low))), ap f here, ap g here))
    (λ (ne : suc k ≡ n → ⊥).
    omega (arith, sum_changed k some (omega (arith, le, ne)) same, same (suc k) ne)) (cases_eq (suc k) n)

-- ---- the stored blocks of a file
pub stored_split : (m : LogMap) (n a b c : ℕ) → a ≤ b → b ≤ c → stored_in m n a c ≡ stored_in m n a b + stored_in m n b c
unfolding stored_in
stored_split m n a b c low high = passing_split (is_stored m n) a (b - a) (c - b) b (c - a) (omega arith) (omega arith)

pub stored_same : (m m' : LogMap) (n a b : ℕ) → ((i : ℕ) → a ≤ i → i < b → m'.block n i ≡ m.block n i)
    → stored_in m' n a b ≡ stored_in m n a b
unfolding stored_in
stored_same m m' n a b same = passing_same _ _ a _
    (λ i le lt. ap (λ (x : List ℕ). nat_lt 0 (length x)) (same i le (omega arith)))

pub stored_all : (m : LogMap) (n end : ℕ) → length (stored_below m n end) ≡ stored_in m n 0 end
unfolding stored_in stored_below
stored_all m n end = ap (λ (e : ℕ). passing (is_stored m n) 0 e) (omega arith)

list_same : (m m' : LogMap) (n end : ℕ) → ((i : ℕ) → m'.block n i ≡ m.block n i) → stored_below m' n end ≡ stored_below m n end
unfolding stored_below
list_same m m' n end same =
    filter_same _ _ 0 end (λ i le lt. ap (λ (x : List ℕ). nat_lt 0 (length x)) (same i))

-- only those of a range change
stored_change : (m m' : LogMap) (n from to end : ℕ) → from ≤ to → to ≤ end → ((i : ℕ) → (i < from) ⊎ (to ≤ i) → m'.block n i ≡ m.block n i)
    → length (stored_below m' n end) + stored_in m n from to ≡ length (stored_below m n end) + stored_in m' n from to
stored_change m m' n from to end order low same =
    let before = stored_same m m' n 0 from (λ i le lt. same i (inl lt)) in
    let behind = stored_same m m' n to end (λ i le lt. same i (inr le)) in
    omega (
      arith,
      before,
      behind,
      stored_all m n end,
      stored_all m' n end,
      stored_split m n 0 from end (omega arith) (omega arith),
      stored_split m n from to end order low,
      stored_split m' n 0 from end (omega arith) (omega arith),
      stored_split m' n from to end order low,
    )

-- ---- the law
module _ (m m' : LogMap) (n : ℕ) (is : IsChangedAt m n m') where
  data_elsewhere : (end j : ℕ) → (j ≡ n → ⊥) → length (stored_below m' j end) ≡ length (stored_below m j end)
  data_elsewhere end j ne = ap (λ (xs : List ℕ). length xs) (list_same _ _ _ _ (λ i. is.blocks j i ne))

  abbrev meta_by : Option Header → List ℕ → ℕ
  meta_by o xs = elim o [ None ↦ 0 | Some h ↦ 1 + pointers xs ]

  meta_elsewhere : (j : ℕ) → (j ≡ n → ⊥) → meta_of_file m' j ≡ meta_of_file m j
  meta_elsewhere j ne = ap₂ meta_by (is.headers j ne) (list_same m m' j 16624 (λ i. is.blocks j i ne))

  data_change : (k from to end : ℕ) → 1 ≤ n → n ≤ k → from ≤ to → to ≤ end → ((i : ℕ) → (i < from) ⊎ (to ≤ i) → m'.block n i ≡ m.block n i)
      → sum_upto (λ j. length (stored_below m' j end)) k + stored_in m n from to ≡ sum_upto (λ j. length (stored_below m j end)) k
      + stored_in m' n from to
  data_change k from to end some few order low same =
      omega (arith, stored_change m m' n from to end order low same, sum_changed k some few (data_elsewhere end))

pub totals_of_change : TotalsOfChange
totals_of_change m m' n from to is some few order low same = (
  data_change _ _ _ is _ _ _ _ some few order low same,
  sum_changed _ some few (meta_elsewhere _ _ _ is),
)
