-- The leaves of pointers of a file that have a block at some indices, and those that have none there.
use Rattle.std.specs.Prelude.{min}
use Rattle.std.proofs.Common.{◌≡◌, ◌<◌, ◌≤◌, ◌⊎◌, ⊎_elim, ◌+◌, ◌*◌, ℕ, true, false, length, sym, ◌∙◌, ap, arith, inl, inr}
use Rattle.std.proofs.lemmas.Bool.{cases_lt, false_from_ne_true, lt-ltb}
use Rattle.lfs_model.specs.Objects.{has_leaf, is_stored}
use Rattle.lfs_model.specs.Stands.{LogMap}
use Rattle.lfs_model.proofs.ObjectPointers.{leaf_tests}
use Rattle.lfs_store.specs.Measuring.{EndsBy}
use Rattle.lfs_model.specs.Totals.{leaf_from, leaf_to, leaves_beside, leaves_in}
use Rattle.lfs_store.proofs.Measured.{same_leaf}
use Rattle.lfs_store.proofs.Pointers.{empty, leaves_none, leaves_same, leaves_split}

-- ---- those beside
pub beside_split : (m : LogMap) (n from to : ℕ) → from ≤ to → to ≤ 16624
    → leaves_in m n 0 129 ≡ leaves_in m n (leaf_from from) (leaf_to to) + leaves_beside m n from to
beside_split m n from to order low =
    omega (
      arith,
      leaves_split m n 0 (leaf_from from) 129 (omega arith) (omega (arith, order, low)),
      leaves_split m n (leaf_from from)
          (leaf_to to) 129 (omega (arith, order)) (omega (arith, low)),
    )

-- a file without blocks has no leaf
leafless : (m : LogMap) (n : ℕ) → ((i : ℕ) → is_stored m n i ≡ false) → (q : ℕ) → has_leaf m n q ≡ false
leafless m n none q = false_from_ne_true (has_leaf m n q) (λ on.
    let has = ((leaf_tests m n).0 q).0 on in
    let there = lt-ltb 0 (length (m.block n (112 + 128 * q + has.0))) has.2 in
    let bad : true ≡ false = cc (none (112 + 128 * q + has.0)) in
    absurd (cc))

pub beside_none : (m : LogMap) (n : ℕ) → ((i : ℕ) → is_stored m n i ≡ false) → (from to : ℕ) → leaves_beside m n from to ≡ 0
beside_none m n none from to =
    omega (
      arith,
      leaves_none m n 0 (leaf_from from) (λ q le lt. leafless m n none q),
      leaves_none m n (leaf_to to) 129
          (λ q le lt. leafless m n none q),
    )

-- where only blocks of a range change, those beside it are as they were
pub beside_same : (m m' : LogMap) (n from to : ℕ) → ((i : ℕ) → (i < from) ⊎ (to ≤ i) → m'.block n i ≡ m.block n i)
    → leaves_beside m' n from to ≡ leaves_beside m n from to
beside_same m m' n from to same =
    let first = leaves_same m m' n 0 (leaf_from from)
    (λ q le lt. same_leaf m m' n q (λ i inside. (same i (inl (omega arith))))) in
    let next = leaves_same m m' n (leaf_to to) 129
    (λ q le lt. same_leaf m m' n q (λ i inside. (same i (inr (omega arith))))) in
    omega arith

-- ---- those within, up to the end of the file
module _ (m : LogMap) (n size blocks from to : ℕ) (ends : EndsBy m n size) (covers : size ≤ 512 * blocks) where
  abbrev end : ℕ
  end = leaf_to (min blocks to)

  past_end : (q : ℕ) → end ≤ q → q < leaf_to to → to ≤ 16624 → has_leaf m n q ≡ false
  past_end q le lt low = ⊎_elim
      (λ (less : blocks < to). empty m n size end ends (inl (omega arith)) q le (omega arith))
      (λ (no : to ≤ blocks). absurd (omega arith)) (cases_lt blocks to)

  pub leaves_to_end : from ≤ to → to ≤ 16624 → leaves_in m n (min (leaf_from from) end) end ≡ leaves_in m n (leaf_from from) (leaf_to to)
  leaves_to_end order low = ⊎_elim
      (λ (inside : leaf_from from < end).
      let first : min (leaf_from from) end ≡ leaf_from from = omega arith in
      ap (λ (a : ℕ). leaves_in m n a end) first
      ∙ omega (
        arith,
        leaves_split m n (leaf_from from) end (leaf_to to) (omega (arith, inside)) (omega arith),
        leaves_none m n end (leaf_to to) (λ q le lt. past_end q le lt low),
      ))
      (λ (past : end ≤ leaf_from from).
      let none = leaves_none _ _ _ _ (λ q le lt. absurd (omega arith)) in
      let rest = leaves_none _ _ _ _ (λ q le lt. past_end _ (omega arith) lt low) in
      none ∙ sym rest)
      (cases_lt (leaf_from from) end)
