-- Lists of places that are kept in memory from behind.
use Rattle.std.proofs.Common.{◌≡◌, ◌<◌, ◌≤◌, ◌+◌, ◌-◌, ⊎_elim, ℕ, List, length, get_or, reverse, sym, ◌∙◌, ap, subst, arith}
use Rattle.std.specs.List.{insert, remove}
use Rattle.std.proofs.lemmas.Bool.{cases_lt}
use Rattle.std.proofs.lemmas.List.{ext_get_or, get_or-reverse, length-reverse}
use Rattle.std.proofs.lemmas.List.Edits.{length-insert, length-remove, get_or-insert_at, get_or-insert_below, get_or-insert_above}
use Rattle.std.proofs.lemmas.List.Edits.{get_or-remove_below, get_or-remove_above}
use Rattle.lfs_inodes.specs.declared.index.Place.{Place}
use Rattle.lfs_inodes.specs.Index.{IndexValue}

module _ {X : Type 0} (xs : List X) where
  pub reversed_at : (b : ℕ) (d : X) → b < length xs → get_or (reverse xs) (length (reverse xs) - 1 - b) d ≡ get_or xs b d
  reversed_at b d lt =
      let n = length-reverse xs in
      let e : length xs - 1 - (length (reverse xs) - 1 - b) ≡ b = omega arith in
      get_or-reverse xs (length (reverse xs) - 1 - b) d (omega arith) ∙ ap (λ m. get_or xs m d) e

  -- ---- one comes behind i others
  module _ (i : ℕ) (x : X) (le : i ≤ length xs) where
    at_insert : (k : ℕ) → k < length xs + 1 → get_or (insert xs (length xs - i) x) (length xs - k) x ≡ get_or (insert (reverse xs) i x) k x
    at_insert k lt =
        let n = length-reverse xs in
        ⊎_elim
        (λ before.
        let e : length xs - 1 - k + 1 ≡ length xs - k = omega arith in
        ap (λ m. get_or (insert xs (length xs - i) x) m x) (sym e)
        ∙ get_or-insert_above xs (length xs - i) x x (length xs - 1 - k) (omega arith) (omega arith)
        ∙ sym (get_or-reverse xs k x (omega arith))
        ∙ sym (get_or-insert_below (reverse xs) i x x k before (omega arith)))
        (λ rest. ⊎_elim
        (λ behind.
        let e : k - 1 + 1 ≡ k = omega arith in
        let f : length xs - 1 - (k - 1) ≡ length xs - k = omega arith in
        get_or-insert_below xs (length xs - i) x x (length xs - k) (omega arith) (omega arith)
        ∙ ap (λ m. get_or xs m x) (sym f)
        ∙ sym (get_or-reverse xs (k - 1) x (omega arith))
        ∙ sym (get_or-insert_above (reverse xs) i x x (k - 1) (omega arith) (omega arith))
        ∙ ap (λ m. get_or (insert (reverse xs) i x) m x) e)
        (λ last.
        let e : k ≡ i = omega arith in
        ap (λ m. get_or (insert xs (length xs - i) x) (length xs - m) x) e
        ∙ get_or-insert_at xs (length xs - i) x x (omega arith)
        ∙ sym (get_or-insert_at (reverse xs) i x x (omega arith))
        ∙ ap (λ m. get_or (insert (reverse xs) i x) m x) (sym e))
        (cases_lt i k))
        (cases_lt k i)

    pub reverse-insert : reverse (insert xs (length xs - i) x) ≡ insert (reverse xs) i x
    reverse-insert =
        let n = length-reverse xs in
        let a = length-insert xs (length xs - i) x (omega arith) in
        let b = length-insert (reverse xs) i x (omega arith) in
        let r = length-reverse (insert xs (length xs - i) x) in
        ext_get_or x (reverse (insert xs (length xs - i) x)) (insert (reverse xs) i x) (omega arith)
        (λ k lt.
        let e : length (insert xs (length xs - i) x) - 1 - k ≡ length xs - k = omega arith in
        get_or-reverse (insert xs (length xs - i) x) k x (omega arith)
        ∙ ap (λ m. get_or (insert xs (length xs - i) x) m x) e
        ∙ at_insert k (omega arith))

  -- ---- the one behind i others goes
  module _ (i : ℕ) (d : X) (lt : i < length xs) where
    at_remove : (k : ℕ) → k + 1 < length xs
        → get_or (remove xs (length xs - 1 - i)) (length xs - 1 - 1 - k) d ≡ get_or (remove (reverse xs) i) k d
    at_remove k few =
        let n = length-reverse xs in
        ⊎_elim
        (λ before.
        let e : length xs - 1 - 1 - k + 1 ≡ length xs - 1 - k = omega arith in
        get_or-remove_above xs (length xs - 1 - i) d (length xs - 1 - 1 - k) (omega arith) (omega arith)
        ∙ ap (λ m. get_or xs m d) e
        ∙ sym (get_or-reverse xs k d (omega arith))
        ∙ sym (get_or-remove_below (reverse xs) i d k before (omega arith)))
        (λ rest.
        let e : length xs - 1 - (k + 1) ≡ length xs - 1 - 1 - k = omega arith in
        get_or-remove_below xs (length xs - 1 - i) d (length xs - 1 - 1 - k) (omega arith) (omega arith)
        ∙ ap (λ m. get_or xs m d) (sym e)
        ∙ sym (get_or-reverse xs (k + 1) d few)
        ∙ sym (get_or-remove_above (reverse xs) i d k rest (omega arith)))
        (cases_lt k i)

    pub reverse-remove : reverse (remove xs (length xs - 1 - i)) ≡ remove (reverse xs) i
    reverse-remove =
        let n = length-reverse xs in
        let a = length-remove xs (length xs - 1 - i) (omega arith) in
        let b = length-remove (reverse xs) i (omega arith) in
        let r = length-reverse (remove xs (length xs - 1 - i)) in
        ext_get_or d (reverse (remove xs (length xs - 1 - i))) (remove (reverse xs) i) (omega arith)
        (λ k few.
        let e : length (remove xs (length xs - 1 - i)) - 1 - k ≡ length xs - 1 - 1 - k = omega arith in
        get_or-reverse (remove xs (length xs - 1 - i)) k d (omega arith)
        ∙ ap (λ m. get_or (remove xs (length xs - 1 - i)) m d) e
        ∙ at_remove k (omega arith))

-- ---- the same of the index's value
abbrev pub index_of : ℕ → List Place → IndexValue
index_of n xs = record { items = reverse xs; capacity = n }

pub inserted : (n : ℕ) (xs : List Place) {v : IndexValue} → index_of n xs ≡ v → (i : ℕ) (p : Place) → i ≤ length v.items
    → (m : ℕ) → m ≡ length xs → (ys : List Place) → ys ≡ insert xs (m - i) p → reverse ys ≡ insert v.items i p
inserted n xs view i p le m all ys is =
    subst (λ u. i ≤ length u.items → reverse ys ≡ insert u.items i p) view
    (λ few.
    let l = length-reverse xs in
    ap reverse (is ∙ ap (λ k. insert xs (k - i) p) all) ∙ reverse-insert xs i p (omega arith))
    le

pub removed : (n : ℕ) (xs : List Place) {v : IndexValue} → index_of n xs ≡ v → (i : ℕ) → i < length v.items → (d : Place)
    → (m : ℕ) → m ≡ length xs → {ys : List Place} → ys ≡ remove xs (m - 1 - i) → reverse ys ≡ remove v.items i
removed n xs view i lt d m all {ys} is =
    subst (λ u. i < length u.items → reverse ys ≡ remove u.items i) view
    (λ few.
    let l = length-reverse xs in
    ap reverse (is ∙ ap (λ k. remove xs (k - 1 - i)) all) ∙ reverse-remove xs i d (omega arith))
    lt
