-- The entries of a file, one by one: as many as its totals say.
use Rattle.std.proofs.Common.{◌≡◌, ◌<◌, ◌≤◌, ⊎_elim, ◌+◌, cond, ℕ, zero, suc, Bool, true, false, List, [], ◌∷◌, ◌++◌, length, count_by}
use Rattle.std.proofs.Common.{refl, sym, ◌∙◌, ap, subst, arith, inl, inr, Some, None}
use Rattle.std.specs.Prelude.{Option}
use Rattle.std.specs.List.{range_with_len}
use Rattle.std.proofs.lemmas.Bool.{cases_eq}
use Rattle.std.proofs.lemmas.List.Sums.{length-filter, sum_by-cons}
use Rattle.lfs_model.specs.Entry.{Entry, Data, Leaf, Double, Inode, Header}
use Rattle.lfs_model.specs.Members.{IsIn}
use Rattle.lfs_model.specs.Need.{pointers}
use Rattle.lfs_model.specs.Objects.{is_stored, stored_below, stored_blocks, has_leaf, has_double, one_if}
use Rattle.lfs_model.specs.Stands.{LogMap, count_up}
use Rattle.lfs_model.specs.Totals.{data_of_file, meta_of_file}

-- ---- lists of entries
-- x before the list, where the test is true
pub put_if : Bool → Entry → List Entry → List Entry
put_if b x xs = cond b (x ∷ xs) xs

-- the entries of the numbers a..a + n that pass
pub picks : (ℕ → Entry) → (ℕ → Bool) → ℕ → ℕ → List Entry
picks f p a zero = []
picks f p a (suc n) = put_if (p a) (f a) (picks f p (a + 1) n)

-- the numbers from a on that pass, the first one apart
pub counts : (p : ℕ → Bool) (a n : ℕ) → count_by p (range_with_len a (suc n)) ≡ cond (p a) 1 0 + count_by p (range_with_len (a + 1) n)
counts p a n = sum_by-cons (λ (x : ℕ). cond (p x) 1 0) a (range_with_len (a + 1) n)

-- one more where the test is true
pub length_if : (b : Bool) (x : Entry) (xs : List Entry) → length (put_if b x xs) ≡ cond b 1 0 + length xs
unfolding put_if
length_if true x xs = omega arith
length_if false x xs = omega arith

-- as many as pass
pub length_picks : (f : ℕ → Entry) (p : ℕ → Bool) (a n : ℕ) → length (picks f p a n) ≡ count_by p (range_with_len a n)
unfolding picks
length_picks f p a zero = refl
length_picks f p a (suc n) =
    let rest = length_picks f p (a + 1) n in
    let own = length_if (p a) (f a) (picks f p (a + 1) n) in
    omega (arith, rest, own, counts p a n)

-- what is in the list stays in it
pub in_rest : (b : Bool) (x y : Entry) (xs : List Entry) → IsIn xs y → IsIn (put_if b x xs) y
unfolding put_if
in_rest true x y xs is = inr is
in_rest false x y xs is = is

-- and x is in it where the test is true
pub in_first : (b : Bool) (x : Entry) (xs : List Entry) → b ≡ true → IsIn (put_if b x xs) x
unfolding put_if
in_first true x xs on = inl refl
in_first false x xs on = absurd (cc)

-- the entry of each number that passes is there
pub in_picks : (f : ℕ → Entry) (p : ℕ → Bool) (a n i : ℕ) → a ≤ i → i < a + n → p i ≡ true → IsIn (picks f p a n) (f i)
unfolding picks
in_picks f p a zero i le lt on = absurd (omega (arith, le, lt))
in_picks f p a (suc n) i le lt on = ⊎_elim
    (λ (here : a ≡ i). subst (λ (j : ℕ). IsIn (put_if (p a) (f a) (picks f p (a + 1) n)) (f j)) here
    (in_first (p a) (f a) (picks f p (a + 1) n) (ap p here ∙ on)))
    (λ (later : a ≡ i → ⊥).
    in_rest (p a) (f a) (f i) (picks f p (a + 1) n) (in_picks f p (a + 1) n i (omega (arith, le, later)) (omega (arith, lt)) on))
    (cases_eq a i)

-- what is in the first of two lists is in both together
pub in_left : (xs ys : List Entry) (x : Entry) → IsIn xs x → IsIn (xs ++ ys) x
in_left [] ys x is = absurd is
in_left (z ∷ zs) ys x is = ⊎_elim (λ (here : x ≡ z). inl here) (λ (later : IsIn zs x). inr (in_left zs ys x later)) is

-- and what is in the second
pub in_right : (xs ys : List Entry) (x : Entry) → IsIn ys x → IsIn (xs ++ ys) x
in_right [] ys x is = is
in_right (z ∷ zs) ys x is = inr (in_right zs ys x is)

-- ---- the entries of a file
module _ (m : LogMap) where
  -- its data blocks
  unfoldable pub datas : ℕ → List Entry
  datas n = picks (Data n) (is_stored m n) 0 16624

  -- its leaves but the first
  unfoldable pub below : ℕ → List Entry
  below n = picks (λ q. Leaf n (suc q)) (λ q. has_leaf m n (suc q)) 0 128

  -- its first leaf and its root, where it has them, and its inode
  unfoldable pub tops : ℕ → List Entry
  tops n = put_if (has_leaf m n 0) (Leaf n 0) (put_if (has_double m n) (Double n) (Inode n ∷ []))

  -- how many inodes and blocks of pointers a file of this header has
  unfoldable pub meta_by : ℕ → Option Header → ℕ
  meta_by n None = 0
  meta_by n (Some h) = 1 + pointers (stored_blocks m n)

  -- as many as its data blocks are
  pub length_datas : (n : ℕ) → length (datas n) ≡ data_of_file m n
  unfolding datas stored_below
  length_datas n = length_picks (Data n) (is_stored m n) 0 16624 ∙ sym (length-filter (is_stored m n) (range_with_len 0 16624))

  -- as many as its leaves are
  pub length_below : (n : ℕ) → length (below n) ≡ count_up (λ q. has_leaf m n (suc q)) 128
  unfolding below count_up
  length_below n = length_picks (λ q. Leaf n (suc q)) (λ q. has_leaf m n (suc q)) 0 128

  -- and the others
  pub length_tops : (n : ℕ) → length (tops n) ≡ one_if (has_leaf m n 0) + one_if (has_double m n) + 1
  unfolding tops
  length_tops n =
      let a = length_if (has_leaf m n 0) (Leaf n 0) (put_if (has_double m n) (Double n) (Inode n ∷ [])) in
      let b = length_if (has_double m n) (Double n) (Inode n ∷ []) in
      omega (arith, a, b)

  -- which is what the totals count
  pub meta_is : (n : ℕ) (o : Option Header) → m.header n ≡ o → meta_of_file m n ≡ meta_by n o
  unfolding meta_by
  meta_is n None is = ap (λ (o : Option Header). elim o as (λ x. ℕ) [ None ↦ 0 | Some h ↦ 1 + pointers (stored_blocks m n) ]) is
  meta_is n (Some h) is = ap (λ (o : Option Header). elim o as (λ x. ℕ) [ None ↦ 0 | Some h ↦ 1 + pointers (stored_blocks m n) ]) is
