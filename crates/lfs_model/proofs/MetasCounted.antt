-- Inodes and blocks of pointers, in memory and on the device: no more than the totals of the log map say.
use Rattle.std.proofs.Common.{◌≡◌, ◌<◌, ◌≤◌, ◌⊎◌, ⊎_elim, ◌+◌, ◌*◌, ℕ, zero, suc, List, [], ◌∷◌, ◌++◌, length, refl, sym, ◌∙◌, subst, arith}
use Rattle.std.proofs.Common.{inl, inr, Some, None}
use Rattle.std.specs.Prelude.{Option}
use Rattle.std.proofs.lemmas.Bool.{cases_eq}
use Rattle.std.proofs.lemmas.List.{length-append}
use Rattle.lfs_model.specs.Content.{Content}
use Rattle.lfs_model.specs.Encodes.{IsLogMap, HasLeaf, HasDouble}
use Rattle.lfs_model.specs.Entry.{Entry, Data, Leaf, Double, Inode, Map, Usage, Header}
use Rattle.lfs_model.specs.Laid.{IsLaid}
use Rattle.lfs_model.specs.Members.{IsIn, AreApart}
use Rattle.lfs_model.specs.Memory.{Memory, IsPointers, HasPointer}
use Rattle.lfs_model.specs.Objects.{has_leaf, has_double}
use Rattle.lfs_model.specs.Stands.{LogMap}
use Rattle.lfs_model.specs.Totals.{meta_of_file, sum_upto, meta_in}
use Rattle.lfs_model.proofs.Entries.{same_entry}
use Rattle.lfs_model.proofs.FileEntries.{in_picks, in_rest, in_first, in_left, in_right, below, tops, meta_by, length_below, length_tops}
use Rattle.lfs_model.proofs.FileEntries.{meta_is}
use Rattle.lfs_model.proofs.ObjectMaps.{laid_headers}
use Rattle.lfs_model.proofs.ObjectPointers.{leaf_tests, pointer_count}

-- ---- a list of distinct entries that are all in another is no longer
less_one : List Entry → Entry → List Entry
less_one [] y = []
less_one (x ∷ xs) y = ⊎_elim (λ (here : x ≡ y). xs) (λ (away : x ≡ y → ⊥). x ∷ less_one xs y) (same_entry x y)

less_by : (x y : Entry) (xs : List Entry) (d : (x ≡ y) ⊎ (x ≡ y → ⊥)) → (length (less_one xs y) + 1 ≡ length xs) ⊎ (x ≡ y)
    → length (⊎_elim (λ (here : x ≡ y). xs) (λ (away : x ≡ y → ⊥). x ∷ less_one xs y) d) + 1 ≡ suc (length xs)
less_by x y xs (inl here) or = omega arith
less_by x y xs (inr away) or =
    ⊎_elim (λ (is : length (less_one xs y) + 1 ≡ length xs). omega (arith, is)) (λ (here : x ≡ y). absurd (away here)) or

length_less : (xs : List Entry) (y : Entry) → IsIn xs y → length (less_one xs y) + 1 ≡ length xs
unfolding less_one
length_less [] y is = absurd is
length_less (x ∷ xs) y is =
    less_by x y xs (same_entry x y) (⊎_elim (λ (here : y ≡ x). inr (sym here)) (λ (later : IsIn xs y). inl (length_less xs y later)) is)

in_by : (x y z : Entry) (xs : List Entry) (d : (x ≡ y) ⊎ (x ≡ y → ⊥)) → (z ≡ y → ⊥) → (z ≡ x) ⊎ IsIn xs z
    → (IsIn xs z → IsIn (less_one xs y) z)
    → IsIn (⊎_elim (λ (here : x ≡ y). xs) (λ (away : x ≡ y → ⊥). x ∷ less_one xs y) d) z
in_by x y z xs (inl here) ne is rest = ⊎_elim (λ (first : z ≡ x). absurd (ne (first ∙ here))) (λ (later : IsIn xs z). later) is
in_by x y z xs (inr away) ne is rest = ⊎_elim (λ (first : z ≡ x). inl first) (λ (later : IsIn xs z). inr (rest later)) is

in_less : (xs : List Entry) (y z : Entry) → (z ≡ y → ⊥) → IsIn xs z → IsIn (less_one xs y) z
unfolding less_one
in_less [] y z ne is = absurd is
in_less (x ∷ xs) y z ne is = in_by x y z xs (same_entry x y) ne is (λ later. in_less xs y z ne later)

fewer_entries : (ys xs : List Entry) → AreApart ys → ((y : Entry) → IsIn ys y → IsIn xs y) → length ys ≤ length xs
fewer_entries [] xs distinct among = omega arith
fewer_entries (y ∷ ys) xs distinct among =
    let rest =
    fewer_entries ys (less_one xs y) distinct.1 (λ z is. in_less xs y z (λ e. distinct.0 (subst (IsIn ys) e is)) (among z (inr is))) in
    let l = length_less xs y (among y (inl refl)) in
    omega (arith, rest, l)

-- ---- the inodes and blocks of pointers of all files
-- an inode or a block of pointers
abbrev pub IsMeta : Entry → Type 0
IsMeta (Data n i) = ⊥
IsMeta (Leaf n q) = Unit {0}
IsMeta (Double n) = Unit {0}
IsMeta (Inode n) = Unit {0}
IsMeta (Map j) = ⊥
IsMeta (Usage j) = ⊥

module _ (m : LogMap) where
  metas_by : ℕ → Option Header → List Entry
  metas_by n None = []
  metas_by n (Some h) = below m n ++ tops m n

  length_metas_by : (n : ℕ) (o : Option Header) → length (metas_by n o) ≡ meta_by m n o
  unfolding metas_by meta_by
  length_metas_by n None = refl
  length_metas_by n (Some h) =
      let b = length_below m n in
      let t = length_tops m n in
      let p = pointer_count m n in
      let r = length-append (below m n) (tops m n) in
      omega (arith, b, t, p, r)

  metas_upto : ℕ → List Entry
  metas_upto zero = []
  metas_upto (suc k) = metas_upto k ++ metas_by (suc k) (m.header (suc k))

  length_metas : (k : ℕ) → length (metas_upto k) ≡ sum_upto (meta_of_file m) k
  unfolding metas_upto sum_upto
  length_metas zero = refl
  length_metas (suc k) =
      let rest = length_metas k in
      let own = length_metas_by (suc k) (m.header (suc k)) in
      let is = meta_is m (suc k) (m.header (suc k)) refl in
      let l = length-append (metas_upto k) (metas_by (suc k) (m.header (suc k))) in
      omega (arith, rest, own, is, l)

  in_metas : (k n : ℕ) (x : Entry) → 1 ≤ n → n ≤ k → IsIn (metas_by n (m.header n)) x → IsIn (metas_upto k) x
  unfolding metas_upto
  in_metas zero n x some le is = absurd (omega (arith, some, le))
  in_metas (suc k) n x some le is = ⊎_elim
      (λ (last : n ≡ suc k). in_right (metas_upto k) _ x (subst (λ (n : ℕ). IsIn (metas_by n (m.header n)) x) last is))
      (λ (before : n ≡ suc k → ⊥). in_left (metas_upto k) _ x (in_metas k n x some (omega (arith, le, before)) is))
      (cases_eq n (suc k))

  module _ (e : Content) (M : Memory) (opened_at : ℕ) (laid : IsLaid e m M opened_at) (map : IsLogMap m)
      (tight : (x : Entry) → IsPointers x → M.at x ≡ 1 → HasPointer (M.bytes x)) where
    meta_of : (n : ℕ) (h : Header) → m.header n ≡ Some h → (x : Entry) → IsIn (below m n ++ tops m n) x → IsIn (metas_upto 4095) x
    unfolding metas_by
    meta_of n h is x there =
        let number = (laid_headers e m M opened_at laid n h is).number in
        in_metas 4095 n x number.0 number.1 (subst (λ (o : Option Header). IsIn (metas_by n o) x) (sym is) there)

    points : (x : Entry) → IsPointers x → 0 < M.at x → HasPointer (M.bytes x)
    points x is some = ⊎_elim (λ (one : M.at x ≡ 1). tight x is one)
        (λ (other : M.at x ≡ 1 → ⊥). laid.some x is (omega (arith, some, other))) (cases_eq (M.at x) 1)

    leaf_there : (n q : ℕ) → 0 < M.at (Leaf n q) → HasLeaf m n q
    leaf_there n q at =
        let some = points (Leaf n q) tt at in
        let spells = laid.spells (Leaf n q) at some.0 some.1 in
        let pointer = some.2 in
        (some.0, some.1, (laid.blocks n (112 + 128 * q + some.0)).1 (omega (arith, spells, pointer)))

    double_there : (n : ℕ) → 0 < M.at (Double n) → HasDouble m n
    double_there n at =
        let some = points (Double n) tt at in
        let spells = laid.spells (Double n) at some.0 some.1 in
        let pointer = some.2 in
        (some.0, some.1, leaf_there n (suc some.0) (omega (arith, spells, pointer)))

    listed : (x : Entry) → IsMeta x → 0 < M.at x → IsIn (metas_upto 4095) x
    unfolding below tops
    listed (Data n i) is at = absurd is
    listed (Leaf n zero) is at =
        let has = leaf_there n 0 at in
        let h = map.within n (112 + 128 * 0 + has.0) has.2 in
        meta_of n h.0 h.1 (Leaf n 0)
        (in_right (below m n) (tops m n) (Leaf n 0) (in_first (has_leaf m n 0) (Leaf n 0) _ (((leaf_tests m n).0 0).1 has)))
    listed (Leaf n (suc q)) is at =
        let has = leaf_there n (suc q) at in
        let h = map.within n (112 + 128 * suc q + has.0) has.2 in
        let low = laid.low n (suc q) at in
        meta_of n h.0 h.1 (Leaf n (suc q)) (in_left (below m n) (tops m n) (Leaf n (suc q))
        (in_picks (λ q. Leaf n (suc q)) (λ q. has_leaf m n (suc q)) 0 128 q (omega arith) (omega (arith, low))
        (((leaf_tests m n).0 (suc q)).1 has)))
    listed (Double n) is at =
        let has = double_there n at in
        let h = map.within n (112 + 128 * suc has.0 + has.2.0) has.2.2 in
        meta_of n h.0 h.1 (Double n) (in_right (below m n) (tops m n) (Double n)
        (in_rest (has_leaf m n 0) (Leaf n 0) (Double n) _ (in_first (has_double m n) (Double n) (Inode n ∷ []) ((leaf_tests m n).1.1 has))))
    listed (Inode n) is at =
        let h = (laid.inodes n).1 at in
        meta_of n h.0 h.1 (Inode n) (in_right (below m n) (tops m n) (Inode n)
        (in_rest (has_leaf m n 0) (Leaf n 0) (Inode n) _ (in_rest (has_double m n) (Double n) (Inode n) (Inode n ∷ []) (inl refl))))
    listed (Map j) is at = absurd is
    listed (Usage j) is at = absurd is

-- Where no block of pointers in memory is empty, there are no more inodes
-- and blocks of pointers, in memory and on the device, than the log map has.
pub metas_counted : (e : Content) (m : LogMap) (M : Memory) (opened_at : ℕ) → IsLaid e m M opened_at → IsLogMap m
    → ((x : Entry) → IsPointers x → M.at x ≡ 1 → HasPointer (M.bytes x))
    → (xs : List Entry) → AreApart xs → ((x : Entry) → IsIn xs x → IsMeta x × (0 < M.at x)) → length xs ≤ meta_in m
metas_counted e m M opened_at laid map tight xs distinct there =
    let f = fewer_entries xs (metas_upto m 4095) distinct (λ x is. let t = there x is in listed m e M opened_at laid map tight x t.0 t.1) in
    let l = length_metas m 4095 in
    omega (arith, f, l)
