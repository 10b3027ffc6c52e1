-- Entries and the blocks that point to them: a pointer has one entry.
use Rattle.std.proofs.Common.{◌≡◌, ◌<◌, ◌≤◌, ◌⊎◌, inl, inr, ⊎_elim, ◌+◌, ◌*◌, ◌-◌, ◌/◌, ◌%◌, ◌==◌, nat_lt, cond, ℕ, zero, suc, Some, None}
use Rattle.std.proofs.Common.{refl, sym, ◌∙◌, ap, ap₂, arith}
use Rattle.std.proofs.lemmas.Bool.{cases_eq, cases_lt, lt-ltb, le-ltb, cond-true, cond-false}
use Rattle.lfs_model.specs.Entry.{Entry, Data, Leaf, Double, Inode, Map, Usage}
use Rattle.lfs_model.specs.Memory.{parent, pointer, file_of, IsOfFile, IsPointers}

-- ---- whether two entries are one
tag : Entry → ℕ
tag (Data n i) = 0
tag (Leaf n q) = 1
tag (Double n) = 2
tag (Inode n) = 3
tag (Map j) = 4
tag (Usage j) = 5

owner : Entry → ℕ
owner (Data n i) = n
owner (Leaf n q) = n
owner (Double n) = n
owner (Inode n) = n
owner (Map j) = j
owner (Usage j) = j

place : Entry → ℕ
place (Data n i) = i
place (Leaf n q) = q
place (Double n) = 0
place (Inode n) = 0
place (Map j) = 0
place (Usage j) = 0

rebuild : ℕ → ℕ → ℕ → Entry
rebuild zero a b = Data a b
rebuild (suc zero) a b = Leaf a b
rebuild (suc (suc zero)) a b = Double a
rebuild (suc (suc (suc zero))) a b = Inode a
rebuild (suc (suc (suc (suc zero)))) a b = Map a
rebuild (suc (suc (suc (suc (suc t))))) a b = Usage a

rebuilt : (x : Entry) → rebuild (tag x) (owner x) (place x) ≡ x
unfolding rebuild tag owner place
rebuilt (Data n i) = refl
rebuilt (Leaf n q) = refl
rebuilt (Double n) = refl
rebuilt (Inode n) = refl
rebuilt (Map j) = refl
rebuilt (Usage j) = refl

pub same_entry : (x y : Entry) → (x ≡ y) ⊎ (x ≡ y → ⊥)
same_entry x y =
    ⊎_elim
    (λ (t : tag x ≡ tag y).
    ⊎_elim
    (λ (f : owner x ≡ owner y).
    ⊎_elim
    (λ (i : place x ≡ place y).
    inl (sym (rebuilt x) ∙ ap (λ (n : ℕ). rebuild n (owner x) (place x)) t ∙ ap₂ (rebuild (tag y)) f i ∙ rebuilt y))
    (λ (ne : place x ≡ place y → ⊥). inr (λ e. ne (ap place e)))
    (cases_eq (place x) (place y)))
    (λ (ne : owner x ≡ owner y → ⊥). inr (λ e. ne (ap owner e)))
    (cases_eq (owner x) (owner y)))
    (λ (ne : tag x ≡ tag y → ⊥). inr (λ e. ne (ap tag e)))
    (cases_eq (tag x) (tag y))

-- ---- parents and pointers of data blocks
pub data_parent_low : (n i : ℕ) → i < 112 → parent (Data n i) ≡ Inode n
data_parent_low n i low = cond-true (nat_lt i 112) (Inode n) (Leaf n ((i - 112) / 128)) (lt-ltb i 112 low)

pub data_parent_high : (n i : ℕ) → 112 ≤ i → parent (Data n i) ≡ Leaf n ((i - 112) / 128)
data_parent_high n i high = cond-false (nat_lt i 112) (Inode n) (Leaf n ((i - 112) / 128)) (le-ltb i 112 high)

pub data_pointer_low : (n i : ℕ) → i < 112 → pointer (Data n i) ≡ 8 + i
data_pointer_low n i low = cond-true (nat_lt i 112) (8 + i) ((i - 112) % 128) (lt-ltb i 112 low)

pub data_pointer_high : (n i : ℕ) → 112 ≤ i → pointer (Data n i) ≡ (i - 112) % 128
data_pointer_high n i high = cond-false (nat_lt i 112) (8 + i) ((i - 112) % 128) (le-ltb i 112 high)

-- a data block at word i of a leaf
pub leaf_parent : (n q i : ℕ) → i < 128 → parent (Data n (112 + 128 * q + i)) ≡ Leaf n q
leaf_parent n q i low =
    let e : (112 + 128 * q + i - 112) / 128 ≡ q = omega arith in
    data_parent_high n (112 + 128 * q + i) (omega arith) ∙ ap (Leaf n) e

pub leaf_pointer : (n q i : ℕ) → i < 128 → pointer (Data n (112 + 128 * q + i)) ≡ i
leaf_pointer n q i low =
    let e : (112 + 128 * q + i - 112) % 128 ≡ i = omega arith in
    data_pointer_high n (112 + 128 * q + i) (omega arith) ∙ e

-- an entry is in its inode, or in a leaf
by_data : (P : Type 0) (n i : ℕ) → (i < 112 → parent (Data n i) ≡ Inode n → P)
    → (112 ≤ i → parent (Data n i) ≡ Leaf n ((i - 112) / 128) → P) → P
by_data P n i low high =
    ⊎_elim (λ (l : i < 112). low l (data_parent_low n i l)) (λ (h : 112 ≤ i). high h (data_parent_high n i h)) (cases_lt i 112)

-- ---- a block has one child at a word
pub inode_child : ℕ → ℕ → Entry
inode_child n w = cond (nat_lt w 120) (Data n (w - 8)) (cond (w == 120) (Leaf n 0) (Double n))

pub is_inode_child : (n : ℕ) (x : Entry) → (x ≡ Inode n → ⊥) → parent x ≡ Inode n → (x ≡ inode_child n (pointer x)) × (8 ≤ pointer x)
    × (pointer x < 122)
unfolding inode_child
is_inode_child n (Data a i) ne px = by_data _ a i
    (λ low up.
    let same : Inode a ≡ Inode n = sym up ∙ px in
    let s : a ≡ n = cc in
    let at = data_pointer_low a i low in
    let e : i ≡ pointer (Data a i) - 8 = omega arith in (
      ap₂ Data s e ∙ sym (cond-true (nat_lt (pointer (Data a i)) 120) _ _ (lt-ltb (pointer (Data a i)) 120 (omega arith))),
      omega arith,
      omega arith,
    ))
    (λ high up. let e : Leaf a ((i - 112) / 128) ≡ Inode n = sym up ∙ px in absurd (cc))
is_inode_child n (Leaf a zero) ne px = let e : Inode a ≡ Inode n = px in let s : a ≡ n = cc in
    (ap (λ (v : ℕ). Leaf v 0) s, omega arith, omega arith)
is_inode_child n (Leaf a (suc q)) ne px = let e : Double a ≡ Inode n = px in absurd (cc)
is_inode_child n (Double a) ne px = let e : Inode a ≡ Inode n = px in let s : a ≡ n = cc in (ap Double s, omega arith, omega arith)
is_inode_child n (Inode a) ne px = absurd (ne px)
is_inode_child n (Map j) ne px = let e : Map j ≡ Inode n = px in absurd (cc)
is_inode_child n (Usage j) ne px = let e : Usage j ≡ Inode n = px in absurd (cc)

pub child_of_inode : (n : ℕ) (x y : Entry) → (x ≡ Inode n → ⊥) → (y ≡ Inode n → ⊥) → parent x ≡ Inode n → parent y ≡ Inode n
    → pointer x ≡ pointer y → x ≡ y
child_of_inode n x y nx ny px py same = (is_inode_child n x nx px).0 ∙ ap (inode_child n) same ∙ sym (is_inode_child n y ny py).0

pub is_leaf_child : (n q : ℕ) (x : Entry) → parent x ≡ Leaf n q → (x ≡ Data n (112 + 128 * q + pointer x)) × (pointer x < 128)
is_leaf_child n q (Data a i) px = by_data _ a i
    (λ low up. let e : Inode a ≡ Leaf n q = sym up ∙ px in absurd (cc))
    (λ high up.
    let e : Leaf a ((i - 112) / 128) ≡ Leaf n q = sym up ∙ px in
    let s : a ≡ n = cc in
    let t : (i - 112) / 128 ≡ q = cc in
    let at = data_pointer_high a i high in
    let w : i ≡ 112 + 128 * q + pointer (Data a i) = omega arith in
    (ap₂ Data s w, omega arith))
is_leaf_child n q (Leaf a zero) px = let e : Inode a ≡ Leaf n q = px in absurd (cc)
is_leaf_child n q (Leaf a (suc r)) px = let e : Double a ≡ Leaf n q = px in absurd (cc)
is_leaf_child n q (Double a) px = let e : Inode a ≡ Leaf n q = px in absurd (cc)
is_leaf_child n q (Inode a) px = let e : Inode a ≡ Leaf n q = px in absurd (cc)
is_leaf_child n q (Map j) px = let e : Map j ≡ Leaf n q = px in absurd (cc)
is_leaf_child n q (Usage j) px = let e : Usage j ≡ Leaf n q = px in absurd (cc)

pub child_of_leaf : (n q : ℕ) (x y : Entry) → parent x ≡ Leaf n q → parent y ≡ Leaf n q → pointer x ≡ pointer y → x ≡ y
child_of_leaf n q x y px py same = (is_leaf_child n q x px).0 ∙ ap (λ (w : ℕ). Data n (112 + 128 * q + w)) same
    ∙ sym (is_leaf_child n q y py).0

pub is_double_child : (n : ℕ) (x : Entry) → parent x ≡ Double n → x ≡ Leaf n (suc (pointer x))
is_double_child n (Data a i) px = by_data _ a i
    (λ low up. let e : Inode a ≡ Double n = sym up ∙ px in absurd (cc))
    (λ high up. let e : Leaf a ((i - 112) / 128) ≡ Double n = sym up ∙ px in absurd (cc))
is_double_child n (Leaf a zero) px = let e : Inode a ≡ Double n = px in absurd (cc)
is_double_child n (Leaf a (suc q)) px = let e : Double a ≡ Double n = px in let s : a ≡ n = cc in ap (λ (v : ℕ). Leaf v (suc q)) s
is_double_child n (Double a) px = let e : Inode a ≡ Double n = px in absurd (cc)
is_double_child n (Inode a) px = let e : Inode a ≡ Double n = px in absurd (cc)
is_double_child n (Map j) px = let e : Map j ≡ Double n = px in absurd (cc)
is_double_child n (Usage j) px = let e : Usage j ≡ Double n = px in absurd (cc)

pub child_of_double : (n : ℕ) (x y : Entry) → parent x ≡ Double n → parent y ≡ Double n → pointer x ≡ pointer y → x ≡ y
child_of_double n x y px py same = is_double_child n x px ∙ ap (λ (w : ℕ). Leaf n (suc w)) same ∙ sym (is_double_child n y py)

-- ---- what no block points to, and what none of a file's blocks points to
pub no_data_parent : (n i : ℕ) (x : Entry) → parent x ≡ Data n i → ⊥
no_data_parent n i (Data a k) px = by_data _ a k
    (λ low up. let e : Inode a ≡ Data n i = sym up ∙ px in absurd (cc))
    (λ high up. let e : Leaf a ((k - 112) / 128) ≡ Data n i = sym up ∙ px in absurd (cc))
no_data_parent n i (Leaf a zero) px = let e : Inode a ≡ Data n i = px in absurd (cc)
no_data_parent n i (Leaf a (suc q)) px = let e : Double a ≡ Data n i = px in absurd (cc)
no_data_parent n i (Double a) px = let e : Inode a ≡ Data n i = px in absurd (cc)
no_data_parent n i (Inode a) px = let e : Inode a ≡ Data n i = px in absurd (cc)
no_data_parent n i (Map j) px = let e : Map j ≡ Data n i = px in absurd (cc)
no_data_parent n i (Usage j) px = let e : Usage j ≡ Data n i = px in absurd (cc)

-- ---- the file of an entry is that of its parent
pub file_of_parent : (x : Entry) → file_of (parent x) ≡ file_of x
file_of_parent (Data n i) = by_data _ n i (λ low up. ap file_of up) (λ high up. ap file_of up)
file_of_parent (Leaf n zero) = refl
file_of_parent (Leaf n (suc q)) = refl
file_of_parent (Double n) = refl
file_of_parent (Inode n) = refl
file_of_parent (Map j) = refl
file_of_parent (Usage j) = refl

-- an inode map block, or a usage block, is the parent of itself alone
pub map_child : (j : ℕ) (x : Entry) → parent x ≡ Map j → x ≡ Map j
map_child j (Data n i) px = let e : Some n ≡ None = sym (file_of_parent (Data n i)) ∙ ap file_of px in absurd (cc)
map_child j (Leaf n q) px = let e : Some n ≡ None = sym (file_of_parent (Leaf n q)) ∙ ap file_of px in absurd (cc)
map_child j (Double n) px = let e : Inode n ≡ Map j = px in absurd (cc)
map_child j (Inode n) px = px
map_child j (Map i) px = px
map_child j (Usage i) px = px

-- a block with a parent of its own is a block of a file
pub below_of_file : (x : Entry) → (parent x ≡ x → ⊥) → IsOfFile x
below_of_file (Data n i) ne = (n, refl)
below_of_file (Leaf n q) ne = (n, refl)
below_of_file (Double n) ne = (n, refl)
below_of_file (Inode n) ne = absurd (ne refl)
below_of_file (Map j) ne = absurd (ne refl)
below_of_file (Usage j) ne = absurd (ne refl)

-- ---- data blocks, leaves and double roots have parents of their own
pub data_below : (n i : ℕ) → parent (Data n i) ≡ Data n i → ⊥
data_below n i top = no_data_parent n i (Data n i) top

pub leaf_below : (n q : ℕ) → parent (Leaf n q) ≡ Leaf n q → ⊥
leaf_below n zero top = let e : Inode n ≡ Leaf n zero = top in absurd (cc)
leaf_below n (suc q) top = let e : Double n ≡ Leaf n (suc q) = top in absurd (cc)

pub double_below : (n : ℕ) → parent (Double n) ≡ Double n → ⊥
double_below n top = let e : Inode n ≡ Double n = top in absurd (cc)

pub pointers_below : (x : Entry) → IsPointers x → parent x ≡ x → ⊥
pointers_below (Data n i) is top = absurd is
pointers_below (Leaf n q) is top = leaf_below n q top
pointers_below (Double n) is top = double_below n top
pointers_below (Inode n) is top = absurd is
pointers_below (Map j) is top = absurd is
pointers_below (Usage j) is top = absurd is

-- ---- an entry's pointer is a word of a block
pub pointer_low : (x : Entry) → ((n q : ℕ) → x ≡ Leaf n q → q ≤ 128) → pointer x < 128
pointer_low (Data n i) low =
    ⊎_elim (λ (l : i < 112). let at = data_pointer_low n i l in omega arith)
    (λ (h : 112 ≤ i). let at = data_pointer_high n i h in omega arith) (cases_lt i 112)
pointer_low (Leaf n zero) low = omega arith
pointer_low (Leaf n (suc q)) low = let l : suc q ≤ 128 = low n (suc q) refl in omega arith
pointer_low (Double n) low = omega arith
pointer_low (Inode n) low = omega arith
pointer_low (Map j) low = omega arith
pointer_low (Usage j) low = omega arith
