-- The order of groups: which blocks lead to one, and that few are in memory at a time.
use Rattle.std.proofs.Common.{◌≡◌, ◌<◌, ◌≤◌, ◌⊎◌, ⊎_elim, ◌+◌, ◌*◌, ◌-◌, ◌/◌, ◌%◌}
use Rattle.std.proofs.Common.{cond, nat_lt, true, false, Bool, ℕ, zero, suc, List, [], ◌∷◌}
use Rattle.std.proofs.Common.{length, Some, None, refl, sym, ◌∙◌, ap, subst, arith, inl, inr}
use Rattle.lfs_model.specs.Entry.{Entry, Data, Leaf, Double, Inode, Map, Usage, entry_by}
use Rattle.lfs_model.specs.Members.{IsIn, AreApart}
use Rattle.lfs_model.proofs.Entries.{same_entry}
use Rattle.lfs_model.specs.Memory.{parent, IsOfFile}
use Rattle.lfs_memory.specs.inodes.Code.{IsCode, code, entry_at, kind_by}
use Rattle.lfs_memory.specs.inodes.Data.{is_data_code}
use Rattle.lfs_memory.proofs.of_inodes.Codes.{code_entry, entry_of_code}
use Rattle.lfs_memory.proofs.of_inodes.Blocks.{rises}
use Rattle.lfs_memory.specs.inodes.Blocks.{Blocks, HasNumberAt, blocks_in, blocks_of, number_at}
use Rattle.lfs_model.specs.declared.BlockKind.TheVariants as kind
use Rattle.lfs_memory.specs.declared.memory.LogMemory.{LogMemory}
use Rattle.std.proofs.lemmas.Bool.{cases_eq, cases_lt, le-ltb, lt-ltb}
use Rattle.lfs_log.proofs.CameIn.{no_data_above}
use Rattle.lfs_log.specs.Groups.{HasAboveAlone, HasAboveAndLeaves, IsAbove, IsClosedLeaf, IsLeaf, closes_at, group_of}
use Rattle.lfs_log.specs.Moving.{depth}
use Rattle.lfs_log.specs.Relocating.{IsDataBlock, IsInOrder}
use Rattle.lfs_log.proofs.TableEntries.{apart_entries, count_entries, entries, found_in, has_entry, number_there}

-- whether a block is one of a file
pub file_or_table : (x : Entry) → IsOfFile x ⊎ (IsOfFile x → ⊥)
file_or_table (Data n i) = inl (n, refl)
file_or_table (Leaf n q) = inl (n, refl)
file_or_table (Double n) = inl (n, refl)
file_or_table (Inode n) = inl (n, refl)
file_or_table (Map j) = inr (λ is. let bad : None ≡ Some is.0 = is.1 in absurd (cc))
file_or_table (Usage j) = inr (λ is. let bad : None ≡ Some is.0 = is.1 in absurd (cc))

pub data_file : (x : Entry) → IsDataBlock x → IsOfFile x
data_file (Data n i) is = (n, refl)
data_file (Leaf n q) is = absurd is
data_file (Double n) is = absurd is
data_file (Inode n) is = absurd is
data_file (Map j) is = absurd is
data_file (Usage j) is = absurd is

-- what is above a group is closed later, and by the end of its file
pub above_open : (group : ℕ) (x : Entry) → IsAbove group x → group < closes_at x
above_open group (Data n i) is = absurd is
above_open group (Leaf n q) is = let e = is.1 in omega (arith, e)
above_open group (Double n) is = omega (arith, is)
above_open group (Inode n) is = omega (arith, is)
above_open group (Map j) is = absurd is
above_open group (Usage j) is = absurd is

pub above_closed : (group : ℕ) (x : Entry) → IsAbove group x → closes_at x ≤ 256 * (group / 256 + 1)
above_closed group (Data n i) is = absurd is
above_closed group (Leaf n q) is = let e = is.1 in let low = is.0 in omega (arith, e, low)
above_closed group (Double n) is = omega (arith, is)
above_closed group (Inode n) is = omega (arith, is)
above_closed group (Map j) is = absurd is
above_closed group (Usage j) is = absurd is

pub above_file : (group : ℕ) (x : Entry) → IsAbove group x → IsOfFile x
above_file group (Data n i) is = absurd is
above_file group (Leaf n q) is = (n, refl)
above_file group (Double n) is = (n, refl)
above_file group (Inode n) is = (n, refl)
above_file group (Map j) is = absurd is
above_file group (Usage j) is = absurd is

pub above_no_data : (group : ℕ) (x : Entry) → IsAbove group x → IsDataBlock x → ⊥
above_no_data group (Data n i) is own = is
above_no_data group (Leaf n q) is own = own
above_no_data group (Double n) is own = own
above_no_data group (Inode n) is own = own
above_no_data group (Map j) is own = own
above_no_data group (Usage j) is own = own

-- and so is what is above it
pub above_parent : (group : ℕ) (x : Entry) → IsAbove group x → IsAbove group (parent x)
above_parent group (Data n i) is = absurd is
above_parent group (Leaf n zero) is = let e = is.1 in omega (arith, e)
above_parent group (Leaf n (suc q)) is = let e = is.1 in let low = is.0 in omega (arith, e, low)
above_parent group (Double n) is = is
above_parent group (Inode n) is = is
above_parent group (Map j) is = absurd is
above_parent group (Usage j) is = absurd is

-- a block of data, and the others, of a file's block
pub above_data : (n i : ℕ) → i ≤ 16623 → IsAbove (group_of (Data n i)) (parent (Data n i))
above_data n i low = by (nat_lt i 112) refl
  where
    by : (b : Bool) → nat_lt i 112 ≡ b
        → IsAbove (256 * n + cond b 0 ((i - 112) / 128 + 1)) (cond {A = Entry} b (Inode n) (Leaf n ((i - 112) / 128)))
    by true is = omega arith
    by false is = (omega (arith, low), refl)

-- a block that is stored by itself or another has no more above it than this
pub depth_above : (x : Entry) → (parent x ≡ x → ⊥) → depth (parent x) + 1 ≤ depth x
depth_above (Data n i) up = by (nat_lt i 112)
  where
    by : (b : Bool) → depth (cond {A = Entry} b (Inode n) (Leaf n ((i - 112) / 128))) + 1 ≤ cond b 2 4
    by true = omega arith
    by false = leaf ((i - 112) / 128)
      where
        leaf : (q : ℕ) → depth (Leaf n q) + 1 ≤ 4
        leaf zero = omega arith
        leaf (suc q) = omega arith
depth_above (Leaf n zero) up = omega arith
depth_above (Leaf n (suc q)) up = omega arith
depth_above (Double n) up = omega arith
depth_above (Inode n) up = absurd (up refl)
depth_above (Map j) up = absurd (up refl)
depth_above (Usage j) up = absurd (up refl)

pub depth_most : (x : Entry) → depth x ≤ 4
depth_most (Data n i) = by (nat_lt i 112)
  where
    by : (b : Bool) → cond b 2 4 ≤ 4
    by true = omega arith
    by false = omega arith
depth_most (Leaf n zero) = omega arith
depth_most (Leaf n (suc q)) = omega arith
depth_most (Double n) = omega arith
depth_most (Inode n) = omega arith
depth_most (Map j) = omega arith
depth_most (Usage j) = omega arith

pub depth_some : (x : Entry) → 1 ≤ depth x
depth_some (Data n i) = by (nat_lt i 112)
  where
    by : (b : Bool) → 1 ≤ cond b 2 4
    by true = omega arith
    by false = omega arith
depth_some (Leaf n zero) = omega arith
depth_some (Leaf n (suc q)) = omega arith
depth_some (Double n) = omega arith
depth_some (Inode n) = omega arith
depth_some (Map j) = omega arith
depth_some (Usage j) = omega arith

-- a block that is below another isn't its own parent
pub not_top : {above key : ℕ} → IsCode above → IsCode key → entry_at above ≡ parent (entry_at key) → key < above
    → parent (entry_at key) ≡ entry_at key → ⊥
not_top {above} {key} formed own up less top =
    let same : above ≡ key = sym (code_entry above formed) ∙ ap code (up ∙ top) ∙ code_entry key own in
    omega (arith, same, less)

-- a key of a block of data, and what is above it
low_code : (key : ℕ) → is_data_code key ≡ true → key < 134217728
low_code key is = ⊎_elim
    (λ (low : key < 134217728). low)
    (λ (high : 134217728 ≤ key). let bad : true ≡ false = sym is ∙ le-ltb key 134217728 high in absurd (cc))
    (cases_lt key 134217728)

pub data_key : (key : ℕ) → is_data_code key ≡ true → IsDataBlock (entry_at key)
data_key key is =
    let less = low_code key is in
    let low : key / 134217728 ≡ 0 = omega (arith, less) in
    rw low tt

pub data_above : (key : ℕ) → IsCode key → is_data_code key ≡ true → IsAbove (group_of (entry_at key)) (parent (entry_at key))
data_above key formed is =
    let less = low_code key is in
    let low : key / 134217728 ≡ 0 = omega (arith, less) in
    let index = formed.data_index less in
    rw low (above_data (key / 32768 % 4096) (key % 32768) index)

high_code : (key : ℕ) → (is_data_code key ≡ true → ⊥) → 134217728 ≤ key
high_code key other = ⊎_elim
    (λ (low : key < 134217728). absurd (other (lt-ltb key 134217728 low)))
    (λ (high : 134217728 ≤ key). high)
    (cases_lt key 134217728)

-- a block that isn't one of data is above its own group
pub own_above : (key : ℕ) → IsCode key → (is_data_code key ≡ true → ⊥) → IsAbove (group_of (entry_at key)) (entry_at key)
own_above key formed other =
    let high = high_code key other in
    by (key / 134217728) refl high
  where
    by : (kind : ℕ) → key / 134217728 ≡ kind → 134217728 ≤ key
        → IsAbove (group_of (entry_by (kind_by kind) (key / 32768 % 4096) (key % 32768)))
        (entry_by (kind_by kind) (key / 32768 % 4096) (key % 32768))
    by zero is high = absurd (omega (arith, is, high))
    by (suc zero) is high = (formed.leaf_index high (omega (arith, is)), refl)
    by (suc (suc zero)) is high = omega arith
    by (suc (suc (suc r))) is high = omega arith

pub data_closes : (x : Entry) → IsDataBlock x → closes_at x ≡ 0
data_closes (Data n i) is = refl
data_closes (Leaf n q) is = absurd is
data_closes (Double n) is = absurd is
data_closes (Inode n) is = absurd is
data_closes (Map j) is = absurd is
data_closes (Usage j) is = absurd is

pub data_no_top : (key : ℕ) → is_data_code key ≡ true → parent (entry_at key) ≡ entry_at key → ⊥
data_no_top key is top = no_data_above (entry_at key) (entry_at key) (sym top) (data_key key is)

-- ---- what is above one group are three blocks at most
three : ℕ → List Entry
three group = Inode (group / 256) ∷ Double (group / 256) ∷ Leaf (group / 256) (group - 256 * (group / 256) - 1) ∷ []

in_three : (group : ℕ) (x : Entry) → IsAbove group x → IsIn (three group) x
unfolding three
in_three group (Data n i) is = absurd is
in_three group (Leaf n q) is =
    let e = is.1 in
    let low = is.0 in
    let own : n ≡ group / 256 = omega (arith, e, low) in
    let place : q ≡ group - 256 * (group / 256) - 1 = omega (arith, e, low) in
    inr (inr (inl (cc)))
in_three group (Double n) is = inr (inl (ap Double is))
in_three group (Inode n) is = inl (ap Inode is)
in_three group (Map j) is = absurd is
in_three group (Usage j) is = absurd is

-- ---- a list of distinct blocks, each of which is in another list, is no longer
dropped_by : {y : Entry} (x : Entry) → (x ≡ y) ⊎ (x ≡ y → ⊥) → List Entry → List Entry → List Entry
dropped_by x (inl here) rest dropped = rest
dropped_by x (inr away) rest dropped = x ∷ dropped

without : Entry → List Entry → List Entry
without y [] = []
without y (x ∷ xs) = dropped_by x (same_entry x y) xs (without y xs)

one_fewer_by : {y : Entry} (x : Entry) (o : (x ≡ y) ⊎ (x ≡ y → ⊥)) (xs rest : List Entry) → length xs ≤ length rest + 1
    → length (x ∷ xs) ≤ length (dropped_by x o xs rest) + 1
unfolding dropped_by
one_fewer_by x (inl here) xs rest few = omega arith
one_fewer_by x (inr away) xs rest few = omega (arith, few)

one_fewer : (y : Entry) (xs : List Entry) → length xs ≤ length (without y xs) + 1
unfolding without
one_fewer y [] = omega arith
one_fewer y (x ∷ xs) = one_fewer_by x (same_entry x y) xs (without y xs) (one_fewer y xs)

still_in_by : {y : Entry} (x : Entry) (o : (x ≡ y) ⊎ (x ≡ y → ⊥)) (xs rest : List Entry) (z : Entry) → (IsIn rest z → IsIn xs z)
    → IsIn (dropped_by x o xs rest) z → (z ≡ x) ⊎ IsIn xs z
unfolding dropped_by
still_in_by x (inl here) xs rest z later is = inr is
still_in_by x (inr away) xs rest z later is = ⊎_elim (λ (first : z ≡ x). inl first) (λ (there : IsIn rest z). inr (later there)) is

still_in : (y : Entry) (xs : List Entry) (z : Entry) → IsIn (without y xs) z → IsIn xs z
unfolding without
still_in y [] z is = is
still_in y (x ∷ xs) z is = still_in_by x (same_entry x y) xs (without y xs) z (still_in y xs z) is

still_apart_by : {y : Entry} (x : Entry) (o : (x ≡ y) ⊎ (x ≡ y → ⊥)) (xs rest : List Entry) → (IsIn rest x → ⊥) → AreApart xs
    → AreApart rest → AreApart (dropped_by x o xs rest)
unfolding dropped_by
still_apart_by x (inl here) xs rest new apart less = apart
still_apart_by x (inr away) xs rest new apart less = (new, less)

still_apart : (y : Entry) (xs : List Entry) → AreApart xs → AreApart (without y xs)
unfolding without
still_apart y [] apart = tt
still_apart y (x ∷ xs) apart =
    still_apart_by x (same_entry x y) xs (without y xs) (λ is. apart.0 (still_in y xs x is)) apart.1 (still_apart y xs apart.1)

is_other_by : {y : Entry} (x : Entry) (o : (x ≡ y) ⊎ (x ≡ y → ⊥)) (xs rest : List Entry) (z : Entry) → (IsIn xs x → ⊥)
    → (IsIn rest z → z ≡ y → ⊥) → IsIn (dropped_by x o xs rest) z → z ≡ y → ⊥
unfolding dropped_by
is_other_by x (inl here) xs rest z new later is same = new (rw (same ∙ sym here) at is)
is_other_by x (inr away) xs rest z new later is same = ⊎_elim
    (λ (first : z ≡ x). away (sym first ∙ same))
    (λ (there : IsIn rest z). later there same)
    is

is_other : (y : Entry) (xs : List Entry) → AreApart xs → (z : Entry) → IsIn (without y xs) z → z ≡ y → ⊥
unfolding without
is_other y [] apart z is = absurd is
is_other y (x ∷ xs) apart z is = is_other_by x (same_entry x y) xs (without y xs) z apart.0 (is_other y xs apart.1 z) is

pub no_longer : (ys xs : List Entry) → AreApart xs → ((x : Entry) → IsIn xs x → IsIn ys x) → length xs ≤ length ys
no_longer [] [] apart each = omega arith
no_longer [] (x ∷ xs) apart each = absurd (each x (inl refl))
no_longer (y ∷ ys) xs apart each =
    let rest = no_longer ys (without y xs) (still_apart y xs apart) (λ z is. ⊎_elim
    (λ (own : z ≡ y). absurd (is_other y xs apart z is own))
    (λ (other : IsIn ys z). other)
    (each z (still_in y xs z is))) in
    let one = one_fewer y xs in
    omega (arith, rest, one)

pub few_above : (v : LogMemory) (group : ℕ) → IsInOrder v.dirty → HasAboveAlone v group → length v.dirty.blocks ≤ 3
unfolding three
few_above v group order alone =
    let all = no_longer (three group) (entries v.dirty) (apart_entries order)
    (λ x is. in_three group x (alone x (has_entry order x is))) in
    let count = count_entries order in
    omega (arith, all, count)

-- ---- leaves
leaf_by : (k f i : ℕ) → IsLeaf (entry_by (kind_by k) f i) → k ≡ 1
leaf_by zero f i is = absurd is
leaf_by (suc zero) f i is = refl
leaf_by (suc (suc zero)) f i is = absurd is
leaf_by (suc (suc (suc k))) f i is = absurd is

by_kind : (key : ℕ) → IsLeaf (entry_at key) → key / 134217728 ≡ 1
by_kind key is = leaf_by (key / 134217728) (key / 32768 % 4096) (key % 32768) is

pub is_kind : (key : ℕ) → kind_by (key / 134217728) ≡ kind.Leaf → IsLeaf (entry_at key)
is_kind key is = by (key / 134217728) is
  where
    by : (k : ℕ) → kind_by k ≡ kind.Leaf → IsLeaf (entry_by (kind_by k) (key / 32768 % 4096) (key % 32768))
    by zero is = absurd (cc)
    by (suc zero) is = tt
    by (suc (suc zero)) is = absurd (cc)
    by (suc (suc (suc k))) is = absurd (cc)

pub kind_is : (key : ℕ) → IsLeaf (entry_at key) → kind_by (key / 134217728) ≡ kind.Leaf
kind_is key is = ap kind_by (by_kind key is)

-- of two leaves the one with the lower number is closed first
leaf_order : (a b : ℕ) → IsCode a → IsCode b → a / 134217728 ≡ 1 → b / 134217728 ≡ 1 → a ≤ b
    → closes_at (entry_at a) ≤ closes_at (entry_at b)
leaf_order a b formed other one two le =
    let low = formed.leaf_index (omega (arith, one)) (omega (arith, one)) in
    let few = other.leaf_index (omega (arith, two)) (omega (arith, two)) in
    let sorted : 256 * (a / 32768 % 4096) + (a % 32768 + 2) ≤ 256 * (b / 32768 % 4096) + (b % 32768 + 2) =
    omega (arith, low, few, one, two, le) in
    rw (one, two) sorted

leaf_no_data : (x : Entry) → IsLeaf x → IsDataBlock x → ⊥
leaf_no_data (Data n i) is own = is
leaf_no_data (Leaf n q) is own = own
leaf_no_data (Double n) is own = is
leaf_no_data (Inode n) is own = is
leaf_no_data (Map j) is own = is
leaf_no_data (Usage j) is own = is

-- ---- what waits in memory: blocks above a group, and leaves of earlier ones
pub waiting_no_data : (group : ℕ) (x : Entry) → IsAbove group x ⊎ IsClosedLeaf group x → IsDataBlock x → ⊥
waiting_no_data group x is own = ⊎_elim
    (λ (above : IsAbove group x). above_no_data group x above own)
    (λ (closed : IsClosedLeaf group x). leaf_no_data x closed.0 own)
    is

-- is closed by the end of their file
pub waiting_closed : (from to : ℕ) → 256 * (from / 256 + 1) ≤ to → (x : Entry) → IsAbove from x ⊎ IsClosedLeaf from x → closes_at x ≤ to
waiting_closed from to next x is = ⊎_elim
    (λ (above : IsAbove from x). let closed = above_closed from x above in omega (arith, closed, next))
    (λ (closed : IsClosedLeaf from x). let low = closed.1 in omega (arith, low, next))
    is

-- and stands so at a later group of that file
above_later : (from to : ℕ) → from ≤ to → from / 256 ≡ to / 256 → (x : Entry) → IsAbove from x → IsAbove to x ⊎ IsClosedLeaf to x
above_later from to le same (Data n i) is = absurd is
above_later from to le same (Leaf n q) is = ⊎_elim
    (λ (here : from ≡ to). inl (is.0, is.1 ∙ here))
    (λ (later : from ≡ to → ⊥). let e = is.1 in inr (tt, omega (arith, e, le, later)))
    (cases_eq from to)
above_later from to le same (Double n) is = inl (is ∙ same)
above_later from to le same (Inode n) is = inl (is ∙ same)
above_later from to le same (Map j) is = absurd is
above_later from to le same (Usage j) is = absurd is

pub waits_later : (v : LogMemory) (from to : ℕ) → from ≤ to → from / 256 ≡ to / 256 → HasAboveAndLeaves v from → HasAboveAndLeaves v to
waits_later v from to le same waits x inside = ⊎_elim
    (λ (above : IsAbove from x). above_later from to le same x above)
    (λ (closed : IsClosedLeaf from x). inr (closed.0, let low = closed.1 in omega (arith, low, le)))
    (waits x inside)

-- the block with the least number isn't such a leaf: none is left
module _ (v : LogMemory) (group key : ℕ) (order : IsInOrder v.dirty) (first : HasNumberAt v.dirty.blocks key 0)
    (inside : IsAbove group (entry_at key) ⊎ IsClosedLeaf group (entry_at key)) (other : IsClosedLeaf group (entry_at key) → ⊥) where
  own_code : IsCode key
  own_code = subst IsCode first.number (order.codes 0 first.within)

  not_least : (c : ℕ) → IsCode c → IsClosedLeaf group (entry_at c) → key ≤ c → ⊥
  not_least c formed closed le = by (key / 134217728) refl inside
    where
      by : (k : ℕ) → key / 134217728 ≡ k → IsAbove group (entry_at key) ⊎ IsClosedLeaf group (entry_at key) → ⊥
      by zero is there = waiting_no_data group (Data (key / 32768 % 4096) (key % 32768)) (rw is at there) tt
      by (suc zero) is there =
          let low = closed.1 in
          let before = leaf_order key c own_code formed is (by_kind c closed.0) le in
          other (is_kind key (ap kind_by is), omega (arith, low, before))
      by (suc (suc k)) is there = let leaf = by_kind c closed.0 in absurd (omega (arith, is, leaf, le))

  pub above_alone : HasAboveAndLeaves v group → HasAboveAlone v group
  above_alone waits x there = ⊎_elim
      (λ (above : IsAbove group x). above)
      (λ (closed : IsClosedLeaf group x).
      let number = number_there v.dirty.blocks (code x) (found_in v.dirty.blocks (code x) there.1) in
      let formed : IsCode (code x) = subst IsCode number.2 (order.codes number.0 number.1) in
      let named : x ≡ entry_at (code x) = entry_of_code x formed refl in
      let least : key ≤ code x = ⊎_elim
      (λ (own : number.0 ≡ 0). let same : number_at v.dirty.blocks 0 ≡ code x = sym (ap (number_at v.dirty.blocks) own) ∙ number.2 in
      let here = first.number in omega (arith, same, here))
      (λ (later : number.0 ≡ 0 → ⊥).
      let less = rises v.dirty.blocks order.sorted 0 number.0 (omega (arith, later)) number.1 in
      let here = first.number in
      let is = number.2 in
      omega (arith, less, here, is))
      (cases_eq number.0 0) in
      absurd (not_least (code x) formed (subst (IsClosedLeaf group) named closed) least))
      (waits x there)

pub empty_above : (v : LogMemory) (group : ℕ) → ((x : Entry) → blocks_of v.dirty x ≡ None) → HasAboveAlone v group
empty_above v group none x is = let bad : None ≡ Some is.0 = sym (none x) ∙ is.1 in absurd (cc)

pub nothing_waits : (v : LogMemory) (group : ℕ) → v.dirty.blocks ≡ [] → HasAboveAndLeaves v group
nothing_waits v group nothing x is = inl (empty_above v group (λ y. ap (λ (bs : Blocks). blocks_in bs y) nothing) x is)
