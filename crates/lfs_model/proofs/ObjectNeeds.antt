-- What an object costs, by the indices of its stored blocks.
use Rattle.std.proofs.Common.{◌≡◌, ◌≢◌, ◌<◌, ◌≤◌, ⊎_elim, ◌+◌, ◌*◌, ◌/◌, ◌%◌, ◌==◌, ◌&&◌, cond, Bool, true, false, nat_le, nat_lt, ℕ, zero}
use Rattle.std.proofs.Common.{suc, List, [], ◌∷◌, length, map, take, drop, get_or, Option, Some, None, refl, sym, ◌∙◌, ap, ap₂, subst}
use Rattle.std.proofs.Common.{arith, slice_index, ne_eqb}
use Rattle.std.specs.Prelude.{count_by, filter, not}
use Rattle.std.specs.List.{AllByRecursion, list_any, range_with_len}
use Rattle.std.proofs.lemmas.Bool.{and_parts, cases_eq, cases_lt, false_from_ne_true, leb-true, lt-ltb, ltb-true}
use Rattle.std.proofs.lemmas.List.{get_or-drop, get_or-take, get_or_default, get_or_past, length-drop, length-take}
use Rattle.std.proofs.lemmas.List.Folds.{Any-from_list_any, list_any_at}
use Rattle.std.proofs.lemmas.List.Sums.{length-filter}
use Rattle.lfs_model.specs.declared.Kind.{Kind}
use Rattle.lfs_model.specs.declared.Kind.TheVariants as kind
use Rattle.lfs_model.specs.Changing.{IsWithBlock}
use Rattle.lfs_model.specs.Encodes.{HasData, IsLogMap}
use Rattle.lfs_model.specs.Entry.{Header, Data}
use Rattle.lfs_model.specs.Fields.{number_of, read32, part}
use Rattle.lfs_model.specs.Need.{data_of, data_pieces, is_data, meta_of, pieces, pointers}
use Rattle.lfs_model.specs.Slot.{SlotValue, slot_in, slot_of, may_be_slot, slot_bytes}
use Rattle.lfs_model.specs.Stands.{LogMap}
use Rattle.lfs_model.specs.Tree.{Node, File, Dir, Link, slot_len}
use Rattle.lfs_model.specs.TreeOf.{map_of, node_by, object, slots}
use Rattle.lfs_model.specs.Objects.{AreLong, LaidLong, HasCosts, ObjectCosts, DirectoryBlocks, IsDirectory, byte_in, is_stored, one_if}
use Rattle.lfs_model.specs.Objects.{stored_below, stored_blocks, StoredChanged}
use Rattle.lfs_model.proofs.Decoding.{value_found}
use Rattle.lfs_model.proofs.Live.{count_same, count_one_more}
use Rattle.lfs_model.proofs.ObjectBytes.{object_byte}
use Rattle.lfs_model.proofs.Standing.{object_length, slots_length}

-- ---- filters of ranges

pub same_tests : (a b : Bool) → (a ≡ true → b ≡ true) → (b ≡ true → a ≡ true) → a ≡ b
same_tests true b to from = sym (to refl)
same_tests false true to from = from refl
same_tests false false to from = refl

pub filter_same : (p q : ℕ → Bool) (a n : ℕ) → ((x : ℕ) → a ≤ x → x < a + n → p x ≡ q x)
    → filter p (range_with_len a n) ≡ filter q (range_with_len a n)
filter_same p q a zero same = refl
filter_same p q a (suc n) same =
    ap₂ (λ (b : Bool) (rest : List ℕ). cond b (a ∷ rest) rest) (same a (omega arith) (omega arith))
    (filter_same p q (a + 1) n (λ x le lt. same x (omega arith) (omega arith)))

pub filter_none : (p : ℕ → Bool) (a n : ℕ) → ((x : ℕ) → a ≤ x → p x ≡ false) → filter p (range_with_len a n) ≡ []
filter_none p a zero none = refl
filter_none p a (suc n) none =
    ap (λ (b : Bool). cond b (a ∷ filter p (range_with_len (a + 1) n)) (filter p (range_with_len (a + 1) n))) (none a (omega arith))
    ∙ filter_none p (a + 1) n (λ x le. none x (omega arith))

-- what fails from the end of both ranges on, and so between them, isn't missed
pub filter_ends : (p : ℕ → Bool) (a n k : ℕ) → ((x : ℕ) → a + n ≤ x → p x ≡ false) → ((x : ℕ) → a + k ≤ x → p x ≡ false)
    → filter p (range_with_len a n) ≡ filter p (range_with_len a k)
filter_ends p a zero k none other = sym (filter_none p a k (λ x le. none x (omega arith)))
filter_ends p a (suc n) zero none other = filter_none p a (suc n) (λ x le. other x (omega arith))
filter_ends p a (suc n) (suc k) none other =
    ap (λ (rest : List ℕ). cond (p a) (a ∷ rest) rest)
    (filter_ends p (a + 1) n k (λ x le. none x (omega arith)) (λ x le. other x (omega arith)))

filter_all : (p : ℕ → Bool) (a n : ℕ) → ((x : ℕ) → a ≤ x → x < a + n → p x ≡ true) → filter p (range_with_len a n) ≡ range_with_len a n
filter_all p a zero all = refl
filter_all p a (suc n) all =
    ap₂ (λ (b : Bool) (rest : List ℕ). cond b (a ∷ rest) rest) (all a (omega arith) (omega arith))
    (filter_all p (a + 1) n (λ x le lt. all x (omega arith) (omega arith)))

-- ---- pieces with a byte that isn't zero

pub nonzero_piece : (s at : ℕ) (b : List ℕ) (k : ℕ) → k < s → 0 < get_or b (at + k) 0
    → list_any (λ c. not (c == 0)) (take s (drop at b)) ≡ true
nonzero_piece s at b k lt some =
    let d = length-drop at b in
    let t = length-take s (drop at b) in
    let low : at + k < length b = ⊎_elim
    (λ (low : at + k < length b). low)
    (λ (high : length b ≤ at + k). let none = get_or_past b (at + k) 0 high in absurd (omega arith))
    (cases_lt (at + k) (length b)) in
    list_any_at (λ c. not (c == 0)) (take s (drop at b)) k 0 (omega arith)
    (ap (λ (x : ℕ). not (x == 0)) (get_or-take s (drop at b) k 0 lt ∙ get_or-drop at b k 0)
    ∙ ap not (ne_eqb (get_or b (at + k) 0) 0 (λ e. omega arith)))

byte_some : (x : ℕ) → not (x == 0) ≡ true → 0 < x
byte_some zero e = cc
byte_some (suc x) e = omega arith

pub piece_nonzero : (s at : ℕ) (b : List ℕ) → list_any (λ c. not (c == 0)) (take s (drop at b)) ≡ true
    → (k : ℕ) × (k < s) × (0 < get_or b (at + k) 0)
piece_nonzero s at b any =
    let found = Any-from_list_any (λ c. not (c == 0)) (take s (drop at b)) any in
    let t = length-take s (drop at b) in
    let lt = found.2 in
    let low : found.0 < s = omega arith in
    let some = byte_some found.1 found.4 in
    let is : get_or b (at + found.0) 0 ≡ found.1 =
    sym (get_or-drop at b found.0 0) ∙ sym (get_or-take s (drop at b) found.0 0 low)
    ∙ get_or_default (take s (drop at b)) found.0 0 found.1 lt ∙ found.3 in
    (found.0, low, omega arith)

pub nonempty : (xs : List ℕ) (k : ℕ) → 0 < get_or xs k 0 → k < length xs
nonempty xs k some = ⊎_elim
    (λ (low : k < length xs). low)
    (λ (high : length xs ≤ k). let none = get_or_past xs k 0 high in absurd (omega arith))
    (cases_lt k (length xs))

-- ---- the stored blocks of an object

pub block_byte : (m : LogMap) (n i k : ℕ) → k < 512 → byte_in m n (512 * i + k) ≡ slice_index (m.block n i) k
block_byte m n i k lt =
    let q : (512 * i + k) / 512 ≡ i = omega arith in
    let r : (512 * i + k) % 512 ≡ k = omega arith in
    ap₂ (λ (x y : ℕ). slice_index (m.block n x) y) q r

-- a byte of the object that isn't zero stands in a stored block
has_byte : (m : LogMap) (n : ℕ) (h : Header) (i k : ℕ) → k < 512 → 0 < get_or (object m n h) (512 * i + k) 0 → HasData m n i
has_byte m n h i k lt some =
    let low = nonempty (object m n h) (512 * i + k) some in
    let l = object_length m n h in
    let is = object_byte m n h (512 * i + k) (omega arith) in
    let byte = block_byte m n i k lt in
    let there = nonempty (m.block n i) k (omega arith) in
    omega arith

module _ (m : LogMap) (n : ℕ) (h : Header) (is : IsLogMap m) (at : m.header n ≡ Some h) where
  stored_within : (i : ℕ) → HasData m n i → 512 * i < h.size
  stored_within i has =
      let there = is.within n i has in
      let same : there.0 ≡ h = (let e : Some there.0 ≡ Some h = sym there.1 ∙ at in cc) in
      subst (λ (g : Header). 512 * i < g.size) same there.2

  not_stored : (i : ℕ) → (HasData m n i → ⊥) → is_stored m n i ≡ false
  not_stored i none = false_from_ne_true (is_stored m n i) (λ on. none (ltb-true 0 (length (m.block n i)) on))

  -- the indices up to an end past which nothing is stored are those of the object's pieces
  stored_ends : (end : ℕ) → ((i : ℕ) → HasData m n i → i < end) → filter (is_stored m n) (pieces h.size) ≡ stored_below m n end
  unfolding stored_below
  stored_ends end small = filter_ends (is_stored m n) 0 ((h.size + 511) / 512) end
      (λ i le. not_stored i (λ has. let w = stored_within i has in omega arith))
      (λ i le. not_stored i (λ has. let w = small i has in omega arith))

  module _ (long : AreLong m n) where
    -- a stored block has a byte that isn't zero, before the object's end
    byte_there : (i : ℕ) → HasData m n i → (k : ℕ) × (k < 512) × (512 * i + k < h.size) × (0 < slice_index (m.block n i) k)
    byte_there i has =
        let one = is.nonzero n i has in
        let some = one.1 in
        let low = nonempty (m.block n i) one.0 some in
        let l = long i has in
        let before : 512 * i + one.0 < h.size = ⊎_elim
        (λ (lt : 512 * i + one.0 < h.size). lt)
        (λ (le : h.size ≤ 512 * i + one.0). let none = is.past n i one.0 h at le in absurd (omega arith))
        (cases_lt (512 * i + one.0) h.size) in
        (one.0, omega arith, before, some)

    stored_is_data : (i : ℕ) → is_stored m n i ≡ true → is_data (object m n h) i ≡ true
    stored_is_data i on =
        let one = byte_there i (ltb-true 0 (length (m.block n i)) on) in
        let is = object_byte m n h (512 * i + one.0) one.2 in
        let byte = block_byte m n i one.0 one.1 in
        let some = one.3 in
        nonzero_piece 512 (512 * i) (object m n h) one.0 one.1 (omega arith)

    data_is_stored : (i : ℕ) → is_data (object m n h) i ≡ true → is_stored m n i ≡ true
    data_is_stored i on =
        let one = piece_nonzero 512 (512 * i) (object m n h) on in
        lt-ltb 0 (length (m.block n i)) (has_byte m n h i one.0 one.1 one.2)

    file_pieces : filter (is_data (object m n h)) (pieces (length (object m n h))) ≡ stored_blocks m n
    file_pieces =
        filter_same (is_data (object m n h)) (is_stored m n) 0 ((length (object m n h) + 511) / 512)
        (λ i le lt. same_tests (is_data (object m n h) i) (is_stored m n i) (data_is_stored i) (stored_is_data i))
        ∙ ap (λ (size : ℕ). filter (is_stored m n) (pieces size)) (object_length m n h) ∙ stored_ends 16624 (λ i has. is.small n i has)

-- ---- directories

number_some : (xs : List ℕ) → 0 < number_of xs → (k : ℕ) × (k < length xs) × (0 < get_or xs k 0)
number_some [] some = absurd (omega arith)
number_some (zero ∷ xs) some = let rest = number_some xs (omega arith) in (suc rest.0, (let lt = rest.1 in omega arith), rest.2)
number_some (suc x ∷ xs) some = (0, omega arith, omega arith)

read_some : (b : List ℕ) → 0 < read32 0 b → (k : ℕ) × (k < 4) × (0 < get_or b k 0)
unfolding read32 part
read_some b some =
    let one = number_some (take 4 b) some in
    let t = length-take 4 b in
    let lt = one.1 in
    let low : one.0 < 4 = omega arith in
    let is = get_or-take 4 b one.0 0 low in
    let byte = one.2 in
    (one.0, low, omega arith)

slot_number : (form : ℕ) (b : List ℕ) (v : SlotValue) → slot_in form b ≡ Some v → 0 < read32 0 b
unfolding slot_in
slot_number form b v is =
    let found = value_found slot_of (may_be_slot form) (slot_bytes form) b v is in
    let parts = and_parts (nat_le 1 (read32 0 b) && nat_le (read32 0 b) 4095) _ found.1 in
    let low = and_parts (nat_le 1 (read32 0 b)) (nat_le (read32 0 b) 4095) parts.0 in
    leb-true 1 (read32 0 b) low.0

-- a well-formed slot has a byte that isn't zero
slot_some : (form : ℕ) (b : List ℕ) → slot_in form b ≢ None → (k : ℕ) × (k < 4) × (0 < get_or b k 0)
slot_some form b formed = by (slot_in form b) refl
  where
    by : (o : Option SlotValue) → slot_in form b ≡ o → (k : ℕ) × (k < 4) × (0 < get_or b k 0)
    by None is = absurd (formed is)
    by (Some v) is = read_some b (slot_number form b v is)

all_mapped : {X : Type 0} (P : X → Type 0) (f : ℕ → X) (a n j : ℕ) → AllByRecursion P (map f (range_with_len a n)) → a ≤ j → j < a + n
    → P (f j)
all_mapped P f a zero j all le lt = absurd (omega arith)
all_mapped P f a (suc n) j all le lt = ⊎_elim
    (λ (here : a ≡ j). subst (λ (x : ℕ). P (f x)) here all.0)
    (λ (later : a ≡ j → ⊥). all_mapped P f (a + 1) n j all.1 (omega arith) (omega arith))
    (cases_eq a j)

-- the slot at the start of a block
first_slot : (form size i : ℕ) → size % slot_len form ≡ 0 → i < (size + 511) / 512
    → (j : ℕ) × (slot_len form * j ≡ 512 * i) × (j < size / slot_len form)
first_slot zero size i whole lt = (8 * i, omega arith, omega arith)
first_slot (suc form) size i whole lt = (4 * i, omega arith, omega arith)

slots_whole : (form size : ℕ) → size % slot_len form ≡ 0 → slot_len form * (size / slot_len form) ≡ size
slots_whole zero size whole = omega arith
slots_whole (suc form) size whole = omega arith

four_bytes : (form : ℕ) → 4 ≤ slot_len form
four_bytes zero = omega arith
four_bytes (suc form) = omega arith

module _ (m : LogMap) (n : ℕ) (h : Header) (formed : AllByRecursion (λ b. slot_in h.form b ≢ None) (slots m n h)) where
  slot_byte : (j : ℕ) → j < h.size / slot_len h.form → (k : ℕ) × (k < 4) × (0 < get_or (object m n h) (slot_len h.form * j + k) 0)
  unfolding slots
  slot_byte j lt =
      let one = slot_some h.form (take (slot_len h.form) (drop (slot_len h.form * j) (object m n h)))
      (all_mapped (λ b. slot_in h.form b ≢ None) (λ j. take (slot_len h.form) (drop (slot_len h.form * j) (object m n h))) 0
      (h.size / slot_len h.form) j formed (omega arith) (omega arith)) in
      let four = four_bytes h.form in
      let low = one.1 in
      let some = one.2 in
      let is = get_or-take (slot_len h.form) (drop (slot_len h.form * j) (object m n h)) one.0 0 (omega arith) in
      let byte = get_or-drop (slot_len h.form * j) (object m n h) one.0 0 in
      (one.0, low, omega arith)

  dir_stored : (i : ℕ) → h.size % slot_len h.form ≡ 0 → i < (h.size + 511) / 512 → HasData m n i
  dir_stored i whole lt =
      let j = first_slot h.form h.size i whole lt in
      let one = slot_byte j.0 j.2 in
      has_byte m n h i one.0 (let low = one.1 in omega arith) (subst (λ (p : ℕ). 0 < get_or (object m n h) (p + one.0) 0) j.1 one.2)

pub directory_blocks : DirectoryBlocks
directory_blocks m n h is at dir =
    sym (stored_ends m n h is at 16624 (λ i has. is.small n i has))
    ∙ filter_all (is_stored m n) 0 ((h.size + 511) / 512)
    (λ i le lt. lt-ltb 0 (length (m.block n i)) (dir_stored m n h dir.formed i dir.whole (omega arith)))

-- ---- costs

costs_of : (x : Node) (is : List ℕ) → data_pieces x ≡ is → HasCosts x is
unfolding data_of meta_of
costs_of x is same = record { blocks = ap length same; above = ap (λ (l : List ℕ). 1 + pointers l) same }

module _ (m : LogMap) (n : ℕ) (h : Header) (is : IsLogMap m) (long : AreLong m n) (at : m.header n ≡ Some h) where
  costs_by : (k : Kind) → (k ≡ kind.Directory → IsDirectory m n h) → HasCosts (node_by m k n h) (stored_blocks m n)
  costs_by kind.File directory = costs_of (File (object m n h)) (stored_blocks m n) (file_pieces m n h is at long)
  costs_by kind.Link directory = costs_of (Link (object m n h)) (stored_blocks m n) (file_pieces m n h is at long)
  costs_by kind.Directory directory =
      let dir = directory refl in
      costs_of (Dir h.form (map_of h.form (slots m n h))) (stored_blocks m n)
      (ap pieces (ap (λ (k : ℕ). slot_len h.form * k) (dir.apart ∙ slots_length m n h) ∙ slots_whole h.form h.size dir.whole)
      ∙ sym (directory_blocks m n h is at dir))

pub object_costs : ObjectCosts
object_costs m n h is long at directory = costs_by m n h is long at h.kind directory

pub laid_long : LaidLong
laid_long e m M o laid n i has =
    let some = (laid.blocks n i).0 has in
    sym (ap length (laid.spells (Data n i) some)) ∙ laid.long (Data n i) (n, refl) some

-- ---- one block changed

pub count_changed : (p q : ℕ → Bool) (a n o : ℕ) → a ≤ o → o < a + n → ((x : ℕ) → (x ≡ o → ⊥) → p x ≡ q x)
    → count_by q (range_with_len a n) + one_if (p o) ≡ count_by p (range_with_len a n) + one_if (q o)
count_changed p q a n o le lt same = by (p o) (q o) refl refl
  where
    all : p o ≡ q o → count_by p (range_with_len a n) ≡ count_by q (range_with_len a n)
    all at = count_same p q a n (λ x _ _. ⊎_elim (λ (here : x ≡ o). ap p here ∙ at ∙ sym (ap q here)) (same x) (cases_eq x o))

    by : (b c : Bool) → p o ≡ b → q o ≡ c → count_by q (range_with_len a n) + one_if b ≡ count_by p (range_with_len a n) + one_if c
    by true true is_p is_q = let e = all (is_p ∙ sym is_q) in omega arith
    by false false is_p is_q = let e = all (is_p ∙ sym is_q) in omega arith
    by false true is_p is_q = let e = count_one_more p q a n o le lt (λ x _ _ ne. same x ne) is_p is_q in omega arith
    by true false is_p is_q = let e = count_one_more q p a n o le lt (λ x _ _ ne. sym (same x ne)) is_q is_p in omega arith

length_stored : (m : LogMap) (n end : ℕ) → length (stored_below m n end) ≡ count_by (is_stored m n) (range_with_len 0 end)
unfolding stored_below
length_stored m n end = length-filter (is_stored m n) (range_with_len 0 end)

stored_same : (m m' : LogMap) (n end : ℕ) → ((i : ℕ) → m'.block n i ≡ m.block n i) → stored_below m' n end ≡ stored_below m n end
unfolding stored_below
stored_same m m' n end same =
    filter_same (is_stored m' n) (is_stored m n) 0 end (λ i le lt. ap (λ (b : List ℕ). nat_lt 0 (length b)) (same i))

stored_changed_below : (m m' : LogMap) (n i end : ℕ) (bytes : List ℕ) → IsWithBlock m n i bytes m' → i < end
    → length (stored_below m' n end) + one_if (is_stored m n i) ≡ length (stored_below m n end) + one_if (is_stored m' n i)
stored_changed_below m m' n i end bytes is lt =
    let c = count_changed (is_stored m n) (is_stored m' n) 0 end i (omega arith) (omega arith)
    (λ x ne. ap (λ (b : List ℕ). nat_lt 0 (length b)) (sym (is.others n x (λ e. let same : x ≡ i = cc in ne same)))) in
    omega (arith, c, length_stored m n end, length_stored m' n end)

pub stored_changed : StoredChanged
stored_changed m m' n i bytes is = (
  λ lt. stored_changed_below m m' n i 16624 bytes is lt,
  λ q ne. stored_same m m' q 16624 (λ l. is.others q l (λ e. let same : q ≡ n = cc in ne same)),
)
