-- Counting the blocks of a file one by one.
use Rattle.std.proofs.Common.{◌≡◌, ◌<◌, ◌≤◌, ◌⊎◌, ◌+◌, ◌*◌, ◌-◌, ◌/◌, ◌%◌, ◌==◌, ◌&&◌, nat_le, nat_lt, cond, ℕ, zero, suc, Bool}
use Rattle.std.proofs.Common.{true, false, List, [], length, get_or, Some, None, refl, sym, ◌∙◌, ap, ap₂, arith, inl, inr, eq-eqb}
use Rattle.std.proofs.Common.{eqb-true}
use Rattle.std.proofs.lemmas.Bool.{cases_eq, cases_lt, cases_Bool, cond-true, cond-false, lt-ltb, le-ltb, and_parts, and_from}
use Rattle.std.proofs.lemmas.Bool.{false_from_ne_true, leb-true, le-leb}
use Rattle.lfs_model.specs.Content.{Content, block, bytes_of}
use Rattle.lfs_model.specs.Counting.{segment_of}
use Rattle.lfs_model.specs.Cutting.{is_past}
use Rattle.lfs_model.specs.Entry.{Entry, Data, Leaf, Double, Inode, Map, Usage, word}
use Rattle.lfs_model.specs.Fields.{read32}
use Rattle.lfs_model.specs.Laid.{IsLaid}
use Rattle.lfs_model.specs.Memory.{Memory, IsOfFile, file_of, parent, count_of}
use Rattle.lfs_model.specs.Running.{Dirty}
use Rattle.lfs_model.specs.Stands.{LogMap}
use Rattle.lfs_model.proofs.Counting.{one_more_counted}
use Rattle.lfs_model.proofs.CountFacts.{count_most, counts_agree}
use Rattle.lfs_model.proofs.CutSets.{past_cut}
use Rattle.lfs_model.proofs.Entries.{data_parent_low, data_parent_high}
use Rattle.lfs_model.proofs.Tables.{block_at}
use Rattle.lfs_inodes.specs.Present.{present}
use Rattle.lfs_inodes.proofs.PresentPointers.{present_is}
use Rattle.lfs_memory.specs.Present.{IsMissing}
use Rattle.lfs_memory.specs.Counting.{place, below_leaf, at_place, IsBefore, is_before, IsCountedTo, CountsOne, CountsWhere, IsOver}
use Rattle.lfs_memory.specs.Counting.{IsHeldBy, ArePointers, CountsWords, AreNoWords}

-- ---- places and blocks are one to one
place_low : (n i : ℕ) → i < 112 → place (Data n i) ≡ 1 + i
place_low n i low = cond-true (nat_lt i 112) (1 + i) (115 + 129 * ((i - 112) / 128) + (i - 112) % 128) (lt-ltb i 112 low)

place_high : (n i : ℕ) → 112 ≤ i → place (Data n i) ≡ 115 + 129 * ((i - 112) / 128) + (i - 112) % 128
place_high n i high = cond-false (nat_lt i 112) (1 + i) (115 + 129 * ((i - 112) / 128) + (i - 112) % 128) (le-ltb i 112 high)

not_eqb : (a b : ℕ) → (a ≡ b → ⊥) → (a == b) ≡ false
not_eqb a b ne = false_from_ne_true (a == b) (λ h. ne (eqb-true a b h))

module _ (n : ℕ) where
  rest_at : ℕ → Entry
  rest_at p = below_leaf n ((p - 114) / 129) ((p - 114) % 129)

  pub at_first : at_place n 0 ≡ Inode n
  at_first = cond-true (0 == 0) (Inode n) (cond (nat_lt 0 113) (Data n (0 - 1)) (cond (0 == 113) (Double n) (rest_at 0))) (eq-eqb 0 0 refl)

  pub at_low : (p : ℕ) → 1 ≤ p → p < 113 → at_place n p ≡ Data n (p - 1)
  at_low p some low = cond-false (p == 0) _ _ (not_eqb p 0 (λ h. omega arith)) ∙ cond-true (nat_lt p 113) _ _ (lt-ltb p 113 low)

  pub at_double : at_place n 113 ≡ Double n
  at_double = refl

  at_rest : (p : ℕ) → 114 ≤ p → at_place n p ≡ below_leaf n ((p - 114) / 129) ((p - 114) % 129)
  at_rest p high =
      cond-false (p == 0) _ _ (not_eqb p 0 (λ h. omega arith))
      ∙ cond-false (nat_lt p 113) _ _ (le-ltb p 113 (omega arith))
      ∙ cond-false (p == 113) _ _ (not_eqb p 113 (λ h. omega arith))

  below_first : (q r : ℕ) → r ≡ 0 → below_leaf n q r ≡ Leaf n q
  below_first q r none = cond-true (r == 0) _ _ (eq-eqb r 0 none)

  below_more : (q r : ℕ) → (r ≡ 0 → ⊥) → below_leaf n q r ≡ Data n (112 + 128 * q + (r - 1))
  below_more q r some = cond-false (r == 0) _ _ (not_eqb r 0 some)

  pub at_leaf : (q : ℕ) → at_place n (114 + 129 * q) ≡ Leaf n q
  at_leaf q =
      let a : (114 + 129 * q - 114) / 129 ≡ q = omega arith in
      let b : (114 + 129 * q - 114) % 129 ≡ 0 = omega arith in
      at_rest (114 + 129 * q) (omega arith) ∙ ap₂ (below_leaf n) a b ∙ below_first q 0 refl

  pub at_data : (q i : ℕ) → i < 128 → at_place n (115 + 129 * q + i) ≡ Data n (112 + 128 * q + i)
  at_data q i low =
      let a : (115 + 129 * q + i - 114) / 129 ≡ q = omega arith in
      let b : (115 + 129 * q + i - 114) % 129 ≡ 1 + i = omega arith in
      let c : 1 + i - 1 ≡ i = omega arith in
      at_rest (115 + 129 * q + i) (omega arith) ∙ ap₂ (below_leaf n) a b ∙ below_more q (1 + i) (λ h. omega arith)
      ∙ ap (λ (j : ℕ). Data n (112 + 128 * q + j)) c

  -- the block at the place of a block is that block
  at_own : (x : Entry) → file_of x ≡ Some n → at_place n (place x) ≡ x
  at_own (Data k i) is =
      let s : k ≡ n = cc in
      let e : Data n i ≡ Data k i = ap (λ (k : ℕ). Data k i) (sym s) in
      elim (cases_lt i 112) [
        | inl low ↦
            let one : 1 + i - 1 ≡ i = omega arith in
            ap (at_place n) (place_low k i low) ∙ at_low (1 + i) (omega arith) (omega arith) ∙ ap (Data n) one ∙ e
        | inr high ↦
            let whole : 112 + 128 * ((i - 112) / 128) + (i - 112) % 128 ≡ i = omega arith in
            ap (at_place n) (place_high k i high) ∙ at_data ((i - 112) / 128) ((i - 112) % 128) (omega arith) ∙ ap (Data n) whole ∙ e
      ]
  at_own (Leaf k q) is = let s : k ≡ n = cc in at_leaf q ∙ ap (λ (k : ℕ). Leaf k q) (sym s)
  at_own (Double k) is = let s : k ≡ n = cc in at_double ∙ ap Double (sym s)
  at_own (Inode k) is = let s : k ≡ n = cc in at_first ∙ ap Inode (sym s)
  at_own (Map j) is = cc
  at_own (Usage j) is = cc

  -- what holds of each place
  by_place : (P : ℕ → Type 0) → P 0 → ((i : ℕ) → i < 112 → P (1 + i)) → P 113 → ((q : ℕ) → P (114 + 129 * q))
      → ((q i : ℕ) → i < 128 → P (115 + 129 * q + i)) → (p : ℕ) → P p
  by_place P first low double leaf below p = elim (cases_lt p 113) [
    | inl small ↦ elim (cases_eq p 0) [
      | inl none ↦ rw none first
      | inr some ↦ let e : 1 + (p - 1) ≡ p = omega arith in rw e at (low (p - 1) (omega arith))
    ]
    | inr big ↦ elim (cases_eq p 113) [
      | inl is ↦ rw is double
      | inr not ↦ elim (cases_eq ((p - 114) % 129) 0) [
        | inl none ↦ let e : 114 + 129 * ((p - 114) / 129) ≡ p = omega arith in
            rw e at (leaf ((p - 114) / 129))
        | inr some ↦
            let e : 115 + 129 * ((p - 114) / 129) + ((p - 114) % 129 - 1) ≡ p = omega arith in
            rw e at (below ((p - 114) / 129) ((p - 114) % 129 - 1) (omega arith))
      ]
    ]
  ]

  own_at : (p : ℕ) → (place (at_place n p) ≡ p) × (file_of (at_place n p) ≡ Some n)
  own_at = by_place (λ p. (place (at_place n p) ≡ p) × (file_of (at_place n p) ≡ Some n))
      (ap place at_first, ap file_of at_first)
      (λ i low.
      let one : 1 + i - 1 ≡ i = omega arith in
      let e : at_place n (1 + i) ≡ Data n i = at_low (1 + i) (omega arith) (omega arith) ∙ ap (Data n) one in
      (ap place e ∙ place_low n i low, ap file_of e))
      (ap place at_double, ap file_of at_double)
      (λ q. (ap place (at_leaf q), ap file_of (at_leaf q)))
      (λ q i low.
      let e : 115 + 129 * ((112 + 128 * q + i - 112) / 128) + (112 + 128 * q + i - 112) % 128 ≡ 115 + 129 * q + i = omega arith in
      (ap place (at_data q i low) ∙ place_high n (112 + 128 * q + i) (omega arith) ∙ e, ap file_of (at_data q i low)))

-- ---- one entry more
-- what one_more_counted says of an entry that is counted too
abbrev pub IsOneMore : Memory → Entry → (Entry → Bool) → (Entry → Bool) → Type 0
IsOneMore M x is more = (2 ≤ M.at x → count_of more M (segment_of (M.at x)) ≡ suc (count_of is M (segment_of (M.at x))))
    × ((s : ℕ) → (2 ≤ M.at x → s ≡ segment_of (M.at x) → ⊥) → count_of more M s ≡ count_of is M s)

module _ (M : Memory) (x : Entry) {old : List ℕ} (is more : Entry → Bool) (counted : (s : ℕ) → get_or old s 0 ≡ count_of is M s)
    (up : IsOneMore M x is more) where
  pub one_added : {new : List ℕ} → CountsOne old new (M.at x) → (s : ℕ) → get_or new s 0 ≡ count_of more M s
  one_added {new} one s = elim (either (2 ≤ M.at x) (s ≡ segment_of (M.at x)) (elim (cases_lt (M.at x) 2) [
    | inl low ↦ inr (λ above. omega arith)
    | inr above ↦ inl above
  ]) (cases_eq s (segment_of (M.at x)))) [
    | inl here ↦
        ap (λ (s : ℕ). get_or new s 0) here.1 ∙ one.own here.0 ∙ ap suc (counted (segment_of (M.at x))) ∙ sym (up.0 here.0)
        ∙ ap (count_of more M) (sym here.1)
    | inr away ↦ one.others s away ∙ counted s ∙ sym (up.1 s away)
  ]
    where
      either : (A B : Type 0) → A ⊎ (A → ⊥) → B ⊎ (B → ⊥) → (A × B) ⊎ (A → B → ⊥)
      either A B one two = elim one [
        | inl a ↦ elim two [ inl b ↦ inl (a, b) | inr nb ↦ inr (λ a b. nb b) ]
        | inr na ↦ inr (λ a b. na a)
      ]

  pub one_fits : {e : Content} {m : LogMap} {o : ℕ} → IsLaid e m M o → IsOver old (M.at x) → ⊥
  one_fits laid over =
      let above = over.above in
      elim over.over [
        | inl past ↦ omega arith
        | inr full ↦
            omega (arith, up.0 above, count_most more M (segment_of (M.at x)))
      ]

-- ---- one place more
module _ (n first p : ℕ) where
  before_own : is_before n first p (at_place n p) ≡ false
  before_own = false_from_ne_true _ (λ h.
      let b = (and_parts (is_past n first (at_place n p)) (nat_lt (place (at_place n p)) p) h).1 in
      let bad : false ≡ true = sym (le-ltb (place (at_place n p)) p (omega (arith, (own_at n p).0))) ∙ b in
      cc)

  before_now : is_past n first (at_place n p) ≡ true → is_before n first (p + 1) (at_place n p) ≡ true
  before_now on = and_from _ _ on (lt-ltb (place (at_place n p)) (p + 1) (omega (arith, (own_at n p).0)))

  before_same : (y : Entry) → (y ≡ at_place n p → ⊥) → is_before n first (p + 1) y ≡ is_before n first p y
  before_same y ne = elim (cases_Bool (is_past n first y)) [
    | inl on ↦ ap (λ (b : Bool). is_past n first y && b) (elim (cases_lt (place y) p) [
      | inl low ↦ lt-ltb (place y) (p + 1) (omega arith) ∙ sym (lt-ltb (place y) p low)
      | inr high ↦
          let off : place y ≡ p → ⊥ = λ h. ne (sym (ap (at_place n) (sym h) ∙ at_own n y ((past_cut n first).of_file y on))) in
          le-ltb (place y) (p + 1) (omega arith) ∙ sym (le-ltb (place y) p high)
    ])
    | inr off ↦ ap (λ (b : Bool). b && nat_lt (place y) (p + 1)) off
        ∙ sym (ap (λ (b : Bool). b && nat_lt (place y) p) off)
  ]

module _ {e : Content} {dirty : Dirty} {M : Memory} (held : IsHeldBy e dirty M) (n first p : ℕ) (old : List ℕ)
    (counted : IsCountedTo M n first p old) where
  laid : IsLaid e held.map M held.opened_at
  laid = held.laid

  module _ (on : is_past n first (at_place n p) ≡ true) (address : ℕ) (at : address ≡ M.at (at_place n p)) where
    more : IsOneMore M (at_place n p) (is_before n first p) (is_before n first (p + 1))
    more = one_more_counted e held.map M held.opened_at (at_place n p) laid (is_before n first p) (is_before n first (p + 1))
        (before_own n first p) (before_now n first p on) (before_same n first p)

    pub counts_next : {new : List ℕ} → CountsOne old new address → IsCountedTo M n first (p + 1) new
    counts_next one =
        one_added M (at_place n p) (is_before n first p) (is_before n first (p + 1)) counted more (rw at at one)

    pub not_over : IsOver old address → ⊥
    not_over over = one_fits M (at_place n p) (is_before n first p) (is_before n first (p + 1)) counted more
        laid (rw at at over)

  -- places whose blocks are none of those, or have no address
  pub counts_skip : (q : ℕ) → p ≤ q → ((y : Entry) → is_past n first y ≡ true → p ≤ place y → place y < q → M.at y < 2)
      → IsCountedTo M n first q old
  counts_skip q le none s = counted s ∙ counts_agree e held.map M laid agree s
    where
      agree : (y : Entry) → 2 ≤ M.at y → is_before n first p y ≡ is_before n first q y
      agree y above = elim (cases_Bool (is_past n first y)) [
        | inl on ↦ ap (λ (b : Bool). is_past n first y && b) (elim (cases_lt (place y) p) [
          | inl low ↦ lt-ltb (place y) p low ∙ sym (lt-ltb (place y) q (omega arith))
          | inr high ↦ let far : q ≤ place y = elim (cases_lt (place y) q) [
            | inl lt ↦ omega arith
            | inr h ↦ h
          ] in
              le-ltb (place y) p high ∙ sym (le-ltb (place y) q far)
        ])
        | inr off ↦ ap (λ (b : Bool). b && nat_lt (place y) p) off
            ∙ sym (ap (λ (b : Bool). b && nat_lt (place y) q) off)
      ]

  -- a block at the next place, which is counted or not
  pub counts_where : (b : Bool) → is_past n first (at_place n p) ≡ b → {address : ℕ} → address ≡ M.at (at_place n p) → {new : List ℕ}
      → CountsWhere old new address b → IsCountedTo M n first (p + 1) new
  counts_where true on {address} at one = counts_next on address at (one.yes_counted refl)
  counts_where false off at one =
      rw (one.not_counted refl) (counts_skip (p + 1) (omega arith) (λ y on from to.
      let here : place y ≡ p = omega arith in
      let is : at_place n p ≡ y = ap (at_place n) (sym here) ∙ at_own n y ((past_cut n first).of_file y on) in
      cc))

-- ---- words of a block
pub word_is : (b : List ℕ) (at : ℕ) {r : ℕ} → r ≡ read32 (4 * at) b → r ≡ word b at
unfolding word
word_is b at read = read

pub words_none : (bytes : List ℕ) (start : ℕ) (old : List ℕ) → CountsWords bytes start 0 old old
words_none bytes start old e dirty M n first p held pointers counted = let same : p ≡ p + 0 = omega arith in
    rw same at counted

fewer : (M : Memory) (n first p : ℕ) (bytes : List ℕ) (start i j : ℕ) → i ≤ j → ArePointers M n first p bytes start j
    → ArePointers M n first p bytes start i
fewer M n first p bytes start i j le pointers l lt = pointers l (omega arith)

pub words_more : (bytes : List ℕ) (start i : ℕ) {address : ℕ} (old : List ℕ) {mid new : List ℕ} → address ≡ read32 (4 * (start + i)) bytes
    → CountsWords bytes start i old mid → CountsOne mid new address → CountsWords bytes start (i + 1) old new
words_more bytes start i {address} old {mid} is before one e dirty M n first p held pointers counted =
    let same : p + i + 1 ≡ p + (i + 1) = omega arith in
    let here = pointers i (omega arith) in
    rw same at
    (counts_next held n first (p + i) mid (before e dirty M n first p held
    (fewer M n first p bytes start i (i + 1) (omega arith) pointers) counted) here.1 address (word_is bytes (start + i) is ∙ here.0) one)

pub words_over : (bytes : List ℕ) (start i count : ℕ) {address : ℕ} (old : List ℕ) {mid : List ℕ} → i < count
    → address ≡ read32 (4 * (start + i)) bytes
    → CountsWords bytes start i old mid → IsOver mid address → AreNoWords bytes start count old
words_over bytes start i count {address} old {mid} lt is before over e dirty M n first p held pointers counted =
    let here = pointers i lt in
    not_over held n first (p + i) mid (before e dirty M n first p held
    (fewer M n first p bytes start i count (omega arith) pointers) counted) here.1 address (word_is bytes (start + i) is ∙ here.0) over

pub words_end : (bytes : List ℕ) (start i count : ℕ) (old mid : List ℕ) → i ≡ count → CountsWords bytes start i old mid
    → CountsWords bytes start count old mid
words_end bytes start i count old mid is before = rw is at before

-- ---- which blocks are counted
pub past_data : (n first i : ℕ) → first ≤ i → is_past n first (Data n i) ≡ true
past_data n first i le = and_from (n == n) (nat_le first i) (eq-eqb n n refl) (le-leb first i le)

same_file : (n : ℕ) {b : Bool} → (n == n && b) ≡ b
same_file n = rw (eq-eqb n n refl)

pub past_leaf_is : (n first q : ℕ) → is_past n first (Leaf n q) ≡ nat_le first (112 + 128 * q)
past_leaf_is n first q = same_file n

pub past_double_is : (n first : ℕ) → is_past n first (Double n) ≡ nat_le first 240
past_double_is n first = same_file n

-- none in the part of a leaf that comes before block `first`, the leaf itself included
pub before_leaf_part : (n first q start : ℕ) → 0 < start → 112 + 128 * q + start ≤ first → (y : Entry) → is_past n first y ≡ true
    → 114 + 129 * q ≤ place y → place y < 115 + 129 * q + start → start ≤ 128 → ⊥
before_leaf_part n first q start some le (Data k i) on from to few =
    let on_at = leb-true first i (and_parts (k == n) (nat_le first i) on).1 in
    elim (cases_lt i 112) [
      | inl low ↦ omega arith
      | inr high ↦ omega (arith, place_high k i high)
    ]
before_leaf_part n first q start some le (Leaf k r) on from to few =
    let on_at = leb-true first (112 + 128 * r) (and_parts (k == n) (nat_le first (112 + 128 * r)) on).1 in
    let same : r ≡ q = omega arith in
    omega arith
before_leaf_part n first q start some le (Double k) on from to few = omega arith
before_leaf_part n first q start some le (Inode k) on from to few = cc
before_leaf_part n first q start some le (Map j) on from to few = cc
before_leaf_part n first q start some le (Usage j) on from to few = cc

-- nor in the part of an inode before it
pub before_direct : (n first start : ℕ) → start ≤ 112 → start ≤ first → (y : Entry) → is_past n first y ≡ true → place y < 1 + start → ⊥
before_direct n first start few le (Data k i) on to =
    let on_at = leb-true first i (and_parts (k == n) (nat_le first i) on).1 in
    elim (cases_lt i 112) [
      | inl low ↦ omega (arith, place_low k i low)
      | inr high ↦ omega (arith, place_high k i high)
    ]
before_direct n first start few le (Leaf k r) on to = omega arith
before_direct n first start few le (Double k) on to = omega arith
before_direct n first start few le (Inode k) on to = cc
before_direct n first start few le (Map j) on to = cc
before_direct n first start few le (Usage j) on to = cc

-- ---- blocks of pointers
module _ {e : Content} {dirty : Dirty} {M : Memory} (held : IsHeldBy e dirty M) where
  pub never_missing : (x : Entry) {a : ℕ} → IsOfFile x → M.at x ≡ a → (a ≡ 0 → ⊥) → IsMissing e dirty x a → ⊥
  never_missing x {a} file at some missing = elim (cases_eq a 1) [
    | inl one ↦
        let f = held.cached.found x file (at ∙ one) in
        let none : Some f.0 ≡ None = sym f.1 ∙ missing.inside one in
        cc
    | inr ne ↦
        let above : 2 ≤ M.at x = omega arith in
        let gone : block e (M.at x) ≡ [] = ap (block e) at ∙ block_at e a (omega arith) ∙ ap bytes_of (missing.outside ne) in
        let none : length (M.bytes x) ≡ 0 = ap length (sym (held.laid.there x above) ∙ gone) in
        omega arith
  ]

  pub is_held : (x : Entry) {a : ℕ} → IsOfFile x → M.at x ≡ a → (a ≡ 0 → ⊥) → present e dirty x a ≡ M.bytes x
  is_held x file at some = ap (present e dirty x) (sym at) ∙ present_is M held.laid held.cached x file (omega arith)

  -- nothing is below what isn't there
  pub nothing_below : (x : Entry) → M.at (parent x) ≡ 0 → M.at x ≡ 0
  nothing_below x none = elim (cases_lt (M.at x) 1) [
    | inl low ↦ omega arith
    | inr some ↦ omega arith
  ]

  pub below_of_leaf : {n : ℕ} (q : ℕ) → M.at (Leaf n q) ≡ 0 → (y : Entry) → file_of y ≡ Some n → 114 + 129 * q ≤ place y
      → place y < 114 + 129 * q + 129 → M.at y < 2
  below_of_leaf {n} q none (Data k i) is from to =
      let s : k ≡ n = cc in
      elim (cases_lt i 112) [
        | inl low ↦ absurd (omega (arith, place_low k i low))
        | inr high ↦
            let at = place_high k i high in
            let same : (i - 112) / 128 ≡ q = omega arith in
            omega (arith, nothing_below (Data k i) (ap M.at (data_parent_high k i high ∙ ap₂ Leaf s same) ∙ none))
      ]
  below_of_leaf {n} q none (Leaf k r) is from to =
      let s : k ≡ n = cc in
      let same : r ≡ q = omega arith in
      let zero_at : M.at (Leaf k r) ≡ 0 = cc in
      omega arith
  below_of_leaf q none (Double k) is from to = omega arith
  below_of_leaf q none (Inode k) is from to = omega arith
  below_of_leaf q none (Map j) is from to = cc
  below_of_leaf q none (Usage j) is from to = cc

  leaf_zero : (n q : ℕ) → M.at (Double n) ≡ 0 → 1 ≤ q → M.at (Leaf n q) ≡ 0
  leaf_zero n zero none some = omega arith
  leaf_zero n (suc q) none some = nothing_below (Leaf n (suc q)) none

  pub below_of_double : {n : ℕ} → M.at (Double n) ≡ 0 → (y : Entry) → file_of y ≡ Some n → 243 ≤ place y → M.at y < 2
  below_of_double {n} none (Data k i) is from =
      let s : k ≡ n = cc in
      elim (cases_lt i 112) [
        | inl low ↦ absurd (omega (arith, place_low k i low))
        | inr high ↦
            let at = place_high k i high in
            omega (
              arith,
              nothing_below (Data k i) (ap M.at (data_parent_high k i high)
                  ∙ leaf_zero k ((i - 112) / 128) (rw s none) (omega arith)),
            )
      ]
  below_of_double {n} none (Leaf k r) is from =
      let s : k ≡ n = cc in
      let zero_at = leaf_zero k r (rw s none) (omega arith) in
      omega arith
  below_of_double none (Double k) is from = omega arith
  below_of_double none (Inode k) is from = omega arith
  below_of_double none (Map j) is from = cc
  below_of_double none (Usage j) is from = cc

  pub no_far_leaf : (n q : ℕ) → 129 ≤ q → M.at (Leaf n q) ≡ 0
  no_far_leaf n q far = elim (cases_lt (M.at (Leaf n q)) 1) [
    | inl low ↦ omega arith
    | inr some ↦ absurd (omega (arith, held.laid.low n q some))
  ]

  -- the last place
  pub past_last : {n : ℕ} (y : Entry) → file_of y ≡ Some n → 16755 ≤ place y → M.at y < 2
  past_last (Data k i) is from = elim (cases_lt i 112) [
    | inl low ↦ absurd (omega (arith, place_low k i low))
    | inr high ↦
        let at = place_high k i high in
        let zero_at =
        nothing_below (Data k i) (ap M.at (data_parent_high k i high) ∙ no_far_leaf k ((i - 112) / 128) (omega arith)) in
        omega arith
  ]
  past_last (Leaf k r) is from = let zero_at = no_far_leaf k r (omega arith) in omega arith
  past_last (Double k) is from = omega arith
  past_last (Inode k) is from = omega arith
  past_last (Map j) is from = cc
  past_last (Usage j) is from = cc

  -- where a file isn't there
  leaf_gone : (n q : ℕ) → M.at (Inode n) ≡ 0 → M.at (Leaf n q) ≡ 0
  leaf_gone n zero none = nothing_below (Leaf n 0) none
  leaf_gone n (suc q) none = nothing_below (Leaf n (suc q)) (nothing_below (Double n) none)

  pub none_of_file : (n : ℕ) → M.at (Inode n) ≡ 0 → (y : Entry) → file_of y ≡ Some n → M.at y ≡ 0
  none_of_file n none (Data k i) is =
      let s : k ≡ n = cc in
      let gone : M.at (Inode k) ≡ 0 = ap (λ (k : ℕ). M.at (Inode k)) s ∙ none in
      elim (cases_lt i 112) [
        | inl low ↦ nothing_below (Data k i) (ap M.at (data_parent_low k i low) ∙ gone)
        | inr high ↦ nothing_below (Data k i) (ap M.at (data_parent_high k i high) ∙ leaf_gone k ((i - 112) / 128) gone)
      ]
  none_of_file n none (Leaf k q) is = let s : k ≡ n = cc in leaf_gone k q (rw s none)
  none_of_file n none (Double k) is = let s : k ≡ n = cc in nothing_below (Double k) (rw s none)
  none_of_file n none (Inode k) is = let s : k ≡ n = cc in ap (λ (k : ℕ). M.at (Inode k)) s ∙ none
  none_of_file n none (Map j) is = cc
  none_of_file n none (Usage j) is = cc

  -- the words of a block of pointers, from that to block `first` on
  pub leaf_words : (n q : ℕ) {first start : ℕ} {bytes : List ℕ} → (M.at (Leaf n q) ≡ 0 → ⊥) → bytes ≡ M.bytes (Leaf n q)
      → IsBefore first (112 + 128 * q) 128 start → ArePointers M n first (115 + 129 * q + start) bytes start (128 - start)
  leaf_words n q {first} {start} some is before i low =
      let here : at_place n (115 + 129 * q + start + i) ≡ Data n (112 + 128 * q + (start + i)) =
      let same : 115 + 129 * q + start + i ≡ 115 + 129 * q + (start + i) = omega arith in
      ap (at_place n) same ∙ at_data n q (start + i) (omega arith) in (
        rw is (held.laid.spells (Leaf n q) (omega arith) (start + i) (omega arith)
            ∙ sym (ap M.at here)),
        ap (is_past n first) here
            ∙ past_data n first (112 + 128 * q + (start + i)) (omega arith),
      )

  pub inode_words : (n : ℕ) {first start : ℕ} {bytes : List ℕ} → 0 < M.at (Inode n) → bytes ≡ M.bytes (Inode n) → IsBefore first 0 112 start
      → ArePointers M n first (1 + start) bytes (8 + start) (112 - start)
  inode_words n {first} {start} some is before i low =
      let one : 1 + start + i - 1 ≡ start + i = omega arith in
      let word_is : 8 + start + i ≡ 8 + (start + i) = omega arith in
      let here : at_place n (1 + start + i) ≡ Data n (start + i) = at_low n (1 + start + i) (omega arith) (omega arith)
      ∙ ap (Data n) one in (
        ap₂ word is word_is ∙ (held.laid.spells (Inode n) some).direct (start + i) (omega arith) ∙ sym (ap M.at here),
        ap (is_past n first) here
            ∙ past_data n first (start + i) (omega arith),
      )
