-- Counting the blocks of a whole file, leaf by leaf.
use Rattle.std.proofs.Common.{◌≡◌, ◌<◌, ◌≤◌, ◌⊎◌, ◌+◌, ◌*◌, ◌-◌, ◌==◌, ◌&&◌, nat_le, nat_lt, ℕ, zero, suc, Bool, true, false, List}
use Rattle.std.proofs.Common.{[], get_or, Some, refl, sym, ◌∙◌, ap, arith, eqb-true, eq-eqb}
use Rattle.std.proofs.Common.{inl, inr}
use Rattle.std.specs.Prelude.{Result, Ok, Err, OnErr, replicate}
use Rattle.std.proofs.lemmas.Bool.{cases_eq, cases_lt, cases_Bool, lt-ltb, le-ltb, leb-true, le-leb, and_parts, false_from_ne_true}
use Rattle.lfs_model.specs.Checkpoint.{CheckpointValue}
use Rattle.lfs_model.specs.Content.{Content}
use Rattle.lfs_model.specs.Cutting.{is_past}
use Rattle.lfs_model.specs.Detaching.{is_of}
use Rattle.lfs_model.specs.Device.{DeviceState}
use Rattle.lfs_model.specs.Entry.{Entry, Data, Leaf, Double, Inode, Map, Usage, word}
use Rattle.lfs_model.specs.Laid.{IsLaid}
use Rattle.lfs_model.specs.Memory.{Memory, file_of, memory_view, count_of}
use Rattle.lfs_model.specs.Running.{Dirty}
use Rattle.lfs_model.specs.Stands.{LogMap}
use Rattle.lfs_model.proofs.Counting.{same_counts, one_more_counted}
use Rattle.lfs_model.proofs.CountFacts.{counts_agree}
use Rattle.lfs_model.proofs.CutSets.{past_cut}
use Rattle.lfs_model.proofs.Detaching.{is_of_yes}
use Rattle.lfs_model.proofs.Segments.{no_row_live}
use Rattle.lfs_inodes.specs.Blocks.{blocks_of}
use Rattle.lfs_inodes.specs.MapValue.{address_in}
use Rattle.lfs_inodes.specs.Present.{present}
use Rattle.lfs_memory.specs.declared.memory.LogMemory.{LogMemory}
use Rattle.lfs_memory.specs.Memory.{IsLoose, segment_in}
use Rattle.lfs_memory.specs.Present.{Looks, IsMissing, FailsFromDevice}
use Rattle.lfs_memory.specs.Counting.{place, at_place, IsBefore, is_before, IsCountedTo, CountsOne, CountsWhere, IsOver, IsHeldBy}
use Rattle.lfs_memory.specs.Counting.{CountsWords, AreNoWords, CountsLeaf, FailsLeaf, AreLeaves, CountsLeaves, FailsLeaves, CountsDouble}
use Rattle.lfs_memory.specs.Counting.{FailsDouble, IsInodeOf, CountsInode, FailsInode, IsNothing, CountsPast, CountsFile}
use Rattle.lfs_model.specs.Fields.{read32}
use Rattle.lfs_memory.proofs.Counted.{word_is, at_double}
use Rattle.lfs_memory.proofs.Counted.{at_leaf, IsOneMore, one_added, one_fits, not_over, counts_where, counts_skip, past_leaf_is}
use Rattle.lfs_memory.proofs.Counted.{past_double_is, before_leaf_part, before_direct, never_missing, is_held, below_of_leaf}
use Rattle.lfs_memory.proofs.Counted.{below_of_double, past_last, none_of_file, leaf_words, inode_words}
use Rattle.lfs_memory.proofs.Presents.{inode_at, nobody_at}

not_le : (a b : ℕ) → b < a → nat_le a b ≡ false
not_le a b lt = false_from_ne_true (nat_le a b) (λ h. omega (arith, leb-true a b h))

and_yes : (a : Bool) {b : Bool} → b ≡ true → (a && b) ≡ a
and_yes true on = on
and_yes false on = refl

held_then : {a b : DeviceState} {dirty : Dirty} {M : Memory} → Looks a b → IsHeldBy a.content dirty M → IsHeldBy b.content dirty M
held_then looks held = rw looks.untouched.content held

count_at : (M : Memory) (n first : ℕ) (counts : List ℕ) (p q : ℕ) → p ≡ q → IsCountedTo M n first p counts → IsCountedTo M n first q counts
count_at M n first counts p q same counted = rw same at counted

-- ---- a leaf
pub leaf_skipped : (a b : DeviceState) (v : LogMemory) (n q : ℕ) {address : ℕ} (first : ℕ) (old : List ℕ) → address ≡ 0
    → CountsLeaf a b v n q address first old old
leaf_skipped a b v n q first old none M keeps held at counted =
    counts_skip held n first (114 + 129 * q) old counted (114 + 129 * q + 129) (omega arith)
    (λ y on from to. below_of_leaf held q (at ∙ none) y ((past_cut n first).of_file y on) from to)

pub leaf_before : (a b : DeviceState) (v : LogMemory) (n q address : ℕ) {first start : ℕ} (old : List ℕ)
    → IsBefore first (112 + 128 * q) 128 start → start ≡ 128 → CountsLeaf a b v n q address first old old
leaf_before a b v n q address {first} old before whole M keeps held at counted =
    counts_skip held n first (114 + 129 * q) old counted (114 + 129 * q + 129) (omega arith)
    (λ y on from to.
    absurd (before_leaf_part n first q 128 (omega arith) (omega arith) y on from (omega arith) (omega arith)))

module _ (a : DeviceState) (v : LogMemory) (n q address : ℕ) {first start : ℕ} (before : IsBefore first (112 + 128 * q) 128 start)
    (low : start ≡ 128 → ⊥) (old : List ℕ) where
  -- the leaf itself is counted where nothing of it lies before
  leaf_goes : is_past n first (Leaf n q) ≡ (start == 0)
  leaf_goes = past_leaf_is n first q ∙ elim (cases_eq start 0) [
    | inl none ↦ le-leb first (112 + 128 * q) (omega arith) ∙ sym (eq-eqb start 0 none)
    | inr some ↦
        not_le first (112 + 128 * q) (omega arith)
        ∙ sym (false_from_ne_true (start == 0) (λ h. some (eqb-true start 0 h)))
  ]

  pub leaf_over : (b : DeviceState) → (start == 0) ≡ true → IsOver old address → FailsLeaf a b v n q address first old
  leaf_over b wanted over M keeps held at counted =
      absurd (not_over held n first (114 + 129 * q) old counted
      (ap (is_past n first) (at_leaf n q) ∙ leaf_goes ∙ wanted) address (sym (ap M.at (at_leaf n q) ∙ at)) over)

  module _ (b : DeviceState) (x : Entry) (named : x ≡ Leaf n q) (some : address ≡ 0 → ⊥) {mid : List ℕ}
      (one : CountsWhere old mid address (start == 0)) where
    leaf_itself : (M : Memory) → IsHeldBy a.content (blocks_of v.dirty) M → M.at (Leaf n q) ≡ address
        → IsCountedTo M n first (114 + 129 * q) old → IsCountedTo M n first (115 + 129 * q + start) mid
    leaf_itself M held at counted =
        let few = before.few in
        counts_skip held n first (114 + 129 * q + 1) mid
        (counts_where held n first (114 + 129 * q) old counted (start == 0)
        (ap (is_past n first) (at_leaf n q) ∙ leaf_goes) (sym (ap M.at (at_leaf n q) ∙ at)) one) (115 + 129 * q + start) (omega arith)
        (λ y on from to. elim (cases_eq start 0) [
          | inl none ↦ omega arith
          | inr more ↦ absurd
              (before_leaf_part n first q start (omega arith) (before.below (omega arith)) y on (omega arith) to few)
        ])

    leaf_bytes : (M : Memory) {bytes : List ℕ} → IsHeldBy a.content (blocks_of v.dirty) M → M.at (Leaf n q) ≡ address
        → bytes ≡ present a.content (blocks_of v.dirty) x address → bytes ≡ M.bytes (Leaf n q)
    leaf_bytes M held at read =
        read ∙ ap (λ (y : Entry). present a.content (blocks_of v.dirty) y address) named ∙ is_held held (Leaf n q) (n, refl) at some

    pub leaf_counted : {bytes : List ℕ} (new : List ℕ) → (b.keeps_model → bytes ≡ present a.content (blocks_of v.dirty) x address)
        → CountsWords bytes start (128 - start) mid new → CountsLeaf a b v n q address first old new
    leaf_counted new read words M keeps held at counted =
        count_at M n first new (115 + 129 * q + start + (128 - start)) (114 + 129 * q + 129) (omega arith)
        (words a.content _ M n first (115 + 129 * q + start) held (leaf_words held n q (λ z. some (sym at ∙ z))
        (leaf_bytes M held at (read keeps)) before) (leaf_itself M held at counted))

    pub leaf_no_words : {bytes : List ℕ} → (b.keeps_model → bytes ≡ present a.content (blocks_of v.dirty) x address)
        → AreNoWords bytes start (128 - start) mid → FailsLeaf a b v n q address first old
    leaf_no_words read words M keeps held at counted =
        absurd (words a.content _ M n first (115 + 129 * q + start) held (leaf_words held n q (λ z. some (sym at ∙ z))
        (leaf_bytes M held at (read keeps)) before) (leaf_itself M held at counted))

pub leaf_unread : (a b : DeviceState) (v : LogMemory) {n q address : ℕ} (first : ℕ) (x : Entry) (old : List ℕ) → x ≡ Leaf n q
    → (address ≡ 0 → ⊥)
    → (b.keeps_model → (a.failures < b.failures) ⊎ IsMissing a.content (blocks_of v.dirty) x address)
    → FailsLeaf a b v n q address first old
leaf_unread a b v {n} first x old named some unread M keeps held at counted = elim (unread keeps) [
  | inl failed ↦ failed
  | inr missing ↦ absurd (never_missing held x
      (rw named (n, refl)) (ap M.at named ∙ at) some missing)
]

-- ---- the leaves below the double root
pub leaves_none : (a b : DeviceState) (v : LogMemory) (n : ℕ) (root : List ℕ) (first : ℕ) (old : List ℕ)
    → CountsLeaves a b v n root 0 first old old
leaves_none a b v n root first old M keeps held leaves counted = count_at M n first old 243 (243 + 129 * 0) (omega arith) counted

module _ (a b c : DeviceState) (v : LogMemory) (n : ℕ) (root : List ℕ) (i : ℕ) {address : ℕ} (first : ℕ) (one : Looks a b) (two : Looks b c)
    (is : address ≡ read32 (4 * i) root) (old mid : List ℕ) (before : CountsLeaves a b v n root i first old mid) where
  before_leaf : (M : Memory) (count : ℕ) → i < count → c.keeps_model → IsHeldBy a.content (blocks_of v.dirty) M → AreLeaves M n root count
      → IsCountedTo M n first 243 old → IsCountedTo M n first (114 + 129 * (i + 1)) mid
  before_leaf M count lt keeps held leaves counted = count_at M n first mid (243 + 129 * i) (114 + 129 * (i + 1)) (omega arith)
      (before M (two.carries.kept_before keeps) held (λ q low. leaves q (omega arith)) counted)

  address_is : (M : Memory) (count : ℕ) → i < count → AreLeaves M n root count → M.at (Leaf n (i + 1)) ≡ address
  address_is M count lt leaves = let next : i + 1 ≡ suc i = omega arith in rw next (sym (word_is root i is ∙ leaves i lt))

  pub leaves_more : (new : List ℕ) → CountsLeaf b c v n (i + 1) address first mid new → CountsLeaves a c v n root (i + 1) first old new
  leaves_more new leaf M keeps held leaves counted = count_at M n first new (114 + 129 * (i + 1) + 129) (243 + 129 * (i + 1)) (omega arith)
      (leaf M keeps (held_then one held) (address_is M (i + 1) (omega arith) leaves)
      (before_leaf M (i + 1) (omega arith) keeps held leaves counted))

  pub leaves_fail : (count : ℕ) → i < count → FailsLeaf b c v n (i + 1) address first mid → FailsLeaves a c v n root count first old
  leaves_fail count lt leaf M keeps held leaves counted =
      omega (arith, leaf M keeps (held_then one held) (address_is M count lt leaves) (before_leaf M count lt keeps held leaves counted))

pub leaves_end : (a b : DeviceState) (v : LogMemory) (n : ℕ) (root : List ℕ) (i count first : ℕ) (old new : List ℕ) → i ≡ count
    → CountsLeaves a b v n root i first old new → CountsLeaves a b v n root count first old new
leaves_end a b v n root i count first old new same leaves = rw same at leaves

-- ---- the double root
pub double_skipped : (a b : DeviceState) (v : LogMemory) (n : ℕ) {address : ℕ} (first : ℕ) (old : List ℕ) → address ≡ 0
    → CountsDouble a b v n address first old old
double_skipped a b v n first old none M keeps held at counted =
    counts_skip held n first 243 old counted 16755 (omega arith)
    (λ y on from to. below_of_double held (at ∙ none) y ((past_cut n first).of_file y on) from)

module _ {a b c : DeviceState} (v : LogMemory) {n address : ℕ} (first : ℕ) (x : Entry) (one : Looks a b) (two : Looks b c)
    (named : x ≡ Double n)
    (some : address ≡ 0 → ⊥) {root : List ℕ} (old : List ℕ)
    (read : b.keeps_model → root ≡ present a.content (blocks_of v.dirty) x address) where
  root_leaves : (M : Memory) → c.keeps_model → IsHeldBy a.content (blocks_of v.dirty) M → M.at (Double n) ≡ address → AreLeaves M n root 128
  root_leaves M keeps held at q low =
      ap (λ (r : List ℕ). word r q)
      (read (two.carries.kept_before keeps) ∙ ap (λ (y : Entry). present a.content (blocks_of v.dirty) y address) named
      ∙ is_held held (Double n) (n, refl) at some) ∙ held.laid.spells (Double n) (omega arith) q low

  pub double_counted : (new : List ℕ) → CountsLeaves b c v n root 128 first old new → CountsDouble a c v n address first old new
  double_counted new leaves M keeps held at counted = count_at M n first new (243 + 129 * 128) 16755 (omega arith)
      (leaves M keeps (held_then one held) (root_leaves M keeps held at) counted)

  pub double_fails : FailsLeaves b c v n root 128 first old → FailsDouble a c v n address first old
  double_fails leaves M keeps held at counted =
      omega (arith, leaves M keeps (held_then one held) (root_leaves M keeps held at) counted)

pub double_unread : (a b : DeviceState) (v : LogMemory) {n address : ℕ} (first : ℕ) (x : Entry) (old : List ℕ) → x ≡ Double n
    → (address ≡ 0 → ⊥)
    → (b.keeps_model → (a.failures < b.failures) ⊎ IsMissing a.content (blocks_of v.dirty) x address)
    → FailsDouble a b v n address first old
double_unread a b v {n} first x old named some unread M keeps held at counted = elim (unread keeps) [
  | inl failed ↦ failed
  | inr missing ↦ absurd (never_missing held x
      (rw named (n, refl)) (ap M.at named ∙ at) some missing)
]

-- ---- an inode
module _ (a : DeviceState) (v : LogMemory) (n : ℕ) (bytes : List ℕ) {first start : ℕ} (before : IsBefore first 0 112 start)
    (old : List ℕ) where
  upto_direct : (M : Memory) → IsHeldBy a.content (blocks_of v.dirty) M → IsCountedTo M n first 0 old
      → IsCountedTo M n first (1 + start) old
  upto_direct M held counted =
      counts_skip held n first 0 old counted (1 + start) (omega arith)
      (λ y on from to. absurd (before_direct n first start before.few direct_below y on to))
    where
      direct_below : start ≤ first
      direct_below = elim (cases_eq start 0) [
        | inl none ↦ omega arith
        | inr some ↦ omega (arith, before.below (omega arith))
      ]

  pub inode_no_words : (b : DeviceState) → AreNoWords bytes (8 + start) (112 - start) old → FailsInode a b v n bytes first old
  inode_no_words b words M keeps held inode counted =
      absurd (words a.content _ M n first (1 + start) held (inode_words
      held n inode.there inode.bytes_are before) (upto_direct M held counted))

  module _ (second : List ℕ) (direct : CountsWords bytes (8 + start) (112 - start) old second) {double : ℕ}
      (double_is : double ≡ read32 484 bytes) where
    at_root : (M : Memory) → IsHeldBy a.content (blocks_of v.dirty) M → IsInodeOf M n bytes → M.at (Double n) ≡ double
    at_root M held inode =
        sym (word_is bytes 121 double_is ∙ ap (λ (b : List ℕ). word b 121) inode.bytes_are
        ∙ (held.laid.spells (Inode n) inode.there).double)

    upto_root : (M : Memory) → IsHeldBy a.content (blocks_of v.dirty) M → IsInodeOf M n bytes → IsCountedTo M n first 0 old
        → IsCountedTo M n first 113 second
    upto_root M held inode counted =
        count_at M n first second (1 + start + (112 - start)) 113 (omega arith)
        (direct a.content _ M n first (1 + start) held (inode_words
        held n inode.there inode.bytes_are before) (upto_direct M held counted))

    root_goes : is_past n first (at_place n 113) ≡ nat_le first 240
    root_goes = ap (is_past n first) (at_double n) ∙ past_double_is n first

    pub inode_over : (b : DeviceState) → nat_le first 240 ≡ true → IsOver second double → FailsInode a b v n bytes first old
    inode_over b wanted over M keeps held inode counted =
        absurd (not_over held n first 113 second (upto_root M held inode counted)
        (root_goes ∙ wanted) double (sym (ap M.at (at_double n) ∙ at_root M held inode)) over)

    module _ {third : List ℕ} (root : CountsWhere second third double (nat_le first 240)) {single : ℕ}
        (single_is : single ≡ read32 480 bytes) where
      at_single : (M : Memory) → IsHeldBy a.content (blocks_of v.dirty) M → IsInodeOf M n bytes → M.at (Leaf n 0) ≡ single
      at_single M held inode =
          sym (word_is bytes 120 single_is ∙ ap (λ (b : List ℕ). word b 120) inode.bytes_are
          ∙ (held.laid.spells (Inode n) inode.there).single)

      upto_single : (M : Memory) → IsHeldBy a.content (blocks_of v.dirty) M → IsInodeOf M n bytes → IsCountedTo M n first 0 old
          → IsCountedTo M n first (114 + 129 * 0) third
      upto_single M held inode counted = count_at M n first third (113 + 1) (114 + 129 * 0) (omega arith)
          (counts_where held n first 113 second (upto_root M held inode counted) (nat_le first 240) root_goes
          (sym (ap M.at (at_double n) ∙ at_root M held inode)) root)

      pub inode_leaf_fails : (b : DeviceState) → FailsLeaf a b v n 0 single first third → FailsInode a b v n bytes first old
      inode_leaf_fails b leaf M keeps held inode counted = leaf M keeps held (at_single M held inode) (upto_single M held inode counted)

      module _ (b c : DeviceState) (one : Looks a b) (two : Looks b c) (fourth : List ℕ)
          (leaf : CountsLeaf a b v n 0 single first third fourth) where
        upto_double : (M : Memory) → c.keeps_model → IsHeldBy a.content (blocks_of v.dirty) M → IsInodeOf M n bytes
            → IsCountedTo M n first 0 old → IsCountedTo M n first 243 fourth
        upto_double M keeps held inode counted = count_at M n first fourth (114 + 129 * 0 + 129) 243 (omega arith)
            (leaf M (two.carries.kept_before keeps) held (at_single M held inode) (upto_single M held inode counted))

        pub inode_counted : (new : List ℕ) → CountsDouble b c v n double first fourth new → CountsInode a c v n bytes first old new
        inode_counted new rest M keeps held inode counted =
            rest M keeps (held_then one held) (at_root M held inode) (upto_double M keeps held inode counted)

        pub inode_double_fails : FailsDouble b c v n double first fourth → FailsInode a c v n bytes first old
        inode_double_fails rest M keeps held inode counted =
            omega (arith, rest M keeps (held_then one held) (at_root M held inode) (upto_double M keeps held inode counted))

-- ---- a file from one block on
nowhere : Memory
nowhere = record { segments = 0; at = λ x. 0; bytes = λ x. []; rows = λ s. [] }

nothing_counted : (e : Content) {m : LogMap} (M : Memory) {o : ℕ} → IsLaid e m M o → (s : ℕ) → count_of (λ x. false) M s ≡ 0
unfolding nowhere
nothing_counted e M laid s =
    same_counts (λ x. false) (λ x. false) nowhere M (λ x above. absurd (omega arith)) laid.named (λ y. refl) s
    ∙ no_row_live (memory_view (λ x. false) nowhere) s refl

counted_from_none : {e : Content} {dirty : Dirty} {M : Memory} → IsHeldBy e dirty M → (n first : ℕ) (counts : List ℕ) → IsNothing counts
    → IsCountedTo M n first 0 counts
counted_from_none {e} {M = M} held n first counts none s =
    none s ∙ sym (nothing_counted e M held.laid s)
    ∙ counts_agree e held.map M held.laid {p = λ x. false} {q = is_before n first 0} (λ x above. sym (never x)) s
  where
    never : (x : Entry) → is_before n first 0 x ≡ false
    never x = false_from_ne_true _ (λ h.
        let b = (and_parts (is_past n first x) (nat_lt (place x) 0) h).1 in
        let bad : false ≡ true = sym (le-ltb (place x) 0 (omega arith)) ∙ b in
        absurd (cc))

-- with what has an address all before a place, they are counted
all_counted : {e : Content} {dirty : Dirty} {M : Memory} → IsHeldBy e dirty M → (n first p : ℕ) (counts : List ℕ)
    → IsCountedTo M n first p counts → ((y : Entry) → file_of y ≡ Some n → p ≤ place y → M.at y < 2)
    → (s : ℕ) → get_or counts s 0 ≡ count_of (is_past n first) M s
all_counted {e} {M = M} held n first p counts counted none s = counted s ∙ counts_agree e held.map M held.laid agree s
  where
    and_true : (b : Bool) → (b && true) ≡ b
    and_true true = refl
    and_true false = refl

    agree : (y : Entry) → 2 ≤ M.at y → is_before n first p y ≡ is_past n first y
    agree y above = elim (cases_Bool (is_past n first y)) [
      | inl on ↦ elim (cases_lt (place y) p) [
        | inl low ↦ rw (lt-ltb (place y) p low) (and_true (is_past n first y))
        | inr high ↦ absurd (omega (arith, none y ((past_cut n first).of_file y on) high))
      ]
      | inr off ↦ ap (λ (b : Bool). b && nat_lt (place y) p) off ∙ sym off
    ]

held_of_log : {d : DeviceState} {v : LogMemory} {k : CheckpointValue} {m0 m : LogMap} (is : IsLoose d v k m0 m)
    → IsHeldBy d.content (blocks_of v.dirty) is.running.memory
held_of_log {v} {m} is = record { map = m; opened_at = segment_in v.chunk; laid = is.running.laid; cached = is.running.cached }

module _ (a b : DeviceState) (v : LogMemory) (n first : ℕ) (counts : List ℕ) (zeros : IsNothing counts) where
  pub past_absent : (n ≡ 0) ⊎ (address_in v.map n ≡ 0) → CountsPast a b v n first counts
  past_absent none k m0 m keeps is s =
      let held = held_of_log is in
      let gone : is.running.memory.at (Inode n) ≡ 0 = elim none [
        | inl nobody ↦ ap (λ (n : ℕ). is.running.memory.at (Inode n)) nobody ∙ nobody_at a v k m0 m is
        | inr absent ↦ inode_at a v k m0 m is n ∙ absent
      ] in
      all_counted held n first 0 counts (counted_from_none held n first counts zeros)
      (λ y file from. omega (arith, none_of_file held n gone y file)) s

  module _ {c : DeviceState} (one : Looks a b) (two : Looks b c) (some : 1 ≤ address_in v.map n) {bytes : List ℕ}
      (read : b.keeps_model → bytes ≡ present a.content (blocks_of v.dirty) (Inode n) (address_in v.map n)) where
    inode_is : (k : CheckpointValue) (m0 m : LogMap) (is : IsLoose a v k m0 m) → c.keeps_model → IsInodeOf is.running.memory n bytes
    inode_is k m0 m is keeps =
        let held = held_of_log is in
        let place_is = inode_at a v k m0 m is n in
        record {
          there = omega arith;
          bytes_are = read (two.carries.kept_before keeps) ∙ is_held held (Inode n) (n, refl) place_is
              (λ z. omega arith);
        }

    pub past_counted : (new : List ℕ) → CountsInode b c v n bytes first counts new → CountsPast a c v n first new
    past_counted new rest k m0 m keeps is =
        let held = held_of_log is in
        all_counted held n first 16755 new
        (rest is.running.memory keeps (held_then one held) (inode_is k m0 m is keeps)
        (counted_from_none held n first counts zeros))
        (λ y file from. past_last held y file from)

    pub past_fails : FailsInode b c v n bytes first counts → FailsFromDevice a c v
    past_fails rest k m0 m keeps is =
        let held = held_of_log is in
        omega (
          arith,
          rest is.running.memory keeps (held_then one held) (inode_is k m0 m is keeps)
              (counted_from_none held n first counts zeros),
        )

-- ---- a whole file: all that is below its inode, and the inode
inode_not_past : (n : ℕ) → is_past n 0 (Inode n) ≡ false
inode_not_past n = refl

all_past : (n : ℕ) (y : Entry) → (y ≡ Inode n → ⊥) → is_of n y ≡ is_past n 0 y
all_past n (Data k i) ne = sym (and_yes (k == n) (le-leb 0 i (omega arith)))
all_past n (Leaf k q) ne = sym (and_yes (k == n) (le-leb 0 (112 + 128 * q) (omega arith)))
all_past n (Double k) ne = sym (and_yes (k == n) (le-leb 0 240 (omega arith)))
all_past n (Inode k) ne = false_from_ne_true (k == n) (λ h. ne (ap Inode (eqb-true k n h)))
all_past n (Map j) ne = refl
all_past n (Usage j) ne = refl

module _ (a b : DeviceState) (v : LogMemory) (n : ℕ) (old : List ℕ) (rest : CountsPast a b v n 0 old) {address : ℕ}
    (at : address ≡ address_in v.map n) where
  own_at_map : (k : CheckpointValue) (m0 m : LogMap) (is : IsLoose a v k m0 m) → address ≡ is.running.memory.at (Inode n)
  own_at_map k m0 m is = at ∙ sym (inode_at a v k m0 m is n)

  with_inode : {k : CheckpointValue} {m0 : LogMap} (m : LogMap) (is : IsLoose a v k m0 m)
      → IsOneMore is.running.memory (Inode n) (is_past n 0) (is_of n)
  with_inode m is =
      one_more_counted a.content m is.running.memory _ (Inode n) is.running.laid (is_past n 0) (is_of n)
      (inode_not_past n) (is_of_yes n (Inode n) refl) (all_past n)

  pub file_counted : {new : List ℕ} → CountsOne old new address → CountsFile a b v n new
  file_counted one k m0 m keeps is =
      one_added is.running.memory (Inode n) (is_past n 0) (is_of n) (rest k m0 m keeps is) (with_inode m is)
      (rw (own_at_map k m0 m is) at one)

  pub file_over : IsOver old address → FailsFromDevice a b v
  file_over over k m0 m keeps is =
      absurd (one_fits is.running.memory (Inode n) (is_past n 0) (is_of n) (rest k m0 m keeps is) (with_inode m is) is.running.laid
      (rw (own_at_map k m0 m is) at over))

pub on_err_then : {T E : Type 0} (r : Result T E) (P Q : Type 0) → (P → Q) → OnErr r P → OnErr r Q
on_err_then (Ok x) P Q gives p = p
on_err_then (Err e) P Q gives p = gives p

pub zeros_are_nothing : (n : ℕ) → IsNothing (replicate n 0)
zeros_are_nothing zero s = refl
zeros_are_nothing (suc n) zero = refl
zeros_are_nothing (suc n) (suc s) = zeros_are_nothing n s
