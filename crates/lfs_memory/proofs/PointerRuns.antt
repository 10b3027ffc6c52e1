-- The pointers of a run are those of the log map that memory and device hold.
use Rattle.std.proofs.Common.{◌≡◌, ◌<◌, ◌≤◌, ◌⊎◌, inl, inr, ◌+◌, ◌*◌, ◌-◌, ◌/◌, ◌%◌, ◌==◌, ℕ, Bool, true, false, not, List, length}
use Rattle.std.proofs.Common.{Option, Some, None, refl, sym, ◌∙◌, ap, ap₂, arith, eqb-true}
use Rattle.std.specs.Prelude.{IfSome, Result, Ok, Err, IfOk}
use mir.Val.{bool_byte}
use Rattle.std.proofs.lemmas.Bool.{cases_eq, cond-true, cond-false, false_from_ne_true, lt-ltb, le-ltb, ltb-true}
use Rattle.lfs_model.specs.Checkpoint.{CheckpointValue}
use Rattle.lfs_model.specs.Content.{Content}
use Rattle.lfs_model.specs.Device.{DeviceState, IsLawful}
use Rattle.lfs_model.specs.Entry.{Entry, Data, Leaf, Inode, word}
use Rattle.lfs_model.specs.Objects.{is_stored, one_if}
use Rattle.lfs_model.specs.Stands.{LogMap}
use Rattle.lfs_model.specs.Totals.{stored_in}
use Rattle.lfs_model.proofs.ObjectNeeds.{same_tests}
use Rattle.lfs_device.specs.declared.device.ReadFault.{ReadFault}
use Rattle.lfs_device.specs.declared.device.ReadFault.TheVariants as kind
use Rattle.lfs_inodes.specs.Blocks.{blocks_of}
use Rattle.lfs_inodes.specs.MapValue.{address_in}
use Rattle.lfs_inodes.specs.Pointed.{ArePointers}
use Rattle.lfs_inodes.specs.Present.{present, leaf_now, leaf_first, IsAway, IsLeafAway}
use Rattle.lfs_memory.specs.declared.memory.LogMemory.{LogMemory}
use Rattle.lfs_memory.specs.declared.pointers.PointerRun.{PointerRun}
use Rattle.lfs_memory.specs.Memory.{IsLoose}
use Rattle.lfs_memory.specs.Pointers.{IsInRun, IsRunOf, KeepsRun, IsKeptFor, HasNoWay, CountsRun, AnswersCount, pointer_in, blocks_in}
use Rattle.lfs_memory.specs.Present.{Looks, FailsFromDevice, AnswersAddress}
use Rattle.lfs_memory.proofs.Presents.{address_failed, data_at, data_none, data_past, inode_at, inode_bytes, looks_none, looks_then}
use Rattle.lfs_memory.proofs.Presents.{nobody_at, not_missing, still_log}
use Rattle.lfs_memory.proofs.Ranges.{passing, passing_more, passing_nothing, passing_same, passing_split}

-- ---- runs that are read

-- the pointers of an inode
module _ (a b : DeviceState) (v : LogMemory) {n address : ℕ} (x : Entry) (looks : Looks a b) (some : 1 ≤ n)
    (at : address ≡ address_in v.map n) (there : 0 < address) (named : x ≡ Inode n) where
  on_map : 0 < address_in v.map n
  on_map = omega arith

  shown_is : (shown : List ℕ) → shown ≡ present a.content (blocks_of v.dirty) x address
      → shown ≡ present a.content (blocks_of v.dirty) (Inode n) (address_in v.map n)
  shown_is shown e = e ∙ ap (λ (y : Entry). present a.content (blocks_of v.dirty) y address) named
      ∙ ap (present a.content (blocks_of v.dirty) (Inode n)) at

  pub inode_run : (numbers : List ℕ) → (b.keeps_model → ArePointers numbers (present a.content (blocks_of v.dirty) x address))
      → IsRunOf b v (record { number = n; first = 0; len = 112; place = 8; pointers = numbers })
  inode_run numbers read i inside =
      let direct : i < 112 = inside.high in
      let place : 8 + (i - 0) ≡ 8 + i = omega arith in
      record {
        some = some;
        there = on_map;
        low = omega arith;
        value = λ keeps. (
            rw looks.untouched.content
            (rw place (read keeps (8 + i) (omega arith)
            ∙ ap (λ (b : List ℕ). word b (8 + i)) (shown_is (present a.content (blocks_of v.dirty) x address) refl)
            ∙ sym (cond-true _ _ _ (lt-ltb i 112 direct)))));
      }

  pub inode_run_failed : (fault : ReadFault) → (fault ≡ kind.Unreadable → b.keeps_model → IsAway a.content address)
      → (fault ≡ kind.Failed → a.failures < b.failures) → FailsFromDevice a b v
  inode_run_failed kind.Unreadable away failed k m0 m keeps is =
      let gone = away refl keeps in
      absurd (not_missing a v k m0 m is (Inode n) (n, refl) (inode_at a v k m0 m is n ∙ sym at) there
      (record { inside = λ one. absurd (gone.outside one); outside = λ ne. gone.lost.lost }))
  inode_run_failed kind.Failed away failed k m0 m keeps is = failed refl

  -- an inode that should be in memory, and isn't
  pub inode_lacks : address ≡ 1 → blocks_of v.dirty x ≡ None → FailsFromDevice a b v
  inode_lacks one none k m0 m keeps is =
      absurd (not_missing a v k m0 m is (Inode n) (n, refl) (inode_at a v k m0 m is n ∙ sym at) there
      (record { inside = λ e. rw named at none; outside = λ ne. absurd (ne one) }))

-- those of a leaf
module _ {a b : DeviceState} (c : DeviceState) (v : LogMemory) {n : ℕ} (q : ℕ) {address first : ℕ} (x : Entry) {shown : List ℕ}
    (one : Looks a b) (two : Looks b c)
    (some : 1 ≤ n) (at : address ≡ address_in v.map n) (there : 0 < address) (named : x ≡ Inode n)
    (below : q ≤ 128) (read : b.keeps_model → shown ≡ present a.content (blocks_of v.dirty) x address)
    (begins : first ≡ word shown (leaf_first q)) where
  inode_is : b.keeps_model → shown ≡ present a.content (blocks_of v.dirty) (Inode n) (address_in v.map n)
  inode_is keeps = shown_is a b v x one some at there named shown (read keeps)

  pub leaf_run : (numbers : List ℕ)
      → ((inode : List ℕ) → first ≡ word inode (leaf_first q) → c.keeps_model
      → ArePointers numbers (present b.content (blocks_of v.dirty) (Leaf n q) (leaf_now b.content (blocks_of v.dirty) n inode q)))
      → IsRunOf c v (record { number = n; first = 112 + 128 * q; len = 128; place = 0; pointers = numbers })
  leaf_run numbers found i inside =
      let leaf : (i - 112) / 128 ≡ q = omega arith in
      let place : 0 + (i - (112 + 128 * q)) ≡ (i - 112) % 128 = omega arith in
      record {
        some = some;
        there = omega arith;
        low = omega arith;
        value = λ keeps. (
            rw (two.untouched.content ∙ one.untouched.content)
            (rw place (found shown begins keeps ((i - 112) % 128) (omega arith)
            ∙ ap (λ (e : Content). word (present e (blocks_of v.dirty) (Leaf n q) (leaf_now e (blocks_of v.dirty) n shown q))
            ((i - 112) % 128)) one.untouched.content
            ∙ ap (λ (b : List ℕ). word (present a.content (blocks_of v.dirty) (Leaf n q) (leaf_now a.content (blocks_of v.dirty) n b q))
            ((i - 112) % 128)) (inode_is (two.carries.kept_before keeps))
            ∙ ap (λ (l : ℕ). word (present a.content (blocks_of v.dirty) (Leaf n l) (leaf_now a.content (blocks_of v.dirty) n
            (present a.content (blocks_of v.dirty) (Inode n) (address_in v.map n)) l)) ((i - 112) % 128)) (sym leaf)
            ∙ sym (cond-false _ _ _ (le-ltb i 112 (omega arith))))));
      }

  pub leaf_run_failed : (fault : ReadFault)
      → (fault ≡ kind.Unreadable → (inode : List ℕ) → first ≡ word inode (leaf_first q) → c.keeps_model
      → IsLeafAway b.content inode q ⊎ IsAway b.content (leaf_now b.content (blocks_of v.dirty) n inode q))
      → (fault ≡ kind.Failed → b.failures < c.failures) → FailsFromDevice a c v
  leaf_run_failed fault away failed =
      let leaf : q ≡ (112 + 128 * q - 112) / 128 = omega arith in
      address_failed a b c v n (112 + 128 * q) shown fault one two (omega arith) (omega arith) inode_is
      (λ is keeps. (
        omega arith,
        rw leaf at (away is shown begins keeps),
      ))
      failed

-- where a run has the pointers to some blocks, it has each
pub ok_for : {E : Type 0} (r : Result PointerRun E) (n first end i : ℕ) → first ≤ i → i < end
    → IfOk r (λ run. (j : ℕ) → first ≤ j → j < end → IsInRun run n j) → IfOk r (λ run. IsInRun run n i)
ok_for (Ok run) n first end i low high from = from i low high
ok_for (Err e) n first end i low high from = tt

-- ---- a run that is kept

-- it stays one where a call only reads
pub run_still : {a b : DeviceState} (v : LogMemory) (kept : Option PointerRun) → Looks a b → KeepsRun a v kept → KeepsRun b v kept
run_still v None looks is = tt
run_still v (Some r) looks is = λ i inside.
    let p = is i inside in
    record {
      some = p.some;
      there = p.there;
      low = p.low;
      value = λ keeps. rw looks.untouched.content (p.value (looks.carries.kept_before keeps));
    }

-- what its pointers are
module _ (a b : DeviceState) (v : LogMemory) (r : PointerRun) (looks : Looks a b) (run : IsRunOf b v r) (n i : ℕ)
    (inside : IsInRun r n i) where
  own : IsInRun r r.number i
  own = record { own = refl; low = inside.low; high = inside.high }

  in_run : AnswersAddress a b v (Data n i) (pointer_in r i)
  in_run k m0 m keeps is =
      let p = run i own in
      let shown = present a.content (blocks_of v.dirty) (Inode r.number) (address_in v.map r.number) in
      let found = rw looks.untouched.content at (p.value keeps) in
      rw (← inside.own) (sym (found
      ∙ data_at a v k m0 m is r.number i p.there (inode_bytes a v k m0 m is r.number shown p.there refl) p.low))

pub kept_found : {a b : DeviceState} (v : LogMemory) (kept : Option PointerRun) (n i p : ℕ) → Looks a b → KeepsRun b v kept
    → IsKeptFor kept n i → IfSome kept (λ r. p ≡ pointer_in r i) → AnswersAddress a b v (Data n i) p
kept_found v None n i p looks run inside found = absurd inside
kept_found {a} {b} v (Some r) n i p looks run inside found =
    rw found (in_run a b v r looks run n i inside)

pub kept_some : (b : DeviceState) (v : LogMemory) (kept : Option PointerRun) (n i : ℕ) → KeepsRun b v kept → IsKeptFor kept n i
    → (1 ≤ n) × (i ≤ 16623)
kept_some b v None n i run inside = absurd inside
kept_some b v (Some r) n i run inside =
    let p = run i (record { own = refl; low = inside.low; high = inside.high }) in
    (rw inside.own at p.some, omega arith)

-- a block to which no way leads
pub no_way : (a b : DeviceState) (v : LogMemory) (n i : ℕ) → HasNoWay v n i → AnswersAddress a b v (Data n i) 0
no_way a b v n i none k m0 m keeps is = elim none [
  | inl past ↦ data_past a v k m0 m is n i past
  | inr gone ↦ data_none a v k m0 m is n i (elim gone [
    | inl nobody ↦ rw nobody (nobody_at a v k m0 m is)
    | inr absent ↦ inode_at a v k m0 m is n ∙ absent
  ])
]

-- ---- counts
pub blocks_none : (pointer : ℕ → ℕ) (from : ℕ) → blocks_in pointer from from ≡ 0
blocks_none pointer from = let none : from - from ≡ 0 = omega arith in ap (passing (λ i. not (pointer i == 0)) from) none

pub blocks_more : (pointer : ℕ → ℕ) (from i : ℕ) {count : ℕ} → from ≤ i → blocks_in pointer from i ≡ count
    → blocks_in pointer from (i + 1) ≡ count + bool_byte (not (pointer i == 0))
blocks_more pointer from i order was =
    let next : i + 1 - from ≡ i - from + 1 = omega arith in
    let more = ap (passing (λ i. not (pointer i == 0)) from) next
    ∙ passing_more (λ i. not (pointer i == 0)) from (i - from) i (omega arith) in
    omega (arith, was, more, byte (not (pointer i == 0)))
  where
    byte : (b : Bool) → bool_byte b ≡ one_if b
    byte true = refl
    byte false = refl

pub byte_low : (b : Bool) → bool_byte b ≤ 1
byte_low true = omega arith
byte_low false = omega arith

-- tests of addresses
pub test_some : (a : ℕ) → 0 < a → not (a == 0) ≡ true
test_some a some = ap not (false_from_ne_true (a == 0) (λ h. absurd (omega (arith, eqb-true a 0 h))))

pub some_test : (a : ℕ) → not (a == 0) ≡ true → 0 < a
some_test a on = elim (cases_eq a 0) [
  | inl none ↦ cc
  | inr some ↦ omega arith
]

-- a block is stored exactly where it has an address
pub block_test : {d : DeviceState} {v : LogMemory} {k : CheckpointValue} {m0 : LogMap} (m : LogMap) (is : IsLoose d v k m0 m) (n i : ℕ)
    {a : ℕ}
    → is.running.memory.at (Data n i) ≡ a → is_stored m n i ≡ not (a == 0)
block_test m is n i {a} at = same_tests (is_stored m n i) (not (a == 0))
    (λ on. test_some a (omega (arith, (is.running.laid.blocks n i).0 (ltb-true 0 (length (m.block n i)) on))))
    (λ on. lt-ltb 0 (length (m.block n i)) ((is.running.laid.blocks n i).1 (omega (arith, some_test a on))))

pub kept_count : {a b : DeviceState} (v : LogMemory) (kept : Option PointerRun) (n from end count : ℕ) → Looks a b → KeepsRun b v kept
    → IsKeptFor kept n from → from < end → IfSome kept (CountsRun from end count)
    → AnswersCount a b v n from end count
unfolding stored_in
kept_count v None n from end count looks run inside order counted = absurd inside
kept_count {a} {b} v (Some r) n from end count looks run inside order counted = λ k m0 m keeps is.
    passing_same (is_stored m n) (λ i. not (pointer_in r i == 0)) from (end - from)
    (λ i le lt. block_test m is n i
    (in_run a b v r looks run n i (record { own = inside.own; low = omega arith; high = omega arith }) k m0 m
    keeps is))
    ∙ counted.value

pub no_way_count : (a b : DeviceState) (v : LogMemory) (n from end : ℕ) → HasNoWay v n from → AnswersCount a b v n from end 0
unfolding stored_in
no_way_count a b v n from end none k m0 m keeps is =
    passing_nothing (is_stored m n) from (end - from)
    (λ i le lt. block_test m is n i (no_way a b v n i (later i le none) k m0 m keeps is))
  where
    later : (i : ℕ) → from ≤ i → HasNoWay v n from → HasNoWay v n i
    later i le none =
        elim none [ inl past ↦ inl (omega arith) | inr gone ↦ inr gone ]

-- one part after the other
pub record CountedTo (a b : DeviceState) (v : LogMemory) (n from at count : ℕ) : Type 0 where
  pub looks : Looks a b
  pub no_failure : b.failures ≡ a.failures
  pub few : count + from ≤ at
  pub answer : AnswersCount a b v n from at count

pub counted_none : {a : DeviceState} {v : LogMemory} {n from : ℕ} → CountedTo a a v n from from 0
unfolding stored_in
counted_none {a} {n} {from} = record {
  looks = looks_none a;
  no_failure = refl;
  few = omega arith;
  answer = λ k m0 m keeps is. (let none : from - from ≡ 0 = omega arith in ap (passing (is_stored m n) from) none);
}

pub counted_more : (a b c : DeviceState) {v : LogMemory} {n from at end count : ℕ} (more : ℕ) → IsLawful a → CountedTo a b v n from at count
    → Looks b c → c.failures ≡ b.failures → at < end → more ≤ end - at
    → AnswersCount b c v n at end more → CountedTo a c v n from end (count + more)
unfolding stored_in
counted_more a b c {v} {n} {from} {at} {end} {count} more lawful was looks no_failure order few answer = record {
  looks = looks_then lawful was.looks looks;
  no_failure = cc;
  few = omega arith;
  answer = λ k m0 m keeps is.
      let P : ℕ → Bool = is_stored m n in
      let before : passing P from (at - from) ≡ count = was.answer k m0 m (looks.carries.kept_before keeps) is in
      let part : passing P at (end - at) ≡ more = answer k m0 m keeps (still_log was.looks is) in
      let both : passing P from (end - from) ≡ passing P from (at - from) + passing P at (end - at) =
      passing_split P from (at - from) (end - at) at (end - from) (omega arith) (omega arith) in
      both ∙ ap₂ (λ (x y : ℕ). x + y) before part;
}

pub counted_fault : {a b : DeviceState} (c : DeviceState) {v : LogMemory} {n from at count : ℕ} → CountedTo a b v n from at count
    → FailsFromDevice b c v
    → FailsFromDevice a c v
counted_fault c was failed k m0 m keeps is =
    omega (arith, failed k m0 m keeps (still_log was.looks is))

pub counted_all : {a b : DeviceState} {v : LogMemory} {n from at to count : ℕ} → at ≡ to → CountedTo a b v n from at count
    → AnswersCount a b v n from to count
counted_all same was = rw same at was.answer
