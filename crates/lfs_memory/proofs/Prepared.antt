-- What a batch of changes needs comes into memory: what is ready stays so, and how many blocks came.
use Rattle.std.proofs.Common.{◌≡◌, ◌<◌, ◌≤◌, ◌⊎◌, inl, inr, ◌+◌, ◌-◌, ◌/◌, ◌==◌, nat_lt, ℕ, true, List, [], ◌∷◌}
use Rattle.std.proofs.Common.{length, get_or, drop, Option, None, Some, refl, sym, ◌∙◌, ap, arith}
use Rattle.std.proofs.lemmas.Bool.{cases_lt, cases_Bool, lt-ltb, le-ltb, cond-true, cond-false}
use Rattle.std.proofs.lemmas.List.{drop_more}
use Rattle.lfs_model.specs.Device.{DeviceState, IsLawful}
use Rattle.lfs_model.specs.Entry.{Entry, Data, Leaf, Inode}
use Rattle.lfs_model.specs.Memory.{parent, IsPointers}
use Rattle.lfs_model.specs.Staging.{IsAtAddress}
use Rattle.lfs_model.specs.Stands.{LogMap}
use Rattle.lfs_model.proofs.Entries.{data_parent_low, data_parent_high, pointers_below}
use Rattle.lfs_inodes.specs.Blocks.{Capacity, blocks_of}
use Rattle.lfs_inodes.specs.MapValue.{address_in, block_in}
use Rattle.lfs_memory.specs.declared.batch.BlockEdit.{BlockEdit}
use Rattle.lfs_memory.specs.declared.batch.HeaderEdit.{HeaderEdit}
use Rattle.lfs_memory.specs.declared.memory.LogMemory.{LogMemory}
use Rattle.lfs_memory.specs.Memory.{IsMemory, tables_of}
use Rattle.lfs_memory.specs.Present.{Looks, FailsFromDevice}
use Rattle.lfs_memory.specs.Changing.{Grows}
use Rattle.lfs_memory.specs.Lifting.{IsAbsent, IsInMemory, Prepares}
use Rattle.lfs_memory.specs.Preparing.{HasParent, AreBlocksReady, IsHeaderReady, AreHeadersReady, LacksRoom, AreWithin, IsExcusedWithin}
use Rattle.lfs_memory.specs.Preparing.{AreExcusedWithin, is_beside, row_of, way_from, ways, ways_from}
use Rattle.lfs_memory.proofs.Aboves.{grown_memory}
use Rattle.lfs_memory.proofs.BlockSteps.{grown_log}
use Rattle.lfs_memory.proofs.Lifted.{prepares_at_most, prepares_excused, prepares_looks, prepares_then}
use Rattle.lfs_memory.proofs.LogMaps.{both_yes, equal_is}
use Rattle.lfs_memory.proofs.Presents.{looks_none}

-- ---- an empty block of pointers
grow_prepares : (d : DeviceState) (v v' : LogMemory) (x : Entry) → IsMemory v → IsPointers x
    → IsAtAddress (blocks_of v.dirty) (tables_of v) x 0 → Grows v v' x → Prepares d d v v' 1
grow_prepares d v v' x memory pointers at go = record {
  looks = looks_none d;
  memory = go.stays.memory memory;
  segments = go.stays.segments;
  clean = go.stays.clean;
  used = λ s. rw go.usage;
  kept = λ s. rw go.usage;
  chunk = go.stays.chunk;
  capacity = go.stays.capacity;
  few = go.stays.blocks;
  stay = grown_memory v v' x go;
  hidden = rw go.map;
  mapped = λ j one. rw go.map one;
  absent = λ l none. rw go.map none;
  log = λ k m0 m keeps is. grown_log d v v' k m0 m is x pointers (at.pointed (pointers_below x pointers)) go;
}

-- after a call that only looked
prepares_same : {d d' : DeviceState} {v v' : LogMemory} {n l : ℕ} → IsMemory v → v' ≡ v → Prepares d d' v v' n → Prepares d d' v v' l
prepares_same memory same one = rw same (prepares_looks memory one.looks)

pub grown_after : {d d' : DeviceState} {v v' v'' : LogMemory} (x : Entry) → IsLawful d → IsMemory v → v' ≡ v → IsPointers x
    → IsAtAddress (blocks_of v'.dirty) (tables_of v') x 0 → Grows v' v'' x
    → Prepares d d' v v' 1 → Prepares d d' v v'' 1
grown_after {d} {d'} {v} {v'} {v''} x lawful memory same pointers at go one =
    prepares_then lawful (prepares_same {l = 0} memory same one) (grow_prepares d' v' v'' x one.memory pointers at go)

-- ---- room
lacks_more : (v : LogMemory) (a b : ℕ) → a ≤ b → LacksRoom v a → LacksRoom v b
lacks_more v a b le lacks = omega arith

lacks_then : {d d' : DeviceState} {v v' : LogMemory} {a : ℕ} (b : ℕ) → Prepares d d' v v' a → LacksRoom v' b → LacksRoom v (a + b)
lacks_then b one lacks = omega (arith, ap (λ (c : Capacity). c.limit) one.capacity)

-- ---- what stays
pub record Keeps (v w : LogMemory) : Type 0 where
  pub stay : (x : Entry) → IsInMemory v x → IsInMemory w x
  pub absent : (l : ℕ) → address_in v.map l ≡ 0 → address_in w.map l ≡ 0
  pub mapped : (j : ℕ) → block_in v.map j ≡ 1 → block_in w.map j ≡ 1

keeps_none : (v : LogMemory) → Keeps v v
keeps_none v = record { stay = λ x is. is; absent = λ l is. is; mapped = λ j is. is }

pub keeps_prepared : {d d' : DeviceState} {v v' w : LogMemory} {n : ℕ} → Prepares d d' v v' n → Keeps v' w → Keeps v w
keeps_prepared one two = record {
  stay = λ x is. two.stay x (one.stay x is);
  absent = λ l is. two.absent l (one.absent l is);
  mapped = λ j is. two.mapped j (one.mapped j is);
}

ready_kept : (v w : LogMemory) (n i : ℕ) → Keeps v w → HasParent v n i → HasParent w n i
ready_kept v w n i keeps was = elim was [
  | inl has ↦ inl (keeps.stay (parent (Data n i)) has)
  | inr made ↦ inr (keeps.absent n made.0, made.1)
]

header_ready_kept : (v : LogMemory) {w : LogMemory} {n links : ℕ} → Keeps v w → IsHeaderReady v n links → IsHeaderReady w n links
header_ready_kept v {n} keeps was = record {
  inside = elim was.inside [
    | inl has ↦ inl (keeps.stay (Inode n) has)
    | inr none ↦ inr (keeps.absent n none)
  ];
  mapped = λ some. keeps.mapped (n / 128) (was.mapped some);
}

pub headers_ready_kept : (v w : LogMemory) (edits : List HeaderEdit) → Keeps v w → AreHeadersReady v edits → AreHeadersReady w edits
headers_ready_kept v w [] keeps was = was
headers_ready_kept v w (e ∷ edits) keeps was =
    (header_ready_kept v keeps was.0, headers_ready_kept v w edits keeps was.1)

-- ---- a data block
pub way_high : (v : LogMemory) (n i : ℕ) → 112 ≤ i → IsInMemory v (Leaf n ((i - 112) / 128)) → HasParent v n i
way_high v n i high has = inl (rw (data_parent_high n i high) has)

-- faults
pub absent_within : (d d' : DeviceState) (v : LogMemory) (n i : ℕ) → 112 ≤ i → IsAbsent d d' v n → IsExcusedWithin d d' v n i
absent_within d d' v n i high absent k m0 m keeps is within = absurd (omega (arith, within (absent k m0 m keeps is)))

pub excused_within : (d d' : DeviceState) (v : LogMemory) (n i : ℕ) → FailsFromDevice d d' v → IsExcusedWithin d d' v n i
excused_within d d' v n i failed k m0 m keeps is within = failed k m0 m keeps is

-- ---- headers, one after the other
pub record HeadersPrepared (d0 d : DeviceState) (v0 v : LogMemory) (edits rest : List HeaderEdit) (i : ℕ) : Type 0 where
  pub prepares : Prepares d0 d v0 v i
  pub ready : (w : LogMemory) → Keeps v w → AreHeadersReady w rest → AreHeadersReady w edits
  pub no_failure : d.failures ≡ d0.failures

module _ {d0 d : DeviceState} {v0 v : LogMemory} {edits : List HeaderEdit} {i : ℕ} {e : HeaderEdit} (lawful : IsLawful d0)
    (within : i < length edits) (own : get_or edits i e ≡ e)
    (was : HeadersPrepared d0 d v0 v edits (drop i edits) i) {d' : DeviceState} {v' : LogMemory} (one : Prepares d d' v v' 1) where
  first_header : drop i edits ≡ e ∷ drop (i + 1) edits
  first_header = drop_more edits i e within ∙ ap (λ (f : HeaderEdit). f ∷ drop (i + 1) edits) own

  pub headers_next : IsHeaderReady v' e.number e.header.links → d'.failures ≡ d.failures
      → HeadersPrepared d0 d' v0 v' edits (drop (i + 1) edits) (i + 1)
  headers_next ready no_failure = record {
    prepares = prepares_then lawful was.prepares one;
    ready = λ w keeps rest. was.ready w (keeps_prepared one keeps)
        (rw first_header (header_ready_kept v' keeps ready, rest));
    no_failure = cc;
  }

  pub headers_fault : Prepares d0 d' v0 v' (length edits)
  headers_fault = prepares_at_most (omega arith) (prepares_then lawful was.prepares one)

  pub headers_excused : FailsFromDevice d d' v → FailsFromDevice d0 d' v0
  headers_excused failed = prepares_excused was.prepares one.looks failed

-- ---- blocks that stand beside each other
row_low : (i : ℕ) → i < 112 → row_of i ≡ 0
row_low i low = cond-true (nat_lt i 112) 0 (1 + (i - 112) / 128) (lt-ltb i 112 low)

row_high : (i : ℕ) → 112 ≤ i → row_of i ≡ 1 + (i - 112) / 128
row_high i high = cond-false (nat_lt i 112) 0 (1 + (i - 112) / 128) (le-ltb i 112 high)

row_still_low : (i j : ℕ) → row_of i ≡ row_of j → i < 112 → j < 112
row_still_low i j same low = elim (cases_lt j 112) [
  | inl l ↦ l
  | inr high ↦ absurd (omega (arith, row_high j high, row_low i low))
]

row_parent : (n i j : ℕ) → row_of i ≡ row_of j → parent (Data n i) ≡ parent (Data n j)
row_parent n i j same = elim (cases_lt i 112) [
  | inl low ↦ data_parent_low n i low ∙ sym (data_parent_low n j (row_still_low i j same low))
  | inr high ↦ elim (cases_lt j 112) [
    | inl low ↦ absurd (omega (arith, row_still_low j i (sym same) low))
    | inr h ↦
        let rows : (i - 112) / 128 ≡ (j - 112) / 128 = omega (arith, row_high j h, row_high i high) in
        data_parent_high n i high ∙ ap (Leaf n) rows ∙ sym (data_parent_high n j h)
  ]
]

beside_ready : (v : LogMemory) (a b : BlockEdit) → is_beside a b ≡ true → HasParent v a.number a.index → HasParent v b.number b.index
beside_ready v a b beside was =
    let both = both_yes (a.number == b.number) (row_of a.index == row_of b.index) beside in
    let file = equal_is a.number b.number both.0 in
    let rows = equal_is (row_of a.index) (row_of b.index) both.1 in
    elim was [
      | inl has ↦ inl (rw (row_parent a.number a.index b.index rows ∙ ap (λ (n : ℕ). parent (Data n b.index)) file) at has)
      | inr made ↦
          inr (ap (address_in v.map) (sym file) ∙ made.0, row_still_low a.index b.index rows made.1)
    ]

-- ---- blocks, one after the other
pub record BlocksPrepared (d0 d : DeviceState) (v0 v : LogMemory) (edits rest : List BlockEdit) : Type 0 where
  pub before : Option BlockEdit
  pub last : (b : BlockEdit) → before ≡ Some b → HasParent v b.number b.index
  pub most : ℕ
  pub all : most + ways_from before rest ≡ ways edits
  pub prepares : Prepares d0 d v0 v most
  pub ready : (w : LogMemory) → Keeps v w → AreBlocksReady w rest → AreBlocksReady w edits
  pub within : (m : LogMap) → AreWithin m edits → AreWithin m rest
  pub no_failure : d.failures ≡ d0.failures

way_cases : (v : LogMemory) (before : Option BlockEdit) (e : BlockEdit) → ((b : BlockEdit) → before ≡ Some b → HasParent v b.number b.index)
    → (way_from before e ≡ 3) ⊎ ((way_from before e ≡ 0) × HasParent v e.number e.index)
way_cases v None e last = inl refl
way_cases v (Some b) e last = elim (cases_Bool (is_beside b e)) [
  | inl on ↦ inr (rw on, beside_ready v b e on (last b refl))
  | inr off ↦ inl (rw off)
]

module _ {d0 d : DeviceState} {v0 v : LogMemory} {edits : List BlockEdit} (i : ℕ) {e : BlockEdit} (lawful0 : IsLawful d0)
    (lawful : IsLawful d) (within : i < length edits) (own : get_or edits i e ≡ e)
    (was : BlocksPrepared d0 d v0 v edits (drop i edits)) {d' : DeviceState} {v' : LogMemory} (one : Prepares d d' v v' 3) where
  first_block : drop i edits ≡ e ∷ drop (i + 1) edits
  first_block = drop_more edits i e within ∙ ap (λ (f : BlockEdit). f ∷ drop (i + 1) edits) own

  sum_is : was.most + (way_from was.before e + ways_from (Some e) (drop (i + 1) edits)) ≡ ways edits
  sum_is = ap (λ (rest : List BlockEdit). was.most + ways_from was.before rest) (sym first_block) ∙ was.all

  sharp : (HasParent v e.number e.index → v' ≡ v) → Prepares d d' v v' (way_from was.before e)
  sharp same = elim (way_cases v was.before e was.last) [
    | inl three ↦ rw three one
    | inr none ↦
        prepares_same was.prepares.memory (same none.1) one
  ]

  pub blocks_next : (HasParent v e.number e.index → v' ≡ v) → HasParent v' e.number e.index → d'.failures ≡ d.failures
      → BlocksPrepared d0 d' v0 v' edits (drop (i + 1) edits)
  blocks_next same ready no_failure = record {
    before = Some e;
    last = λ b is. let own : e ≡ b = some_is e b is in rw own at ready;
    most = was.most + way_from was.before e;
    all = omega (arith, sum_is);
    prepares = prepares_then lawful0 was.prepares (sharp same);
    ready = λ w keeps rest. was.ready w (keeps_prepared one keeps)
        (rw first_block (ready_kept v' w e.number e.index keeps ready, rest));
    within = λ m all. (rw first_block at (was.within m all)).1;
    no_failure = cc;
  }
    where
      some_is : (a b : BlockEdit) → Some a ≡ Some b → a ≡ b
      some_is a b is = cc

  module _ (away : HasParent v e.number e.index → ⊥) where
    three_more : was.most + 3 ≤ ways edits
    three_more = elim (way_cases v was.before e was.last) [
      | inl three ↦ omega (arith, sum_is)
      | inr none ↦ absurd (away none.1)
    ]

    pub blocks_fault : Prepares d0 d' v0 v' (ways edits)
    blocks_fault = prepares_at_most three_more (prepares_then lawful0 was.prepares one)

    pub blocks_short : LacksRoom v 3 → LacksRoom v0 (ways edits)
    blocks_short lacks = lacks_more v0 (was.most + 3) (ways edits) three_more (lacks_then 3 was.prepares lacks)

  pub blocks_excused : IsExcusedWithin d d' v e.number e.index → AreExcusedWithin d0 d' v0 edits
  blocks_excused failed k m0 m keeps is all =
      let back = one.looks.carries.kept_before keeps in
      omega (arith, failed k m0 m keeps (was.prepares.log k m0 m back is) (rw first_block at (was.within m all)).0)

-- ---- blocks after headers
pub headers_ready_after : {d d' : DeviceState} {v w : LogMemory} {n : ℕ} (edits : List HeaderEdit) → Prepares d d' v w n
    → AreHeadersReady v edits → AreHeadersReady w edits
headers_ready_after {v = v} {w} edits one was = headers_ready_kept v w edits (keeps_prepared one (keeps_none w)) was

pub all_excused : (d d' : DeviceState) (v : LogMemory) (edits : List BlockEdit) → FailsFromDevice d d' v → AreExcusedWithin d d' v edits
all_excused d d' v edits failed k m0 m keeps is all = failed k m0 m keeps is

pub excused_then : {a b c : DeviceState} {v w : LogMemory} {n : ℕ} (edits : List BlockEdit) → Prepares a b v w n → Looks b c
    → AreExcusedWithin b c w edits → AreExcusedWithin a c v edits
excused_then edits one two failed k m0 m keeps is all =
    let back = two.carries.kept_before keeps in
    omega (arith, failed k m0 m keeps (one.log k m0 m back is) all)
