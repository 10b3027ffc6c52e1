-- What is in memory stays there as files change, so one change comes after another.
use Rattle.std.proofs.Common.{◌≡◌, ◌+◌, ℕ, List, length, Option, Some, sym, ◌∙◌, ap, arith}
use Rattle.std.proofs.Common.{inl, inr}
use Rattle.std.specs.Prelude.{option_map}
use Rattle.std.proofs.lemmas.Bool.{cases_eq}
use Rattle.lfs_model.specs.declared.Kind.{Kind}
use Rattle.lfs_model.specs.Entry.{Entry, Data}
use Rattle.lfs_model.specs.Memory.{parent, pointer, patched}
use Rattle.lfs_model.specs.Running.{Dirty, Moves}
use Rattle.lfs_model.specs.Staging.{Fetches, ChangesTo}
use Rattle.lfs_model.proofs.Entries.{same_entry, no_data_parent}
use Rattle.lfs_inodes.specs.Blocks.{blocks_of}
use Rattle.lfs_memory.specs.declared.memory.LogMemory.{LogMemory}
use Rattle.lfs_memory.specs.Changing.{HasAbove, Stays, Stores, Drops, ChangesBlock, Grows, ChangesHeader, Creates}
use Rattle.lfs_memory.specs.Lifting.{IsInMemory}
use Rattle.lfs_memory.proofs.LogMaps.{blank_or}

pub stays_then : {a b : ℕ} {u v w : LogMemory} → Stays a u v → Stays b v w → Stays (a + b) u w
stays_then one two = record {
  memory = λ memory. two.memory (one.memory memory);
  chunk = cc;
  segments = cc;
  clean = cc;
  capacity = cc;
  blocks = omega arith;
}

abbrev Holds : Dirty → Entry → Type 0
Holds dirty z = (b : List ℕ) × (dirty z ≡ Some b)

holds_patched : (f : List ℕ → List ℕ) {o : Option (List ℕ)} {b : List ℕ} → o ≡ Some b → (c : List ℕ) × (option_map f o ≡ Some c)
holds_patched f {b} is = (f b, ap (option_map f) is)

holds_fetched : {old new : Dirty} {x : Entry} {bytes : List ℕ} → Fetches old new x bytes → (z : Entry) → Holds old z → Holds new z
holds_fetched {old} {new} {x} {bytes} go z has = elim (same_entry z x) [
  | inl here ↦ (bytes, ap new here ∙ go.own)
  | inr ne ↦ elim (same_entry z (parent x)) [
    | inl up ↦
        let p = holds_patched (patched (pointer x) 1) (ap old (sym up) ∙ has.1) in
        (p.0, ap new up ∙ go.patched (λ own. ne (up ∙ own)) ∙ p.1)
    | inr np ↦ (has.0, go.kept z ne np ∙ has.1)
  ]
]

holds_moved : {old new : Dirty} {x : Entry} (a : ℕ) → Moves old new x a → (z : Entry) → (z ≡ x → ⊥) → Holds old z → Holds new z
holds_moved {old} {new} {x} a go z ne has = elim (same_entry z (parent x)) [
  | inl up ↦
      let p = holds_patched (patched (pointer x) a) (ap old (sym up) ∙ has.1) in
      (p.0, ap new up ∙ go.patched (λ own. ne (up ∙ own)) ∙ p.1)
  | inr np ↦ (has.0, go.kept z ne np ∙ has.1)
]

holds_changed : {old new : Dirty} {x : Entry} {bytes : List ℕ} → ChangesTo old new x (Some bytes) → (z : Entry) → Holds old z → Holds new z
holds_changed {new} {x} {bytes} go z has = elim (same_entry z x) [
  | inl here ↦ (bytes, ap new here ∙ go.own)
  | inr ne ↦ (has.0, go.others z ne ∙ has.1)
]

-- ---- as a data block changes, all but that block
stored_memory : (v v' : LogMemory) (n i : ℕ) {a : ℕ} (bytes : List ℕ) → Stores v v' n (Data n i) a bytes → (z : Entry) → IsInMemory v z
    → IsInMemory v' z
stored_memory v v' n i {a} bytes go z has = elim (cases_eq a 1) [
  | inl one ↦ holds_changed (go.changes one) z has
  | inr ne ↦ holds_fetched (go.comes ne) z has
]

dropped_memory : (v v' : LogMemory) (n i : ℕ) {a : ℕ} → Drops v v' n (Data n i) a → (z : Entry) → (z ≡ Data n i → ⊥) → IsInMemory v z
    → IsInMemory v' z
dropped_memory v v' n i {a} go z ne has = elim (cases_eq a 0) [
  | inl none ↦ rw (go.none none) has
  | inr some ↦ holds_moved 0 (go.leaves (omega arith)) z ne has
]

pub changed_memory : (v v' : LogMemory) (n i : ℕ) (bytes : List ℕ) → length bytes ≡ 512 → ChangesBlock v v' n i bytes → {z : Entry}
    → (z ≡ Data n i → ⊥) → IsInMemory v z → IsInMemory v' z
changed_memory v v' n i bytes long go {z} ne has = elim (blank_or bytes long) [
  | inl none ↦ dropped_memory v v' n i (go.puts.drops none) z ne has
  | inr some ↦ stored_memory v v' n i bytes (go.puts.stores some) z has
]

-- so the block above any other
pub above_changed : (v v' : LogMemory) {n i : ℕ} {bytes : List ℕ} → length bytes ≡ 512 → ChangesBlock v v' n i bytes → (y : Entry)
    → HasAbove (blocks_of v.dirty) y → HasAbove (blocks_of v'.dirty) y
above_changed v v' {n} {i} {bytes} long go y has = changed_memory v v' n i bytes long go (no_data_parent n i y) has

-- ---- as a block of pointers grows, which is above its own blocks then
pub grown_memory : (v v' : LogMemory) (x : Entry) → Grows v v' x → (z : Entry) → IsInMemory v z → IsInMemory v' z
grown_memory v v' x go z has = holds_fetched go.comes z has

-- ---- as a header changes, or a file is made
pub headed_memory : (v v' : LogMemory) {n : ℕ} {kind : Kind} {form links size : ℕ} → ChangesHeader v v' n kind form links size → (z : Entry)
    → IsInMemory v z → IsInMemory v' z
headed_memory v v' go z has = holds_changed go.changes z has

pub created_memory : (v v' : LogMemory) {n : ℕ} {kind : Kind} {form links size : ℕ} → Creates v v' n kind form links size → (z : Entry)
    → IsInMemory v z → IsInMemory v' z
created_memory v v' go z has = holds_changed go.changes z has
