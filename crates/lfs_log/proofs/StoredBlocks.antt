-- A block is stored exactly where it has an address, and so is one below a leaf of pointers, where no block of pointers is empty.
use Rattle.std.proofs.Common.{◌≡◌, ◌<◌, ⊎_elim, ◌+◌, ◌*◌, ◌-◌, ◌/◌, ◌==◌, ℕ, suc, refl, ◌∙◌, ap, arith}
use Rattle.std.specs.Prelude.{not}
use Rattle.std.proofs.lemmas.Bool.{cases_eq}
use Rattle.lfs_model.specs.Checkpoint.{CheckpointValue}
use Rattle.lfs_model.specs.Device.{DeviceState}
use Rattle.lfs_model.specs.Encodes.{HasDouble, HasLeaf}
use Rattle.lfs_model.specs.Entry.{Data, Leaf, Double}
use Rattle.lfs_model.specs.Memory.{Memory, HasPointer, parent}
use Rattle.lfs_model.specs.Laid.{IsLaid}
use Rattle.lfs_model.specs.Objects.{has_leaf, has_double}
use Rattle.lfs_model.specs.Running.{IsTight}
use Rattle.lfs_model.specs.Stands.{LogMap}
use Rattle.lfs_model.proofs.Entries.{data_parent_high}
use Rattle.lfs_model.proofs.ObjectNeeds.{same_tests}
use Rattle.lfs_model.proofs.ObjectPointers.{leaf_tests}
use Rattle.lfs_memory.specs.inodes.Blocks.{blocks_of}
use Rattle.lfs_memory.specs.declared.memory.LogMemory.{LogMemory}
use Rattle.lfs_memory.specs.Memory.{IsLoose, segment_in}
use Rattle.lfs_memory.specs.Present.{AnswersAddress}
use Rattle.lfs_log.proofs.LogReads.{loose_in}
use Rattle.lfs_memory.proofs.PointerRuns.{block_test, some_test, test_some}
use Rattle.lfs_log.specs.LogState.{LogState, TellsBlock, TellsLeaf, TellsDouble}

-- ---- where memory and device hold a log map
module _ {d : DeviceState} {v : LogMemory} (k : CheckpointValue) (m0 m : LogMap) (is : IsLoose d v k m0 m) where
  abbrev M : Memory
  M = is.running.memory

  laid : IsLaid d.content m M (segment_in v.chunk)
  laid = is.running.laid

  -- a leaf that has an address has a pointer
  leaf_full : IsTight (blocks_of v.dirty) → (n q : ℕ) → 0 < M.at (Leaf n q) → HasPointer (M.bytes (Leaf n q))
  leaf_full tight n q some = ⊎_elim
      (λ (one : M.at (Leaf n q) ≡ 1).
      let f = is.running.cached.found (Leaf n q) (n, refl) one in
      let held = is.running.cached.cached (Leaf n q) f.0 f.1 in
      rw held.2 (tight (Leaf n q) f.0 f.1 tt))
      (λ (away : M.at (Leaf n q) ≡ 1 → ⊥). laid.some (Leaf n q) tt (omega (arith, away, some)))
      (cases_eq (M.at (Leaf n q)) 1)

  leaf_has : IsTight (blocks_of v.dirty) → (n q : ℕ) → 0 < M.at (Leaf n q) → HasLeaf m n q
  leaf_has tight n q some =
      let w = leaf_full tight n q some in
      let v = laid.spells (Leaf n q) some w.0 w.1 in
      let lt = w.2 in
      (w.0, w.1, (laid.blocks n (112 + 128 * q + w.0)).1 (omega (arith, lt, v)))

  has_leaf_at : (n q : ℕ) → HasLeaf m n q → 0 < M.at (Leaf n q)
  has_leaf_at n q has =
      let lt = has.1 in
      let same : (112 + 128 * q + has.0 - 112) / 128 ≡ q = omega (arith, lt) in
      let up : parent (Data n (112 + 128 * q + has.0)) ≡ Leaf n q = data_parent_high n _ (omega arith) ∙ ap (Leaf n) same in
      rw (← up) (laid.down (Data n (112 + 128 * q + has.0)) ((laid.blocks n (112 + 128 * q + has.0)).0 has.2))

  pub leaf_test : IsTight (blocks_of v.dirty) → (n q : ℕ) {a : ℕ} → M.at (Leaf n q) ≡ a → has_leaf m n q ≡ not (a == 0)
  leaf_test tight n q {a} at =
      let test = (leaf_tests m n).0 q in
      same_tests _ _
      (λ on. let some = has_leaf_at n q (test.0 on) in test_some a (omega (arith, some, at)))
      (λ on. let some = some_test a on in test.1 (leaf_has tight n q (omega (arith, some, at))))

  -- a double root that has an address has a pointer
  double_full : IsTight (blocks_of v.dirty) → (n : ℕ) → 0 < M.at (Double n) → HasPointer (M.bytes (Double n))
  double_full tight n some = ⊎_elim
      (λ (one : M.at (Double n) ≡ 1).
      let f = is.running.cached.found (Double n) (n, refl) one in
      let held = is.running.cached.cached (Double n) f.0 f.1 in
      rw held.2 (tight (Double n) f.0 f.1 tt))
      (λ (away : M.at (Double n) ≡ 1 → ⊥). laid.some (Double n) tt (omega (arith, away, some)))
      (cases_eq (M.at (Double n)) 1)

  double_has : IsTight (blocks_of v.dirty) → (n : ℕ) → 0 < M.at (Double n) → HasDouble m n
  double_has tight n some =
      let w = double_full tight n some in
      let v = laid.spells (Double n) some w.0 w.1 in
      let lt = w.2 in
      (w.0, w.1, leaf_has tight n (suc w.0) (omega (arith, lt, v)))

  has_double_at : (n : ℕ) → HasDouble m n → 0 < M.at (Double n)
  has_double_at n has = laid.down (Leaf n (suc has.0)) (has_leaf_at n (suc has.0) has.2)

  pub double_test : IsTight (blocks_of v.dirty) → (n : ℕ) {a : ℕ} → M.at (Double n) ≡ a → has_double m n ≡ not (a == 0)
  double_test tight n {a} at =
      let test = (leaf_tests m n).1 in
      same_tests _ _
      (λ on. let some = has_double_at n (test.0 on) in test_some a (omega (arith, some, at)))
      (λ on. let some = some_test a on in test.1 (double_has tight n (omega (arith, some, at))))

-- ---- what calls tell
module _ {D : Type 0} {state : D → DeviceState} {h : LogState D} (d : D) {n address : ℕ} where
  pub tells_block : {i : ℕ} → AnswersAddress (state h.device) (state d) h.inner (Data n i) address
      → TellsBlock state h (record h { device = d }) n i (not (address == 0))
  tells_block {i} answers k m0 m keeps is = block_test m (loose_in is) n i (answers k m0 m keeps (loose_in is))

  pub tells_leaf : {q : ℕ} → AnswersAddress (state h.device) (state d) h.inner (Leaf n q) address
      → TellsLeaf state h (record h { device = d }) n q (not (address == 0))
  tells_leaf {q} answers k m0 m keeps is = leaf_test k m0 m (loose_in is) is.log.tight n q (answers k m0 m keeps (loose_in is))

  pub tells_double : AnswersAddress (state h.device) (state d) h.inner (Double n) address
      → TellsDouble state h (record h { device = d }) n (not (address == 0))
  tells_double answers k m0 m keeps is = double_test k m0 m (loose_in is) is.log.tight n (answers k m0 m keeps (loose_in is))
