-- What points to the blocks that go comes into memory.
use Rattle.std.proofs.Common.{◌≡◌, ◌<◌, ◌≤◌, ◌+◌, ◌*◌, ◌-◌, ◌/◌, ◌%◌, ℕ, zero, suc, Bool, true, false, refl, ◌∙◌, ap}
use Rattle.std.proofs.Common.{arith, inl, inr}
use Rattle.std.specs.Prelude.{Result, Ok, Err, IsErr, IsErrAnd, IsErrOf, IsTrue, IsFalse}
use Rattle.lfs_model.specs.Checkpoint.{CheckpointValue}
use Rattle.lfs_model.specs.Device.{DeviceState}
use Rattle.lfs_model.specs.Entry.{Entry, Leaf, Double}
use Rattle.lfs_model.specs.Memory.{parent}
use Rattle.lfs_model.specs.Staging.{IsAtAddress}
use Rattle.lfs_model.specs.Stands.{LogMap}
use Rattle.lfs_model.proofs.Reading.{reading}
use Rattle.lfs_model.proofs.Replacing.{address_at}
use Rattle.lfs_inodes.specs.Blocks.{blocks_of}
use Rattle.lfs_memory.specs.declared.memory.LogMemory.{LogMemory}
use Rattle.lfs_memory.specs.Memory.{IsLoose, tables_of}
use Rattle.lfs_memory.specs.Lifting.{IsInMemory}
use Rattle.lfs_memory.specs.Cutting.{IsCutLeaf, IsLiftedIfStored, HasEdge}

-- a fault is what it is where it is passed on
pub passed_on : {T U E : Type 0} (r : Result T E) (e x : E) → IsErr r × IsErrAnd r (λ y. y ≡ e) → IsErrOf r x → IsErrOf {T = U} (Err e) x
passed_on (Ok y) e x gives is = absurd gives.1
passed_on (Err y) e x gives is = let same : e ≡ x = cc in ap Err same

-- ---- the leaf that is cut in part
pub cut_leaf_at : (first : ℕ) → 112 < first → ((first - 112) % 128 ≡ 0 → ⊥) → IsCutLeaf first ((first - 112) / 128)
cut_leaf_at first high some = record { from = omega arith; to = omega arith }

pub above_cut_leaf : (v : LogMemory) {n first : ℕ} (x : Entry) → x ≡ Leaf n ((first - 112) / 128) → 112 < first
    → ((first - 112) % 128 ≡ 0 → ⊥)
    → ((q : ℕ) → IsCutLeaf first q → IsInMemory v (parent (Leaf n q))) → IsInMemory v (parent x)
above_cut_leaf v {first} x named high some above =
    rw named (above ((first - 112) / 128) (cut_leaf_at first high some))

-- so it is ready as it is brought into memory, or isn't stored
pub cut_leaf_ready : (v : LogMemory) {n : ℕ} (first : ℕ) (x : Entry) → x ≡ Leaf n ((first - 112) / 128) → (found : Bool)
    → (IsTrue found → IsInMemory v x)
    → (IsFalse found → IsAtAddress (blocks_of v.dirty) (tables_of v) x 0) → (q : ℕ) → IsCutLeaf first q → IsLiftedIfStored v (Leaf n q)
cut_leaf_ready v {n} first x named found inside none q cut =
    let same : (first - 112) / 128 ≡ q = omega arith in
    rw (named ∙ ap (Leaf n) same) at (either found inside none)
  where
    either : (found : Bool) → (IsTrue found → IsInMemory v x) → (IsFalse found → IsAtAddress (blocks_of v.dirty) (tables_of v) x 0)
        → IsLiftedIfStored v x
    either true inside none = inl (inside refl)
    either false inside none = inr (none refl)

pub low_edge : (v : LogMemory) (n first : ℕ) → first ≤ 240 → ((q : ℕ) → IsCutLeaf first q → IsLiftedIfStored v (Leaf n q))
    → HasEdge v n first
low_edge v n first low leaf = record { double = λ more. absurd (omega arith); leaf = λ q cut. inl (leaf q cut) }

pub high_edge : (v : LogMemory) (n first : ℕ) → IsInMemory v (Double n) → ((q : ℕ) → IsCutLeaf first q → IsLiftedIfStored v (Leaf n q))
    → HasEdge v n first
high_edge v n first root leaf = record { double = λ more. inl root; leaf = λ q cut. inl (leaf q cut) }

-- ---- so it is in memory, or not stored
module _ (d : DeviceState) (v : LogMemory) (k : CheckpointValue) {m0 : LogMap} (m : LogMap) (is : IsLoose d v k m0 m) where
  pub inside_at : (x : Entry) → IsInMemory v x → is.running.memory.at x ≡ 1
  inside_at x held = (is.running.cached.cached x held.0 held.1).1

  nowhere : {x : Entry} → IsAtAddress (blocks_of v.dirty) (tables_of v) x 0 → is.running.memory.at x ≡ 0
  nowhere {x} at = address_at d k m0 m x 0 is.running at

  below_none : (x : Entry) → is.running.memory.at (parent x) ≡ 0 → is.running.memory.at x ≡ 0
  below_none x none = (reading d.content m is.running.memory _ is.running.laid).no_pointer x none

  ready_at : (x : Entry) → IsLiftedIfStored v x → 0 < is.running.memory.at x → is.running.memory.at x ≡ 1
  ready_at x ready some = elim ready [
    | inl held ↦ inside_at x held
    | inr at ↦ absurd (omega (arith, nowhere at))
  ]

  none_below_root : (n q : ℕ) → 1 ≤ q → is.running.memory.at (Double n) ≡ 0 → is.running.memory.at (Leaf n q) ≡ 0
  none_below_root n zero some none = omega arith
  none_below_root n (suc q) some none = below_none (Leaf n (suc q)) none

  module _ (n : ℕ) {first : ℕ} (edge : HasEdge v n first) where
    pub root_at : 240 < first → 0 < is.running.memory.at (Double n) → is.running.memory.at (Double n) ≡ 1
    root_at more = ready_at (Double n) (edge.double more)

    pub leaf_at : (q : ℕ) → 112 + 128 * q < first → first < 240 + 128 * q → 0 < is.running.memory.at (Leaf n q)
        → is.running.memory.at (Leaf n q) ≡ 1
    leaf_at q from to some = elim (edge.leaf q (record { from = from; to = to })) [
      | inl ready ↦ ready_at (Leaf n q) ready some
      | inr away ↦
          absurd (omega (arith, none_below_root n q away.0 (nowhere away.1)))
    ]
