-- Where a block of a file stands: what the block above it says, from the inode map down.
use Rattle.std.proofs.Common.{◌≡◌, ◌<◌, ◌≤◌, ◌⊎◌, ℕ, List, Some, sym, ◌∙◌, ap, arith, zero, suc}
use Rattle.std.proofs.Common.{inl, inr}
use Rattle.lfs_model.specs.Checkpoint.{CheckpointValue}
use Rattle.lfs_model.specs.Content.{Content}
use Rattle.lfs_model.specs.Device.{DeviceState}
use Rattle.lfs_model.specs.Entry.{Entry, Data, Leaf, Double, Inode, Map, Usage, word}
use Rattle.lfs_model.specs.Memory.{parent, pointer, file_of, IsOfFile}
use Rattle.lfs_model.specs.Stands.{LogMap}
use Rattle.lfs_model.proofs.Entries.{data_below, leaf_below, double_below}
use Rattle.lfs_model.proofs.Reading.{reading}
use Rattle.lfs_inodes.specs.Blocks.{blocks_of}
use Rattle.lfs_inodes.specs.Code.{IsCode, entry_at}
use Rattle.lfs_inodes.specs.MapValue.{address_in}
use Rattle.lfs_inodes.specs.Present.{present}
use Rattle.lfs_inodes.proofs.Moving.{differ}
use Rattle.lfs_memory.specs.declared.memory.LogMemory.{LogMemory}
use Rattle.lfs_memory.specs.Memory.{IsLoose}
use Rattle.lfs_memory.specs.Present.{AnswersAddress, FailsFromDevice, IsMissing, Looks, ShowsWord}
use Rattle.lfs_memory.proofs.Presents.{excused_then, inode_at, is_there, nobody_at, not_missing}

-- ---- the inode
pub top_inode : (x : Entry) {f : ℕ} → file_of x ≡ Some f → parent x ≡ x → x ≡ Inode f
top_inode (Data n i) file top = absurd (data_below n i top)
top_inode (Leaf n q) file top = absurd (leaf_below n q top)
top_inode (Double n) file top = absurd (double_below n top)
top_inode (Inode n) {f} file top = let same : n ≡ f = cc in ap Inode same
top_inode (Map j) file top = cc
top_inode (Usage j) file top = cc

pub located_top : (d : DeviceState) (v : LogMemory) {x : Entry} {f a : ℕ} → file_of x ≡ Some f → parent x ≡ x → a ≡ address_in v.map f
    → AnswersAddress d d v x a
located_top d v {x} {f} file top found k m0 m keeps is = ap is.running.memory.at (top_inode x file top) ∙ inode_at d v k m0 m is f
    ∙ sym found

-- ---- a block below
pub below_above : {c up : ℕ} → IsCode c → IsCode up → c < up → entry_at up ≡ parent (entry_at c) → parent (entry_at c) ≡ entry_at c → ⊥
below_above formed formed_up less named top = differ formed formed_up less (sym top ∙ sym named)

pub located_none : (a b : DeviceState) (v : LogMemory) (x : Entry) {up : Entry} {address : ℕ} → up ≡ parent x → address ≡ 0
    → AnswersAddress a b v up address → AnswersAddress a b v x 0
located_none a b v x named none answer k m0 m keeps is =
    (reading a.content m is.running.memory _ is.running.laid).no_pointer x
    (ap is.running.memory.at (sym named) ∙ answer k m0 m keeps is ∙ none)

module _ {a b c : DeviceState} (v : LogMemory) (up : Entry) {address : ℕ} (one : Looks a b) (two : Looks b c) (file : IsOfFile up)
    (answer : AnswersAddress a b v up address) (some : address ≡ 0 → ⊥) where
  there : 0 < address
  there = omega arith

  pub located_found : {x : Entry} {place found : ℕ} → up ≡ parent x → (parent x ≡ x → ⊥) → ((n q : ℕ) → x ≡ Leaf n q → q ≤ 128)
      → place ≡ pointer x → ShowsWord b c v up address place found → AnswersAddress a c v x found
  located_found {x} named below low at read k m0 m keeps is =
      let stands = answer k m0 m (two.carries.kept_before keeps) is in
      let bytes : read.shown ≡ is.running.memory.bytes (parent x) =
      read.value keeps ∙ ap (λ (e : Content). present e (blocks_of v.dirty) up address) one.untouched.content
      ∙ is_there a v k m0 m is up file stands there ∙ ap is.running.memory.bytes named in
      sym ((reading a.content m is.running.memory _ is.running.laid).pointer x below low
      (omega (arith, ap is.running.memory.at (sym named) ∙ stands)))
      ∙ ap (λ (b : List ℕ). word b (pointer x)) (sym bytes) ∙ ap (word read.shown) (sym at) ∙ sym read.is

  pub located_failed : (c.keeps_model → (b.failures < c.failures) ⊎ IsMissing b.content (blocks_of v.dirty) up address)
      → FailsFromDevice a c v
  located_failed unread k m0 m keeps is = elim (unread keeps) [
    | inl failed ↦ excused_then a b c v one two failed k m0 m keeps is
    | inr missing ↦
        absurd (not_missing a v k m0 m is up file (answer k m0 m (two.carries.kept_before keeps) is) there
        (rw one.untouched.content at missing))
  ]

-- ---- what no file has
module _ (d : DeviceState) (v : LogMemory) (k : CheckpointValue) (m0 m : LogMap) (is : IsLoose d v k m0 m) where
  below_none : (x : Entry) → is.running.memory.at (parent x) ≡ 0 → is.running.memory.at x ≡ 0
  below_none x none = (reading d.content m is.running.memory _ is.running.laid).no_pointer x none

  nobody_double : is.running.memory.at (Double 0) ≡ 0
  nobody_double = below_none (Double 0) (nobody_at d v k m0 m is)

  nobody_leaf : (q : ℕ) → is.running.memory.at (Leaf 0 q) ≡ 0
  nobody_leaf zero = below_none (Leaf 0 0) (nobody_at d v k m0 m is)
  nobody_leaf (suc q) = below_none (Leaf 0 (suc q)) nobody_double

pub no_double : (d : DeviceState) (v : LogMemory) {n : ℕ} → n ≡ 0 → AnswersAddress d d v (Double n) 0
no_double d v none k m0 m keeps is = rw none (nobody_double d v k m0 m is)

pub no_leaf : (d : DeviceState) (v : LogMemory) {n : ℕ} (q : ℕ) → n ≡ 0 → AnswersAddress d d v (Leaf n q) 0
no_leaf d v q none k m0 m keeps is = rw none (nobody_leaf d v k m0 m is q)
