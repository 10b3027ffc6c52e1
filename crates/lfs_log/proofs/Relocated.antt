-- Blocks that come into memory from where they stand: what calls one after the other do.
use Rattle.std.proofs.Common.{◌≡◌, ℕ, Some, refl, ◌∙◌, ap, arith}
use Rattle.lfs_model.specs.Device.{DeviceState, IsLawful}
use Rattle.lfs_model.specs.Entry.{Entry, Data, Leaf, Double, Inode, Map, Usage}
use Rattle.lfs_model.specs.Memory.{parent, file_of}
use Rattle.lfs_model.specs.Staging.{IsAtAddress}
use Rattle.lfs_model.proofs.Entries.{data_below, leaf_below, double_below}
use Rattle.lfs_model.proofs.Replacing.{address_at}
use Rattle.lfs_memory.specs.inodes.Blocks.{blocks_of}
use Rattle.lfs_memory.specs.inodes.MapValue.{address_in}
use Rattle.lfs_memory.specs.declared.memory.LogMemory.{LogMemory}
use Rattle.lfs_memory.specs.Lifting.{Gathers, Prepares}
use Rattle.lfs_memory.specs.Memory.{IsMemory, tables_of}
use Rattle.lfs_memory.specs.Present.{FailsFromDevice, Looks}
use Rattle.lfs_memory.proofs.Gathered.{gathers_looks, gathers_then}
use Rattle.lfs_memory.proofs.Presents.{inode_at, looks_then}
use Rattle.lfs_log.specs.Relocating.{IsNoBlock, Relocates}

-- ---- one call after the other
pub relocates_looks : {d d' : DeviceState} (v : LogMemory) → IsMemory v → Looks d d' → Relocates d d' v v
relocates_looks {d} {d'} v memory looks = record {
  looks = looks;
  memory = memory;
  segments = refl;
  clean = refl;
  chunk = refl;
  capacity = refl;
  stay = λ x there. there;
  gathers = gathers_looks looks;
}

pub relocates_of : {d d' : DeviceState} {v v' : LogMemory} {n : ℕ} → Prepares d d' v v' n → Gathers d d' v v' → Relocates d d' v v'
relocates_of one gathers = record {
  looks = one.looks;
  memory = one.memory;
  segments = one.segments;
  clean = one.clean;
  chunk = one.chunk;
  capacity = one.capacity;
  stay = one.stay;
  gathers = gathers;
}

pub relocates_then : {a b c : DeviceState} {v v' v'' : LogMemory} → IsLawful a → Relocates a b v v' → Relocates b c v' v''
    → Relocates a c v v''
relocates_then {a} {b} {c} {v} {v'} {v''} lawful one two = record {
  looks = looks_then lawful one.looks two.looks;
  memory = two.memory;
  segments = two.segments ∙ one.segments;
  clean = two.clean ∙ one.clean;
  chunk = two.chunk ∙ one.chunk;
  capacity = two.capacity ∙ one.capacity;
  stay = λ x there. two.stay x (one.stay x there);
  gathers = gathers_then two.looks.carries.kept_before one.gathers two.gathers;
}

pub relocated_excused : (a b c : DeviceState) (v : LogMemory) {v' : LogMemory} → Relocates a b v v' → Looks b c → FailsFromDevice b c v'
    → FailsFromDevice a c v
relocated_excused a b c v one two failed k m0 m keeps is =
    let rose = failed k m0 m keeps (one.gathers.traces k m0 m (two.carries.kept_before keeps) is).0 in
    let before = one.looks.carries.failures in
    omega (arith, rose, before)

-- ---- where a block of a file stands
pub top_inode : (x : Entry) {f : ℕ} → file_of x ≡ Some f → parent x ≡ x → x ≡ Inode f
top_inode (Data n i) file top = absurd (data_below n i top)
top_inode (Leaf n q) file top = absurd (leaf_below n q top)
top_inode (Double n) file top = absurd (double_below n top)
top_inode (Inode n) {f} file top = let same : n ≡ f = cc in ap Inode same
top_inode (Map j) file top = absurd (cc)
top_inode (Usage j) file top = absurd (cc)

-- ---- a block that isn't stored
pub no_inode_there : (d : DeviceState) (v : LogMemory) (x : Entry) {f : ℕ} → file_of x ≡ Some f → parent x ≡ x → address_in v.map f ≡ 0
    → IsNoBlock d v x
no_inode_there d v x {f} file top none k m0 m keeps is = ap is.running.memory.at (top_inode x file top) ∙ inode_at d v k m0 m is f ∙ none

pub no_pointer_there : (d : DeviceState) (v : LogMemory) (x : Entry) → IsAtAddress (blocks_of v.dirty) (tables_of v) x 0 → IsNoBlock d v x
no_pointer_there d v x at k m0 m keeps is =
    address_at d k m0 m x 0 is.running at
