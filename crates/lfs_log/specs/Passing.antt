-- How a pass of the cleaner over some segments ends, from the memory of a log to that of the pass.
use Rattle.std.specs.Prelude.{◌≡◌, ◌<◌, ◌≤◌, ◌+◌, ◌*◌, ℕ, List, [], length, sum_by, Result, OnOk, OnErr, IsErrOf}
use Rattle.lfs_model.specs.Checkpoint.{CheckpointValue, shape_of}
use Rattle.lfs_model.specs.Device.{DeviceState, Carries}
use Rattle.lfs_model.specs.Encodes.{IsLogMap}
use Rattle.lfs_model.specs.Members.{IsIn}
use Rattle.lfs_model.specs.Stands.{LogMap}
use Rattle.lfs_model.specs.Totals.{meta_in}
use Rattle.lfs_model.specs.TreeOf.{dropped}
use Rattle.lfs_memory.specs.segments.Early.{AreUntaken}
use Rattle.lfs_memory.specs.segments.Table.{used_of, clean_in}
use Rattle.lfs_memory.specs.segments.Victims.{load_of}
use Rattle.lfs_memory.specs.files.declared.fault.LogFault.{LogFault}
use Rattle.lfs_memory.specs.files.declared.fault.LogFault.TheVariants as fault
use Rattle.lfs_memory.specs.declared.memory.LogMemory.{LogMemory}
use Rattle.lfs_memory.specs.Memory.{IsLog, IsMemory, Quiet}
use Rattle.lfs_log.specs.Cleaning.{most_brought}
use Rattle.lfs_log.specs.Moving.{Anywhere, WhereLog}
use Rattle.lfs_log.specs.Publishing.{IsAcknowledged, LeavesEither}
use Rattle.lfs_log.specs.Saving.{CommitFailsIn, pass_orders}

-- The memory of a pass gets the log's tables, and has no block and no chunk.
pub record BeginsPass (v pass pass' : LogMemory) : Type 0 where
  pub map : pass'.map ≡ v.map
  pub usage : pass'.usage ≡ v.usage
  pub nothing : pass'.dirty.blocks ≡ []
  pub closed : pass'.chunk.names ≡ []
  pub capacity : pass'.dirty.capacity ≡ pass.dirty.capacity

-- It is done: all that lived there stands elsewhere and is saved, no segment of them has a block any more, and fewer were taken than these.
pub record CleansIn (d d' : DeviceState) (v v' : LogMemory) (vs : List ℕ) (version number : ℕ) : Type 0 where
  pub carries : Carries d d'
  pub memory : IsMemory v'
  pub chunk : v'.chunk.names ≡ []
  pub dirty : v'.dirty.blocks ≡ []
  pub untaken : AreUntaken v'.usage
  pub segments : length v'.usage.segments ≡ length v.usage.segments
  pub gains : clean_in v.usage.segments < clean_in v'.usage.segments
  pub many : length v'.usage.segments ≤ 8 * clean_in v'.usage.segments
  pub cleaned : (s : ℕ) → IsIn vs s → used_of v'.usage s ≡ 0
  pub no_failure : d'.failures ≡ d.failures
  pub log : (k : CheckpointValue) (m0 m : LogMap) → d'.keeps_model → IsAcknowledged d v version number k m0 m
      → (next : CheckpointValue) × (next.number ≡ number + 1) × IsLog d' v' next (dropped m) m × (shape_of next ≡ shape_of k)
  pub moment : LeavesEither d d' v version number

-- It is refused: what memory and device hold stays, and a stop leaves what is acknowledged.
pub record StaysIn (d d' : DeviceState) (v : LogMemory) : Type 0 where
  pub carries : Carries d d'
  pub log : (k : CheckpointValue) (m0 m : LogMap) → d'.keeps_model → IsLog d v k m0 m → IsLog d' v k m0 m
  pub quiet : Quiet d d' v

-- the blocks of these segments, with all inodes and blocks of pointers, are more than a pass over so many brings
abbrev pub Overfill : DeviceState → DeviceState → LogMemory → List ℕ → Type 0
Overfill d d' v vs = (k : CheckpointValue) (m0 m : LogMap) → d'.keeps_model → IsLog d v k m0 m → IsLogMap m
    → most_brought (length vs) < sum_by (load_of v.usage) vs + meta_in m

-- How it ends.
pub record EndsPass {T : Type 0} (d d' : DeviceState) (v v' : LogMemory) (vs : List ℕ) (version number : ℕ)
    (result : Result T LogFault) : Type 0 where
  pub done : OnOk result (CleansIn d d' v v' vs version number)
  pub stays : (IsErrOf result fault.Halted → ⊥) → OnErr result (StaysIn d d' v)
  pub full : IsErrOf result fault.Full → Overfill d d' v vs
  pub failed : IsErrOf result fault.Device → WhereLog d d' v Anywhere (λ M. d.failures < d'.failures)
  pub halted : IsErrOf result fault.Halted → CommitFailsIn (pass_orders (length v.usage.segments)) d d' v version number
  pub told : length d'.told ≤ length d.told + pass_orders (length v.usage.segments)
