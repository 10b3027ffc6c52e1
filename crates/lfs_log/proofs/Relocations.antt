-- Calls by which a block comes into memory, and how they end.
use Rattle.std.proofs.Common.{◌≡◌, Bool, true, refl}
use Rattle.std.specs.Prelude.{Result, Ok}
use Rattle.lfs_model.specs.Device.{DeviceState}
use Rattle.lfs_model.specs.Entry.{Entry}
use Rattle.lfs_memory.specs.declared.lifting.LiftFault.{LiftFault}
use Rattle.lfs_memory.specs.declared.memory.LogMemory.{LogMemory}
use Rattle.lfs_memory.specs.Lifting.{EndsLifting, IsInMemory}
use Rattle.lfs_memory.specs.Memory.{IsMemory}
use Rattle.lfs_memory.proofs.Presents.{looks_none}
use Rattle.lfs_log.specs.Relocating.{EndsBringing}
use Rattle.lfs_log.proofs.Relocated.{relocates_looks}

-- ---- how lifting ends
module _ {d d' : DeviceState} {v v' : LogMemory} where
  pub lifting_done : {T : Type 0} {x : T} → d'.failures ≡ d.failures
      → (let r : Result T LiftFault = Ok x in EndsLifting d d' v v' r)
  lifting_done same = record { full = λ is. absurd (cc); failed = λ is. absurd (cc); no_failure = same }

-- it is in memory already
pub bringing_none : (d : DeviceState) (v : LogMemory) (x : Entry) → IsMemory v → IsInMemory v x
    → (let r : Result Bool LiftFault = Ok true in EndsBringing d d v v x r)
bringing_none d v x memory there = record {
  relocates = relocates_looks v memory (looks_none d);
  inside = λ _. there;
  none = λ is. absurd (cc);
  ends = lifting_done refl;
}
