-- What calls keep that only read, whatever they answer, and what they say of the content that they read.
-- All of it is an own choice.
use Rattle.std.specs.Prelude.{◌≡◌, ◌<◌, ℕ, List, length, Result, OnOk, OnErr, IfErr, IsErrOf}
use Rattle.lfs_model.specs.Checkpoint.{CheckpointValue}
use Rattle.lfs_model.specs.Content.{Content}
use Rattle.lfs_model.specs.Device.{DeviceState}
use Rattle.lfs_verify.specs.Codes.{FaultIs}
use Rattle.lfs_verify.specs.Take.{Looks, ReadsContent}
use Rattle.lfs_verify.specs.declared.fault.WalkFault.{WalkFault}
use Rattle.lfs_verify.specs.declared.fault.WalkFault.TheVariants.{Device}

-- It only reads, and no call of the device failed where it is Ok.
pub record OnlyLooks {T E : Type 0} (old new : DeviceState) (result : Result T E) : Type 0 where
  pub no_failure : OnOk result (new.failures ≡ old.failures)
  pub looks : Looks old new

-- and one failed where it is Err
pub record LooksOrFails {T E : Type 0} (old new : DeviceState) (result : Result T E) : Type 0 where
  pub failed : OnErr result (old.failures < new.failures)
  pub no_failure : OnOk result (new.failures ≡ old.failures)
  pub looks : Looks old new

-- A step of the walk: the same, and its table keeps its length.
pub record Steps {T E : Type 0} (old new : DeviceState) (table table' : List ℕ) (result : Result T E) : Type 0 where
  pub len : length table' ≡ length table
  pub failed : OnErr result (old.failures < new.failures)
  pub no_failure : OnOk result (new.failures ≡ old.failures)
  pub looks : Looks old new

-- Stages of the walk: it only reads, a call failed where it says so and none where it is Ok, and damage is of a stage of the walk.
pub record Walks {T : Type 0} (old new : DeviceState) (result : Result T WalkFault) : Type 0 where
  pub low : IfErr result (λ e. (code : ℕ) → FaultIs e code → code < 10)
  pub failed : IsErrOf result Device → old.failures < new.failures
  pub no_failure : OnOk result (new.failures ≡ old.failures)
  pub looks : Looks old new

-- Both tables of segments keep their length.
pub record KeepsTables (used_old used_new live_old live_new : List ℕ) : Type 0 where
  pub used : length used_new ≡ length used_old
  pub live : length live_new ≡ length live_old

-- this holds of the content that was read
abbrev pub OfContent : DeviceState → DeviceState → (Content → Type 0) → Type 0
OfContent old new P = (c : Content) → ReadsContent old new c → P c

-- and this by each checkpoint
abbrev pub OfWalk : DeviceState → DeviceState → (Content → CheckpointValue → Type 0) → Type 0
OfWalk old new P = (c : Content) (k : CheckpointValue) → ReadsContent old new c → P c k
