-- What verifying a device says of its content.
-- All of it is an own choice.
use Rattle.std.specs.Prelude.{◌≡◌, ◌<◌, ◌≤◌, ◌↔◌, ◌+◌, ◌*◌, ℕ, Bool, true, false, length, Some}
use Rattle.lfs_model.specs.Checkpoint.{CheckpointValue}
use Rattle.lfs_model.specs.Content.{Content, newest}
use Rattle.lfs_model.specs.Damage.{IsDamaged}
use Rattle.lfs_model.specs.Device.{DeviceState}
use Rattle.lfs_model.specs.Reach.{view}
use Rattle.lfs_model.specs.Stands.{EnoughClean, HoldsAt, LogMap, Stages, StandsLog, log_in}
use Rattle.lfs_model.specs.Totals.{IsCounted}
use Rattle.lfs_model.specs.Volume.{IsTooSmall, IsWithoutCheckpoint}
use Rattle.lfs_verify.specs.declared.fault.MountFault.{MountFault}
use Rattle.lfs_verify.specs.declared.fault.MountFault.TheVariants.{NoMemory, Device, TooSmall, NoCheckpoint, Damaged}
use Rattle.lfs_verify.specs.declared.totals.BlockTotals.{BlockTotals}
use Rattle.lfs_verify.specs.declared.verify.FoundLog.{FoundLog}
use Rattle.lfs_verify.specs.Loading.{HoldsTables}

-- the content holds the log map of its newest checkpoint; and whether enough segments are clean
pub record IsVerified (c : Content) (enough : Bool) : Type 0 where
  pub checkpoint : CheckpointValue
  pub newest : newest c ≡ Some checkpoint
  pub size : 2 + 64 * checkpoint.segments ≤ length c
  pub stages : Stages (view c checkpoint)
  pub clean : (enough ≡ true) ↔ EnoughClean (view c checkpoint)

-- this stage is the first that fails for the newest checkpoint
pub record IsDamagedIn (c : Content) (code : ℕ) : Type 0 where
  pub checkpoint : CheckpointValue
  pub newest : newest c ≡ Some checkpoint
  pub size : 2 + 64 * checkpoint.segments ≤ length c
  pub damaged : IsDamaged (view c checkpoint) code

-- with enough clean segments the content stands for that log map
abbrev pub StandsWhereEnough : Type 0
StandsWhereEnough = (c : Content) (enough : Bool) (is : IsVerified c enough) → enough ≡ true → StandsLog c (log_in (view c is.checkpoint))

-- with too few it stands for none
abbrev pub LacksLogMap : Type 0
LacksLogMap = (c : Content) → IsVerified c false → (m : LogMap) → StandsLog c m → ⊥

-- The content holds by this checkpoint the log map that it leads to, and
-- these are the totals of that map; and whether enough segments are clean.
pub record HoldsCounted (c : Content) (k : CheckpointValue) (enough : Bool) (totals : BlockTotals) : Type 0 where
  pub holds : HoldsAt c k (log_in (view c k))
  pub counted : IsCounted (log_in (view c k)) totals.data_blocks totals.meta_blocks
  pub clean : (enough ≡ true) ↔ EnoughClean (view c k)

-- The tables that were found are those of a log map that the content holds; and whether enough segments are clean.
pub record IsFound (c : Content) (found : FoundLog) : Type 0 where
  pub tables : HoldsTables c found.tables
  pub clean : (found.enough_clean ≡ true) ↔ EnoughClean (view c tables.checkpoint)

-- the content that was read stands for a log map
abbrev pub HasLogMap : DeviceState → DeviceState → Type 0
HasLogMap old new = new.keeps_model → (m : LogMap) × StandsLog old.content m

-- the first of the stages 1 to 9 that fails, by its code
abbrev pub IsWalkDamage : Content → ℕ → Type 0
IsWalkDamage c code = (code < 10) × IsDamagedIn c code

-- What a code of damage says of a log: the first of the stages 1 to 9 that fails, or, where these hold, that too few segments are clean.
pub data IsLogDamage (c : Content) (code : ℕ) : Type 0 where
  stage_fails : IsWalkDamage c code → IsLogDamage c code
  lacks_clean : code ≡ 15 → IsVerified c false → IsLogDamage c code

-- Why a device is refused, by fault: a call of it failed, or, if it keeps the model,
-- this is so of the content that was there. What damage is, the first argument says.
abbrev pub IsRefusedFor : (Content → ℕ → Type 0) → DeviceState → DeviceState → MountFault → Type 0
IsRefusedFor damage old new NoMemory = Unit {0}
IsRefusedFor damage old new Device = old.failures < new.failures
IsRefusedFor damage old new TooSmall = new.keeps_model → IsTooSmall old.content
IsRefusedFor damage old new NoCheckpoint = new.keeps_model → IsWithoutCheckpoint old.content
IsRefusedFor damage old new (Damaged code) = new.keeps_model → damage old.content code

-- why it holds no log map
abbrev pub IsRefusedWalk : DeviceState → DeviceState → MountFault → Type 0
IsRefusedWalk = IsRefusedFor IsWalkDamage

-- why it stands for none
abbrev pub IsRefusedLog : DeviceState → DeviceState → MountFault → Type 0
IsRefusedLog = IsRefusedFor IsLogDamage
