-- What a check of a log map's tree says, and why it refuses one.
-- All of it is an own choice.
use Rattle.std.specs.Prelude.{◌≡◌, ◌<◌, ◌≤◌, ℕ, List, Option}
use Rattle.lfs_model.specs.Checkpoint.{CheckpointValue}
use Rattle.lfs_model.specs.Content.{Content}
use Rattle.lfs_model.specs.declared.limits.TheConstants.{FILE_NUMBERS}
use Rattle.lfs_model.specs.Decodes.{IsSized}
use Rattle.lfs_model.specs.Device.{DeviceState}
use Rattle.lfs_model.specs.Stands.{HoldsAt, LogMap}
use Rattle.lfs_model.specs.Totals.{IsCounted}
use Rattle.lfs_model.specs.Tree.{State}
use Rattle.lfs_model.specs.TreeOf.{AreLinks, AreReached, AreSlots, AreTexts, HasSpace, Stands, TreeOf, tree_in}
use Rattle.lfs_model.specs.Volume.{IsTooSmall, IsWithoutCheckpoint}
use Rattle.lfs_files.specs.declared.header.Header.{Header}
use Rattle.lfs_verify.specs.declared.fault.MountFault.{MountFault}
use Rattle.lfs_verify.specs.declared.fault.MountFault.TheVariants.{NoMemory, Device, TooSmall, NoCheckpoint, Damaged}
use Rattle.lfs_verify.specs.declared.tables.Tables.{Tables}
use Rattle.lfs_verify.specs.Faults.{IsFault}
use Rattle.lfs_verify.specs.Loading.{HasTables}
use Rattle.lfs_verify.specs.Verified.{IsDamagedIn}
use Rattle.lfs_tree.specs.Naming.{AreEmpty, NamesValue}
use Rattle.lfs_tree.specs.Objects.{AreNamed}
use Rattle.lfs_tree.specs.Reading.{Leads, Sees, TellsHeaders}

-- the tables of a volume are those of a log map
pub record IsOfLog (c : Content) (k : CheckpointValue) (m : LogMap) (t : Tables) : Type 0 where
  pub leads : Leads c k t.map
  pub segments : k.segments ≡ t.segments
  pub counted : IsCounted m t.data_blocks t.meta_blocks

-- The first of the tree's stages that fails, by its code.
pub data IsTreeDamage (N : ℕ) (m : LogMap) (code : ℕ) : Type 0 where
  slots_fail : code ≡ 10 → (AreSlots m → ⊥) → IsTreeDamage N m code
  texts_fail : code ≡ 11 → AreSlots m → (AreTexts m → ⊥) → IsTreeDamage N m code
  reached_fail : code ≡ 12 → AreSlots m → AreTexts m → (AreReached m → ⊥) → IsTreeDamage N m code
  links_fail : code ≡ 13 → AreSlots m → AreTexts m → AreReached m → (AreLinks m → ⊥) → IsTreeDamage N m code
  space_fail : code ≡ 14 → AreSlots m → AreTexts m → AreReached m → AreLinks m → (HasSpace m N → ⊥) → IsTreeDamage N m code

-- What a fault says: that a call of the device failed, or that there is such damage. No others come.
abbrev pub IsFaultOf : Type 0 → (ℕ → Type 0) → MountFault → Type 0
IsFaultOf failed damage NoMemory = Unit {0}
IsFaultOf failed damage Device = failed
IsFaultOf failed damage TooSmall = ⊥
IsFaultOf failed damage NoCheckpoint = ⊥
IsFaultOf failed damage (Damaged code) = damage code

-- all that the stages of names look at is in tables, and the stages before hold
pub record IsGathered (c : Content) (k : CheckpointValue) (m : LogMap) (headers : List (Option Header)) (names : NamesValue)
    (t : Tables) : Type 0 where
  pub holds : HoldsAt c k m
  pub sized : IsSized c
  pub told : TellsHeaders m headers FILE_NUMBERS
  pub named : AreNamed m headers names FILE_NUMBERS
  pub slots : AreSlots m
  pub texts : AreTexts m
  pub of_log : IsOfLog c k m t

-- a stage of the tree, of this number, is the first that fails
abbrev pub IsDamagedTree : Content → ℕ → Type 0
IsDamagedTree c code = (10 ≤ code) × (code ≤ 14) × IsDamagedIn c code

-- why a tree is refused, by fault
abbrev pub IsRefusedTree : DeviceState → DeviceState → MountFault → Type 0
IsRefusedTree old new = IsFaultOf (old.failures < new.failures) (IsDamagedTree old.content)

-- Of each log map that the device holds, and whose tables these are, this is so, with tables of names that were empty.
abbrev pub OfTables : DeviceState → DeviceState → Tables → NamesValue → (CheckpointValue → LogMap → Type 0) → Type 0
OfTables old new t names P = (k : CheckpointValue) (m : LogMap) → Sees old new k m → IsOfLog old.content k m t → AreEmpty names → P k m

-- ---- a whole volume

-- The content stands for a log map that has its tree, and the tables are those of that map.
pub record HasTree (c : Content) (t : Tables) : Type 0 where
  pub tables : HasTables c t
  pub tree : TreeOf tables.held.checkpoint.segments tables.held.log (tree_in tables.held.log)

-- Why a volume is refused, by fault: a call of the device failed, or this is so of the content that was there. Damage is told by the first
-- of the stages 1 to 15 that fails: 1 to 9 are those of the log, 10 to 14 those of the tree, and with 15 too few segments are clean.
abbrev pub IsRefusedVolume : DeviceState → DeviceState → MountFault → Type 0
IsRefusedVolume old new NoMemory = Unit {0}
IsRefusedVolume old new Device = new.keeps_model → old.failures < new.failures
IsRefusedVolume old new TooSmall = new.keeps_model → IsTooSmall old.content
IsRefusedVolume old new NoCheckpoint = new.keeps_model → IsWithoutCheckpoint old.content
IsRefusedVolume old new (Damaged code) = new.keeps_model → IsDamagedIn old.content code

-- the content stands for no tree
abbrev pub LacksTree : DeviceState → DeviceState → Type 0
LacksTree old new = (s : State) → new.keeps_model → Stands old.content s → ⊥

-- A fault that isn't of memory. Where the content stands for a tree it is Device, and a call of the device failed.
abbrev pub IsTreeFault : DeviceState → DeviceState → MountFault → Type 0
IsTreeFault old new = IsFault ((s : State) → new.keeps_model → Stands old.content s → old.failures < new.failures) (LacksTree old new)
