-- What walks tell of files: of the tree of each log map that is staged, with the draft.
use Rattle.std.specs.Prelude.{◌≡◌, ◌<◌, true, Result, IsErrOf}
use Rattle.lfs_model.specs.Refusal as model
use Rattle.lfs_model.specs.Refusal.{Refusal}
use Rattle.lfs_model.specs.Stands.{LogMap}
use Rattle.lfs_model.specs.Tree.{Tree}
use Rattle.lfs_model.specs.TreeOf.{tree_in}
use Rattle.lfs_model.specs.Walk.{End, Refused}
use Rattle.lfs_files.specs.declared.fault.LogFault.TheVariants as log_fault
use Rattle.lfs_files.specs.Files.{FilesState, Reads}
use Rattle.lfs_path.specs.declared.walk_fault.WalkFault.{WalkFault}
use Rattle.lfs_path.specs.declared.walk_fault.WalkFault.TheVariants.{NoEntry, NotDir, NameTooLong, Inval, Loop, NoMemory, Log}

-- by what a fault is: the log gave no answer, or a refusal; nothing is said where memory was refused
abbrev pub ByFault : WalkFault → Type 0 → (Refusal → Type 0) → Type 0
ByFault NoEntry failed refused = refused model.NoEntry
ByFault NotDir failed refused = refused model.NotDir
ByFault NameTooLong failed refused = refused model.NameTooLong
ByFault Inval failed refused = refused model.Inval
ByFault Loop failed refused = refused model.Loop
ByFault NoMemory failed refused = Unit {0}
ByFault (Log fault) failed refused = failed

module _ {S D : Type 0} (s s' : FilesState S D) where
  -- where P holds of the log map, so does Q
  abbrev pub Tells : (LogMap → Type 0) → (LogMap → Type 0) → Type 0
  Tells P Q = (m m' : LogMap) → s'.device.keeps_model → s.has m m' → P m' → Q m'

  -- a call of the device failed
  abbrev pub TellsFault : (LogMap → Type 0) → Type 0
  TellsFault P = Tells P (λ m. s.device.failures < s'.device.failures)

  -- The walk ends refused; or there is no answer, since a call of the device failed.
  abbrev pub TellsRefusal : (LogMap → Type 0) → (Tree → End → Type 0) → WalkFault → Type 0
  TellsRefusal P W fault = ByFault fault (TellsFault P) (λ r. Tells P (λ m. W (tree_in m) (Refused r)))

  -- A part of a walk only reads. A halted log says so, and none is full.
  pub record WalksOnly {A : Type 0} (result : Result A WalkFault) : Type 0 where
    pub reads : Reads s s'
    pub halted : IsErrOf result (Log log_fault.Halted) → s.halted ≡ true
    pub other : IsErrOf result (Log log_fault.Full) → ⊥
