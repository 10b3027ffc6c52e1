-- What a search for a name in a directory answers.
use Rattle.std.specs.Prelude.{◌≡◌, ◌<◌, ◌≤◌, ◌+◌, ◌*◌, ℕ, List, true, Option, Some, None, Result, IsErrOf}
use Rattle.std.specs.FinMap.{find}
use Rattle.lfs_model.specs.Fields.{part}
use Rattle.lfs_model.specs.Objects.{IsDirectory}
use Rattle.lfs_model.specs.Slot.{slot_in}
use Rattle.lfs_model.specs.Stands.{LogMap}
use Rattle.lfs_model.specs.Tree.{byte_cmp, slot_len}
use Rattle.lfs_files.specs.declared.header.Header.{Header}
use Rattle.lfs_files.specs.declared.fault.LogFault.TheVariants as log_fault
use Rattle.lfs_files.specs.declared.fault.StoreFault.{StoreFault}
use Rattle.lfs_files.specs.declared.fault.StoreFault.TheVariants.{Log}
use Rattle.lfs_files.specs.Files.{FilesState, Reads}
use Rattle.lfs_files.specs.Headers.{as_header}
use Rattle.lfs_dirs.specs.declared.searching.Found.{Found}
use Rattle.lfs_dirs.specs.Directory.{names_at, per_block, slot_count}

-- One of the first slots of a block isn't a slot.
pub record HasNoSlot (form : ℕ) (block : List ℕ) (count : ℕ) : Type 0 where
  pub place : ℕ
  pub inside : place < count
  pub none : slot_in form (part (slot_len form * place) (slot_len form) block) ≡ None

-- the number that a name gives
abbrev pub value_of : Option Found → Option ℕ
value_of None = None
value_of (Some found) = Some found.number.value

module _ {S D : Type 0} (s s' : FilesState S D) where
  -- what the name gives in directory d, if it is there
  abbrev pub Finds : ℕ → Header → List ℕ → Option Found → Type 0
  Finds d head name found = (m m' : LogMap) → s'.device.keeps_model → s.has m m' → value_of found ≡ find byte_cmp name (names_at m' d head)

  -- a call of the device failed, where d is a directory
  abbrev pub IsDirectoryFault : ℕ → Header → Type 0
  IsDirectoryFault d head = (m m' : LogMap) → s'.device.keeps_model → s.has m m' → IsDirectory m' d (as_header head)
      → s.device.failures < s'.device.failures

  -- the same where d has so many slots in this block
  abbrev pub IsBlockFault : ℕ → ℕ → ℕ → ℕ → Type 0
  IsBlockFault form d index count = (m m' : LogMap) → s'.device.keeps_model → s.has m m' → (head : Header) → head.form ≡ form
      → per_block form * index + count ≤ slot_count head → IsDirectory m' d (as_header head) → s.device.failures < s'.device.failures

  -- What gathers bytes of files only reads them. A halted log says so, and none is full.
  pub record GathersOnly {A : Type 0} (result : Result A StoreFault) : Type 0 where
    pub reads : Reads s s'
    pub halted : IsErrOf result (Log log_fault.Halted) → s.halted ≡ true
    pub other : IsErrOf result (Log log_fault.Full) → ⊥
