-- What a search for the slot of a name answers.
use Rattle.std.specs.Prelude.{◌≡◌, ◌<◌, ◌≤◌, ◌+◌, ◌-◌, ◌*◌, ℕ, List, [], length, take, drop, get_or, min, true, Option, Some, None, Result}
use Rattle.std.specs.Prelude.{IfOk, IfSome, IsErrOf, OnErr}
use Rattle.std.specs.FinMap.{find}
use Rattle.lfs_model.specs.Objects.{IsDirectory}
use Rattle.lfs_model.specs.Slot.{slot_in}
use Rattle.lfs_model.specs.Stands.{LogMap}
use Rattle.lfs_model.specs.Tree.{byte_cmp}
use Rattle.lfs_model.specs.TreeOf.{map_of}
use Rattle.lfs_files.specs.declared.header.Header.{Header}
use Rattle.lfs_files.specs.Headers.{as_header}
use Rattle.lfs_files.specs.declared.fault.LogFault.{LogFault}
use Rattle.lfs_files.specs.declared.fault.LogFault.TheVariants.{Full, Halted}
use Rattle.lfs_files.specs.Files.{FilesState, Reads}
use Rattle.lfs_dirs.specs.declared.searching.Found.{Found}
use Rattle.lfs_dirs.specs.Directory.{per_block, slot_count, slots_at}
use Rattle.lfs_dirs.specs.Finding.{IsDirectoryFault}

-- One of the slots has the name, and what it gives is what some of them give.
pub record IsSlotAmong (form : ℕ) (slots some : List (List ℕ)) (name : List ℕ) (found : Found) : Type 0 where
  pub gives : find byte_cmp name (map_of form some) ≡ Some found.number.value
  pub inside : found.place < length slots
  pub slot : slot_in form (get_or slots found.place []) ≡ Some record { number = found.number.value; name = name }

abbrev pub FindsAmong : ℕ → List (List ℕ) → List (List ℕ) → List ℕ → Option Found → Type 0
FindsAmong form slots some name None = find byte_cmp name (map_of form some) ≡ None
FindsAmong form slots some name (Some found) = IsSlotAmong form slots some name found

-- Among slots this one has the name, and what it gives is what they give.
abbrev pub IsSlotOf : ℕ → List (List ℕ) → List ℕ → Found → Type 0
IsSlotOf form slots = IsSlotAmong form slots slots

abbrev pub FindsIn : ℕ → List (List ℕ) → List ℕ → Option Found → Type 0
FindsIn form slots = FindsAmong form slots slots

-- how many slots of a directory stand in the block of this index
abbrev pub count_in_nth : Header → ℕ → ℕ
count_in_nth head index = min (slot_count head - per_block head.form * index) (per_block head.form)

-- those slots of directory d
abbrev pub slots_in_nth : LogMap → ℕ → Header → ℕ → List (List ℕ)
slots_in_nth m d head index = take (count_in_nth head index) (drop (per_block head.form * index) (slots_at m d head))

module _ {S D : Type 0} (s s' : FilesState S D) where
  -- among so many of directory d's slots, from the first of a block on
  abbrev pub FindsInBlock : ℕ → ℕ → ℕ → ℕ → List ℕ → Option Found → Type 0
  FindsInBlock form d index count name found = (m m' : LogMap) → s'.device.keeps_model → s.has m m' → (head : Header) → head.form ≡ form
      → per_block form * index + count ≤ slot_count head
      → FindsIn form (take count (drop (per_block form * index) (slots_at m' d head))) name found

  -- among those that stand in a block
  abbrev pub FindsInNth : ℕ → Header → ℕ → List ℕ → Option Found → Type 0
  FindsInNth d head index name found = (m m' : LogMap) → s'.device.keeps_model → s.has m m'
      → FindsAmong head.form (slots_at m' d head) (slots_in_nth m' d head index) name found

  -- among all of them
  abbrev pub FindsSlot : ℕ → Header → List ℕ → Option Found → Type 0
  FindsSlot d head name found = (m m' : LogMap) → s'.device.keeps_model → s.has m m' → FindsIn head.form (slots_at m' d head) name found

  -- the slot of a name, where d is a directory
  abbrev pub FindsName : ℕ → Header → List ℕ → Found → Type 0
  FindsName d head name found = (m m' : LogMap) → s'.device.keeps_model → s.has m m' → IsDirectory m' d (as_header head)
      → IsSlotOf head.form (slots_at m' d head) name found

  -- A search for a slot of directory d only reads. Where it fails, a call of the device did, if d is a directory; a halted log says so, and
  -- none is full.
  pub record SearchesOnly (d : ℕ) (head : Header) (result : Result (Option Found) LogFault) : Type 0 where
    pub reads : Reads s s'
    pub inside : IfOk result (λ found. IfSome found (λ slot. slot.place < slot_count head))
    pub failed : OnErr result (IsDirectoryFault s s' d head)
    pub halted : IsErrOf result Halted → s.halted ≡ true
    pub other : IsErrOf result Full → ⊥
