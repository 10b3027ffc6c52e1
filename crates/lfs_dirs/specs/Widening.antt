-- A directory drafted anew in form 1: the slots that it has, each as wide as that form's.
use Rattle.std.specs.Prelude.{◌≡◌, ◌≢◌, ◌≤◌, ◌+◌, ◌*◌, ◌%◌, ℕ, List, [], ◌++◌, drop, take, flat_map, Option, Some, None}
use Rattle.lfs_model.specs.Encodes.{IsLogMap}
use Rattle.lfs_model.specs.Entry.{Entry}
use Rattle.lfs_model.specs.Inode.{IsForm}
use Rattle.lfs_model.specs.Objects.{AreLong, AreStoredWhole, IsChangedAt, IsDirectory, byte_in}
use Rattle.lfs_model.specs.Slot.{SlotValue, slot_bytes, slot_in}
use Rattle.lfs_model.specs.Stands.{LogMap}
use Rattle.lfs_model.specs.Tree.{slot_len}
use Rattle.lfs_files.specs.declared.header.Header.{Header}
use Rattle.lfs_files.specs.Files.{AreCounted, FilesState, HasFile, IsApart, asked_by_directory}
use Rattle.lfs_files.specs.Headers.{FitsHeader, as_header, reformed}
use Rattle.lfs_dirs.specs.Directory.{names_at, per_block, slot_count, slots_at}
use Rattle.lfs_dirs.specs.Listing.{AreSlots}

-- ---- slots

-- what a slot says, in a slot of form 1
abbrev pub wide_slot_of : Option SlotValue → List ℕ
wide_slot_of None = []
wide_slot_of (Some s) = slot_bytes 1 s

abbrev pub wide_slot : ℕ → List ℕ → List ℕ
wide_slot form slot = wide_slot_of (slot_in form slot)

-- the bytes of slots of form 1 that say what these say
abbrev pub wide_bytes : ℕ → List (List ℕ) → List ℕ
wide_bytes form slots = flat_map (wide_slot form) slots

-- the header of a directory that has as many slots, in form 1
abbrev pub wide : Header → Header
wide head = reformed head 1 (slot_len 1 * slot_count head)

-- Behind bytes stand those of these slots, each of which is formed.
pub record AppendsWide (form : ℕ) (slots : List (List ℕ)) (old new : List ℕ) : Type 0 where
  pub bytes : new ≡ old ++ wide_bytes form slots
  pub formed : AreSlots form slots

module _ {S D : Type 0} (s s' : FilesState S D) where
  -- those of one block of directory d
  abbrev pub WidensBlock : ℕ → ℕ → ℕ → ℕ → List ℕ → List ℕ → Type 0
  WidensBlock form d index count old new = (m m' : LogMap) → s'.device.keeps_model → s.has m m' → (head : Header) → head.form ≡ form
      → per_block form * index + count ≤ slot_count head
      → AppendsWide form (take count (drop (per_block form * index) (slots_at m' d head))) old new

  -- all of them
  abbrev pub TellsWide : ℕ → Header → List ℕ → Type 0
  TellsWide d head bytes = (m m' : LogMap) → s'.device.keeps_model → s.has m m' → AppendsWide head.form (slots_at m' d head) [] bytes

-- ---- the directory

-- Object d is a directory of form 1 by its header, and where nothing was behind its end nothing is; all other files are as they were.
pub record WidensFile (m m' : LogMap) (d : ℕ) (head : Header) : Type 0 where
  pub header : m'.header d ≡ Some (as_header (wide head))
  pub only : IsChangedAt m d m'
  pub whole : AreStoredWhole m d → AreStoredWhole m' d
  pub ends : head.size % slot_len head.form ≡ 0 → ((p : ℕ) → head.size ≤ p → byte_in m d p ≡ 0) → (p : ℕ) → (wide head).size ≤ p
      → byte_in m' d p ≡ 0

-- It has the names that it had, and they give what they gave.
pub record WidensNames (m m' : LogMap) (d : ℕ) (head : Header) : Type 0 where
  pub directory : IsDirectory m' d (as_header (wide head))
  pub names : names_at m' d (wide head) ≡ names_at m d head

module _ {S D : Type 0} where
  -- The log map may be changed so: d is there, apart from what is lost, and may have that header.
  pub record TakesWide (s : FilesState S D) (m m' : LogMap) (d : ℕ) (head : Header) : Type 0 where
    pub staged : m.header d ≢ None
    pub there : m'.header d ≡ Some (as_header head)
    pub header : FitsHeader head.kind 1 head.links (slot_len 1 * slot_count head)
    pub apart : IsApart s.lost d

  -- With the draft there is another log map, where d has form 1; where it was a directory, it has its names.
  pub record HasWidened (s' : FilesState S D) (m m' : LogMap) (d : ℕ) (head : Header) : Type 0 where
    pub map : LogMap
    pub has : s'.has m map
    pub file : WidensFile m' map d head
    pub names : IsDirectory m' d (as_header head) → WidensNames m' map d head

  -- A draft that widens directory d. It loses nothing, and behind an empty draft it asks for no more than a full directory does.
  pub record Widens (s s' : FilesState S D) (d : ℕ) (head : Header) : Type 0 where
    pub lost : (x : Entry) → s'.lost x ≡ s.lost x
    pub headers : s'.headers ≤ s.headers + 2
    pub blocks : s'.blocks ≤ s.blocks + 256
    pub asked : s.headers ≡ 0 → s.blocks ≡ 0 → s'.asked ≤ asked_by_directory
    pub fits : (m m' : LogMap) → s.has m m' → s.fits m → TakesWide s m m' d head → s'.fits m
    pub has : (m m' : LogMap) → s'.device.keeps_model → s.has m m' → HasWidened s' m m' d head

  -- The totals with the draft stay those of the log map with it, where d was a directory with its blocks, and the version has form 1.
  abbrev pub CountsWidened : FilesState S D → FilesState S D → ℕ → Header → Type 0
  CountsWidened s s' d head = (m a b : LogMap) → s'.device.keeps_model → s.has m a → s'.has m b → HasFile a d head → AreLong a d
      → IsDirectory a d (as_header head)
      → IsForm a.version head.kind 1 → IsLogMap b → AreCounted a s.drafted → AreCounted b s'.drafted
