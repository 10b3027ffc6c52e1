-- A name drafted out of a directory: the last slot comes into the place of its own, and the directory is a slot shorter.
use Rattle.std.specs.Prelude.{◌≡◌, ◌≢◌, ◌<◌, ◌≤◌, ◌+◌, ◌-◌, ℕ, List, [], get_or, Some, None}
use Rattle.std.specs.FinMap.{find}
use Rattle.std.specs.List.{swap_remove}
use Rattle.lfs_model.specs.Encodes.{IsLogMap}
use Rattle.lfs_model.specs.Entry.{Entry}
use Rattle.lfs_model.specs.Objects.{AreLong, AreStoredWhole, IsChangedAt, IsDirectory, byte_in}
use Rattle.lfs_model.specs.Stands.{LogMap}
use Rattle.lfs_model.specs.Tree.{byte_cmp, slot_len, without}
use Rattle.lfs_files.specs.declared.header.Header.{Header}
use Rattle.lfs_files.specs.Files.{AreCounted, FilesState, HasFile, IsApart}
use Rattle.lfs_files.specs.Headers.{FitsHeader, as_header, resized}
use Rattle.lfs_dirs.specs.Directory.{names_at, slot_count, slots_at}

-- the header of a directory that has one slot less
abbrev pub shrunk : Header → Header
shrunk head = resized head (head.size - slot_len head.form)

-- Directory d is a slot shorter, and nothing is behind its end; all other files are as they were.
pub record CutsSlot (m m' : LogMap) (d : ℕ) (head : Header) : Type 0 where
  pub header : m'.header d ≡ Some (as_header (shrunk head))
  pub only : IsChangedAt m d m'
  pub whole : AreStoredWhole m d → AreStoredWhole m' d
  pub ends : (p : ℕ) → head.size - slot_len head.form ≤ p → byte_in m' d p ≡ 0

-- A name that directory d has is gone.
pub record TakesName (m m' : LogMap) (d : ℕ) (head : Header) (name : List ℕ) : Type 0 where
  pub there : find byte_cmp name (names_at m d head) ≢ None
  pub directory : IsDirectory m' d (as_header (shrunk head))
  pub names : names_at m' d (shrunk head) ≡ without byte_cmp name (names_at m d head)

module _ {S D : Type 0} where
  -- the bytes of a slot of directory d
  abbrev pub ReadsSlot : FilesState S D → FilesState S D → ℕ → Header → ℕ → List ℕ → Type 0
  ReadsSlot s s' d head place slot = (m m' : LogMap) → s'.device.keeps_model → s.has m m' → place < slot_count head
      → get_or (slots_at m' d head) place [] ≡ slot

  -- A log map that the draft may change: d is there, apart from what is lost, and may be a slot shorter.
  pub record TakesDrop (s : FilesState S D) (m m' : LogMap) (d : ℕ) (head : Header) : Type 0 where
    pub staged : m.header d ≢ None
    pub there : m'.header d ≡ Some (as_header head)
    pub header : FitsHeader head.kind head.form head.links (head.size - slot_len head.form)
    pub apart : IsApart s.lost d

  -- Directory d is a slot shorter, the last slot being in this place.
  pub record HasDropped (s' : FilesState S D) (m m' : LogMap) (d : ℕ) (head : Header) (place : ℕ) : Type 0 where
    pub map : LogMap
    pub has : s'.has m map
    pub file : HasFile m' d head → CutsSlot m' map d head
    pub slots : HasFile m' d head → slots_at map d (shrunk head) ≡ swap_remove (slots_at m' d head) place []

  -- A draft that cuts the last slot off, and then writes it into another's place if it isn't that one itself. It loses nothing.
  pub record DropsSlot (s s' : FilesState S D) (d : ℕ) (head : Header) (place : ℕ) : Type 0 where
    pub lost : (x : Entry) → s'.lost x ≡ s.lost x
    pub headers : s'.headers ≤ s.headers + 2
    pub blocks : s'.blocks ≤ s.blocks + 2
    pub fits : (m m' : LogMap) → s'.device.keeps_model → s.has m m' → s.fits m → TakesDrop s m m' d head → s'.fits m
    pub has : (m m' : LogMap) → s'.device.keeps_model → s.has m m' → HasDropped s' m m' d head place

  -- The totals with the draft stay those of the log map with it, where directory d was there with its blocks.
  abbrev pub CountsDropped : FilesState S D → FilesState S D → ℕ → Header → Type 0
  CountsDropped s s' d head = (m a b : LogMap) → s'.device.keeps_model → s.has m a → s'.has m b → HasFile a d head → AreLong a d
      → IsLogMap b
      → AreCounted a s.drafted → AreCounted b s'.drafted

  -- The name of a directory is gone.
  pub record HasTaken (s' : FilesState S D) (m m' : LogMap) (d : ℕ) (head : Header) (name : List ℕ) : Type 0 where
    pub map : LogMap
    pub has : s'.has m map
    pub file : HasFile m' d head → CutsSlot m' map d head
    pub names : HasFile m' d head → IsDirectory m' d (as_header head) → TakesName m' map d head name

  -- A draft that drops the slot of a name.
  pub record Takes (s s' : FilesState S D) (d : ℕ) (head : Header) (name : List ℕ) : Type 0 where
    pub place : ℕ
    pub drops : DropsSlot s s' d head place
    pub has : (m m' : LogMap) → s'.device.keeps_model → s.has m m' → HasTaken s' m m' d head name
