-- New names drafted, of new objects and of such that have one.
use Rattle.std.specs.Prelude.{◌≡◌, ◌≢◌, ◌<◌, ◌+◌, ℕ, Bool, false, List, length, max, Some, None, if◌then◌else◌}
use Rattle.std.specs.FinMap.{find}
use Rattle.lfs_model.specs.Changing.{IsWithHeader}
use Rattle.lfs_model.specs.Encodes.{IsLogMap}
use Rattle.lfs_model.specs.Entry.{Entry}
use Rattle.lfs_model.specs.Inode.{IsForm}
use Rattle.lfs_model.specs.Objects.{IsDirectory}
use Rattle.lfs_model.specs.Stands.{LogMap}
use Rattle.lfs_model.specs.Tree.{byte_cmp}
use Rattle.lfs_files.specs.declared.header.Header.{Header}
use Rattle.lfs_files.specs.Files.{AreCounted, FilesState, IsApart, WritesFile}
use Rattle.lfs_files.specs.Headers.{FitsHeader, as_header, relinked}
use Rattle.lfs_files.specs.Making.{TakesLinks}
use Rattle.lfs_path.specs.dirs.Adding.{AddsName, grown, slot_for}
use Rattle.lfs_path.specs.dirs.Directory.{names_at}
use Rattle.lfs_entries.specs.NewObjects.{IsMade, NewKind, TakesObject, form_of_new, kind_of_new, makes_directory}

-- the links of a directory that may get a directory more
abbrev pub links_beside : Bool → ℕ → ℕ
links_beside gains links = if gains then links + 1 else links

-- the header of a directory with an object of this kind in it, before it has the name
abbrev pub holder_with : Header → NewKind → Header
holder_with head k = relinked head (links_beside (makes_directory k) head.links)

-- A slot for number n stands behind those of directory d; where none had the name, the directory has one name more.
pub record Names (m m' : LogMap) (d : ℕ) (head : Header) (n : ℕ) (name : List ℕ) : Type 0 where
  pub file : WritesFile m m' d head (grown head) head.size (slot_for head.form n name)
  pub more : IsDirectory m d (as_header head) → find byte_cmp name (names_at m d head) ≡ None → AddsName m m' d head n name

-- Object n isn't there, and directory d is.
pub record LacksObject (m' : LogMap) (d : ℕ) (head : Header) (n : ℕ) : Type 0 where
  pub map : IsLogMap m'
  pub free : m'.header n ≡ None
  pub there : m'.header d ≡ Some (as_header head)

module _ {S D : Type 0} where
  -- Directory d may get this name: it is staged, and apart from what is lost, and an inode may have those links and that size.
  pub record TakesName (s : FilesState S D) (m : LogMap) (d : ℕ) (head : Header) (n : ℕ) (name : List ℕ) : Type 0 where
    pub staged : m.header d ≢ None
    pub apart : IsApart s.lost d
    pub longer : FitsHeader head.kind head.form head.links (max head.size (head.size + length (slot_for head.form n name)))

  -- ---- a new object and its name

  -- With the draft there is another log map: the object is made, d gets a link if it is a directory, and then the name.
  pub record HasEntry (s' : FilesState S D) (m m' : LogMap) (d : ℕ) (head : Header) (n : ℕ) (k : NewKind) (name : List ℕ) : Type 0 where
    pub made : LogMap
    pub linked : LogMap
    pub map : LogMap
    pub has : s'.has m map
    pub object : IsMade m' n k made
    pub links : IsWithHeader made d (Some (as_header (holder_with head k))) linked
    pub same : makes_directory k ≡ false → linked ≡ made
    pub names : Names linked map d (holder_with head k) n name

  -- The log map may be changed so.
  pub record TakesEntry (s : FilesState S D) (m m' : LogMap) (d : ℕ) (head : Header) (n : ℕ) (k : NewKind) (name : List ℕ) : Type 0 where
    pub lacks : LacksObject m' d head n
    pub object : TakesObject s m' n k
    pub linked : 0 < head.links
    pub links : FitsHeader head.kind head.form (holder_with head k).links head.size
    pub named : TakesName s m d (holder_with head k) n name

  -- A draft that makes it, and loses nothing.
  pub record DraftsEntry (s s' : FilesState S D) (d : ℕ) (head : Header) (n : ℕ) (k : NewKind) (name : List ℕ) : Type 0 where
    pub lost : (x : Entry) → s'.lost x ≡ s.lost x
    pub fits : (m m' : LogMap) → s'.device.keeps_model → s.has m m' → s.fits m → TakesEntry s m m' d head n k name → s'.fits m
    pub has : (m m' : LogMap) → s'.device.keeps_model → s.has m m' → LacksObject m' d head n → HasEntry s' m m' d head n k name

  -- The totals with the draft stay those of the log map with it.
  abbrev pub CountsEntry : FilesState S D → FilesState S D → ℕ → Header → ℕ → NewKind → Type 0
  CountsEntry s s' d head n k = (m a b : LogMap) → s'.device.keeps_model → s.has m a → s'.has m b → LacksObject a d head n
      → IsForm a.version (kind_of_new k) (form_of_new k) → IsLogMap b → AreCounted a s.drafted → AreCounted b s'.drafted

  -- ---- a further name

  -- With the draft there is another log map: object n has a link more, and then directory d the name.
  pub record HasFurther (s' : FilesState S D) (m m' : LogMap) (d : ℕ) (head : Header) (n : ℕ) (object : Header) (name : List ℕ) : Type 0
    where
      pub linked : LogMap
      pub map : LogMap
      pub has : s'.has m map
      pub links : IsWithHeader m' n (Some (as_header (relinked object (object.links + 1)))) linked
      pub names : Names linked map d head n name

  -- The log map may be changed so.
  pub record TakesFurther (s : FilesState S D) (m m' : LogMap) (d : ℕ) (head : Header) (n : ℕ) (object : Header) (name : List ℕ) : Type 0
    where
      pub other : d ≢ n
      pub there : m'.header d ≡ Some (as_header head)
      pub links : TakesLinks s m' n object (object.links + 1)
      pub named : TakesName s m d head n name

  -- A draft that gives it, and loses nothing.
  pub record DraftsName (s s' : FilesState S D) (d : ℕ) (head : Header) (n : ℕ) (object : Header) (name : List ℕ) : Type 0 where
    pub lost : (x : Entry) → s'.lost x ≡ s.lost x
    pub fits : (m m' : LogMap) → s.has m m' → s.fits m → TakesFurther s m m' d head n object name → s'.fits m
    pub has : (m m' : LogMap) → s'.device.keeps_model → s.has m m' → HasFurther s' m m' d head n object name

  -- The totals with the draft stay those of the log map with it, where the object was there.
  abbrev pub CountsName : FilesState S D → FilesState S D → ℕ → Header → Type 0
  CountsName s s' n object = (m a b : LogMap) → s'.device.keeps_model → s.has m a → s'.has m b → IsLogMap a
      → a.header n ≡ Some (as_header object) → IsLogMap b → AreCounted a s.drafted → AreCounted b s'.drafted
