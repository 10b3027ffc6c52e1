-- An object drafted before it has a name.
use Rattle.std.specs.Prelude.{◌≡◌, ◌≤◌, ℕ, Bool, true, false, List, [], length, Some, None}
use Rattle.lfs_model.specs.declared.Kind.{Kind}
use Rattle.lfs_model.specs.declared.Kind.TheVariants as kind
use Rattle.lfs_model.specs.declared.limits.TheConstants.{LARGEST_FILE}
use Rattle.lfs_model.specs.Encodes.{IsLogMap}
use Rattle.lfs_model.specs.Entry.{Entry}
use Rattle.lfs_model.specs.Objects.{AreStoredWhole, IsChangedAt, byte_in}
use Rattle.lfs_model.specs.PathText.{text_refusal}
use Rattle.lfs_model.specs.Stands.{LogMap}
use Rattle.lfs_model.specs.TreeOf.{object}
use Rattle.lfs_files.specs.declared.header.Header.{Header}
use Rattle.lfs_files.specs.Files.{AreCounted, FilesState, IsApart}
use Rattle.lfs_files.specs.Headers.{FitsHeader, as_header, first_header}
use Rattle.lfs_entries.specs.declared.new_object.NewObject.{NewObject}
use Rattle.lfs_entries.specs.declared.new_object.NewObject.TheVariants as new

-- what a new object is: an empty file, an empty directory of this form, or a link with this text
pub data NewKind : Type 0 where
  new_file : NewKind
  new_directory : ℕ → NewKind
  new_link : List ℕ → NewKind

abbrev pub new_kind : NewObject → NewKind
new_kind new.File = new_file
new_kind (new.Directory form) = new_directory form
new_kind (new.Link text) = new_link text.now

abbrev pub kind_of_new : NewKind → Kind
kind_of_new new_file = kind.File
kind_of_new (new_directory form) = kind.Directory
kind_of_new (new_link text) = kind.Link

abbrev pub makes_directory : NewKind → Bool
makes_directory new_file = false
makes_directory (new_directory form) = true
makes_directory (new_link text) = false

-- the form of its header
abbrev pub form_of_new : NewKind → ℕ
form_of_new new_file = 0
form_of_new (new_directory form) = form
form_of_new (new_link text) = 0

-- its bytes
abbrev pub text_of_new : NewKind → List ℕ
text_of_new new_file = []
text_of_new (new_directory form) = []
text_of_new (new_link text) = text

-- its first header
abbrev pub new_header : NewKind → Header
new_header k = first_header (kind_of_new k) (form_of_new k) (length (text_of_new k))

-- the text of a link is one that no call refuses
abbrev pub IsGood : NewKind → Type 0
IsGood new_file = Unit {0}
IsGood (new_directory form) = Unit {0}
IsGood (new_link text) = text_refusal text ≡ None

-- Object n, which wasn't there, is made with its bytes, and without a name.
pub record IsMade (m : LogMap) (n : ℕ) (k : NewKind) (m1 : LogMap) : Type 0 where
  pub own : m1.header n ≡ Some (as_header (new_header k))
  pub changed : IsChangedAt m n m1
  pub bytes : object m1 n (as_header (new_header k)) ≡ text_of_new k
  pub small : length (text_of_new k) ≤ LARGEST_FILE
  pub whole : AreStoredWhole m1 n
  pub ends : (p : ℕ) → length (text_of_new k) ≤ p → byte_in m1 n p ≡ 0

module _ {S D : Type 0} where
  -- The log map may be changed so: no object has the number, and an inode may say the header.
  pub record TakesObject (s : FilesState S D) (m' : LogMap) (n : ℕ) (k : NewKind) : Type 0 where
    pub free : m'.header n ≡ None
    pub apart : IsApart s.lost n
    pub header : FitsHeader (kind_of_new k) (form_of_new k) (new_header k).links (length (text_of_new k))

  -- With the draft there is another log map, where the object is made, if no object had the number.
  pub record HasObject (s' : FilesState S D) (m m' : LogMap) (n : ℕ) (k : NewKind) : Type 0 where
    pub map : LogMap
    pub has : s'.has m map
    pub made : IsLogMap m' → m'.header n ≡ None → IsMade m' n k map

  -- A draft that makes it, and loses nothing.
  pub record DraftsObject (s s' : FilesState S D) (n : ℕ) (k : NewKind) : Type 0 where
    pub lost : (x : Entry) → s'.lost x ≡ s.lost x
    pub fits : (m m' : LogMap) → s.has m m' → s.fits m → TakesObject s m' n k → s'.fits m
    pub has : (m m' : LogMap) → s'.device.keeps_model → s.has m m' → HasObject s' m m' n k

  -- The totals with the draft stay those of the log map with it, where no object had the number.
  abbrev pub CountsObject : FilesState S D → FilesState S D → ℕ → Type 0
  CountsObject s s' n = (m a b : LogMap) → s'.device.keeps_model → s.has m a → s'.has m b → IsLogMap a → IsLogMap b → a.header n ≡ None
      → AreCounted a s.drafted → AreCounted b s'.drafted
