-- A name looked up in a directory.
use Rattle.std.specs.Prelude.{◌≡◌, ◌≤◌, ◌<◌, ℕ, List, length, Option, Some, None}
use Rattle.std.specs.FinMap.{find}
use Rattle.lfs_model.specs.declared.Kind.TheVariants as kind
use Rattle.lfs_model.specs.Objects.{IsDirectory}
use Rattle.lfs_model.specs.Stands.{LogMap}
use Rattle.lfs_model.specs.Tree.{byte_cmp, name_len}
use Rattle.lfs_files.specs.declared.header.Header.{Header}
use Rattle.lfs_files.specs.Files.{FilesState}
use Rattle.lfs_files.specs.Headers.{as_header}
use Rattle.lfs_path.specs.dirs.Directory.{names_at}
use Rattle.lfs_path.specs.Seeing.{HasHeader, HasObject}
use Rattle.lfs_path.specs.Telling.{TellsFault}
use Rattle.lfs_entries.specs.declared.entry.Object.{Object}
use Rattle.lfs_entries.specs.declared.fault.EntryFault.{EntryFault}
use Rattle.lfs_entries.specs.declared.fault.EntryFault.TheVariants as fault
use Rattle.lfs_entries.specs.Entries.{number_of}
use Rattle.lfs_entries.specs.Sizes.{IsSmall}
use Rattle.lfs_entries.specs.Telling.{InEach}

-- ---- in a log map

-- Directory d has this header, and a name gives that number in it.
pub record GivesNumber (m : LogMap) (d : ℕ) (name : List ℕ) (head : Header) (found : Option ℕ) : Type 0 where
  pub header : HasHeader d head m
  pub gives : found ≡ find byte_cmp name (names_at m d head)

-- what was found has this header
abbrev pub HasFound : LogMap → Option Object → Type 0
HasFound m None = Unit {0}
HasFound m (Some o) = HasHeader o.number.value o.header m

-- Directory d has this header, and a name gives that object in it.
pub record GivesObject (m : LogMap) (d : ℕ) (name : List ℕ) (head : Header) (found : Option Object) : Type 0 where
  pub looks : GivesNumber m d name head (number_of found)
  pub there : HasFound m found

-- Directory d is as one of a volume: its slots are formed, and each of its names gives an object. It has two links, and one more for each
-- directory in it.
pub record IsHolder (d : ℕ) (m : LogMap) : Type 0 where
  pub there : HasObject d m
  pub formed : (head : Header) → HasHeader d head m → IsDirectory m d (as_header head)
  pub small : (head : Header) → HasHeader d head m → IsSmall head
  pub gives : (head : Header) (name : List ℕ) (n : ℕ) → HasHeader d head m → find byte_cmp name (names_at m d head) ≡ Some n
      → HasObject n m
  pub linked : (head : Header) → HasHeader d head m → 2 ≤ head.links
  pub above : (head sub : Header) (name : List ℕ) (n : ℕ) → HasHeader d head m → find byte_cmp name (names_at m d head) ≡ Some n
      → HasHeader n sub m → sub.kind ≡ kind.Directory → 3 ≤ head.links

-- ---- over files
module _ {S D : Type 0} (s s' : FilesState S D) where
  abbrev pub FindsNumber : ℕ → List ℕ → Header → Option ℕ → Type 0
  FindsNumber d name head found = InEach s s' (λ m. GivesNumber m d name head found)

  abbrev pub FindsName : ℕ → List ℕ → Header → Option Object → Type 0
  FindsName d name head found = InEach s s' (λ m. GivesObject m d name head found)

  -- The name is longer than the form of directory d allows.
  pub record IsTooLong (d : ℕ) (name : List ℕ) : Type 0 where
    pub head : Header
    pub header : InEach s s' (HasHeader d head)
    pub long : name_len head.form < length name

  -- why nothing is told: the name is too long; or, where d is a directory of a volume, a call of the device failed
  abbrev pub RefusesFind : ℕ → List ℕ → EntryFault → Type 0
  RefusesFind d name fault.NameTooLong = IsTooLong d name
  RefusesFind d name (fault.Log f) = TellsFault s s' (IsHolder d)
  RefusesFind d name _ = ⊥
