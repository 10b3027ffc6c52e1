-- Another number drafted for a name of a directory.
use Rattle.std.specs.Prelude.{◌≡◌, ◌≢◌, ◌*◌, ℕ, List, None}
use Rattle.std.specs.FinMap.{find, put}
use Rattle.lfs_model.specs.Objects.{IsDirectory}
use Rattle.lfs_model.specs.Stands.{LogMap}
use Rattle.lfs_model.specs.Tree.{byte_cmp, slot_len}
use Rattle.lfs_files.specs.declared.header.Header.{Header}
use Rattle.lfs_files.specs.Files.{FilesState, Writes, WritesFile}
use Rattle.lfs_files.specs.Headers.{as_header}
use Rattle.lfs_dirs.specs.Adding.{slot_for}
use Rattle.lfs_dirs.specs.Directory.{names_at}

-- A name that directory d has gives another number.
pub record RepointsName (m m' : LogMap) (d : ℕ) (head : Header) (n : ℕ) (name : List ℕ) : Type 0 where
  pub there : find byte_cmp name (names_at m d head) ≢ None
  pub directory : IsDirectory m' d (as_header head)
  pub names : names_at m' d head ≡ put byte_cmp name n (names_at m d head)

module _ {S D : Type 0} where
  -- A slot of directory d is another; where it is a directory, the name gives that number.
  pub record HasRepointed (s' : FilesState S D) (m m' : LogMap) (d : ℕ) (head : Header) (place n : ℕ) (name : List ℕ) : Type 0 where
    pub map : LogMap
    pub has : s'.has m map
    pub file : WritesFile m' map d head head (slot_len head.form * place) (slot_for head.form n name)
    pub names : IsDirectory m' d (as_header head) → RepointsName m' map d head n name

  -- A draft that writes a slot of directory d anew.
  pub record Repoints (s s' : FilesState S D) (d : ℕ) (head : Header) (n : ℕ) (name : List ℕ) : Type 0 where
    pub place : ℕ
    pub writes : Writes s s' d head (slot_len head.form * place) (slot_for head.form n name)
    pub has : (m m' : LogMap) → s'.device.keeps_model → s.has m m' → HasRepointed s' m m' d head place n name

  -- Directory d doesn't have the name.
  abbrev pub Lacks : FilesState S D → FilesState S D → ℕ → Header → List ℕ → Type 0
  Lacks s s' d head name = (m m' : LogMap) → s'.device.keeps_model → s.has m m' → find byte_cmp name (names_at m' d head) ≡ None
