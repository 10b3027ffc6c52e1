-- What leaves a directory as it is, and what an empty one is.
use Rattle.std.specs.Prelude.{◌≡◌, ℕ, []}
use Rattle.lfs_model.specs.Objects.{IsDirectory}
use Rattle.lfs_model.specs.Stands.{LogMap}
use Rattle.lfs_files.specs.declared.header.Header.{Header}
use Rattle.lfs_files.specs.Headers.{as_header}
use Rattle.lfs_dirs.specs.Directory.{names_at, slots_at}

-- Where neither a block of object d nor its size changes, its slots stay, whatever else does.
abbrev pub SlotsStay : Type 0
SlotsStay = (m m' : LogMap) (d : ℕ) (head head' : Header) → ((i : ℕ) → m'.block d i ≡ m.block d i) → head'.form ≡ head.form
    → head'.size ≡ head.size → slots_at m' d head' ≡ slots_at m d head

-- So it stays a directory, and has the names that it had.
abbrev pub DirectoryStays : Type 0
DirectoryStays = (m m' : LogMap) (d : ℕ) (head head' : Header) → ((i : ℕ) → m'.block d i ≡ m.block d i) → head'.form ≡ head.form
    → head'.size ≡ head.size → IsDirectory m d (as_header head)
    → IsDirectory m' d (as_header head') × (names_at m' d head' ≡ names_at m d head)

-- An object of no bytes is a directory of no names.
abbrev pub EmptyDirectory : Type 0
EmptyDirectory = (m : LogMap) (d : ℕ) (head : Header) → head.size ≡ 0 → IsDirectory m d (as_header head) × (names_at m d head ≡ [])
