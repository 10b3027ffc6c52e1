-- A name drafted into a directory: a slot behind its slots.
use Rattle.std.specs.Prelude.{◌≡◌, ◌+◌, ℕ, List, [], ◌∷◌, ◌++◌, length, None}
use Rattle.std.specs.FinMap.{find, put}
use Rattle.lfs_model.specs.Objects.{IsDirectory, WritesBytes}
use Rattle.lfs_model.specs.Slot.{slot_bytes}
use Rattle.lfs_model.specs.Stands.{LogMap}
use Rattle.lfs_model.specs.Tree.{byte_cmp, slot_len}
use Rattle.lfs_files.specs.declared.header.Header.{Header}
use Rattle.lfs_files.specs.Files.{FilesState, Writes, WritesFile}
use Rattle.lfs_files.specs.Headers.{as_header, resized}
use Rattle.lfs_dirs.specs.Directory.{names_at, slots_at}

-- the header of a directory that has one slot more
abbrev pub grown : Header → Header
grown head = resized head (head.size + slot_len head.form)

-- the bytes of the slot that gives number n under a name
abbrev pub slot_for : ℕ → ℕ → List ℕ → List ℕ
slot_for form n name = slot_bytes form record { number = n; name = name }

-- Directory d has one name more.
pub record AddsName (m m' : LogMap) (d : ℕ) (head : Header) (n : ℕ) (name : List ℕ) : Type 0 where
  pub directory : IsDirectory m' d (as_header (grown head))
  pub names : names_at m' d (grown head) ≡ put byte_cmp name n (names_at m d head)

module _ {S D : Type 0} where
  -- A slot stands behind those of directory d; where no slot had the name, it has one name more.
  pub record HasAdded (s' : FilesState S D) (m m' : LogMap) (d : ℕ) (head : Header) (n : ℕ) (name : List ℕ) : Type 0 where
    pub map : LogMap
    pub has : s'.has m map
    pub file : WritesFile m' map d head (grown head) head.size (slot_for head.form n name)
    pub more : IsDirectory m' d (as_header head) → find byte_cmp name (names_at m' d head) ≡ None → AddsName m' map d head n name

  -- A draft that writes it.
  pub record Adds (s s' : FilesState S D) (d : ℕ) (head : Header) (n : ℕ) (name : List ℕ) : Type 0 where
    pub writes : Writes s s' d head head.size (slot_for head.form n name)
    pub has : (m m' : LogMap) → s'.device.keeps_model → s.has m m' → HasAdded s' m m' d head n name

-- ---- laws

-- Bytes of a slot written behind a directory's slots are one slot more.
abbrev pub SlotWritten : Type 0
SlotWritten = (m m' : LogMap) (d : ℕ) (head : Header) (slot : List ℕ) → IsDirectory m d (as_header head) → length slot ≡ slot_len head.form
    → WritesBytes m m' d (as_header head) (as_header (grown head)) head.size slot
    → slots_at m' d (grown head) ≡ slots_at m d head ++ slot ∷ []
