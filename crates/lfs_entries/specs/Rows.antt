-- What listings tell of the names of a directory.
use Rattle.std.specs.Prelude.{◌≡◌, ℕ, List, [], ◌∷◌}
use Rattle.std.specs.List.{AllByRecursion}
use Rattle.lfs_model.specs.Objects.{IsDirectory}
use Rattle.lfs_model.specs.Stands.{LogMap}
use Rattle.lfs_model.specs.Tree.{Names}
use Rattle.lfs_files.specs.declared.header.Header.{Header}
use Rattle.lfs_files.specs.Headers.{as_header}
use Rattle.lfs_path.specs.dirs.Directory.{names_at}
use Rattle.lfs_path.specs.Seeing.{HasHeader, HasObject}
use Rattle.lfs_entries.specs.declared.rows.ListedEntry.{ListedEntry}
use Rattle.lfs_entries.specs.declared.rows.TreeRow.{TreeRow}
use Rattle.lfs_entries.specs.Reading.{ShowsHead}

-- of each name with its number one thing is told, in their order
abbrev pub AreTold : {T : Type 0} → (List ℕ × ℕ → T → Type 0) → Names → List T → Type 0
AreTold R [] [] = Unit {0}
AreTold R [] (t ∷ ts) = ⊥
AreTold R (p ∷ ps) [] = ⊥
AreTold R (p ∷ ps) (t ∷ ts) = R p t × AreTold R ps ts

-- A name with the number that it gives, and the kind of that object.
pub record IsListed (m : LogMap) (p : List ℕ × ℕ) (told : ListedEntry) : Type 0 where
  pub name : told.name.items ≡ p.0
  pub number : told.number ≡ p.1
  pub head : Header
  pub header : HasHeader p.1 head m
  pub kind : told.kind ≡ head.kind

-- The same of directory d, with what the inode says, and the beginning of the object.
pub record IsRow (m : LogMap) (d : ℕ) (p : List ℕ × ℕ) (told : TreeRow) : Type 0 where
  pub directory : told.directory ≡ d
  pub name : told.name.items ≡ p.0
  pub number : told.number ≡ p.1
  pub head : Header
  pub header : HasHeader p.1 head m
  pub kind : told.kind ≡ head.kind
  pub links : told.links ≡ head.links
  pub size : told.size ≡ head.size
  pub shown : ShowsHead m p.1 head head.kind told.head.items

-- each of the names gives an object
abbrev pub AreThere : Names → LogMap → Type 0
AreThere ps m = AllByRecursion (λ (p : List ℕ × ℕ). HasObject p.1 m) ps

-- Object d is a directory by its slots, and each of its names gives an object.
pub record IsListable (d : ℕ) (head : Header) (m : LogMap) : Type 0 where
  pub directory : IsDirectory m d (as_header head)
  pub there : AreThere (names_at m d head) m
