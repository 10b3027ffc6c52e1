-- Names, and links of what has them, as they are drafted.
use Rattle.std.specs.Prelude.{◌≡◌, ◌≢◌, ℕ, Bool, true, false, List, Some, None}
use Rattle.std.specs.FinMap.{find}
use Rattle.lfs_model.specs.Changing.{IsWithHeader}
use Rattle.lfs_model.specs.Encodes.{IsLogMap}
use Rattle.lfs_model.specs.Entry.{Entry}
use Rattle.lfs_model.specs.Objects.{IsDirectory}
use Rattle.lfs_model.specs.Stands.{LogMap}
use Rattle.lfs_model.specs.Tree.{byte_cmp}
use Rattle.lfs_files.specs.declared.header.Header.{Header}
use Rattle.lfs_files.specs.Files.{AreCounted, FilesState}
use Rattle.lfs_files.specs.Headers.{as_header, relinked}
use Rattle.lfs_files.specs.Making.{TakesLinks}
use Rattle.lfs_path.specs.dirs.Directory.{names_at}
use Rattle.lfs_path.specs.Seeing.{HasHeader}

-- Object d is a directory by its slots, and has the name.
pub record HasNamed (d : ℕ) (head : Header) (name : List ℕ) (m : LogMap) : Type 0 where
  pub directory : IsDirectory m d (as_header head)
  pub there : find byte_cmp name (names_at m d head) ≢ None

module _ {S D : Type 0} where
  -- With the draft there is a log map, where object n has those links, if it was there; it is as it was where they don't change. It is one
  -- that a volume may keep where the one before was, and its totals are counted where those were.
  pub record HasLinks (s s' : FilesState S D) (m m' : LogMap) (changes : Bool) (n : ℕ) (h : Header) (links : ℕ) : Type 0 where
    pub map : LogMap
    pub has : s'.has m map
    pub same : changes ≡ false → map ≡ m'
    pub file : HasHeader n h m' → IsWithHeader m' n (Some (as_header (relinked h links))) map
    pub keeps : IsLogMap m' → (changes ≡ true → HasHeader n h m') → IsLogMap map
    pub counted : (changes ≡ true → HasHeader n h m') → AreCounted m' s.drafted → AreCounted map s'.drafted

  -- A draft that gives an object those links, if they change. It loses nothing.
  pub record Relinks (s s' : FilesState S D) (changes : Bool) (n : ℕ) (h : Header) (links : ℕ) : Type 0 where
    pub lost : (x : Entry) → s'.lost x ≡ s.lost x
    pub fits : (m m' : LogMap) → s.has m m' → s.fits m → (changes ≡ true → TakesLinks s m' n h links) → s'.fits m
    pub has : (m m' : LogMap) → s.has m m' → HasLinks s s' m m' changes n h links
