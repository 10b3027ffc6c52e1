-- Files made in a draft, their links, and files that go.
use Rattle.std.specs.Prelude.{◌≡◌, ◌≢◌, ◌<◌, ◌≤◌, ◌+◌, ℕ, false, Some, None}
use Rattle.lfs_model.specs.Changing.{IsWithHeader}
use Rattle.lfs_model.specs.Cutting.{IsWithoutFile}
use Rattle.lfs_model.specs.Encodes.{IsLogMap}
use Rattle.lfs_model.specs.Entry.{Entry, Inode}
use Rattle.lfs_model.specs.Inode.{IsForm}
use Rattle.lfs_model.specs.Stands.{LogMap}
use Rattle.lfs_files.specs.declared.header.Header.{Header}
use Rattle.lfs_files.specs.Files.{AreCounted, FilesState, IsApart}
use Rattle.lfs_files.specs.Headers.{FitsHeader, as_header, relinked}

module _ {S D : Type 0} where
  -- ---- a file is made

  -- The log map may be changed so: no file has the number, and an inode may say the header.
  pub record TakesFile (s : FilesState S D) (m' : LogMap) (n : ℕ) (h : Header) : Type 0 where
    pub free : m'.header n ≡ None
    pub apart : s.lost (Inode n) ≡ false
    pub header : FitsHeader h.kind h.form h.links h.size

  -- With the draft there is another log map, where the file has this header, and no block. It is one that a volume may keep where the one
  -- before was, and had no such file.
  pub record HasMade (s' : FilesState S D) (m m' : LogMap) (n : ℕ) (h : Header) : Type 0 where
    pub map : LogMap
    pub has : s'.has m map
    pub file : IsWithHeader m' n (Some (as_header h)) map
    pub keeps : IsLogMap m' → m'.header n ≡ None → IsForm m'.version h.kind h.form → IsLogMap map

  -- A draft that makes a file.
  pub record Makes (s s' : FilesState S D) (n : ℕ) (h : Header) : Type 0 where
    pub lost : (x : Entry) → s'.lost x ≡ s.lost x
    pub headers : s'.headers ≤ s.headers + 1
    pub blocks : s'.blocks ≡ s.blocks
    pub fits : (m m' : LogMap) → s.has m m' → s.fits m → TakesFile s m' n h → s'.fits m
    pub has : (m m' : LogMap) → s.has m m' → HasMade s' m m' n h

  -- The totals with the draft stay those of the log map with it: the inode is one block more.
  abbrev pub CountsMade : FilesState S D → FilesState S D → ℕ → Type 0
  CountsMade s s' n = (m a b : LogMap) → s.has m a → s'.has m b → IsLogMap a → a.header n ≡ None → AreCounted a s.drafted
      → AreCounted b s'.drafted

  -- ---- its links

  -- The log map may be changed so: the file is there and has a name, and an inode may have those links.
  pub record TakesLinks (s : FilesState S D) (m' : LogMap) (n : ℕ) (h : Header) (links : ℕ) : Type 0 where
    pub there : m'.header n ≡ Some (as_header h)
    pub linked : 0 < h.links
    pub apart : s.lost (Inode n) ≡ false
    pub header : FitsHeader h.kind h.form links h.size

  -- With the draft there is another log map, where the file has those links. It is one that a volume may keep where the one before was,
  -- and had the file.
  pub record HasRelinked (s' : FilesState S D) (m m' : LogMap) (n : ℕ) (h : Header) (links : ℕ) : Type 0 where
    pub map : LogMap
    pub has : s'.has m map
    pub file : IsWithHeader m' n (Some (as_header (relinked h links))) map
    pub keeps : IsLogMap m' → m'.header n ≡ Some (as_header h) → IsLogMap map

  -- A draft that gives a file other links. What is lost with the last is apart from all files.
  pub record SetsLinks (s s' : FilesState S D) (n : ℕ) (h : Header) (links : ℕ) : Type 0 where
    pub lost : 0 < links → (x : Entry) → s'.lost x ≡ s.lost x
    pub apart : (k : ℕ) → IsApart s.lost k → IsApart s'.lost k
    pub headers : s'.headers ≤ s.headers + 1
    pub blocks : s'.blocks ≡ s.blocks
    pub fits : (m m' : LogMap) → s.has m m' → s.fits m → TakesLinks s m' n h links → s'.fits m
    pub has : (m m' : LogMap) → s.has m m' → HasRelinked s' m m' n h links

  -- The totals with the draft stay those of the log map with it, where the file was there.
  abbrev pub CountsRelinked : FilesState S D → FilesState S D → ℕ → Header → Type 0
  CountsRelinked s s' n h = (m a b : LogMap) → s.has m a → s'.has m b → a.header n ≡ Some (as_header h) → AreCounted a s.drafted
      → AreCounted b s'.drafted

  -- ---- it goes

  -- With the draft there is another log map, without the file. It is one that a volume may keep where the one before was, but without the
  -- root.
  pub record HasRemoved (s' : FilesState S D) (m m' : LogMap) (n : ℕ) : Type 0 where
    pub map : LogMap
    pub has : s'.has m map
    pub file : IsWithoutFile m' n map
    pub keeps : IsLogMap m' → n ≢ 1 → IsLogMap map

  -- A draft that takes a file away with all its blocks, and does nothing else.
  pub record Removes (s s' : FilesState S D) (n : ℕ) : Type 0 where
    pub headers : s'.headers ≡ 0
    pub blocks : s'.blocks ≡ 0
    pub apart : (k : ℕ) → k ≢ n → IsApart s'.lost k
    pub fits : (m : LogMap) → s'.fits m
    pub has : (m m' : LogMap) → s.has m m' → HasRemoved s' m m' n
