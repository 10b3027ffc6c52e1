-- A draft of changes: what it says of headers and blocks, and what is put into it.
use Rattle.std.specs.Prelude.{◌≡◌, ◌≢◌, ◌<◌, ◌≤◌, ◌+◌, ◌==◌, ℕ, false, List, ◌∷◌, length, drop, Option, Some, None}
use Rattle.std.specs.List.{AllByRecursion}
use Rattle.lfs_model.specs.Encodes.{HasInode}
use Rattle.lfs_model.specs.Entry.{Data, Inode}
use Rattle.lfs_model.specs.Memory.{parent, is_nameless}
use Rattle.lfs_model.specs.Stands.{LogMap}
use Rattle.lfs_files.specs.Files as files
use Rattle.lfs_cleaner.specs.log.memory.declared.batch.BlockEdit.{BlockEdit}
use Rattle.lfs_cleaner.specs.log.memory.declared.batch.HeaderEdit.{HeaderEdit}
use Rattle.lfs_cleaner.specs.log.memory.declared.batch.Cut.{Cut}
use Rattle.lfs_cleaner.specs.log.memory.declared.batch.LastLink.{LastLink}
use Rattle.lfs_cleaner.specs.log.memory.declared.batch.Removal.{Removal}
use Rattle.lfs_cleaner.specs.log.memory.declared.batch.Loss.{Loss}
use Rattle.lfs_cleaner.specs.log.memory.declared.batch.Loss.TheVariants.{Nothing, Blocks, Link, File}
use Rattle.lfs_cleaner.specs.log.memory.declared.changes.Changes.{Changes}
use Rattle.lfs_cleaner.specs.log.memory.files.declared.header.Header.{Header}
use Rattle.lfs_cleaner.specs.log.memory.Batch.{lost, is_lost, staged, FitsLoss, FitsBatch, IsNoChange}
use Rattle.lfs_cleaner.specs.log.memory.Changing.{FitsHeader, stored, with_block, with_header}
use Rattle.lfs_cleaner.specs.log.memory.Preparing.{IsWithin}
use Rattle.lfs_cleaner.specs.log.memory.Present.{as_header}

-- ---- the last edit of a header

-- none of these headers is file n's
abbrev pub NoHeader : ℕ → List HeaderEdit → Type 0
NoHeader n edits = AllByRecursion (λ (e : HeaderEdit). e.number ≢ n) edits

-- the last that is stands at this place
pub record LastHeader (edits : List HeaderEdit) (n place : ℕ) : Type 0 where
  pub edit : HeaderEdit
  pub number : edit.number ≡ n
  pub inside : place < length edits
  pub there : drop place edits ≡ edit ∷ drop (place + 1) edits
  pub last : NoHeader n (drop (place + 1) edits)

abbrev pub HeaderPlace : List HeaderEdit → ℕ → Option ℕ → Type 0
HeaderPlace edits n None = NoHeader n edits
HeaderPlace edits n (Some place) = LastHeader edits n place

-- ---- the last edit of a block

abbrev pub IsBlock : ℕ → ℕ → BlockEdit → Type 0
IsBlock n i e = (e.number ≡ n) × (e.index ≡ i)

-- none of these is block i of file n
abbrev pub NoBlock : ℕ → ℕ → List BlockEdit → Type 0
NoBlock n i edits = AllByRecursion (λ (e : BlockEdit). IsBlock n i e → ⊥) edits

-- the last that is stands at this place
pub record LastBlock (edits : List BlockEdit) (n i place : ℕ) : Type 0 where
  pub edit : BlockEdit
  pub block : IsBlock n i edit
  pub inside : place < length edits
  pub there : drop place edits ≡ edit ∷ drop (place + 1) edits
  pub last : NoBlock n i (drop (place + 1) edits)

abbrev pub PlaceInDraft : List BlockEdit → ℕ → ℕ → Option ℕ → Type 0
PlaceInDraft edits n i None = NoBlock n i edits
PlaceInDraft edits n i (Some place) = LastBlock edits n i place

-- ---- what a draft says

-- the header of file n after its changes; None: what is lost decides
abbrev pub DraftsHeader : Changes → ℕ → Option Header → Type 0
DraftsHeader c n None = NoHeader n c.headers.items × ((m : LogMap) → (staged c m).header n ≡ (lost c.loss m).header n)
DraftsHeader c n (Some h) = (m : LogMap) → (staged c m).header n ≡ Some (as_header h)

-- block i of file n after its changes
abbrev pub DraftsBlock : Changes → ℕ → ℕ → List ℕ → Type 0
DraftsBlock c n i bytes = (m : LogMap) → (staged c m).block n i ≡ stored bytes

-- or what is lost decides
abbrev pub LeavesBlock : Changes → ℕ → ℕ → Type 0
LeavesBlock c n i = NoBlock n i c.blocks.items × ((m : LogMap) → (staged c m).block n i ≡ (lost c.loss m).block n i)

-- ---- what is put into it

-- File n may have this header after a draft of changes of this log map: an inode
-- may say it, and a file that is there has a name exactly where it had one.
pub record TakesHeader (c : Changes) (m : LogMap) (n : ℕ) (h : Header) : Type 0 where
  pub header : FitsHeader h.kind h.form h.links h.size
  pub name : HasInode (staged c m) n → (h.links == 0) ≡ is_nameless (staged c m) n
  pub apart : is_lost c.loss (Inode n) ≡ false

-- File n is there, and may have other bytes in block i.
pub record TakesBlock (c : Changes) (m : LogMap) (n i : ℕ) : Type 0 where
  pub there : HasInode (staged c m) n
  pub apart : is_lost c.loss (parent (Data n i)) ≡ false
  pub within : IsWithin m n i

-- What is lost is apart from file n: from its inode, and from each block that may be above one of its data blocks.
abbrev pub IsApart : Loss → ℕ → Type 0
IsApart x n = files.IsApart (is_lost x) n

-- Nothing is apart from all files, and so is a last link;
abbrev pub NothingApart : Type 0
NothingApart = (n : ℕ) → IsApart Nothing n

abbrev pub LinkApart : Type 0
LinkApart = (l : LastLink) (n : ℕ) → IsApart (Link l) n

-- blocks, or a whole file, are apart from other files.
abbrev pub BlocksApart : Type 0
BlocksApart = (x : Cut) (n : ℕ) → n ≢ x.number → IsApart (Blocks x) n

abbrev pub FileApart : Type 0
FileApart = (x : Removal) (n : ℕ) → n ≢ x.number → IsApart (File x) n

-- An empty draft changes nothing, and each log map may be changed so.
abbrev pub DraftEmpty : Type 0
DraftEmpty = (c : Changes) (m : LogMap) → IsNoChange c → (staged c m ≡ m) × FitsBatch m c

-- File n has this header after its changes. A log map may be changed so where it might be by the draft before.
pub record PutsHeader (old new : Changes) (n : ℕ) (h : Header) : Type 0 where
  pub map : (m : LogMap) → staged new m ≡ with_header (staged old m) n (Some (as_header h))
  pub fits : (m : LogMap) → FitsBatch m old → TakesHeader old m n h → FitsBatch m new
  pub few : length new.headers.items ≤ length old.headers.items + 1
  pub blocks : new.blocks ≡ old.blocks
  pub loss : new.loss ≡ old.loss

-- Block i of file n has these bytes after its changes. A log map may be changed so where it might be by the draft before.
pub record PutsBlock (old new : Changes) (n i : ℕ) (bytes : List ℕ) : Type 0 where
  pub map : (m : LogMap) → staged new m ≡ with_block (staged old m) n i (stored bytes)
  pub fits : (m : LogMap) → FitsBatch m old → TakesBlock old m n i → FitsBatch m new
  pub few : length new.blocks.items ≤ length old.blocks.items + 1
  pub headers : new.headers ≡ old.headers
  pub loss : new.loss ≡ old.loss

-- No more than what a file loses.
pub record LosesOnly (c : Changes) (loss : Loss) : Type 0 where
  pub map : (m : LogMap) → staged c m ≡ lost loss m
  pub fits : (m : LogMap) → FitsLoss m loss → FitsBatch m c

-- It asks for what it asked for.
pub record IsAsBefore (old new : Changes) : Type 0 where
  pub headers : new.headers.items ≡ old.headers.items
  pub blocks : new.blocks.items ≡ old.blocks.items
  pub loss : new.loss ≡ old.loss
