-- A batch of changes: what it asks for, and the log map after it.
use Rattle.std.specs.Prelude.{cond, ◌≡◌, ◌+◌, ◌*◌, ℕ, Bool, true, false, List, [], ◌∷◌, ◌++◌, length, Some}
use Rattle.std.specs.List.{AllByRecursion}
use Rattle.lfs_model.specs.Cutting.{is_past}
use Rattle.lfs_model.specs.Detaching.{is_of}
use Rattle.lfs_model.specs.Encodes.{HasInode}
use Rattle.lfs_model.specs.Entry.{Entry, Data, Inode}
use Rattle.lfs_model.specs.Memory.{parent, is_nameless}
use Rattle.lfs_model.specs.Raising.{raised}
use Rattle.lfs_model.specs.Stands.{LogMap}
use Rattle.lfs_memory.specs.declared.batch.BlockEdit.{BlockEdit}
use Rattle.lfs_memory.specs.declared.batch.HeaderEdit.{HeaderEdit}
use Rattle.lfs_memory.specs.declared.changes.Changes.{Changes}
use Rattle.lfs_memory.specs.declared.batch.Loss.{Loss}
use Rattle.lfs_memory.specs.declared.batch.Loss.TheVariants.{Nothing, Blocks, Link, File, FirstVersion}
use Rattle.lfs_files.specs.declared.header.Header.{Header}
use Rattle.lfs_memory.specs.Changing.{FitsHeader, header_with, with_header}
use Rattle.lfs_memory.specs.Removing.{without_file}
use Rattle.lfs_memory.specs.Cutting.{cut_from}
use Rattle.lfs_memory.specs.Preparing.{ways, AreWithin}
use Rattle.lfs_memory.specs.Applying.{after_headers, after_batch, AreHeadersFit, AreBlocksFit}

-- ---- what goes

-- the log map without it
abbrev pub lost : Loss → LogMap → LogMap
lost Nothing m = m
lost (Blocks c) m = cut_from c.number c.first m
lost (Link l) m = with_header m l.number (Some (header_with l.kind l.form 0 l.size))
lost (File r) m = without_file r.number m
lost FirstVersion m = raised true m

-- the blocks of files that may leave memory
abbrev pub is_lost : Loss → Entry → Bool
is_lost Nothing x = false
is_lost (Blocks c) x = is_past c.number c.first x
is_lost (Link l) x = false
is_lost (File r) x = is_of r.number x
is_lost FirstVersion x = false

-- a file that loses its last link is there and has a name, and a version that is raised is the first
abbrev pub FitsLoss : LogMap → Loss → Type 0
FitsLoss m Nothing = Unit {0}
FitsLoss m (Blocks c) = Unit {0}
FitsLoss m (Link l) = FitsHeader l.kind l.form 0 l.size × HasInode m l.number × (is_nameless m l.number ≡ false)
FitsLoss m (File r) = Unit {0}
FitsLoss m FirstVersion = m.version ≡ 1

-- whether the version of the layout is raised, and the version then
abbrev pub raises : Loss → Bool
raises Nothing = false
raises (Blocks c) = false
raises (Link l) = false
raises (File r) = false
raises FirstVersion = true

abbrev pub version_after : Loss → ℕ → ℕ
version_after loss version = cond (raises loss) 2 version

-- ---- a whole batch

-- the log map after what is lost, headers and blocks
abbrev pub after_edits : Loss → List HeaderEdit → List BlockEdit → LogMap → LogMap
after_edits loss headers blocks m = after_batch headers blocks (lost loss m)

-- no header or block of it changes what is lost
abbrev pub AreHeadersApart : Loss → List HeaderEdit → Type 0
AreHeadersApart loss edits = AllByRecursion (λ (e : HeaderEdit). is_lost loss (Inode e.number) ≡ false) edits

abbrev pub AreBlocksApart : Loss → List BlockEdit → Type 0
AreBlocksApart loss edits = AllByRecursion (λ (e : BlockEdit). is_lost loss (parent (Data e.number e.index)) ≡ false) edits

-- The log map may change so.
pub record FitEdits (m : LogMap) (loss : Loss) (headers : List HeaderEdit) (blocks : List BlockEdit) : Type 0 where
  pub fits_loss : FitsLoss m loss
  pub headers_apart : AreHeadersApart loss headers
  pub blocks_apart : AreBlocksApart loss blocks
  pub fit_headers : AreHeadersFit (lost loss m) headers
  pub fit_blocks : AreBlocksFit (after_headers headers (lost loss m)) blocks
  pub within : AreWithin m blocks

-- how many blocks may come into memory for it
abbrev pub room_for_edits : List HeaderEdit → List BlockEdit → ℕ
room_for_edits headers blocks = 2 * length headers + ways blocks + length blocks + 4

abbrev pub staged : Changes → LogMap → LogMap
staged c m = after_edits c.loss c.headers.items c.blocks.items m

abbrev pub FitsBatch : LogMap → Changes → Type 0
FitsBatch m c = FitEdits m c.loss c.headers.items c.blocks.items

abbrev pub room_for : Changes → ℕ
room_for c = room_for_edits c.headers.items c.blocks.items

-- ---- how it is put together
pub record IsNoChange (c : Changes) : Type 0 where
  pub headers : c.headers.items ≡ []
  pub blocks : c.blocks.items ≡ []
  pub loss : c.loss ≡ Nothing

pub record AddsHeaderEdit (old new : Changes) (n : ℕ) (header : Header) : Type 0 where
  pub edit : HeaderEdit
  pub number : edit.number ≡ n
  pub says : edit.header ≡ header
  pub headers : new.headers.items ≡ old.headers.items ++ edit ∷ []

pub record AddsBlockEdit (old new : Changes) (n i : ℕ) (bytes : List ℕ) : Type 0 where
  pub edit : BlockEdit
  pub number : edit.number ≡ n
  pub index : edit.index ≡ i
  pub says : edit.bytes ≡ bytes
  pub blocks : new.blocks.items ≡ old.blocks.items ++ edit ∷ []
