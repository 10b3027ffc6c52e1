-- A batch of changes of files in memory: what each step does, and the log map after them.
use Rattle.std.specs.Prelude.{◌≡◌, ◌<◌, ◌==◌, ◌⊎◌, ℕ, List, [], ◌∷◌, Some, None}
use Rattle.std.specs.List.{AllByRecursion}
use Rattle.lfs_model.specs.Encodes.{HasInode}
use Rattle.lfs_model.specs.Entry.{Data, Inode}
use Rattle.lfs_model.specs.Memory.{parent, is_nameless}
use Rattle.lfs_model.specs.Stands.{LogMap}
use Rattle.lfs_inodes.specs.Blocks.{blocks_of}
use Rattle.lfs_inodes.specs.MapValue.{address_in}
use Rattle.lfs_memory.specs.declared.batch.BlockEdit.{BlockEdit}
use Rattle.lfs_memory.specs.declared.batch.HeaderEdit.{HeaderEdit}
use Rattle.lfs_memory.specs.declared.memory.LogMemory.{LogMemory}
use Rattle.lfs_memory.specs.Changing.{ChangesBlock, ChangesHeader, Creates, FitsHeader, IsBlockMiscounted, header_with, stored, with_block}
use Rattle.lfs_memory.specs.Changing.{with_header}

-- ---- log maps

-- the log map after headers, and after blocks, one after the other
abbrev pub after_header : HeaderEdit → LogMap → LogMap
after_header e m = with_header m e.number (Some (header_with e.header.kind e.header.form e.header.links e.header.size))

abbrev pub after_headers : List HeaderEdit → LogMap → LogMap
after_headers [] m = m
after_headers (e ∷ edits) m = after_headers edits (after_header e m)

abbrev pub after_block : BlockEdit → LogMap → LogMap
after_block e m = with_block m e.number e.index (stored e.bytes)

abbrev pub after_blocks : List BlockEdit → LogMap → LogMap
after_blocks [] m = m
after_blocks (e ∷ edits) m = after_blocks edits (after_block e m)

abbrev pub after_batch : List HeaderEdit → List BlockEdit → LogMap → LogMap
after_batch headers blocks m = after_blocks blocks (after_headers headers m)

-- an inode may say this, and a file that is there has a name after it exactly where it had one
pub record FitsFile (m : LogMap) (e : HeaderEdit) : Type 0 where
  pub header : FitsHeader e.header.kind e.header.form e.header.links e.header.size
  pub name : HasInode m e.number → (e.header.links == 0) ≡ is_nameless m e.number

-- so each, after those before it
abbrev pub AreHeadersFit : LogMap → List HeaderEdit → Type 0
AreHeadersFit m [] = Unit {0}
AreHeadersFit m (e ∷ edits) = FitsFile m e × AreHeadersFit (after_header e m) edits

-- the files of these blocks are there
abbrev pub AreBlocksFit : LogMap → List BlockEdit → Type 0
AreBlocksFit m edits = AllByRecursion (λ (e : BlockEdit). HasInode m e.number) edits

-- ---- steps

-- A file has this header; it is made where it wasn't there.
pub record AppliesHeader (v v' : LogMemory) (e : HeaderEdit) : Type 0 where
  pub creates : address_in v.map e.number ≡ 0 → Creates v v' e.number e.header.kind e.header.form e.header.links e.header.size
  pub changes : 0 < address_in v.map e.number → ChangesHeader v v' e.number e.header.kind e.header.form e.header.links e.header.size

-- the inode stands on the device
abbrev pub IsInodeAway : LogMemory → ℕ → Type 0
IsInodeAway v n = (0 < address_in v.map n) × (blocks_of v.dirty (Inode n) ≡ None)

-- the block above isn't in memory, or the block isn't counted at its address
abbrev pub IsBlockAway : LogMemory → ℕ → ℕ → Type 0
IsBlockAway v n i = (blocks_of v.dirty (parent (Data n i)) ≡ None) ⊎ IsBlockMiscounted v n i

-- ---- one after the other, to the end or to the first that fails
abbrev pub AppliesHeaders : LogMemory → List HeaderEdit → LogMemory → Type 0
AppliesHeaders v [] w = w ≡ v
AppliesHeaders v (e ∷ edits) w = (v' : LogMemory) × AppliesHeader v v' e × AppliesHeaders v' edits w

abbrev pub FailsHeaders : LogMemory → List HeaderEdit → Type 0
FailsHeaders v [] = ⊥
FailsHeaders v (e ∷ edits) = IsInodeAway v e.number ⊎ ((v' : LogMemory) × AppliesHeader v v' e × FailsHeaders v' edits)

abbrev pub AppliesBlocks : LogMemory → List BlockEdit → LogMemory → Type 0
AppliesBlocks v [] w = w ≡ v
AppliesBlocks v (e ∷ edits) w = (v' : LogMemory) × ChangesBlock v v' e.number e.index e.bytes × AppliesBlocks v' edits w

abbrev pub FailsBlocks : LogMemory → List BlockEdit → Type 0
FailsBlocks v [] = ⊥
FailsBlocks v (e ∷ edits) = IsBlockAway v e.number e.index
    ⊎ ((v' : LogMemory) × ChangesBlock v v' e.number e.index e.bytes × FailsBlocks v' edits)

-- headers, and then blocks
abbrev pub Applies : LogMemory → List HeaderEdit → List BlockEdit → LogMemory → Type 0
Applies v headers blocks w = (u : LogMemory) × AppliesHeaders v headers u × AppliesBlocks u blocks w

abbrev pub FailsToApply : LogMemory → List HeaderEdit → List BlockEdit → Type 0
FailsToApply v headers blocks = FailsHeaders v headers ⊎ ((u : LogMemory) × AppliesHeaders v headers u × FailsBlocks u blocks)
