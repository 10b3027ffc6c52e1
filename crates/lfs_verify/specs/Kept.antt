-- The inodes that a walk keeps: those of the files that are there, in the order of their numbers.
-- All of it is an own choice.
use Rattle.std.specs.Prelude.{◌≡◌, ◌<◌, ℕ, List, [], length, get_or}
use Rattle.lfs_model.specs.declared.limits.TheConstants.{FILE_NUMBERS}
use Rattle.lfs_model.specs.Checkpoint.{CheckpointValue}
use Rattle.lfs_model.specs.Content.{Content, block}
use Rattle.lfs_model.specs.Entry.{Inode, header}
use Rattle.lfs_model.specs.Reach.{view}
use Rattle.lfs_verify.specs.Totals.{above_count}

-- how many of the files below this number are there, by the table of their inodes' addresses
abbrev pub there_below : List ℕ → ℕ → ℕ
there_below map n = above_count map 0 n

-- the inode at an address, if it is one, stands at this place
abbrev pub KeepsAt : Content → ℕ → List (List ℕ) → ℕ → Type 0
KeepsAt c at inodes place = 0 < at → (place < length inodes) × (block c at ≡ get_or inodes place [])

-- the inodes of the files below this number
abbrev pub KeepsBelow : Content → List ℕ → List (List ℕ) → ℕ → Type 0
KeepsBelow c map inodes n = (i : ℕ) → i < n → KeepsAt c (get_or map i 0) inodes (there_below map i)

-- the inodes of all files
abbrev pub KeepsInodes : Content → List ℕ → List (List ℕ) → Type 0
KeepsInodes c map inodes = KeepsBelow c map inodes FILE_NUMBERS

-- so many bytes has this file, by the inode to which the checkpoint leads
abbrev pub IsSizeOf : Content → CheckpointValue → ℕ → ℕ → Type 0
IsSizeOf c k file size = size ≡ (header (block c ((view c k).address (Inode file)))).size
