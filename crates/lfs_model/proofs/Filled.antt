-- A block of pointers in memory has a pointer that isn't 0: which steps keep that, and where it has to be seen to.
use Rattle.std.proofs.Common.{◌≡◌, ◌<◌, ◌^◌, ℕ, List, length, subst, arith}
use Rattle.lfs_model.specs.Entry.{Entry, Inode}
use Rattle.lfs_model.specs.Memory.{Memory, patched, IsPointers, HasPointer}
use Rattle.lfs_model.proofs.Patching.{word_at}

-- a block of pointers in memory has one
abbrev pub IsFilled : Memory → Entry → Type 0
IsFilled M y = IsPointers y → M.at y ≡ 1 → HasPointer (M.bytes y)

not_inode : (n : ℕ) (y : Entry) → IsPointers y → y ≡ Inode n → ⊥
not_inode n y is h = subst IsPointers h is

pub pointer_patched : (w v : ℕ) (b : List ℕ) → length b ≡ 512 → w < 128 → 0 < v → v < 2 ^ 32 → HasPointer (patched w v b)
pointer_patched w v b long low some small = let is = word_at w v b long low small in (w, low, omega arith)
