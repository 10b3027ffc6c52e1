-- What a stop leaves while a row of sectors and then a slot are written.
use Rattle.std.specs.Prelude.{ℕ, ◌+◌, Some, List, ◌++◌, length, map, take, drop}
use Rattle.lfs_model.specs.Device.{Cell, MayWrite, SameOutside}

-- the content with these blocks from first on
abbrev pub pasted : ℕ → List (List ℕ) → List Cell → List Cell
pasted first blocks old = take first old ++ map Some blocks ++ drop (first + length blocks) old

-- as it was but for the row, or the whole row and the slot torn or written
pub data IsBeforeOrAfter (first : ℕ) (blocks : List (List ℕ)) (slot : ℕ) (bytes : List ℕ) (old new : List Cell) : Type 0 where
  is_before : SameOutside first (length blocks) old new → IsBeforeOrAfter first blocks slot bytes old new
  is_after : MayWrite slot bytes (pasted first blocks old) new → IsBeforeOrAfter first blocks slot bytes old new
