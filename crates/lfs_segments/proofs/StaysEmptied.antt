-- A segment that was emptied stays so: no step of a commit changes it.
use Rattle.std.proofs.Common.{◌<◌, ℕ, Bool, arith}
use Rattle.lfs_segments.specs.Table.{UsageTable, used_of, kept_of}
use Rattle.lfs_segments.specs.Steps.{Begins, Notes, Pads, Lifts, PutsPlace}
use Rattle.lfs_segments.specs.Emptied.{IsEmptied}

-- A chunk begins, a block is placed in it, a block leaves a segment, a usage block gets its place: what was emptied stays so.
pub stays_emptied : {t : UsageTable} (t' : UsageTable) {s : ℕ} → IsEmptied t s → ((c age : ℕ) → Begins t t' c age → IsEmptied t' s)
    × ((c : ℕ) (lives : Bool) → Notes t t' c lives → kept_of t c < used_of t c → IsEmptied t' s)
    × ((c : ℕ) (lives : Bool) → Lifts t t' c lives → IsEmptied t' s)
    × ((j at : ℕ) (stale : Bool) → PutsPlace t t' j at stale → IsEmptied t' s)
stays_emptied t' is = grind arith

-- So it does as the chunk names an entry for no block.
pub padded_emptied : {t t' : UsageTable} {s c : ℕ} → IsEmptied t s → Pads t t' c → kept_of t c < used_of t c → IsEmptied t' s
padded_emptied is pads taken = grind arith
