-- What a segment's count of live blocks is.
-- The count is that of the segment usage table of the Sprite LFS paper (1992, section 3.6), in blocks instead of bytes.
use Rattle.std.specs.Prelude.{◌≡◌, ◌<◌, ◌≤◌, ◌↔◌, ◌+◌, ℕ, suc, true, List, ◌∷◌, length, map, Some, None}
use Rattle.lfs_model.specs.Entry.{Entry, entries_in}
use Rattle.lfs_model.specs.Content.{Content}
use Rattle.lfs_model.specs.Device.{cell_at}
use Rattle.lfs_model.specs.Reach.{View, Row, chunks_between, segment_start}
use Rattle.lfs_model.specs.Stands.{AreNamed, HoldsCount, IsHeld, count_up, is_live}
use Rattle.lfs_model.specs.declared.limits.TheConstants.{SEGMENT_SECTORS}

-- how many sectors of segment s are reached as the entries that the summaries give them
abbrev pub live_count : View → ℕ → ℕ
live_count v s = count_up (is_live v s) SEGMENT_SECTORS

-- A sector counts as live exactly where an entry is reached there.
abbrev pub LiveSectors : Type 0
LiveSectors = (v : View) → AreNamed v → (s at : ℕ) → at < SEGMENT_SECTORS → (is_live v s at ≡ true) ↔ IsHeld v (segment_start s + at)

-- Where each entry is named at its address, the sectors that are reached are those so named.
abbrev pub NamedCounts : Type 0
NamedCounts = (v : View) → AreNamed v → (s n : ℕ) → HoldsCount v s n ↔ (n ≡ live_count v s)

-- Where the same sectors of a segment are held but for one more, the count is one more.
abbrev pub OneMoreLive : Type 0
OneMoreLive = (v w : View) → AreNamed v → AreNamed w → (s o : ℕ) → o < SEGMENT_SECTORS
    → ((at : ℕ) → at < SEGMENT_SECTORS → (at ≡ o → ⊥) → IsHeld v (segment_start s + at) ↔ IsHeld w (segment_start s + at))
    → (IsHeld v (segment_start s + o) → ⊥) → IsHeld w (segment_start s + o)
    → live_count w s ≡ suc (live_count v s)

abbrev pub SameLive : Type 0
SameLive = (v w : View) → AreNamed v → AreNamed w → (s : ℕ)
    → ((at : ℕ) → at < SEGMENT_SECTORS → IsHeld v (segment_start s + at) ↔ IsHeld w (segment_start s + at))
    → live_count w s ≡ live_count v s

-- One entry more has an address: its segment's count is one more, and the others stay.
-- Read from w to v it is an entry that goes.
pub record GainsBlock (v w : View) (x : Entry) (s o : ℕ) : Type 0 where
  pub none : v.address x ≡ 0
  pub at : w.address x ≡ segment_start s + o
  pub within : o < SEGMENT_SECTORS
  pub same : (y : Entry) → (y ≡ x → ⊥) → w.address y ≡ v.address y

abbrev pub PlacedCounts : Type 0
PlacedCounts = (v w : View) → AreNamed v → AreNamed w → (x : Entry) (s o : ℕ) → GainsBlock v w x s o
    → (live_count w s ≡ suc (live_count v s)) × ((t : ℕ) → (t ≡ s → ⊥) → live_count w t ≡ live_count v t)

-- A chunk in a segment is read from its summary, whatever its blocks are.
abbrev pub ChunkRead : Type 0
ChunkRead = (c : Content) (s from : ℕ) (bytes : List ℕ) (es : List Entry) → cell_at c (segment_start s + from) ≡ Some bytes
    → entries_in bytes ≡ Some es
    → segment_start s + from + 1 + length es ≤ length c → chunks_between c s from (from + 1 + length es) ≡ Some (None ∷ map Some es)

-- A row begins with a summary, which isn't live: so fewer sectors are live than are in use.
abbrev pub LiveLess : Type 0
LiveLess = (v : View) (s : ℕ) (q : Row) → v.row s ≡ Some (None ∷ q) → live_count v s < length (None ∷ q)
