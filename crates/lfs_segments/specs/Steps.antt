-- What the calls on a usage table do, number by number.
use Rattle.std.specs.Prelude.{Some, ◌≡◌, ◌<◌, ◌≤◌, ◌⊎◌, ◌+◌, ◌*◌, ◌-◌, ◌/◌, ◌==◌, ◌&&◌, cond, not, ℕ, suc, Bool, true, List, length, get_or}
use Rattle.std.specs.Prelude.{slice_set}
use Rattle.lfs_model.specs.Entry.{half, word}
use Rattle.lfs_model.specs.Running.{IsSet, CountsUp, CountsDown}
use Rattle.lfs_model.specs.Usage.{SegmentUse}
use Rattle.lfs_model.specs.declared.limits.TheConstants.{BLOCK_SEGMENTS, SECTOR_LEN, SEGMENT_SECTORS}
use Rattle.lfs_segments.specs.Table.{SegmentNumbers, PlaceInSegment, UsageTable, no_segment, used_of, live_of, held_of, age_of, kept_of}
use Rattle.lfs_segments.specs.Table.{address_of}
use Rattle.lfs_segments.specs.Table.{stale_of, clean_in}

-- where usage blocks stand, and which differ from what the device has, is as it was but for one, which differs
pub record Stales (old new : UsageTable) (j : ℕ) : Type 0 where
  pub stale : IsSet (stale_of old) (stale_of new) j true
  pub address : (i : ℕ) → address_of new i ≡ address_of old i

-- a usage block that differs from what the device has
abbrev pub staled : UsageTable → ℕ → PlaceInSegment
staled t j = record { address = address_of t j; stale = true }

-- segment s has these numbers, so that its usage block differs
abbrev pub changed : UsageTable → ℕ → SegmentNumbers → UsageTable
changed t s n = record t {
  segments = slice_set t.segments s n;
  blocks = slice_set t.blocks (s / BLOCK_SEGMENTS) (staled t (s / BLOCK_SEGMENTS));
}

-- the numbers of a segment as a checkpoint has them
abbrev pub loaded : SegmentUse → SegmentNumbers
loaded u = record { used = u.used; live = u.live; held = 0; age = u.age; kept = u.used }

-- a sector more of segment s is in use, for a block that lives there or holds it
pub record Notes (old new : UsageTable) (s : ℕ) (lives : Bool) : Type 0 where
  pub used : IsSet (used_of old) (used_of new) s (suc (used_of old s))
  pub live : CountsUp lives (live_of old) (live_of new) s
  pub held : CountsUp (not lives) (held_of old) (held_of new) s
  pub age : (i : ℕ) → age_of new i ≡ age_of old i
  pub kept : (i : ℕ) → kept_of new i ≡ kept_of old i
  pub blocks : Stales old new (s / BLOCK_SEGMENTS)
  pub last : new.last ≡ old.last
  pub unit : new.unit ≡ old.unit
  pub size : length new.segments ≡ length old.segments
  pub clean : clean_in new.segments ≡ clean_in old.segments

-- a sector more of segment s is in use, for no block
pub record Pads (old new : UsageTable) (s : ℕ) : Type 0 where
  pub used : IsSet (used_of old) (used_of new) s (suc (used_of old s))
  pub live : (i : ℕ) → live_of new i ≡ live_of old i
  pub held : (i : ℕ) → held_of new i ≡ held_of old i
  pub age : (i : ℕ) → age_of new i ≡ age_of old i
  pub kept : (i : ℕ) → kept_of new i ≡ kept_of old i
  pub blocks : Stales old new (s / BLOCK_SEGMENTS)
  pub last : new.last ≡ old.last
  pub unit : new.unit ≡ old.unit
  pub size : length new.segments ≡ length old.segments
  pub clean : clean_in new.segments ≡ clean_in old.segments

-- a block that lives in s, or holds it, is there no more
pub record Lifts (old new : UsageTable) (s : ℕ) (lives : Bool) : Type 0 where
  pub used : (i : ℕ) → used_of new i ≡ used_of old i
  pub live : CountsDown lives (live_of old) (live_of new) s
  pub held : CountsDown (not lives) (held_of old) (held_of new) s
  pub age : (i : ℕ) → age_of new i ≡ age_of old i
  pub kept : (i : ℕ) → kept_of new i ≡ kept_of old i
  pub blocks : Stales old new (s / BLOCK_SEGMENTS)
  pub last : new.last ≡ old.last
  pub unit : new.unit ≡ old.unit
  pub size : length new.segments ≡ length old.segments
  pub clean : clean_in new.segments ≡ clean_in old.segments

-- so many blocks that live in s, or hold it, are there no more
pub record TakesAway (old new : UsageTable) (s count : ℕ) (lives : Bool) : Type 0 where
  pub used : (i : ℕ) → used_of new i ≡ used_of old i
  pub live : IsSet (live_of old) (live_of new) s (live_of old s - cond lives count 0)
  pub held : IsSet (held_of old) (held_of new) s (held_of old s - cond (not lives) count 0)
  pub age : (i : ℕ) → age_of new i ≡ age_of old i
  pub kept : (i : ℕ) → kept_of new i ≡ kept_of old i
  pub blocks : Stales old new (s / BLOCK_SEGMENTS)
  pub last : new.last ≡ old.last
  pub unit : new.unit ≡ old.unit
  pub size : length new.segments ≡ length old.segments
  pub clean : clean_in new.segments ≡ clean_in old.segments

-- so many blocks that live in s hold it from now on
pub record HidesBlocks (old new : UsageTable) (s count : ℕ) : Type 0 where
  pub used : (i : ℕ) → used_of new i ≡ used_of old i
  pub live : IsSet (live_of old) (live_of new) s (live_of old s - count)
  pub held : IsSet (held_of old) (held_of new) s (held_of old s + count)
  pub age : (i : ℕ) → age_of new i ≡ age_of old i
  pub kept : (i : ℕ) → kept_of new i ≡ kept_of old i
  pub blocks : Stales old new (s / BLOCK_SEGMENTS)
  pub last : new.last ≡ old.last
  pub unit : new.unit ≡ old.unit
  pub size : length new.segments ≡ length old.segments
  pub clean : clean_in new.segments ≡ clean_in old.segments

-- a clean segment is taken
pub record TakesSegment (old new : UsageTable) (s number : ℕ) : Type 0 where
  pub inside : s < length old.segments
  pub clean : used_of old s ≡ 0
  pub free : kept_of new s ≡ 0
  pub used : IsSet (used_of old) (used_of new) s 1
  pub live : (i : ℕ) → live_of new i ≡ live_of old i
  pub held : (i : ℕ) → held_of new i ≡ held_of old i
  pub age : IsSet (age_of old) (age_of new) s number
  pub kept : (i : ℕ) → kept_of new i ≡ kept_of old i
  pub blocks : (i : ℕ) → (stale_of new i ≡ stale_of old i) × (address_of new i ≡ address_of old i)
  pub last : new.last ≡ Some s
  pub unit : new.unit ≡ old.unit
  pub size : length new.segments ≡ length old.segments
  pub count : clean_in old.segments ≡ suc (clean_in new.segments)

-- A chunk more begins in a segment with room. Something lives there or holds it, so no pass has
-- emptied it.
pub record GoesOn (old new : UsageTable) (s number : ℕ) : Type 0 where
  pub inside : s < length old.segments
  pub some : 0 < live_of old s + held_of old s
  pub begun : 0 < used_of old s
  pub room : used_of old s ≤ SEGMENT_SECTORS - 2
  pub used : IsSet (used_of old) (used_of new) s (suc (used_of old s))
  pub live : (i : ℕ) → live_of new i ≡ live_of old i
  pub held : (i : ℕ) → held_of new i ≡ held_of old i
  pub age : IsSet (age_of old) (age_of new) s number
  pub kept : (i : ℕ) → kept_of new i ≡ kept_of old i
  pub blocks : Stales old new (s / BLOCK_SEGMENTS)
  pub last : new.last ≡ old.last
  pub unit : new.unit ≡ old.unit
  pub size : length new.segments ≡ length old.segments
  pub clean : clean_in new.segments ≡ clean_in old.segments

-- a chunk begins: in a clean segment, or behind those of another
abbrev pub Begins : UsageTable → UsageTable → ℕ → ℕ → Type 0
Begins old new s number = TakesSegment old new s number ⊎ GoesOn old new s number

-- usage block j has this address, and is stale or not; all else is as it was
pub record PutsPlace (old new : UsageTable) (j at : ℕ) (differs : Bool) : Type 0 where
  pub segments : new.segments ≡ old.segments
  pub address : IsSet (address_of old) (address_of new) j at
  pub stale : IsSet (stale_of old) (stale_of new) j differs
  pub last : new.last ≡ old.last
  pub unit : new.unit ≡ old.unit

-- the numbers of a segment after a checkpoint is acknowledged: clean where nothing lives and nothing holds it
abbrev pub is_empty : SegmentNumbers → Bool
is_empty n = (n.live == 0) && (n.held == 0)

abbrev pub released : SegmentNumbers → SegmentNumbers
released n = record { used = cond (is_empty n) 0 n.used; live = n.live; held = n.held; age = n.age; kept = cond (is_empty n) 0 n.used }

pub record Releases (old new : UsageTable) : Type 0 where
  pub each : (s : ℕ) → get_or new.segments s no_segment ≡ released (get_or old.segments s no_segment)
  pub size : length new.segments ≡ length old.segments
  pub blocks : new.blocks ≡ old.blocks
  pub last : new.last ≡ old.last
  pub unit : new.unit ≡ old.unit
  pub clean : clean_in old.segments ≤ clean_in new.segments

-- what a usage block says of a segment: nothing where nothing lives
abbrev pub saved : SegmentNumbers → SegmentUse
saved n = record { used = cond (n.live == 0) 0 n.used; live = n.live; age = cond (n.live == 0) 0 n.age }

-- the bytes are usage block j
pub record SpellsBlock (t : UsageTable) (j : ℕ) (bytes : List ℕ) : Type 0 where
  pub long : length bytes ≡ SECTOR_LEN
  pub used : (i : ℕ) → i < BLOCK_SEGMENTS → half bytes (4 * i) ≡ (saved (get_or t.segments (BLOCK_SEGMENTS * j + i) no_segment)).used
  pub live : (i : ℕ) → i < BLOCK_SEGMENTS → half bytes (4 * i + 1) ≡ (saved (get_or t.segments (BLOCK_SEGMENTS * j + i) no_segment)).live
  pub age : (i : ℕ) → i < BLOCK_SEGMENTS → word bytes (2 * i + 1) ≡ (saved (get_or t.segments (BLOCK_SEGMENTS * j + i) no_segment)).age
