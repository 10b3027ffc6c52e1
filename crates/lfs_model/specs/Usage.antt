-- The usage block: an entry for each of 64 segments.
-- The segment usage table is that of the Sprite LFS paper (1992, section 3.6); the bytes, and counting blocks, are an own choice.
use Rattle.std.specs.Prelude.{◌≡◌, ◌<◌, ◌≤◌, ◌^◌, ◌↔◌, ◌+◌, ◌&&◌, ◌==◌, Bool, cond, nat_le, nat_lt, ℕ, Option, List, drop, ◌++◌, length}
use Rattle.std.specs.Prelude.{get_or}
use Rattle.std.specs.List.{flat_map, list_all}
use Rattle.lfs_model.specs.Fields.{le16, le32, read16, read32, run, value_in}
use Rattle.lfs_model.specs.declared.limits.TheConstants.{SEGMENT_SECTORS, BLOCK_SEGMENTS}

pub record SegmentUse : Type 0 where
  pub used : ℕ
  pub live : ℕ
  pub age : ℕ

abbrev pub no_use : SegmentUse
no_use = record { used = 0; live = 0; age = 0 }

unfoldable pub usage_entry : SegmentUse → List ℕ
usage_entry u = le16 u.used ++ (le16 u.live ++ le32 u.age)

unfoldable pub usage_sector : List SegmentUse → List ℕ
usage_sector us = flat_map usage_entry us

-- what stands at the places of an entry, and the 64 of a block
unfoldable pub use_at : ℕ → List ℕ → SegmentUse
use_at at s = record { used = read16 at s; live = read16 (at + 2) s; age = read32 (at + 4) s }

abbrev pub usage_of : List ℕ → List SegmentUse
usage_of s = run use_at 8 BLOCK_SEGMENTS 0 s

-- what an entry may be: used sectors at most 64, and fewer live blocks than these unless both are 0
pub record IsUse (u : SegmentUse) : Type 0 where
  pub used : u.used ≤ SEGMENT_SECTORS
  pub both : u.used ≡ 0 ↔ u.live ≡ 0
  pub live : u.live ≤ u.used
  pub fewer : 1 ≤ u.used → u.live < u.used
  pub age : u.age < 2 ^ 32

-- an entry of no segment
pub record IsUnused (u : SegmentUse) : Type 0 where
  pub used : u.used ≡ 0
  pub live : u.live ≡ 0
  pub age : u.age ≡ 0

-- what a usage block may be where `count` of its entries belong to segments of the volume
pub record FitsUsage (count : ℕ) (us : List SegmentUse) : Type 0 where
  pub entries : length us ≡ BLOCK_SEGMENTS
  pub each : (i : ℕ) → i < BLOCK_SEGMENTS → IsUse (get_or us i no_use)
  pub past : (i : ℕ) → count ≤ i → i < BLOCK_SEGMENTS → IsUnused (get_or us i no_use)

-- the same, as tests
abbrev pub is_use : SegmentUse → Bool
is_use u = nat_le u.used SEGMENT_SECTORS && cond (u.used == 0) (u.live == 0) (nat_le 1 u.live && nat_lt u.live u.used)

abbrev pub is_unused : SegmentUse → Bool
is_unused u = (u.used == 0) && ((u.live == 0) && (u.age == 0))

abbrev pub may_be_usage : ℕ → List SegmentUse → Bool
may_be_usage count us = list_all is_use us && list_all is_unused (drop count us)

-- the entries that a usage block's sector spells, if it spells one where `count` of them belong to segments
unfoldable pub usage_in : ℕ → List ℕ → Option (List SegmentUse)
usage_in count s = value_in usage_of (may_be_usage count) usage_sector s
