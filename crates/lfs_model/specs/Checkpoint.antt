-- The checkpoint, which is one sector.
-- Checkpoint regions are those of the Sprite LFS paper (1992, section 4.1); the bytes are an own choice.
use Rattle.std.specs.Prelude.{◌≡◌, ◌<◌, ◌≤◌, ◌^◌, ◌+◌, ◌-◌, ◌/◌, ◌%◌, ◌&&◌, ◌==◌, Bool, cond, nat_le, ℕ, Option, List, [], ◌∷◌, ◌++◌}
use Rattle.std.specs.Prelude.{codes, get_or, length}
use Rattle.lfs_checksum.specs.Division.{crc32c_of}
use Rattle.lfs_model.specs.Fields.{le32, le64, words, zeros, join, Are32, read32, read64, numbers, value_in}
use Rattle.lfs_model.specs.declared.limits.TheConstants.{LEAST_SEGMENTS, MOST_SEGMENTS, MAP_BLOCKS, USAGE_BLOCKS, BLOCK_SEGMENTS}
use Rattle.lfs_model.specs.declared.limits.TheConstants.{LAST_SECTOR_VERSION, LAST_VERSION, MOST_UNIT_POWER}

pub record CheckpointValue : Type 0 where
  pub number : ℕ
  pub segments : ℕ
  -- of the layout
  pub version : ℕ
  -- the logarithm to base 2 of how many sectors a unit has
  pub unit_power : ℕ
  pub map : List ℕ
  pub usage : List ℕ

-- The text that a checkpoint begins with.
unfoldable pub checkpoint_text : List ℕ
checkpoint_text = codes "SLFSCKP1"

-- the versions of the layout
abbrev pub IsVersion : ℕ → Type 0
IsVersion version = (1 ≤ version) × (version ≤ LAST_VERSION)

-- those of them whose units are sectors
abbrev pub IsSectorVersion : ℕ → Type 0
IsSectorVersion version = (1 ≤ version) × (version ≤ LAST_SECTOR_VERSION)

-- the version of a checkpoint's layout
abbrev pub layout_version : CheckpointValue → ℕ
layout_version c = c.version

-- it is the last version
abbrev pub is_last : ℕ → Bool
is_last version = version == LAST_VERSION

-- how many segments a volume has, its units, and whether its version is the last: no commit changes them
pub record Shape : Type 0 where
  pub segments : ℕ
  pub unit_power : ℕ
  pub last : Bool

-- those that a checkpoint names
abbrev pub shape_of : CheckpointValue → Shape
shape_of c = record { segments = c.segments; unit_power = c.unit_power; last = is_last (layout_version c) }

-- Of two checkpoints the one with the greater rank counts: one of the versions before the last goes before each of the last, and else the
-- greater number counts.
abbrev pub rank : CheckpointValue → ℕ
rank c = cond (is_last (layout_version c)) 0 (2 ^ 64) + c.number

-- what that is at most in a version
abbrev pub most_unit_power : ℕ → ℕ
most_unit_power version = cond (is_last version) MOST_UNIT_POWER 0

-- A volume of this checkpoint may come to have this version: the version has its units, and is the last one where that is.
pub record MayHave (c : CheckpointValue) (version : ℕ) : Type 0 where
  pub unit : c.unit_power ≤ most_unit_power version
  pub last : is_last (layout_version c) ≡ is_last version

-- how many sectors a unit has
abbrev pub unit_sectors : CheckpointValue → ℕ
unit_sectors c = 2 ^ c.unit_power

-- The 8 bytes behind the version. In the last version they begin with the logarithms to base 2 of how many sectors a unit has and how many
-- a segment, and how many bytes a block.
abbrev pub shape_bytes : ℕ → ℕ → List ℕ
shape_bytes version unit_power = cond (is_last version) (unit_power ∷ 6 ∷ 9 ∷ zeros 5) (zeros 8)

-- the number in the last 4 bytes, by all before them: in the last version their checksum
abbrev pub sum_of : ℕ → List ℕ → ℕ
sum_of version bytes = cond (is_last version) (crc32c_of bytes) 0

-- a checkpoint's fields in a version of the layout, but the last
unfoldable pub checkpoint_fields : ℕ → CheckpointValue → List (List ℕ)
checkpoint_fields version c =
    checkpoint_text ∷
    le64 c.number ∷
    le32 c.segments ∷
    le32 version ∷
    shape_bytes version c.unit_power ∷
    words c.map ∷
    words c.usage ∷
    zeros 284 ∷ []

-- its sector in a version
unfoldable pub checkpoint_sector_of : ℕ → CheckpointValue → List ℕ
checkpoint_sector_of version c =
    join (checkpoint_fields version c ++ le32 (sum_of version (join (checkpoint_fields version c))) ∷ [])

-- the sector of a checkpoint, in its own version
unfoldable pub checkpoint_sector : CheckpointValue → List ℕ
checkpoint_sector c = checkpoint_sector_of (layout_version c) c

-- what stands at the places of a checkpoint
abbrev pub checkpoint_of : List ℕ → CheckpointValue
checkpoint_of s =
    record {
      number = read64 8 s;
      segments = read32 16 s;
      version = read32 20 s;
      unit_power = get_or s 24 0;
      map = numbers MAP_BLOCKS 32 s;
      usage = numbers USAGE_BLOCKS 160 s;
    }

-- how many segments a volume may have: a multiple of 8 in 64..=1,024
pub record IsSegmentCount (n : ℕ) : Type 0 where
  pub least : LEAST_SEGMENTS ≤ n
  pub most : n ≤ MOST_SEGMENTS
  pub eighths : n % 8 ≡ 0

-- the blocks of the usage table of so many segments
abbrev pub usage_blocks : ℕ → ℕ
usage_blocks segments = (segments + (BLOCK_SEGMENTS - 1)) / BLOCK_SEGMENTS

-- what a checkpoint may be
pub record FitsCheckpoint (c : CheckpointValue) : Type 0 where
  pub number : 1 ≤ c.number
  pub number_fits : c.number < 2 ^ 64
  pub segments : IsSegmentCount c.segments
  pub version : IsVersion (layout_version c)
  pub unit : c.unit_power ≤ most_unit_power (layout_version c)
  pub map_length : length c.map ≡ MAP_BLOCKS
  pub map_fits : Are32 c.map
  pub usage_length : length c.usage ≡ USAGE_BLOCKS
  pub usage_fits : Are32 c.usage

-- the same, as tests
abbrev pub is_segment_count : ℕ → Bool
is_segment_count n = nat_le LEAST_SEGMENTS n && (nat_le n MOST_SEGMENTS && (n % 8 == 0))

abbrev pub is_version : ℕ → Bool
is_version version = nat_le 1 version && nat_le version LAST_VERSION

abbrev pub may_be_checkpoint : CheckpointValue → Bool
may_be_checkpoint c = is_version (layout_version c)
    && (nat_le c.unit_power (most_unit_power (layout_version c)) && (nat_le 1 c.number && is_segment_count c.segments))

-- the checkpoint that a sector spells, if it spells one
unfoldable pub checkpoint_in : List ℕ → Option CheckpointValue
checkpoint_in s = value_in checkpoint_of may_be_checkpoint checkpoint_sector s
