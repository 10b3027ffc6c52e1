-- The summary of a chunk, which is one sector.
-- Segment summaries are those of the Sprite LFS paper (1992, section 3.3); the bytes are an own choice.
use Rattle.std.specs.Prelude.{◌≡◌, ◌<◌, ◌≤◌, ◌+◌, ◌*◌, ◌-◌, ◌&&◌, ◌==◌, Bool, nat_le, ℕ, Option, List, [], ◌∷◌, ◌++◌, length, get_or}
use Rattle.std.specs.Prelude.{nat_eq, if◌then◌else◌}
use Rattle.std.specs.List.{flat_map, list_all}
use Rattle.lfs_model.specs.declared.BlockKind.{BlockKind}
use Rattle.lfs_model.specs.declared.BlockKind.TheVariants.{Data, Leaf, Double, Inode, Map, Usage}
use Rattle.lfs_model.specs.Fields.{le16, le32, zeros, join, read16, read32, run, value_in}
use Rattle.lfs_model.specs.declared.limits.TheConstants.{CHUNK_BLOCKS, LAST_NUMBER, LAST_BLOCK, LAST_LEAF, MAP_BLOCKS, USAGE_BLOCKS}

-- a block of a chunk: whose it is, what it is, and its place there
pub record BlockNameValue : Type 0 where
  pub file : ℕ
  pub kind : BlockKind
  pub index : ℕ

abbrev pub no_block : BlockNameValue
no_block = record { file = 0; kind = Data; index = 0 }

unfoldable pub block_kind_byte : BlockKind → ℕ
block_kind_byte Data = 1
block_kind_byte Leaf = 2
block_kind_byte Double = 3
block_kind_byte Inode = 4
block_kind_byte Map = 5
block_kind_byte Usage = 6

abbrev pub IsFileNumber : ℕ → Type 0
IsFileNumber n = (1 ≤ n) × (n ≤ LAST_NUMBER)

-- what file and index a block of each kind has
unfoldable pub IsPlaced : BlockKind → ℕ → ℕ → Type 0
IsPlaced Data file index = IsFileNumber file × (index ≤ LAST_BLOCK)
IsPlaced Leaf file index = IsFileNumber file × (index ≤ LAST_LEAF)
IsPlaced Double file index = IsFileNumber file × (index ≡ 0)
IsPlaced Inode file index = IsFileNumber file × (index ≡ 0)
IsPlaced Map file index = (file ≡ 0) × (index ≤ MAP_BLOCKS - 1)
IsPlaced Usage file index = (file ≡ 0) × (index ≤ USAGE_BLOCKS - 1)

unfoldable pub summary_entry : BlockNameValue → List ℕ
summary_entry b = le16 b.file ++ ((block_kind_byte b.kind ∷ 0 ∷ []) ++ le32 b.index)

unfoldable pub summary_sector : List BlockNameValue → List ℕ
summary_sector bs = join (
    le16 (length bs) ∷
    zeros 6 ∷
    flat_map summary_entry bs ∷
    zeros (8 * (CHUNK_BLOCKS - length bs)) ∷ []
    )

unfoldable pub block_kind_of : ℕ → BlockKind
block_kind_of b = if nat_eq b 1 then Data
    else (if nat_eq b 2 then Leaf else (if nat_eq b 3 then Double else (if nat_eq b 4 then Inode else (if nat_eq b 5 then Map else Usage))))

-- what stands at the places of an entry, and the entries of a summary
unfoldable pub block_at : ℕ → List ℕ → BlockNameValue
block_at at s = record { file = read16 at s; kind = block_kind_of (get_or s (at + 2) 0); index = read32 (at + 4) s }

abbrev pub blocks_of : List ℕ → List BlockNameValue
blocks_of s = run block_at 8 (read16 0 s) 8 s

-- the bytes of a well-formed entry stand at a place
pub record IsEntryAt (at : ℕ) (s : List ℕ) : Type 0 where
  pub kind : block_kind_byte (block_kind_of (get_or s (at + 2) 0)) ≡ get_or s (at + 2) 0
  pub gap : get_or s (at + 3) 0 ≡ 0
  pub placed : IsPlaced (block_kind_of (get_or s (at + 2) 0)) (read16 at s) (read32 (at + 4) s)

-- what a summary may be
pub record FitsSummary (bs : List BlockNameValue) : Type 0 where
  pub some : 1 ≤ length bs
  pub room : length bs ≤ CHUNK_BLOCKS
  pub each : (i : ℕ) → i < length bs → IsPlaced (get_or bs i no_block).kind (get_or bs i no_block).file (get_or bs i no_block).index

-- the same, as tests
abbrev pub is_of_file : ℕ → Bool
is_of_file n = nat_le 1 n && nat_le n LAST_NUMBER

unfoldable pub is_placed : BlockKind → ℕ → ℕ → Bool
is_placed Data file index = is_of_file file && nat_le index LAST_BLOCK
is_placed Leaf file index = is_of_file file && nat_le index LAST_LEAF
is_placed Double file index = is_of_file file && (index == 0)
is_placed Inode file index = is_of_file file && (index == 0)
is_placed Map file index = (file == 0) && nat_le index (MAP_BLOCKS - 1)
is_placed Usage file index = (file == 0) && nat_le index (USAGE_BLOCKS - 1)

abbrev pub may_be_summary : List BlockNameValue → Bool
may_be_summary bs = nat_le 1 (length bs) && (nat_le (length bs) CHUNK_BLOCKS && list_all (λ b. is_placed b.kind b.file b.index) bs)

-- the blocks that a summary's sector names, if it is one
unfoldable pub summary_in : List ℕ → Option (List BlockNameValue)
summary_in s = value_in blocks_of may_be_summary summary_sector s
