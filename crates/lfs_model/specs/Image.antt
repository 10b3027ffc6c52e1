-- A new volume of a version of the layout: an empty root, in the version's last form. The layout is this project's own.
use Rattle.std.specs.Prelude.{◌≡◌, ◌<◌, ◌≤◌, ◌+◌, ◌-◌, ◌*◌, ◌/◌, ◌^◌, ◌==◌, nat_lt, ℕ, zero, suc, cond, List, [], ◌∷◌, ◌++◌, map, length}
use Rattle.std.specs.Prelude.{replicate, Some, None}
use Rattle.std.specs.List.{range_with_len}
use Rattle.lfs_model.specs.declared.Kind.TheVariants.{Directory}
use Rattle.lfs_model.specs.declared.BlockKind.TheVariants as kind
use Rattle.lfs_model.specs.Checkpoint.{CheckpointValue, IsSectorVersion, IsSegmentCount, IsVersion, checkpoint_sector, most_unit_power}
use Rattle.lfs_model.specs.Checkpoint.{usage_blocks}
use Rattle.lfs_model.specs.Content.{Content, newest}
use Rattle.lfs_model.specs.Device.{cell_at}
use Rattle.lfs_model.specs.Entry.{Header}
use Rattle.lfs_model.specs.Inode.{InodeValue, inode_sector}
use Rattle.lfs_model.specs.Pointers.{pointer_sector}
use Rattle.lfs_model.specs.Stands.{LogMap, StandsAt}
use Rattle.lfs_model.specs.Summary.{BlockNameValue, summary_sector}
use Rattle.lfs_model.specs.Usage.{SegmentUse, no_use, usage_sector}
use Rattle.lfs_model.specs.declared.limits.TheConstants.{SECTOR_LEN, SEGMENT_SECTORS, LEAST_SEGMENTS, LEAST_SECTORS, DIRECT_BLOCKS}
use Rattle.lfs_model.specs.declared.limits.TheConstants.{BLOCK_POINTERS, MAP_BLOCKS, USAGE_BLOCKS, BLOCK_SEGMENTS}
use Rattle.lfs_model.specs.Reach.{segment_start}
use Rattle.lfs_model.specs.Tree.{new_form}

-- bytes that are 0
abbrev pub blank : ℕ → List ℕ
blank n = replicate n 0

-- ---- what stands in a new volume of N segments, whose units have 2 to the power p sectors

-- inode map block 0 stands at sector 4, the usage blocks from sector 5 on
abbrev pub first_usage_address : ℕ → ℕ → ℕ
first_usage_address N j = cond (nat_lt j (usage_blocks N)) (5 + j) 0

abbrev pub first_checkpoint : ℕ → ℕ → ℕ → CheckpointValue
first_checkpoint version N p =
    record {
      number = 1;
      segments = N;
      version = version;
      unit_power = p;
      map = 4 ∷ blank (MAP_BLOCKS - 1);
      usage = map (first_usage_address N) (range_with_len 0 USAGE_BLOCKS);
    }

-- the first chunk has whole units: its summary, the root's inode, the inode map block, the usage blocks, and sectors that nothing is
-- written to
abbrev pub first_used : ℕ → ℕ → ℕ
first_used N p = (2 + usage_blocks N + 2 ^ p) / 2 ^ p * 2 ^ p

-- what its blocks are, one after the other; behind the usage blocks block 0 is named once more for each sector
abbrev pub first_name : ℕ → ℕ → BlockNameValue
first_name N zero = record { file = 1; kind = kind.Inode; index = 0 }
first_name N (suc zero) = record { file = 0; kind = kind.Map; index = 0 }
first_name N (suc (suc j)) = record { file = 0; kind = kind.Usage; index = cond (nat_lt j (usage_blocks N)) j 0 }

abbrev pub first_names : ℕ → ℕ → List BlockNameValue
first_names N p = map (first_name N) (range_with_len 0 (first_used N p - 1))

-- the root, without entries
abbrev pub root_inode : ℕ → InodeValue
root_inode version =
    record {
      kind = Directory;
      form = new_form version;
      number = 1;
      links = 2;
      size = 0;
      direct = blank DIRECT_BLOCKS;
      single = 0;
      double = 0;
    }

-- number 1 has its inode at sector 3
abbrev pub first_pointers : List ℕ
first_pointers = 0 ∷ 3 ∷ blank (BLOCK_POINTERS - 2)

-- usage block j: the first chunk alone is in use
abbrev pub first_uses : ℕ → ℕ → ℕ → List SegmentUse
first_uses N p zero = record { used = first_used N p; live = 2 + usage_blocks N; age = 1 } ∷ replicate (BLOCK_SEGMENTS - 1) no_use
first_uses N p (suc j) = replicate BLOCK_SEGMENTS no_use

-- A content on which a new volume of N segments stands, in a version of the layout. Of the other sectors it says nothing.
pub record IsNew (version N p : ℕ) (c : Content) : Type 0 where
  pub known : IsVersion version
  pub unit : p ≤ most_unit_power version
  pub count : IsSegmentCount N
  pub size : segment_start N ≤ length c
  pub empty_slot : cell_at c 0 ≡ Some (blank SECTOR_LEN)
  pub checkpoint : cell_at c 1 ≡ Some (checkpoint_sector (first_checkpoint version N p))
  pub summary : cell_at c 2 ≡ Some (summary_sector (first_names N p))
  pub inode : cell_at c 3 ≡ Some (inode_sector (root_inode version))
  pub pointers : cell_at c 4 ≡ Some (pointer_sector first_pointers)
  pub uses : (j : ℕ) → j < usage_blocks N → cell_at c (5 + j) ≡ Some (usage_sector (first_uses N p j))

abbrev pub empty_directory : ℕ → Header
empty_directory version = record { kind = Directory; form = new_form version; links = 2; size = 0 }

abbrev pub empty_root : ℕ → LogMap
empty_root version = record { header = λ n. cond (n == 1) (Some (empty_directory version)) None; block = λ n i. []; version = version }

-- It stands for a directory without names.
abbrev pub Formatted : Type 0
Formatted = (version N p : ℕ) (c : Content) → IsNew version N p c
    → (newest c ≡ Some (first_checkpoint version N p)) × StandsAt c (first_checkpoint version N p) (empty_root version)

-- ---- such contents, of zeros but for these sectors

abbrev pub new_image : ℕ → ℕ → ℕ → Content
new_image version N p =
    Some (blank SECTOR_LEN) ∷ Some (checkpoint_sector (first_checkpoint version N p)) ∷ Some (summary_sector (first_names N p))
    ∷ Some (inode_sector (root_inode version)) ∷ Some (pointer_sector first_pointers)
    ∷ map (λ j. Some (usage_sector (first_uses N p j))) (range_with_len 0 (usage_blocks N))
    ++ replicate (SEGMENT_SECTORS * N - 3 - usage_blocks N) (Some (blank SECTOR_LEN))

-- in a version whose units are sectors, of 64 segments, byte by byte
abbrev pub checkpoint_bytes : ℕ → List ℕ
checkpoint_bytes version = 83 ∷ 76 ∷ 70 ∷ 83 ∷ 67 ∷ 75 ∷ 80 ∷ 49 ∷ 1 ∷ 0 ∷ 0 ∷ 0 ∷ 0 ∷ 0 ∷ 0 ∷ 0 ∷ 64 ∷ 0 ∷ 0 ∷ 0 ∷ version ∷ blank 11 ++ 4
    ∷ blank 127 ++ 5 ∷ blank 351

abbrev pub summary_bytes : List ℕ
summary_bytes = 3 ∷ blank 7 ++ 1 ∷ 0 ∷ 4 ∷ 0 ∷ 0 ∷ 0 ∷ 0 ∷ 0 ∷ 0 ∷ 0 ∷ 5 ∷ 0 ∷ 0 ∷ 0 ∷ 0 ∷ 0 ∷ 0 ∷ 0 ∷ 6 ∷ blank 485

abbrev pub inode_bytes : ℕ → List ℕ
inode_bytes version = 2 ∷ new_form version ∷ 0 ∷ 0 ∷ 1 ∷ 0 ∷ 0 ∷ 0 ∷ 2 ∷ blank 503

abbrev pub map_bytes : List ℕ
map_bytes = 0 ∷ 0 ∷ 0 ∷ 0 ∷ 3 ∷ blank 507

abbrev pub usage_bytes : List ℕ
usage_bytes = 4 ∷ 0 ∷ 3 ∷ 0 ∷ 1 ∷ 0 ∷ 0 ∷ 0 ∷ blank 504

-- 4,098 sectors
abbrev pub image : ℕ → Content
image version = Some (blank SECTOR_LEN) ∷ Some (checkpoint_bytes version) ∷ Some summary_bytes ∷ Some (inode_bytes version) ∷ Some map_bytes
    ∷ Some usage_bytes ∷ replicate (LEAST_SECTORS - 6) (Some (blank SECTOR_LEN))

-- There is such a content for each version, its units and each count of segments, and for 64, where units are sectors, it is this one.
abbrev pub NewImages : Type 0
NewImages = ((version N p : ℕ) → IsVersion version → p ≤ most_unit_power version → IsSegmentCount N
    → IsNew version N p (new_image version N p))
    × ((version : ℕ) → IsSectorVersion version → IsNew version LEAST_SEGMENTS 0 (image version))
