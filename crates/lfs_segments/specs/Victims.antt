-- Which segments a pass of the cleaner empties, and when there are such.
-- That the cleaner reads a number of segments and writes their live blocks to fewer
-- is the Sprite LFS paper's (1992, section 3.3); the bounds are an own choice.
use Rattle.std.specs.Prelude.{Some, ◌≡◌, ◌<◌, ◌≤◌, ◌⊎◌, ◌+◌, ◌-◌, ◌*◌, ◌/◌, ℕ, List, length, get_or, max, min, sum_by, AllPairs}
use Rattle.std.specs.List.{AllByRecursion}
use Rattle.lfs_model.specs.Checkpoint.{IsSegmentCount}
use Rattle.lfs_model.specs.Members.{IsIn, AreApart}
use Rattle.lfs_model.specs.declared.limits.TheConstants.{CHUNK_BLOCKS, LEAST_NEED, NEED_OF_META, NEED_OF_SEGMENT, TABLE_BLOCKS}
use Rattle.lfs_segments.specs.declared.victims.TheConstants.{LEAST_GAIN}
use Rattle.lfs_segments.specs.Table.{SegmentNumbers, UsageTable, no_segment, used_of, age_of, clean_in}

-- how many blocks have to go elsewhere before a segment is clean: those that live there, and those that hold it
abbrev pub load : SegmentNumbers → ℕ
load n = n.live + n.held

abbrev pub load_of : UsageTable → ℕ → ℕ
load_of t s = load (get_or t.segments s no_segment)

-- how many all segments have
abbrev pub loads : UsageTable → ℕ
loads t = sum_by load t.segments

-- a segment that may be cleaned: one in use, but for that of the last chunk
abbrev pub MayBeVictim : UsageTable → ℕ → Type 0
MayBeVictim t s = (s < length t.segments) × (0 < used_of t s) × (t.last ≡ Some s → ⊥)

-- A pass over these segments gains one at least: their blocks, with so many inodes and blocks of pointers and with the blocks of
-- the inode map and the usage table, fill fewer segments than they are. Beside the summary of its chunk a segment takes `CHUNK_BLOCKS`.
pub record AreVictims (t : UsageTable) (meta most : ℕ) (vs : List ℕ) : Type 0 where
  pub few : length vs ≤ most
  pub apart : AreApart vs
  pub each : AllByRecursion (MayBeVictim t) vs
  pub gain : sum_by (load_of t) vs + meta + TABLE_BLOCKS ≤ CHUNK_BLOCKS * (length vs - 1)

-- ---- orders
-- a has fewer blocks than b, or as many and the lower number
abbrev pub ComesBefore : UsageTable → ℕ → ℕ → Type 0
ComesBefore t a b = (load_of t a < load_of t b) ⊎ ((load_of t a ≡ load_of t b) × (a < b))

-- What cleaning segment s gives: its free share, by the time for which it was not written. The acknowledged checkpoint has number now.
abbrev pub benefit_of : UsageTable → ℕ → ℕ → ℕ
benefit_of t now s = (CHUNK_BLOCKS - load_of t s) * (now - age_of t s)

-- and what it costs: the whole segment is read, and its blocks are written
abbrev pub cost_of : UsageTable → ℕ → ℕ
cost_of t s = CHUNK_BLOCKS + load_of t s

-- The quotient of benefit and cost is greater for a than for b, or as great, and a has the lower number.
-- The quotient is that of the Sprite LFS paper (1992, section 3.5).
abbrev pub IsPreferred : UsageTable → ℕ → ℕ → ℕ → Type 0
IsPreferred t now a b =
    (benefit_of t now b * cost_of t a < benefit_of t now a * cost_of t b)
    ⊎ ((benefit_of t now b * cost_of t a ≡ benefit_of t now a * cost_of t b) × (a < b))

-- They are the first ones in an order of those that may be cleaned, one after the other.
pub record AreFirst (t : UsageTable) (order : ℕ → ℕ → Type 0) (vs : List ℕ) : Type 0 where
  pub ordered : AllPairs order vs
  pub others : (v s : ℕ) → IsIn vs v → MayBeVictim t s → (IsIn vs s → ⊥) → order v s

-- ---- the choice
-- how many segments are gained: the victims, less those that their blocks fill
abbrev pub gain_of : UsageTable → ℕ → List ℕ → ℕ
gain_of t meta vs = length vs - (sum_by (load_of t) vs + meta + TABLE_BLOCKS + (CHUNK_BLOCKS - 1)) / CHUNK_BLOCKS

-- how many a pass wants that makes a quarter clean: as many as are missing to it, and four at least
abbrev pub wanted_gain : UsageTable → ℕ
wanted_gain t = max (length t.segments / 4 - clean_in t.segments) LEAST_GAIN

-- how many of those that are wanted are gained
abbrev pub useful_gain : UsageTable → (meta wanted : ℕ) → List ℕ → ℕ
useful_gain t meta wanted vs = min (gain_of t meta vs) wanted

-- Of the victims that are the first ones of an order these gain most of what is wanted, and no fewer of them gain as much. So they are
-- the fewest that gain all that is wanted, or where none do, the fewest that gain most.
pub record IsChoice (t : UsageTable) (meta most wanted : ℕ) (order : ℕ → ℕ → Type 0) (vs : List ℕ) : Type 0 where
  pub victims : AreVictims t meta most vs
  pub first : AreFirst t order vs
  pub best : (ws : List ℕ) → AreVictims t meta most ws → AreFirst t order ws
      → useful_gain t meta wanted ws ≤ useful_gain t meta wanted vs
  pub fewest : (ws : List ℕ) → AreVictims t meta most ws → AreFirst t order ws
      → length ws < length vs → useful_gain t meta wanted ws < useful_gain t meta wanted vs

-- no victims are the first ones of an order
abbrev pub HasNoChoice : UsageTable → ℕ → ℕ → (ℕ → ℕ → Type 0) → Type 0
HasNoChoice t meta most order = (ws : List ℕ) → AreVictims t meta most ws → AreFirst t order ws → ⊥

-- The victims are chosen by benefit and cost, and where none can be, by their blocks.
abbrev pub IsChosen : UsageTable → (meta most wanted now : ℕ) → List ℕ → Type 0
IsChosen t meta most wanted now vs =
    IsChoice t meta most wanted (IsPreferred t now) vs
    ⊎ (HasNoChoice t meta most (IsPreferred t now) × IsChoice t meta most wanted (ComesBefore t) vs)

-- how many victims a pass has at most
abbrev pub pass_limit : UsageTable → ℕ
pass_limit t = length t.segments / 8 + 1

-- Fewer than a quarter of the segments is clean, and there are so many blocks at most as a tree may need.
pub record IsPressed (t : UsageTable) (meta : ℕ) : Type 0 where
  pub count : IsSegmentCount (length t.segments)
  pub few : 4 * clean_in t.segments < length t.segments
  pub blocks : loads t + (NEED_OF_META - 1) * meta + (LEAST_NEED - TABLE_BLOCKS) ≤ NEED_OF_SEGMENT * length t.segments
