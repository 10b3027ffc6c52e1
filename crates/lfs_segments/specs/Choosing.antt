-- The orders in which segments are chosen, and the next one of an order.
use Rattle.std.specs.Prelude.{◌≡◌, ◌<◌, ◌≤◌, ◌⊎◌, ◌+◌, ◌-◌, ◌*◌, ℕ, List, length, take, Option, Some, None, ⊤}
use Rattle.std.specs.List.{AllByRecursion}
use Rattle.lfs_model.specs.Members.{IsIn, AreApart}
use Rattle.lfs_model.specs.declared.limits.TheConstants.{CHUNK_BLOCKS}
use Rattle.lfs_segments.specs.declared.candidate.Candidate.{Candidate}
use Rattle.lfs_segments.specs.declared.candidate.Preference.{Preference}
use Rattle.lfs_segments.specs.declared.candidate.Preference.TheVariants as preference
use Rattle.lfs_segments.specs.Table.{UsageTable, FitsTable, age_of}
use Rattle.lfs_segments.specs.Victims.{load_of, gain_of, MayBeVictim, IsPreferred, ComesBefore, AreFirst, IsChoice}

-- ---- two segments
-- the order by benefit and cost, of segments with these blocks, ages and numbers
abbrev pub IsPreferredAs : (now load age s load' age' s' : ℕ) → Type 0
IsPreferredAs now load age s load' age' s' =
    ((CHUNK_BLOCKS - load') * (now - age') * (CHUNK_BLOCKS + load) < (CHUNK_BLOCKS - load) * (now - age) * (CHUNK_BLOCKS + load'))
    ⊎ (((CHUNK_BLOCKS - load') * (now - age') * (CHUNK_BLOCKS + load) ≡ (CHUNK_BLOCKS - load) * (now - age) * (CHUNK_BLOCKS + load'))
    × (s < s'))

-- the order by blocks
abbrev pub IsLighterAs : (load s load' s' : ℕ) → Type 0
IsLighterAs load s load' s' = (load < load') ⊎ ((load ≡ load') × (s < s'))

-- a comes before b
abbrev pub Precedes : UsageTable → Preference → ℕ → ℕ → Type 0
Precedes t (preference.Benefit now) a b = IsPreferred t now a b
Precedes t preference.Load a b = ComesBefore t a b

-- the candidate is a segment that may be cleaned, with its blocks and its age
pub record IsCandidate (t : UsageTable) (c : Candidate) : Type 0 where
  pub used : MayBeVictim t c.segment
  pub load : c.load ≡ load_of t c.segment
  pub age : c.age ≡ age_of t c.segment

-- ---- the next one
abbrev pub IsKnown : UsageTable → Option Candidate → Type 0
IsKnown t None = ⊤
IsKnown t (Some c) = IsCandidate t c

-- segment s comes behind the last one, if there is one
abbrev pub IsBehind : UsageTable → Preference → Option Candidate → ℕ → Type 0
IsBehind t p None s = ⊤
IsBehind t p (Some c) s = Precedes t p c.segment s

-- segment s comes before the next one, if there is one
abbrev pub IsAhead : UsageTable → Preference → Option Candidate → ℕ → Type 0
IsAhead t p None s = ⊤
IsAhead t p (Some c) s = Precedes t p s c.segment

-- the next one is segment s, or comes before it
abbrev pub Reaches : UsageTable → Preference → Option Candidate → ℕ → Type 0
Reaches t p None s = ⊥
Reaches t p (Some c) s = (c.segment ≡ s) ⊎ Precedes t p c.segment s

-- Of the segments below s, next is the first that may be cleaned and comes behind the last one.
pub record Leads (t : UsageTable) (p : Preference) (last : Option Candidate) (s : ℕ) (next : Option Candidate) : Type 0 where
  pub least : (i : ℕ) → i < s → MayBeVictim t i → IsBehind t p last i → Reaches t p next i
  pub known : IsKnown t next
  pub behind : (c : Candidate) → next ≡ Some c → IsBehind t p last c.segment

-- ---- a list of them
abbrev pub IsChoiceBy : UsageTable → (meta most wanted : ℕ) → Preference → List ℕ → Type 0
IsChoiceBy t meta most wanted p vs = IsChoice t meta most wanted (Precedes t p) vs

-- The first ones of an order, as many as there are or may be taken, of which no beginning gains.
pub record Exhausts (t : UsageTable) (meta most : ℕ) (p : Preference) : Type 0 where
  pub table : FitsTable t
  pub all : List ℕ
  pub first : AreFirst t (Precedes t p) all
  pub each : AllByRecursion (MayBeVictim t) all
  pub apart : AreApart all
  pub few : length all ≤ most
  pub ended : (length all ≡ most) ⊎ ((s : ℕ) → MayBeVictim t s → IsIn all s)
  pub lacks : (k : ℕ) → k ≤ length all → gain_of t meta (take k all) ≡ 0
