-- That no sector is written twice since its segment was taken: what is written to a segment, step by step.
use Rattle.std.specs.Prelude.{◌≡◌, ◌<◌, ◌≤◌, ◌+◌, ◌*◌, ◌++◌, ◌==◌, cond, ℕ, suc, Bool, List, [], ◌∷◌, length}
use Rattle.lfs_model.specs.Members.{IsIn, AreApart}
use Rattle.lfs_model.specs.Summary.{BlockNameValue}
use Rattle.lfs_model.specs.declared.limits.TheConstants.{CHECKPOINT_SLOTS, SEGMENT_SECTORS}
use Rattle.lfs_segments.specs.Table.{UsageTable, used_of}
use Rattle.lfs_segments.specs.Chunk.{Chunk, IsOpenChunk, StaysInPlace, summary_at}
use Rattle.lfs_segments.specs.Steps.{Begins, Notes, Pads, TakesSegment}

-- the address of the first sector of segment s that isn't in use
abbrev pub first_behind : UsageTable → ℕ → ℕ
first_behind t s = CHECKPOINT_SLOTS + SEGMENT_SECTORS * s + used_of t s

-- an address in the chunk's segment, before others that were written to segment s
abbrev pub with_address : ℕ → Chunk → ℕ → List ℕ → List ℕ
with_address s c address written = cond (c.segment == s) (address ∷ written) written

-- To these addresses of segment s was written since it was taken, the last one first. A block is written as it gets
-- its place, and a summary as its chunk ends; a chunk that begins writes nothing, and neither does one that names an entry more.
pub data WrittenSince (s : ℕ) : UsageTable → Chunk → List ℕ → Type 0 where
  taken : (t t' : UsageTable) (c : Chunk) (number : ℕ) → TakesSegment t t' s number → WrittenSince s t' c []
  begun : (t t' : UsageTable) (c c' : Chunk) (written : List ℕ) (number : ℕ) → WrittenSince s t c written
      → Begins t t' c'.segment number → c'.start ≡ used_of t c'.segment → c'.names ≡ [] → WrittenSince s t' c' written
  placed : (t t' : UsageTable) (c c' : Chunk) (written : List ℕ) (name : BlockNameValue) (lives : Bool) → WrittenSince s t c written
      → IsOpenChunk c t → Notes t t' c.segment lives → StaysInPlace c c' → c'.names ≡ c.names ++ name ∷ []
      → WrittenSince s t' c' (with_address s c (first_behind t c.segment) written)
  padded : (t t' : UsageTable) (c c' : Chunk) (written : List ℕ) (name : BlockNameValue) → WrittenSince s t c written
      → IsOpenChunk c t → Pads t t' c.segment → StaysInPlace c c' → c'.names ≡ c.names ++ name ∷ []
      → WrittenSince s t' c' written
  sealed : (t : UsageTable) (c c' : Chunk) (written : List ℕ) → WrittenSince s t c written
      → IsOpenChunk c t → 0 < length c.names → StaysInPlace c c' → c'.names ≡ []
      → WrittenSince s t c' (with_address s c (summary_at c) written)
  -- what else is done to the table leaves as many sectors of the segment in use
  changed : (t t' : UsageTable) (c : Chunk) (written : List ℕ) → WrittenSince s t c written → used_of t' s ≡ used_of t s
      → WrittenSince s t' c written

-- No address is written twice, neither so far nor by the next step.
pub record WrittenOnce (s : ℕ) (t : UsageTable) (c : Chunk) (written : List ℕ) : Type 0 where
  pub apart : AreApart written
  -- the sectors are the segment's, and in use: the next block stands behind all of them
  pub inside : (a : ℕ) → IsIn written a → (CHECKPOINT_SLOTS + SEGMENT_SECTORS * s ≤ a) × (a < first_behind t s)
  pub some : 0 < used_of t s
  -- the summary of a chunk that hasn't ended is none of them
  pub summary : c.segment ≡ s → used_of t s ≡ c.start + suc (length c.names) → IsIn written (summary_at c) → ⊥

-- all steps since a segment was taken write to each address once
abbrev pub EachOnce : Type 0
EachOnce = (s : ℕ) (t : UsageTable) (c : Chunk) (written : List ℕ) → WrittenSince s t c written → WrittenOnce s t c written

-- a call that is such a step, and writes nothing, or to this address
abbrev pub WritesNothing : UsageTable → UsageTable → Chunk → Chunk → Type 0
WritesNothing t t' c c' = (s : ℕ) (written : List ℕ) → WrittenSince s t c written → WrittenSince s t' c' written

abbrev pub WritesTo : UsageTable → UsageTable → Chunk → Chunk → ℕ → Type 0
WritesTo t t' c c' address = (s : ℕ) (written : List ℕ) → WrittenSince s t c written
    → WrittenSince s t' c' (with_address s c address written)
