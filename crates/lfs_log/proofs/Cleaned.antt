-- Segments that were emptied, which a commit makes clean, and the memory of a pass beside that of the log.
use Rattle.std.proofs.Common.{◌≡◌, ◌<◌, ◌≤◌, ⊎_elim, ℕ, zero, suc, Bool, true, false, List, [], ◌∷◌, length, get_or, refl}
use Rattle.std.proofs.Common.{sym, ◌∙◌, ap, ap₂, arith, ◌&&◌, eq-eqb}
use Rattle.std.specs.List.{AllByRecursion}
use Rattle.std.proofs.lemmas.Bool.{cond-true}
use Rattle.lfs_model.specs.Checkpoint.{CheckpointValue}
use Rattle.lfs_model.specs.Device.{DeviceState}
use Rattle.lfs_model.specs.Members.{IsIn, AreApart}
use Rattle.lfs_model.specs.Running.{Running}
use Rattle.lfs_model.specs.Stands.{LogMap, count_up}
use Rattle.lfs_model.proofs.Live.{count_up_none, count_up_more}
use Rattle.lfs_memory.specs.segments.Chunk.{Chunk}
use Rattle.lfs_memory.specs.segments.Emptied.{IsEmptied}
use Rattle.lfs_memory.specs.segments.Spare.{is_emptied, emptied_in}
use Rattle.lfs_memory.specs.segments.Steps.{Releases, is_empty}
use Rattle.lfs_memory.specs.segments.Table.{SegmentNumbers, UsageTable, no_segment, used_of}
use Rattle.lfs_memory.specs.inodes.MapValue.{MapValue}
use Rattle.lfs_memory.specs.inodes.Blocks.{TableValue, blocks_of}
use Rattle.lfs_memory.specs.declared.memory.LogMemory.{LogMemory}
use Rattle.lfs_memory.specs.Memory.{IsLog, tables_of, segment_in, chunk_in}
use Rattle.lfs_memory.proofs.Opened.{closed_chunk, closed_segment}
use Rattle.lfs_memory.proofs.of_segments.EmptiedGained.{count_gained}
use Rattle.lfs_memory.proofs.of_segments.Spare.{passes}
use Rattle.lfs_log.specs.Cleaning.{AreEmptied}

-- ---- memory with the same tables and blocks beside it; neither has begun a chunk
abbrev pub beside : LogMemory → TableValue → Chunk → LogMemory
beside v t c = record { map = v.map; usage = v.usage; dirty = t; chunk = c }

module _ (v : LogMemory) (t : TableValue) (c : Chunk) (same : t.blocks ≡ v.dirty.blocks) (ended : v.chunk.names ≡ [])
    (closed : c.names ≡ []) where
  begun : (segment_in v.chunk ≡ segment_in c) × (chunk_in v.chunk ≡ chunk_in c)
  begun =
      let one = ap length ended in
      let two = ap length closed in
      (closed_segment v.chunk one ∙ sym (closed_segment c two), closed_chunk v.chunk one ∙ sym (closed_chunk c two))

  running_beside : (d : DeviceState) (k : CheckpointValue) (m0 m : LogMap)
      → Running d (blocks_of v.dirty) (tables_of v) k m0 m (segment_in v.chunk) (chunk_in v.chunk)
      → Running d (blocks_of t) (tables_of v) k m0 m (segment_in c) (chunk_in c)
  running_beside d k m0 m is =
      rw same (rw (← begun.1) (rw (← begun.0) is))

  pub log_beside : {d : DeviceState} (k : CheckpointValue) {m0 : LogMap} (m : LogMap) → IsLog d v k m0 m → IsLog d (beside v t c) k m0 m
  log_beside {d} k {m0} m is = record {
    running = running_beside d k m0 m is.running;
    hidden = is.hidden;
    segments = is.segments;
    unit = is.unit;
    tight = rw same is.tight;
  }

  -- with tables that are copies of its own
  pub log_copied : {map : MapValue} {usage : UsageTable} → map ≡ v.map → usage ≡ v.usage → {d : DeviceState} (k : CheckpointValue)
      {m0 : LogMap} (m : LogMap) → IsLog d v k m0 m → IsLog d (record { map = map; usage = usage; dirty = t; chunk = c }) k m0 m
  log_copied same_map same_usage k m is = rw (same_map, same_usage) (log_beside k m is)

-- ---- how many were emptied
no_test : ℕ → Bool
no_test s = false

none_pass : (n : ℕ) → count_up no_test n ≡ 0
unfolding no_test
none_pass zero = count_up_none _
none_pass (suc n) = let rest = none_pass n in let more = count_up_more no_test n in omega (arith, rest, more)

in_each : (P : ℕ → Type 0) (vs : List ℕ) → ((i : ℕ) → i < length vs → P (get_or vs i 0)) → AllByRecursion P vs
in_each P [] each = tt
in_each P (v ∷ vs) each = (each 0 (omega arith), in_each P vs (λ i lt. each (suc i) (omega (arith, lt))))

pub at_one : (P : ℕ → Type 0) (vs : List ℕ) (s : ℕ) → ((i : ℕ) → i < length vs → P (get_or vs i 0)) → IsIn vs s → P s
at_one P [] s each is = absurd is
at_one P (v ∷ vs) s each is = ⊎_elim
    (λ (here : s ≡ v). rw here (each 0 (omega arith)))
    (λ (there : IsIn vs s). at_one P vs s (λ i lt. each (suc i) (omega (arith, lt))) there)
    is

pub emptied_least : (t : UsageTable) (vs : List ℕ) → AreApart vs → ((i : ℕ) → i < length vs → get_or vs i 0 < length t.segments)
    → AreEmptied t vs → length vs ≤ emptied_in t.segments
unfolding emptied_in no_test
emptied_least t vs apart low emptied =
    let gained = count_gained vs {p = no_test} {q = λ s. is_emptied (get_or t.segments s no_segment)} (length t.segments) apart
    (in_each (λ s. s < length t.segments) vs low)
    (in_each (λ s. (no_test s ≡ false) × (is_emptied (get_or t.segments s no_segment) ≡ true)) vs
    (λ i lt. (refl, passes t (emptied i lt))))
    (λ s lt on. let bad : false ≡ true = on in absurd (cc)) in
    let none = none_pass (length t.segments) in
    omega (arith, gained, none)

-- what was emptied is clean once the checkpoint is acknowledged
pub emptied_clean : {t t' : UsageTable} (s : ℕ) → Releases t t' → IsEmptied t s → used_of t' s ≡ 0
emptied_clean {t} s go is =
    ap (λ (n : SegmentNumbers). n.used) (go.each s)
    ∙ cond-true (is_empty (get_or t.segments s no_segment)) 0 (used_of t s)
    (ap₂ (λ (a b : Bool). a && b) (eq-eqb _ 0 is.live) (eq-eqb _ 0 is.held))
