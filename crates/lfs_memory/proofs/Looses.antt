-- What holds of the log while files change in memory.
use Rattle.std.proofs.Common.{◌≡◌, ◌<◌, ◌≤◌, ◌+◌, not, ℕ, zero, suc, Bool, true, length, Some, refl, sym, ◌∙◌, ap, subst, arith}
use Rattle.lfs_model.specs.Checkpoint.{CheckpointValue}
use Rattle.lfs_model.specs.Counting.{segment_of}
use Rattle.lfs_model.specs.Device.{DeviceState}
use Rattle.lfs_model.specs.Entry.{Entry, Data, Leaf, Double, Inode, Map, Usage}
use Rattle.lfs_model.specs.Memory.{parent, file_of, is_shown, is_held, count_of}
use Rattle.lfs_model.specs.Running.{Dirty, IsTight, Tables, Running, IsLifted}
use Rattle.lfs_model.specs.Staging.{IsAtAddress}
use Rattle.lfs_model.specs.Stands.{LogMap}
use Rattle.lfs_model.proofs.Counting.{taken_counts}
use Rattle.lfs_model.proofs.Replacing.{address_at}
use Rattle.lfs_model.proofs.Running.{taken_memory, is_taken}
use Rattle.lfs_segments.specs.Chunk.{Chunk, IsOpenChunk}
use Rattle.lfs_segments.specs.Table.{UsageTable, live_of, held_of, stale_of}
use Rattle.lfs_segments.specs.Steps.{Lifts}
use Rattle.lfs_inodes.specs.Blocks.{Capacity, blocks_of}
use Rattle.lfs_inodes.specs.MapValue.{MapValue, is_hidden_in}
use Rattle.lfs_memory.specs.declared.memory.LogMemory.{LogMemory}
use Rattle.lfs_memory.specs.Memory.{IsMemory, IsLog, IsLoose, table_at, tables_by, tables_of, segment_in, chunk_in}
use Rattle.lfs_memory.specs.Changing.{IsCountedThere, IsMiscounted, IsPointedIn, Stays}
use Rattle.lfs_memory.proofs.FileSteps.{shows}

pub loose : (d : DeviceState) (v : LogMemory) (k : CheckpointValue) (m0 m : LogMap) → IsLog d v k m0 m → IsLoose d v k m0 m
loose d v k m0 m is = assumption

pub tight_again : {d : DeviceState} {v : LogMemory} {k : CheckpointValue} {m0 m : LogMap} → IsLoose d v k m0 m → IsTight (blocks_of v.dirty)
    → IsLog d v k m0 m
tight_again is tight = assumption

-- ---- memory
pub stays_memory : (v v' : LogMemory) → IsMemory v → v'.chunk ≡ v.chunk → length v'.usage.segments ≡ length v.usage.segments
    → (IsOpenChunk v.chunk v.usage → IsOpenChunk v.chunk v'.usage) → ((j : ℕ) → (tables_of v').at (Usage j) ≡ (tables_of v).at (Usage j))
    → ((j : ℕ) → stale_of v.usage j ≡ true → stale_of v'.usage j ≡ true)
    → v'.usage.unit ≡ v.usage.unit → v'.dirty.capacity ≡ v.dirty.capacity → IsMemory v'
stays_memory v v' memory chunk segments opened same stale unit capacity = record {
  count = rw segments memory.count;
  opened = λ some. subst (λ (c : Chunk). IsOpenChunk c v'.usage) (sym chunk)
      (opened (memory.opened (rw chunk at some)));
  short = rw chunk memory.short;
  usages = λ j one. stale j (memory.usages j (sym (same j) ∙ one));
  few = omega (arith, ap (λ (c : Capacity). c.limit) capacity);
  unit = omega (arith, memory.unit, unit);
}

pub stays_same : (v v' : LogMemory) → v'.chunk ≡ v.chunk → v'.usage ≡ v.usage → v'.dirty.capacity ≡ v.dirty.capacity → IsMemory v
    → IsMemory v'
stays_same v v' chunk usage capacity memory =
    stays_memory v v' memory chunk (ap (λ (u : UsageTable). length u.segments) usage)
    (subst (λ (u : UsageTable). IsOpenChunk v.chunk u) (sym usage)) (λ j. ap (λ (u : UsageTable). table_at v.map u (Usage j)) usage)
    (λ j on. ap (λ (u : UsageTable). stale_of u j) usage ∙ on) (ap (λ (u : UsageTable). u.unit) usage) capacity

pub below_or : (a : ℕ) (P : Type 0) → (a < 2 → P) → (2 ≤ a → P) → P
below_or zero P low high = low (omega arith)
below_or (suc zero) P low high = low (omega arith)
below_or (suc (suc a)) P low high = high (omega arith)

-- ---- a block that leaves its address
pub stays_put : (n : ℕ) {v : LogMemory} (v' : LogMemory) → v'.usage ≡ v.usage → v'.chunk ≡ v.chunk → v'.dirty.capacity ≡ v.dirty.capacity
    → length v'.dirty.blocks ≤ length v.dirty.blocks + n → Stays n v v'
stays_put n {v} v' usage chunk capacity blocks = record {
  memory = stays_same v v' chunk usage capacity;
  chunk = chunk;
  segments = rw usage;
  clean = rw usage;
  capacity = capacity;
  blocks = blocks;
}

pub stays_more : {v v' : LogMemory} → Stays 0 v v' → Stays 1 v v'
stays_more s = record {
  memory = s.memory;
  chunk = s.chunk;
  segments = s.segments;
  clean = s.clean;
  capacity = s.capacity;
  blocks = omega arith;
}

pub tops_same : {map map' : MapValue} (old new : UsageTable) → map' ≡ map
    → ((j : ℕ) → table_at map new (Usage j) ≡ table_at map old (Usage j))
    → (y : Entry) → table_at map' new y ≡ table_at map old y
tops_same old new is same (Data n i) = refl
tops_same old new is same (Leaf n q) = refl
tops_same old new is same (Double n) = refl
tops_same old new is same (Inode n) = rw is
tops_same old new is same (Map j) = rw is
tops_same old new is same (Usage j) = same j

pub lifts_tables : (m : LogMap) {map map' : MapValue} {old new : UsageTable} {x : Entry} {s : ℕ} (w : ℕ) {lives : Bool} → map' ≡ map
    → Lifts old new s lives → lives ≡ is_shown m x → (parent x ≡ x → ⊥)
    → IsLifted m (tables_by map old) (tables_by map' new) x w s
lifts_tables m {old = old} {new} w same go shows below = record {
  at = record { own = λ top. absurd (below top); others = λ y top ne. tops_same old new same (λ j. go.blocks.address j) y };
  used = go.used;
  live = rw shows at go.live;
  held = rw shows at go.held;
  age = go.age;
  kept = go.kept;
  stale = go.blocks.stale;
}

-- ---- the pointer to a block below another
pub pointed_at : (dirty : Dirty) (t : Tables) {x : Entry} (a : ℕ) → (parent x ≡ x → ⊥) → ((n q : ℕ) → x ≡ Leaf n q → q ≤ 128)
    → IsPointedIn dirty x a → IsAtAddress dirty t x a
pointed_at dirty t a below low p = record { top = λ top. absurd (below top); pointed = λ ne. p; low = low }

-- ---- a running log by other words
pub as_memory : {d : DeviceState} {dirty : Dirty} {k : CheckpointValue} {m0 m : LogMap} (v v' : LogMemory) {t : Tables} → v'.chunk ≡ v.chunk
    → t ≡ tables_of v'
    → Running d dirty t k m0 m (segment_in v.chunk) (chunk_in v.chunk)
    → Running d dirty (tables_of v') k m0 m (segment_in v'.chunk) (chunk_in v'.chunk)
as_memory {d} {dirty} {k} {m0} {m} v v' chunk same w =
    subst (λ (c : Chunk). Running d dirty (tables_of v') k m0 m (segment_in c) (chunk_in c)) (sym chunk)
    (rw same at w)

pub tables_same : (v v' : LogMemory) → v'.map ≡ v.map → v'.usage ≡ v.usage → tables_of v ≡ tables_of v'
tables_same v v' map usage = rw (← map) (ap (λ (u : UsageTable). tables_by v'.map u) (sym usage))

-- ---- a block below another that has an address is counted there
module _ (d : DeviceState) (v : LogMemory) (k : CheckpointValue) (m0 m : LogMap) (is : IsLoose d v k m0 m) (x : Entry) (a : ℕ)
    (at : IsAtAddress (blocks_of v.dirty) (tables_of v) x a) (above : 2 ≤ a) where
  where_is : is.running.memory.at x ≡ a
  where_is = address_at d k m0 m x a is.running at

  there : 2 ≤ is.running.memory.at x
  there = omega (arith, where_is)

  count_some : (p : Entry → Bool) → p x ≡ true → 0 < count_of p is.running.memory (segment_of (is.running.memory.at x))
  count_some p on =
      let M = is.running.memory in
      omega (
        arith,
        (taken_counts d.content m M _ x 1 (taken_memory M x 1 M.bytes) is.running.laid there
            (is_taken M x 1 M.bytes (omega arith)) p).0 on,
      )

  pub counted : {lives : Bool} → lives ≡ is_shown m x → IsCountedThere v.usage a lives
  counted shows =
      let w = is.running in
      let e = where_is in
      record {
        inside = omega arith;
        live = λ on. subst (λ (n : ℕ). 0 < live_of v.usage (segment_of n)) e
            (omega (arith, w.tables.live (segment_of (w.memory.at x)), count_some (is_shown m) (sym shows ∙ on)));
        held = λ off. subst (λ (n : ℕ). 0 < held_of v.usage (segment_of n)) e
            (omega (arith, w.tables.held (segment_of (w.memory.at x)), count_some (is_held m) (ap not (sym shows ∙ off))));
      }

-- so its leaving doesn't fail
pub never_miscounted : (d : DeviceState) (v : LogMemory) (k : CheckpointValue) (m0 m : LogMap) → IsLoose d v k m0 m
    → {x : Entry} (n : ℕ) {a : ℕ}
    → file_of x ≡ Some n → n < 4096
    → IsAtAddress (blocks_of v.dirty) (tables_of v) x a → IsMiscounted v.usage a (not (is_hidden_in v.map n)) → ⊥
never_miscounted d v k m0 m is {x} n {a} file few at bad =
    bad.1 (counted d v k m0 m is x a at bad.0 (shows m x n (is_hidden_in v.map n) file (is.hidden n few)))
