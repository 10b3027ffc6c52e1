-- What a call of the device leaves of the log, and the chunk that is being written.
use Rattle.std.proofs.Common.{◌≡◌, ◌<◌, ◌≤◌, ◌+◌, ◌*◌, ℕ, List, length, Option, Some, None, refl, subst, arith}
use Rattle.lfs_model.specs.Checkpoint.{CheckpointValue, shape_of}
use Rattle.lfs_model.specs.Content.{Content}
use Rattle.lfs_model.specs.Crash.{IsFreeSector, StandsOn}
use Rattle.lfs_model.specs.Device.{DeviceState, MayWriteUnit, CrashWritesUnit, Carries, Elapses, IsLawful, LeavesOnly}
use Rattle.lfs_model.specs.Entry.{Entry}
use Rattle.lfs_model.specs.Memory.{Memory}
use Rattle.lfs_model.specs.Stands.{LogMap}
use Rattle.lfs_model.specs.Running.{Dirty, Tables, Running}
use Rattle.lfs_model.specs.Settled.{IsSettled}
use Rattle.lfs_model.proofs.Moments.{started, goes_on}
use Rattle.lfs_model.proofs.Settled.{settled_stands, settled_write}
use Rattle.lfs_segments.specs.Chunk.{Chunk, entries_of}
use Rattle.lfs_inodes.specs.Blocks.{blocks_of}
use Rattle.lfs_memory.specs.declared.memory.LogMemory.{LogMemory}
use Rattle.lfs_memory.proofs.Rooms.{not_zero}
use Rattle.lfs_memory.specs.Memory.{IsLog, tables_of, segment_in, chunk_in}

pub open_segment : (c : Chunk) → 0 < length c.names → segment_in c ≡ c.segment
open_segment c some = rw (not_zero (length c.names) some)

pub open_chunk : (c : Chunk) → 0 < length c.names → chunk_in c ≡ Some (entries_of c)
open_chunk c some = rw (not_zero (length c.names) some)

pub closed_segment : (c : Chunk) → length c.names ≡ 0 → segment_in c ≡ 1024
closed_segment c none = rw none

pub closed_chunk : (c : Chunk) → length c.names ≡ 0 → chunk_in c ≡ None
closed_chunk c none = rw none

-- the segment and the entries of a running log by other words
pub as_chunk : {d : DeviceState} {dirty : Dirty} {t : Tables} {k : CheckpointValue} {m0 m : LogMap} {a b : ℕ} {x y : Option (List Entry)}
    → a ≡ b → x ≡ y → Running d dirty t k m0 m a x → Running d dirty t k m0 m b y
as_chunk {d} {dirty} {t} {k} {m0} {m} {b} s c w =
    subst (λ (o : Option (List Entry)). Running d dirty t k m0 m b o) c (rw s at w)

-- and what is known of its memory
pub as_chunk_to : {d : DeviceState} {dirty : Dirty} {t : Tables} {k : CheckpointValue} {m0 m : LogMap} {a b : ℕ} {x y : Option (List Entry)}
    (P : Memory → Type 0)
    → a ≡ b → x ≡ y → (w : Running d dirty t k m0 m a x) × P w.memory → (w : Running d dirty t k m0 m b y) × P w.memory
as_chunk_to {d} {dirty} {t} {k} {m0} {m} {b = b} {x} P s c w =
    subst (λ (o : Option (List Entry)). (w : Running d dirty t k m0 m b o) × P w.memory) c
    (subst (λ (n : ℕ). (w : Running d dirty t k m0 m n x) × P w.memory) s w)

module _ {d : DeviceState} {v : LogMemory} {k : CheckpointValue} {m0 m : LogMap} (is : IsLog d v k m0 m) where
  pub is_open : 0 < length v.chunk.names → Running d (blocks_of v.dirty) (tables_of v) k m0 m v.chunk.segment (Some (entries_of v.chunk))
  is_open some = as_chunk (open_segment v.chunk some) (open_chunk v.chunk some) is.running

  pub is_closed : length v.chunk.names ≡ 0 → Running d (blocks_of v.dirty) (tables_of v) k m0 m 1024 None
  is_closed none = as_chunk (closed_segment v.chunk none) (closed_chunk v.chunk none) is.running

  -- with the same memory
  abbrev pub IsSameLog : ℕ → Option (List Entry) → Type 0
  IsSameLog seg chunk = (w : Running d (blocks_of v.dirty) (tables_of v) k m0 m seg chunk) × (w.memory ≡ is.running.memory)

  pub is_open_to : 0 < length v.chunk.names → IsSameLog v.chunk.segment (Some (entries_of v.chunk))
  is_open_to some = as_chunk_to (λ (M : Memory). M ≡ is.running.memory) (open_segment v.chunk some) (open_chunk v.chunk some)
      (is.running, refl)

  pub is_closed_to : length v.chunk.names ≡ 0 → IsSameLog 1024 None
  is_closed_to none = as_chunk_to (λ (M : Memory). M ≡ is.running.memory) (closed_segment v.chunk none) (closed_chunk v.chunk none)
      (is.running, refl)

-- a write to a free sector, done or failed
module _ {d d' : DeviceState} {k : CheckpointValue} (m0 : LogMap) (at : ℕ) (bytes : List ℕ) (settled : IsSettled d k m0)
    (free : IsFreeSector d.content k at)
    (may : MayWriteUnit d.unit at bytes d.content d'.content) (crash : CrashWritesUnit at bytes d d') (unit : d'.unit ≡ d.unit) where
  pub stays_settled : IsSettled d' k m0
  stays_settled = (settled_write d d' k m0 at bytes settled free may crash unit).0

  pub stays_quiet : IsLawful d → Carries d d' → Elapses d d' → LeavesOnly d d' (λ c. StandsOn (shape_of k) c m0)
  stays_quiet lawful carries time =
      let P : Content → Type 0 = λ c. StandsOn (shape_of k) c m0 in
      goes_on P (started P lawful (settled_stands d k m0 settled)) carries time (settled_stands d' k m0 stays_settled)

-- a sector that the acknowledged checkpoint has no use for
pub taken_free : {d : DeviceState} {dirty : Dirty} {t : Tables} {k : CheckpointValue} {m0 m : LogMap} {seg : ℕ}
    {chunk : Option (List Entry)} → Running d dirty t k m0 m seg chunk
    → (s place : ℕ) → s < k.segments → t.kept s ≤ place → place < 64 → IsFreeSector d.content k (2 + 64 * s + place)
taken_free w s place below free low =
    record { segment = s; place = place; is = refl; within = low; below = below; unused = omega arith }
