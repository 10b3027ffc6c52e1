-- The summary of a chunk is written.
use Rattle.std.proofs.Common.{◌≡◌, ◌<◌, ◌≤◌, ◌+◌, ◌*◌, ◌%◌, ◌^◌, ℕ, [], length, Some, refl, sym, ap, subst, ◌∙◌, arith}
use Rattle.lfs_model.specs.Checkpoint.{CheckpointValue}
use Rattle.lfs_model.specs.Crash.{IsFreeSector}
use Rattle.lfs_model.specs.Device.{DeviceState, MayWriteUnit, CrashWritesUnit, Carries, Elapses, IsLawful, put, left_new}
use Rattle.lfs_model.specs.Entry.{entries_in, entry_of}
use Rattle.std.proofs.lemmas.List.{length-map}
use Rattle.lfs_model.specs.Memory.{Memory}
use Rattle.lfs_model.specs.Stands.{LogMap}
use Rattle.lfs_model.specs.Summary.{summary_sector}
use Rattle.lfs_model.specs.Settled.{IsSettled}
use Rattle.lfs_model.proofs.Leaving.{closing_to}
use Rattle.lfs_memory.specs.segments.Chunk.{Chunk, entries_of, room_in}
use Rattle.lfs_memory.specs.segments.Table.{used_of}
use Rattle.lfs_memory.specs.inodes.Blocks.{blocks_of}
use Rattle.lfs_memory.specs.declared.memory.LogMemory.{LogMemory}
use Rattle.lfs_memory.specs.Memory.{IsMemory, IsMemoryUpTo, IsLog, EndsUnit, Goes, Stops, Quiet, tables_of}
use Rattle.lfs_memory.specs.Moving.{HoldsOn, StaysPut}
use Rattle.lfs_memory.proofs.Opened.{closed_segment, closed_chunk, as_chunk_to, is_open, is_open_to, stays_settled, stays_quiet, taken_free}
use Rattle.lfs_memory.proofs.Rooms.{room_none}
use Rattle.lfs_model.proofs.UnitSizes.{segment_whole}
use Rattle.lfs_model.proofs.UnitWrites.{to_unit}

module _ {d d' : DeviceState} {v : LogMemory} (memory : IsMemoryUpTo 63 v) (some : 0 < length v.chunk.names) (lawful : IsLawful d)
    (spelt : entries_in (summary_sector v.chunk.names) ≡ Some (entries_of v.chunk))
    (crash : CrashWritesUnit (2 + 64 * v.chunk.segment + v.chunk.start) (summary_sector v.chunk.names) d d') (carries : Carries d d')
    (time : Elapses d d') where
  abbrev at : ℕ
  at = 2 + 64 * v.chunk.segment + v.chunk.start

  free : (k : CheckpointValue) (m0 m : LogMap) → IsLog d v k m0 m → IsFreeSector d.content k at
  free k m0 m is =
      let w = is_open is some in
      let o = memory.opened some in
      let short = memory.short some in
      let inside : v.chunk.segment < k.segments = let i = o.inside in let e = is.segments in omega (arith, i, e) in
      taken_free w _ _ inside o.free (omega (arith, short))

  module _ (may : d'.keeps_model → MayWriteUnit d.unit at (summary_sector v.chunk.names) d.content d'.content) where
    pub settled_sealed : (k : CheckpointValue) (m0 m : LogMap) → d'.keeps_model → IsLog d v k m0 m → IsSettled d' k m0
    settled_sealed k m0 m keeps is =
        stays_settled m0 at (summary_sector v.chunk.names) is.running.settled (free k m0 m is) (may keeps) crash carries.unit

    pub quiet_sealed : Quiet d d' v
    quiet_sealed k m0 m keeps is =
        stays_quiet m0 at (summary_sector v.chunk.names) is.running.settled (free k m0 m is) (may keeps) crash carries.unit
        lawful carries time

  pub seal_stops : (d'.keeps_model → MayWriteUnit d.unit at (summary_sector v.chunk.names) d.content d'.content) →
      d.failed_orders < d'.failed_orders
      → Stops d d' v
  seal_stops may failed = record {
    carries = carries;
    cause = λ k m0 m keeps is. failed;
    settled = settled_sealed may;
    quiet = quiet_sealed may;
  }

  module _ (ends : EndsUnit v) (c : Chunk) (ended : c.names ≡ []) (no_failure : d'.failures ≡ d.failures)
      (is_put : d'.keeps_model → d'.content ≡ put d.content at (summary_sector v.chunk.names)) where
    abbrev v' : LogMemory
    v' = record { map = v.map; usage = v.usage; dirty = v.dirty; chunk = c }

    none : length c.names ≡ 0
    none = ap length ended

    -- no block moves by that
    pub seal_stays : HoldsOn d d' v v' StaysPut
    seal_stays k m0 m keeps is =
        let few : k.segments ≤ 1024 = let e = is.segments in let most = memory.count.most in omega (arith, e, most) in
        let long = length-map v.chunk.names entry_of in
        let used = (memory.opened some).used in
        let o = is_open_to is some in
        let w = closing_to d d' (blocks_of v.dirty) (tables_of v) k m0 m v.chunk.segment v.chunk.start (entries_of v.chunk)
        (summary_sector v.chunk.names) 1024
        o.0 (omega (arith, long, used))
        (subst (λ (p : ℕ). used_of v.usage v.chunk.segment % 2 ^ p ≡ 0) is.unit ends) spelt
        (record { content = is_put keeps; crash = crash; unit = carries.unit }) few in
        let last = as_chunk_to (StaysPut is.running.memory) (sym (closed_segment c none)) (sym (closed_chunk c none))
        (w.0, λ y. w.1 y ∙ ap (λ (M : Memory). M.at y) o.1) in
        let done : IsLog d' v' k m0 m =
        record { running = last.0; hidden = is.hidden; segments = is.segments; unit = is.unit; tight = is.tight } in
        (done, last.1)

    log : (k : CheckpointValue) (m0 m : LogMap) → d'.keeps_model → IsLog d v k m0 m → IsLog d' v' k m0 m
    log k m0 m keeps is = (seal_stays k m0 m keeps is).0

    pub seal_goes : Goes d d' v v' (room_in v.chunk)
    seal_goes = record {
      carries = carries;
      memory = record {
        count = memory.count;
        opened = λ begun. absurd (let z = none in omega (arith, z, begun));
        short = λ begun. absurd (let z = none in omega (arith, z, begun));
        usages = memory.usages;
        few = memory.few;
        unit = memory.unit;
      };
      segments = refl;
      room = let z = room_none c none in omega (arith, z);
      no_failure = no_failure;
      emptied = λ s is. is;
      log = log;
      quiet = quiet_sealed (λ keeps. to_unit d.unit at (summary_sector v.chunk.names) d.content d'.content (left_new (is_put keeps)));
    }

-- a chunk that is full ends with its segment, which is whole units
pub full_ends : {v : LogMemory} → IsMemoryUpTo 63 v → 0 < length v.chunk.names → v.chunk.start + length v.chunk.names ≡ 63 → EndsUnit v
full_ends {v} memory some full =
    let used : used_of v.usage v.chunk.segment ≡ 64 = omega (arith, (memory.opened some).used, full) in
    ap (λ (n : ℕ). n % 2 ^ v.usage.unit) used ∙ segment_whole v.usage.unit memory.unit

-- a chunk that isn't full
pub not_full : {v : LogMemory} → IsMemoryUpTo 63 v → (v.chunk.start + length v.chunk.names ≡ 63 → ⊥) → IsMemory v
not_full memory room = record {
  count = memory.count;
  opened = memory.opened;
  short = λ some. let s = memory.short some in let ne = room in omega (arith, s, ne);
  usages = memory.usages;
  few = memory.few;
  unit = memory.unit;
}
