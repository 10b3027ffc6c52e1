-- A commit's last chunk is padded until it ends on a unit.
use Rattle.std.proofs.Common.{◌≡◌, ◌<◌, ◌≤◌, ◌-◌, ◌%◌, ◌==◌, ne_eqb, ℕ, length, refl, sym, ◌∙◌, ap, subst, arith}
use Rattle.std.proofs.lemmas.Bool.{cond-false}
use Rattle.lfs_model.specs.Checkpoint.{shape_of}
use Rattle.lfs_model.specs.Crash.{StandsOn}
use Rattle.lfs_model.specs.Device.{DeviceState, IsLawful}
use Rattle.lfs_model.specs.Counting.{segment_of}
use Rattle.lfs_model.proofs.Moments.{carries_none, started}
use Rattle.lfs_model.proofs.Settled.{settled_stands}
use Rattle.lfs_memory.specs.segments.Chunk.{Chunk, due_in, room_behind, room_in}
use Rattle.lfs_memory.specs.segments.Table.{UsageTable, address_of, kept_of, stale_of}
use Rattle.lfs_memory.specs.declared.memory.LogMemory.{LogMemory}
use Rattle.lfs_memory.specs.Memory.{GoesUpTo, Goes, IsMemory, OnlyPads, PadsChunk, Stops}
use Rattle.lfs_memory.specs.Moving.{HoldsOn, StaysPut}
use Rattle.lfs_memory.proofs.Going.{goes_then, stops_then}
use Rattle.lfs_memory.proofs.Padded.{pads_emptied, pads_memory, pads_only, pads_stays, to_full}
use Rattle.lfs_memory.proofs.Rooms.{room_some}
use Rattle.lfs_log.specs.Keeping.{OnlyChunk}
use Rattle.lfs_log.specs.Settling.{AreAnew}

-- the usage blocks that changed stand where they stood
pub anew_still : {v v' : LogMemory} → OnlyPads v v' → AreAnew v.usage → AreAnew v'.usage
anew_still {v} {v'} only anew j low on =
    let was = anew j (omega (arith, low, only.size)) (sym (only.blocks j).0 ∙ on) in
    let same = (only.blocks j).1 in
    subst (λ (a : ℕ). (2 ≤ a) × (segment_of a < length v'.usage.segments) × (kept_of v'.usage (segment_of a) ≤ (a - 2) % 64)) (sym same)
    (was.0, omega (arith, was.1, only.size), omega (arith, was.2, only.kept (segment_of (address_of v.usage j))))

pub only_chunk : {v v' : LogMemory} → OnlyChunk v v' → OnlyPads v v'
only_chunk only = record {
  map = only.map;
  dirty = only.dirty;
  blocks = λ j. (ap (λ (u : UsageTable). stale_of u j) only.usage, ap (λ (u : UsageTable). address_of u j) only.usage);
  kept = λ s. ap (λ (u : UsageTable). kept_of u s) only.usage;
  size = ap (λ (u : UsageTable). length u.segments) only.usage;
  clean = rw only.usage;
  early = rw only.usage;
  unit = ap (λ (u : UsageTable). u.unit) only.usage;
}

-- no room is lost by names that the chunk has room for
pub padded_goes : {d : DeviceState} {v v' : LogMemory} → IsLawful d → IsMemory v → PadsChunk v v' → GoesUpTo 63 d d v v' (room_in v.chunk)
padded_goes {d} {v} {v'} lawful memory pads =
    let only = pads_only pads (to_full memory) in
    record {
      carries = carries_none;
      memory = pads_memory pads (to_full memory);
      segments = only.size;
      room = omega (arith, only.clean);
      no_failure = refl;
      emptied = pads_emptied pads (to_full memory);
      log = λ k m0 m keeps is. (pads_stays pads (to_full memory) d k m0 m is).0;
      quiet = λ k m0 m keeps is. started (λ c. StandsOn (shape_of k) c m0) lawful (settled_stands d k m0 is.running.settled);
    }

-- and then its summary is written
pub padded_sealed : {d d' : DeviceState} {v v' v'' : LogMemory} {n : ℕ} → IsLawful d → IsMemory v → 0 < length v.chunk.names
    → PadsChunk v v' → Goes d d' v' v'' n → OnlyPads v v'' → Goes d d' v v'' 62
padded_sealed {d} {d'} {v} {v'} {v''} lawful memory some pads goes only =
    let both = goes_then (padded_goes lawful memory pads) goes in
    record {
      carries = both.carries;
      memory = both.memory;
      segments = both.segments;
      room = omega (arith, only.clean, room_some v.chunk some, some);
      no_failure = both.no_failure;
      emptied = both.emptied;
      log = both.log;
      quiet = both.quiet;
    }

pub padded_stays : {d d' : DeviceState} {v v' v'' : LogMemory} → IsMemory v → PadsChunk v v' → HoldsOn d d' v' v'' StaysPut
    → HoldsOn d d' v v'' StaysPut
padded_stays {d} memory pads stays k m0 m keeps is =
    let first = pads_stays pads (to_full memory) d k m0 m is in
    let second = stays k m0 m keeps first.0 in
    (second.0, λ y. second.1 y ∙ first.1 y)

pub padded_stops : {d d' : DeviceState} {v v' : LogMemory} → IsLawful d → IsMemory v → PadsChunk v v' → Stops d d' v' → Stops d d' v
padded_stops lawful memory pads stops = stops_then (padded_goes lawful memory pads) stops

-- a summary is to come
pub due_some : (c : Chunk) (u : UsageTable) → 0 < length c.names → due_in c u ≡ 1
due_some c u some = cond-false (length c.names == 0) (room_behind u u.last) 1 (ne_eqb (length c.names) 0 (λ z. omega (arith, z, some)))
