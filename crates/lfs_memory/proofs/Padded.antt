-- A chunk names an entry more, for no block.
use Rattle.std.proofs.Common.{◌≡◌, ◌<◌, ◌≤◌, ◌+◌, ◌-◌, ◌/◌, ◌%◌, ◌^◌, ℕ, suc, true, List, [], ◌∷◌, ◌++◌, length, map, Some, refl, sym}
use Rattle.std.proofs.Common.{◌∙◌, ap, subst, arith, length-append}
use Rattle.std.proofs.lemmas.List.{map-append}
use Rattle.lfs_model.specs.Checkpoint.{CheckpointValue, IsSegmentCount}
use Rattle.lfs_model.specs.Device.{DeviceState}
use Rattle.lfs_model.specs.Entry.{Entry, entry_of}
use Rattle.lfs_model.specs.Memory.{Memory}
use Rattle.lfs_model.specs.Running.{IsPadded, Running}
use Rattle.lfs_model.specs.Stands.{LogMap}
use Rattle.lfs_model.proofs.Padding.{padding_to}
use Rattle.lfs_model.proofs.UnitSizes.{filled_up}
use Rattle.lfs_segments.specs.Chunk.{entries_of, usage_name}
use Rattle.lfs_segments.specs.Table.{used_of}
use Rattle.lfs_segments.proofs.Early.{early_same}
use Rattle.lfs_segments.proofs.StaysEmptied.{padded_emptied}
use Rattle.lfs_segments.specs.Emptied.{IsEmptied}
use Rattle.lfs_inodes.specs.Blocks.{TableValue, blocks_of}
use Rattle.lfs_memory.specs.declared.memory.LogMemory.{LogMemory}
use Rattle.lfs_memory.specs.Memory.{IsMemoryUpTo, IsLog, OnlyPads, PadsChunk, PadsOnce, chunk_in, segment_in, tables_by, tables_of}
use Rattle.lfs_memory.specs.Moving.{StaysPut}
use Rattle.lfs_memory.proofs.Looses.{tops_same}
use Rattle.lfs_memory.proofs.Opened.{as_chunk_to, is_open_to, open_chunk, open_segment}

module _ {v v' : LogMemory} (memory : IsMemoryUpTo 63 v) (go : PadsOnce v v') where
  long : length v'.chunk.names ≡ suc (length v.chunk.names)
  long = ap length go.names ∙ length-append v.chunk.names (usage_name (v.chunk.segment / 64) ∷ []) ∙ omega arith

  more : 0 < length v'.chunk.names
  more = omega (arith, long)

  is_padded : IsPadded (tables_of v) (tables_by v.map v'.usage) v.chunk.segment
  is_padded = record {
    at = λ y. tops_same {map = v.map} v.usage v'.usage refl (λ j. go.pads.blocks.address j) y;
    used = go.pads.used;
    live = go.pads.live;
    held = go.pads.held;
    age = go.pads.age;
    kept = go.pads.kept;
    stale = go.pads.blocks.stale;
  }

  chunk_now : chunk_in v'.chunk ≡ Some (entries_of v.chunk ++ entry_of (usage_name (v.chunk.segment / 64)) ∷ [])
  chunk_now = open_chunk v'.chunk more ∙ ap Some (ap (map entry_of) go.names
      ∙ map-append entry_of v.chunk.names (usage_name (v.chunk.segment / 64) ∷ []))

  -- and no block moves
  padded_stays : (d : DeviceState) (k : CheckpointValue) (m0 m : LogMap) (is : IsLog d v k m0 m)
      → (is' : IsLog d v' k m0 m) × StaysPut is.running.memory is'.running.memory
  padded_stays d k m0 m is =
      let o = is_open_to is go.some in
      let w = padding_to d (blocks_of v.dirty) (tables_of v) (tables_by v.map v'.usage) k m0 m v.chunk.segment (entries_of v.chunk)
      (entry_of (usage_name (v.chunk.segment / 64))) o.0 go.room is_padded in
      let Same : Memory → Type 0 = StaysPut is.running.memory in
      let next = as_chunk_to Same (sym (open_segment v'.chunk more ∙ go.place.segment)) (sym chunk_now)
      (w.0, λ y. w.1 y ∙ ap (λ (M : Memory). M.at y) o.1) in
      let last : (w' : Running d (blocks_of v'.dirty) (tables_of v') k m0 m (segment_in v'.chunk) (chunk_in v'.chunk)) × Same w'.memory =
      rw (go.map, go.dirty) next in
      let done : IsLog d v' k m0 m = record {
        running = last.0;
        hidden = rw go.map is.hidden;
        segments = go.pads.size ∙ is.segments;
        unit = go.pads.unit ∙ is.unit;
        tight = rw go.dirty is.tight;
      } in
      (done, last.1)

  padded_only : OnlyPads v v'
  padded_only = record {
    map = go.map;
    dirty = go.dirty;
    blocks = λ j. (go.stale j, go.pads.blocks.address j);
    kept = go.pads.kept;
    size = go.pads.size;
    clean = go.pads.clean;
    early = early_same v.usage v'.usage go.pads.size go.pads.live go.pads.held go.pads.kept;
    unit = go.pads.unit;
  }

  padded_emptied_too : (s : ℕ) → IsEmptied v.usage s → IsEmptied v'.usage s
  padded_emptied_too s is = padded_emptied is go.pads (let o = memory.opened go.some in omega (arith, o.free, o.used))

  padded_memory : IsMemoryUpTo 63 v'
  padded_memory = record {
    count = subst IsSegmentCount (sym go.pads.size) memory.count;
    opened = λ begun. go.opened;
    short = λ begun. omega (arith, long, go.place.start, go.room, (memory.opened go.some).used);
    usages = λ j one. go.stale j ∙ memory.usages j (sym (go.pads.blocks.address j) ∙ one);
    few = omega (arith, memory.few, go.pads.size, ap (λ (t : TableValue). t.capacity.limit) go.dirty);
    unit = omega (arith, memory.unit, go.pads.unit);
  }

-- ---- or so many
pub to_full : {v : LogMemory} → IsMemoryUpTo 62 v → IsMemoryUpTo 63 v
to_full memory = record {
  count = memory.count;
  opened = memory.opened;
  short = λ some. omega (arith, memory.short some);
  usages = memory.usages;
  few = memory.few;
  unit = memory.unit;
}

pub only_none : (v : LogMemory) → OnlyPads v v
only_none v = record {
  map = refl;
  dirty = refl;
  blocks = λ j. (refl, refl);
  kept = λ s. refl;
  size = refl;
  clean = refl;
  early = refl;
  unit = refl;
}

pub only_then : {u v w : LogMemory} → OnlyPads u v → OnlyPads v w → OnlyPads u w
only_then one two = record {
  map = two.map ∙ one.map;
  dirty = two.dirty ∙ one.dirty;
  blocks = λ j. ((two.blocks j).0 ∙ (one.blocks j).0, (two.blocks j).1 ∙ (one.blocks j).1);
  kept = λ s. two.kept s ∙ one.kept s;
  size = two.size ∙ one.size;
  clean = two.clean ∙ one.clean;
  early = two.early ∙ one.early;
  unit = two.unit ∙ one.unit;
}

pub pads_memory : {v v' : LogMemory} → PadsChunk v v' → IsMemoryUpTo 63 v → IsMemoryUpTo 63 v'
pads_memory PadsChunk.nothing memory = memory
pads_memory (PadsChunk.more w v' before one) memory = padded_memory (pads_memory before memory) one

pub pads_only : {v v' : LogMemory} → PadsChunk v v' → IsMemoryUpTo 63 v → OnlyPads v v'
pads_only {v} PadsChunk.nothing memory = only_none v
pads_only (PadsChunk.more w v' before one) memory =
    only_then (pads_only before memory) (padded_only (pads_memory before memory) one)

pub pads_emptied : {v v' : LogMemory} → PadsChunk v v' → IsMemoryUpTo 63 v → (s : ℕ) → IsEmptied v.usage s → IsEmptied v'.usage s
pads_emptied PadsChunk.nothing memory s is = is
pads_emptied (PadsChunk.more w v' before one) memory s is =
    padded_emptied_too (pads_memory before memory) one s (pads_emptied before memory s is)

pub pads_begun : {v v' : LogMemory} → PadsChunk v v' → 0 < length v.chunk.names → 0 < length v'.chunk.names
pads_begun PadsChunk.nothing some = some
pads_begun (PadsChunk.more w v' before one) some =
    let long = ap length one.names ∙ length-append w.chunk.names (usage_name (w.chunk.segment / 64) ∷ []) in omega (arith, long)

pub pads_stays : {v v' : LogMemory} → PadsChunk v v' → IsMemoryUpTo 63 v
    → (d : DeviceState) (k : CheckpointValue) (m0 m : LogMap) (is : IsLog d v k m0 m)
    → (is' : IsLog d v' k m0 m) × StaysPut is.running.memory is'.running.memory
pads_stays PadsChunk.nothing memory d k m0 m is = (is, λ y. refl)
pads_stays (PadsChunk.more w v' before one) memory d k m0 m is =
    let first = pads_stays before memory d k m0 m is in
    let second = padded_stays (pads_memory before memory) one d k m0 m first.0 in
    (second.0, λ y. second.1 y ∙ first.1 y)

-- what a part in use lacks of whole units
pub lacks : {p used unit rest : ℕ} → p ≤ 6 → unit ≡ 2 ^ p → rest ≡ used % unit → (rest ≡ 0 → ⊥)
    → ((used + (unit - rest)) % 2 ^ p ≡ 0) × (used ≤ 64 → used + (unit - rest) ≤ 64)
lacks {p} {used} few size part some =
    rw (part, size) (filled_up p few used (λ none. some (part ∙ ap (λ (n : ℕ). used % n) size ∙ none)))

pub pads_used : {v v' : LogMemory} → PadsOnce v v' → used_of v'.usage v'.chunk.segment ≡ used_of v.usage v.chunk.segment + 1
pads_used {v} {v'} one = ap (used_of v'.usage) one.place.segment ∙ one.pads.used.own ∙ omega arith
