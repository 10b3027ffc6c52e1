-- A block that gets the next place: the chunk that it goes to, as the log runs.
use Rattle.std.proofs.Common.{◌≡◌, ◌<◌, ⊎_elim, ◌⊎◌, inl, inr, ℕ, zero, suc, Bool, true, List, [], ◌∷◌, ◌++◌, length, Some, refl}
use Rattle.std.proofs.Common.{sym, ◌∙◌, ap, arith}
use Rattle.std.specs.Prelude.{map}
use Rattle.std.proofs.lemmas.List.{length-append, map-append}
use Rattle.lfs_model.specs.Checkpoint.{CheckpointValue}
use Rattle.lfs_model.specs.Crash.{IsFreeSector}
use Rattle.lfs_model.specs.Device.{DeviceState}
use Rattle.lfs_model.specs.Entry.{Entry, Data, Leaf, Double, Inode, Map, Usage, entry_of}
use Rattle.lfs_model.specs.Stands.{LogMap}
use Rattle.lfs_model.specs.Summary.{BlockNameValue}
use Rattle.lfs_model.specs.Memory.{Memory, is_shown}
use Rattle.lfs_model.specs.Running.{Tables, Running, IsAddressed, IsNoted, IsTakenFrom, GoesOnIn}
use Rattle.lfs_model.specs.Committing.{place_of}
use Rattle.lfs_model.proofs.Leaving.{beginning_to, going_on_to}
use Rattle.lfs_segments.specs.Table.{UsageTable, used_of, stale_of}
use Rattle.lfs_segments.specs.Chunk.{entries_of}
use Rattle.lfs_segments.specs.Steps.{TakesSegment, GoesOn}
use Rattle.lfs_segments.specs.Emptied.{IsEmptied}
use Rattle.lfs_segments.proofs.Beginnings.{begins_size, begins_unit, begins_room, begins_address, begins_stale}
use Rattle.lfs_segments.proofs.StaysEmptied.{stays_emptied}
use Rattle.lfs_inodes.specs.Blocks.{Capacity, TableValue, blocks_of}
use Rattle.lfs_inodes.specs.MapValue.{MapValue}
use Rattle.lfs_memory.specs.declared.memory.LogMemory.{LogMemory}
use Rattle.lfs_memory.specs.Memory.{IsMemory, IsMemoryUpTo, IsLog, Places, tables_by, segment_in, chunk_in}
use Rattle.lfs_memory.proofs.Opened.{is_open_to, is_closed_to, as_chunk_to, open_segment, open_chunk, taken_free}
use Rattle.lfs_memory.proofs.Stales.{stays_stale}

pub zero_or_more : (n : ℕ) → (n ≡ 0) ⊎ (0 < n)
zero_or_more zero = inl refl
zero_or_more (suc n) = inr (omega arith)

no_entries : (names : List BlockNameValue) → length names ≡ 0 → map entry_of names ≡ []
no_entries [] none = refl
no_entries (x ∷ xs) none = absurd (omega arith)

-- a segment taken from the clean ones, as the tables see it
pub taken_tables : (map : MapValue) {old new : UsageTable} {s : ℕ} (age : ℕ) → TakesSegment old new s age
    → IsTakenFrom (tables_by map old) (tables_by map new) s
taken_tables map {old} {new} age t = record {
  clean = t.clean;
  at = at;
  used = t.used;
  live = t.live;
  held = t.held;
  age = t.age.others;
  kept = t.kept;
  stale = λ j. (t.blocks j).0;
}
  where
    at : (y : Entry) → (tables_by map new).at y ≡ (tables_by map old).at y
    at (Data n i) = refl
    at (Leaf n q) = refl
    at (Double n) = refl
    at (Inode n) = refl
    at (Map j) = refl
    at (Usage j) = (t.blocks j).1

-- a chunk that begins behind another, as the tables see it
pub gone_tables : (map : MapValue) {old new : UsageTable} {s : ℕ} (age : ℕ) → GoesOn old new s age
    → GoesOnIn (tables_by map old) (tables_by map new) s
gone_tables map {old} {new} age g = record {
  some = g.begun;
  room = omega arith;
  at = at;
  used = g.used;
  live = g.live;
  held = g.held;
  age = g.age.others;
  kept = g.kept;
  stale = g.blocks.stale;
}
  where
    at : (y : Entry) → (tables_by map new).at y ≡ (tables_by map old).at y
    at (Data n i) = refl
    at (Leaf n q) = refl
    at (Double n) = refl
    at (Inode n) = refl
    at (Map j) = refl
    at (Usage j) = g.blocks.address j

module _ {v v' : LogMemory} {name : BlockNameValue} {lives : Bool} {age place : ℕ} (memory : IsMemory v)
    (p : Places v v' name lives age place) where
  abbrev pub before : Tables
  before = tables_by v.map p.middle

  pub place_is : place ≡ place_of before v'.chunk.segment
  place_is = p.address

  -- the segment has room for the block
  pub room_left : before.used v'.chunk.segment < 64
  room_left = elim (zero_or_more (length v.chunk.names)) [
    | inl none ↦ begins_room v.usage p.middle v'.chunk.segment age (p.begun none)
    | inr some ↦
        let w = p.went_on some in
        let o = (memory.opened some).used in
        let short = memory.short some in
        omega (arith, ap (used_of v.usage) w.1, ap (λ (u : UsageTable). used_of u v'.chunk.segment) w.0)
  ]

  pub segments_same : length v'.usage.segments ≡ length v.usage.segments
  segments_same = elim (zero_or_more (length v.chunk.names)) [
    | inl none ↦ p.noted.size ∙ begins_size v.usage p.middle v'.chunk.segment age (p.begun none)
    | inr some ↦ p.noted.size ∙ ap (λ (u : UsageTable). length u.segments) (p.went_on some).0
  ]

  pub unit_same : v'.usage.unit ≡ v.usage.unit
  unit_same = elim (zero_or_more (length v.chunk.names)) [
    | inl none ↦ p.noted.unit ∙ begins_unit v.usage p.middle v'.chunk.segment age (p.begun none)
    | inr some ↦ p.noted.unit ∙ ap (λ (u : UsageTable). u.unit) (p.went_on some).0
  ]

  pub addresses_same : (j : ℕ) → (tables_by v.map v'.usage).at (Usage j) ≡ (tables_by v.map v.usage).at (Usage j)
  addresses_same j = elim (zero_or_more (length v.chunk.names)) [
    | inl none ↦ p.noted.blocks.address j
        ∙ begins_address v.usage p.middle v'.chunk.segment age (p.begun none) j
    | inr some ↦ p.noted.blocks.address j
        ∙ ap (λ (u : UsageTable). (tables_by v.map u).at (Usage j)) (p.went_on some).0
  ]

  stale_still : (j : ℕ) → stale_of v.usage j ≡ true → stale_of v'.usage j ≡ true
  stale_still j on = elim (zero_or_more (length v.chunk.names)) [
    | inl none ↦ stays_stale j p.noted.blocks
        (begins_stale v.usage p.middle v'.chunk.segment age (p.begun none) j on)
    | inr some ↦ stays_stale j p.noted.blocks (rw ((p.went_on some).0) on)
  ]

  pub long_names : length v'.chunk.names ≡ suc (length v.chunk.names)
  long_names = ap length p.names ∙ length-append v.chunk.names (name ∷ []) ∙ omega arith

  pub more_entries : entries_of v'.chunk ≡ entries_of v.chunk ++ entry_of name ∷ []
  more_entries = ap (map entry_of) p.names ∙ map-append entry_of v.chunk.names (name ∷ [])

  pub opened_after : chunk_in v'.chunk ≡ Some (entries_of v.chunk ++ entry_of name ∷ [])
  opened_after = open_chunk v'.chunk (omega (arith, long_names)) ∙ ap Some more_entries

  pub segment_after : segment_in v'.chunk ≡ v'.chunk.segment
  segment_after = open_segment v'.chunk (omega (arith, long_names))

  pub memory_after : (map : MapValue) (dirty : TableValue) → dirty.capacity ≡ v.dirty.capacity
      → IsMemoryUpTo 63 (record { map = map; usage = v'.usage; dirty = dirty; chunk = v'.chunk })
  memory_after map dirty same = record {
    count = rw segments_same memory.count;
    opened = λ some. p.opened;
    short = λ some. omega (arith, room_left);
    usages = λ j one. stale_still j (memory.usages j (sym (addresses_same j) ∙ one));
    few = omega (arith, segments_same, ap (λ (c : Capacity). c.limit) same);
    unit = omega (arith, memory.unit, unit_same);
  }

  -- it has sectors that the acknowledged checkpoint doesn't need
  unkept : before.kept v'.chunk.segment < before.used v'.chunk.segment
  unkept =
      omega (arith, long_names, p.noted.kept v'.chunk.segment)

  -- a segment that was emptied stays so
  pub placed_emptied : (s : ℕ) → IsEmptied v.usage s → IsEmptied v'.usage s
  placed_emptied s is =
      let middle : IsEmptied p.middle s = elim (zero_or_more (length v.chunk.names)) [
        | inl none ↦ (stays_emptied p.middle is).0 v'.chunk.segment age (p.begun none)
        | inr some ↦ rw ((p.went_on some).0) is
      ] in
      (stays_emptied v'.usage middle).1 v'.chunk.segment lives p.noted unkept

  module _ {d : DeviceState} {k : CheckpointValue} {m0 m : LogMap} (is : IsLog d v k m0 m) where
    -- and each block stands where it stood
    abbrev pub StaysSo : Memory → Type 0
    StaysSo M = (y : Entry) → M.at y ≡ is.running.memory.at y

    pub begun_to : (w : Running d (blocks_of v.dirty) before k m0 m v'.chunk.segment (Some (entries_of v.chunk))) × StaysSo w.memory
    begun_to = ⊎_elim first more (zero_or_more (length v.chunk.names))
      where
        first : length v.chunk.names ≡ 0
            → (w : Running d (blocks_of v.dirty) before k m0 m v'.chunk.segment (Some (entries_of v.chunk))) × StaysSo w.memory
        first none =
            let c = is_closed_to is none in
            let same : StaysSo c.0.memory = λ y. ap (λ (M : Memory). M.at y) c.1 in
            as_chunk_to {b = v'.chunk.segment} StaysSo refl (ap Some (sym (no_entries v.chunk.names none))) (elim (p.begun none) [
              | inl t ↦
                  let n = beginning_to d _ _ before k m0 m 1024 v'.chunk.segment c.0
                  (omega arith) (taken_tables v.map age t) in
                  (n.0, λ y. n.1 y ∙ same y)
              | inr g ↦
                  let n = going_on_to d _ _ before k m0 m 1024 v'.chunk.segment c.0
                  (omega arith) (gone_tables v.map age g) in
                  (n.0, λ y. n.1 y ∙ same y)
            ])

        more : 0 < length v.chunk.names
            → (w : Running d (blocks_of v.dirty) before k m0 m v'.chunk.segment (Some (entries_of v.chunk))) × StaysSo w.memory
        more some =
            let w = p.went_on some in
            let o = is_open_to is some in
            rw w.0 (as_chunk_to {y = Some (entries_of v.chunk)} StaysSo (sym w.1) refl (o.0, λ y. ap (λ (M : Memory). M.at y) o.1))

    pub begun : Running d (blocks_of v.dirty) before k m0 m v'.chunk.segment (Some (entries_of v.chunk))
    begun = begun_to.0

    -- the place may be written
    pub free_place : IsFreeSector d.content k place
    free_place =
        let inside : v'.chunk.segment < k.segments = let s = segments_same in omega arith in
        rw p.address (taken_free begun v'.chunk.segment
        (before.used v'.chunk.segment) inside (omega arith) room_left)

    pub noted : {x : Entry} (map' : MapValue) → lives ≡ is_shown m x → IsAddressed before (tables_by map' v'.usage) x place
        → IsNoted m before (tables_by map' v'.usage) x (place_of before v'.chunk.segment) v'.chunk.segment
    noted map' shows at = record {
      at = rw place_is at at;
      used = p.noted.used;
      live = rw shows at p.noted.live;
      held = rw shows at p.noted.held;
      age = λ i ne. p.noted.age i;
      kept = p.noted.kept;
      stale = p.noted.blocks.stale;
    }
