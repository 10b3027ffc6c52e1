-- Blocks of the tables that leave their addresses, to be written by the next commit.
use Rattle.std.proofs.Common.{◌≡◌, ◌<◌, ◌≤◌, ◌⊎◌, ⊎_elim, ◌+◌, ◌/◌, ℕ, true, false, List, length, get_or, Some, refl, sym, ◌∙◌, ap}
use Rattle.std.proofs.Common.{suc, arith}
use Rattle.std.proofs.lemmas.Bool.{cases_eq}
use Rattle.lfs_model.specs.Checkpoint.{CheckpointValue}
use Rattle.lfs_model.specs.Counting.{segment_of}
use Rattle.lfs_model.specs.Device.{DeviceState, IsLawful}
use Rattle.lfs_model.specs.Entry.{Entry, Data, Leaf, Double, Inode, Map, Usage}
use Rattle.lfs_model.specs.Memory.{is_shown, count_of}
use Rattle.lfs_model.specs.Running.{Tables, Running, IsSet, IsLifted, IsTables, SpellsUsage}
use Rattle.lfs_model.specs.Stands.{LogMap}
use Rattle.lfs_model.proofs.Counting.{taken_counts}
use Rattle.lfs_model.proofs.Leaving.{left_memory, left_taken, left_cached, still_open}
use Rattle.lfs_model.proofs.Outgoing.{usage_lifting}
use Rattle.lfs_model.proofs.Running.{pick, pick_yes, pick_no, taken_memory, is_taken, lifted_tables, lifted_fresh, part_same, whole_same}
use Rattle.lfs_model.proofs.Running.{kept_same}
use Rattle.lfs_model.proofs.Tables.{usage_table}
use Rattle.lfs_memory.specs.segments.Chunk.{Chunk}
use Rattle.lfs_memory.specs.segments.Table.{SegmentNumbers, UsageTable, no_segment, used_of, live_of, held_of, age_of, kept_of, address_of}
use Rattle.lfs_memory.specs.segments.Table.{stale_of, clean_in}
use Rattle.lfs_memory.specs.inodes.Blocks.{TableValue, blocks_of}
use Rattle.lfs_memory.specs.inodes.MapValue.{MapValue, address_in, block_in}
use Rattle.lfs_memory.specs.declared.memory.LogMemory.{LogMemory}
use Rattle.lfs_memory.specs.Lifting.{HasTraces, MapLifts}
use Rattle.lfs_memory.specs.Memory.{IsLoose, IsMemory, table_at, tables_of, segment_in, chunk_in}
use Rattle.lfs_memory.specs.Present.{FailsFromDevice}
use Rattle.lfs_memory.proofs.Gathered.{loose_traced, map_of_gathers, taken_traced}
use Rattle.lfs_memory.proofs.Lifted.{map_of_prepares}
use Rattle.lfs_memory.proofs.Presents.{looks_none}
use Rattle.lfs_memory.proofs.Stales.{stays_stale}
use Rattle.lfs_log.specs.Relocating.{IsUsageLost, Relocates, UsageLeavesIn}
use Rattle.lfs_log.proofs.Relocated.{relocates_looks, relocates_of}

pub map_relocates : {d : DeviceState} {v v' : LogMemory} {j : ℕ} → IsLawful d → IsMemory v → (v' ≡ v) ⊎ MapLifts v v' j → Relocates d d v v'
map_relocates {d} {v} {v'} {j} lawful memory go = relocates_of (map_of_prepares lawful memory go) (map_of_gathers d go)

-- ---- a usage block
pub usage_lost : (d : DeviceState) {v : LogMemory} {j : ℕ} → IsUsageLost v j → FailsFromDevice d d v
usage_lost d {v} {j} gone k m0 m keeps is = absurd (gone.lost (record {
  above = gone.above;
  inside = let s = at in let w = is.running.laid.within (Usage j) there in let n = is.running.segments in let l = is.segments in
      let up = gone.above in omega (arith, s, w, n, l, up);
  live = λ on. let c = counts in let e = ap (λ (a : ℕ). count_of (is_shown m) is.running.memory (segment_of a)) at in
      let t = is.running.tables.live (segment_of (address_of v.usage j)) in omega (arith, c, e, t);
  held = λ off. absurd (cc);
}))
  where
    at : is.running.memory.at (Usage j) ≡ address_of v.usage j
    at = is.running.tables.at (Usage j) refl

    there : 2 ≤ is.running.memory.at (Usage j)
    there = let s = at in let up = gone.above in omega (arith, s, up)

    counts : 0 < count_of (is_shown m) is.running.memory (segment_of (is.running.memory.at (Usage j)))
    counts =
        let c = (taken_counts d.content m is.running.memory (segment_in v.chunk) (Usage j) 1
        (taken_memory is.running.memory (Usage j) 1 is.running.memory.bytes) is.running.laid there
        (is_taken _ _ 1 _ (omega arith)) (is_shown m)).0 refl in
        omega (arith, c)

module _ (v v' : LogMemory) (j : ℕ) (go : UsageLeavesIn v v' j) where
  abbrev lifted : UsageTable
  lifted = go.usage.lifted

  seg : ℕ
  seg = segment_of (address_of v.usage j)

  numbers : {X : Type 0} (f : SegmentNumbers → X) (s : ℕ)
      → f (get_or v'.usage.segments s no_segment) ≡ f (get_or go.usage.lifted.segments s no_segment)
  numbers f s = ap (λ (x : List SegmentNumbers). f (get_or x s no_segment)) go.usage.puts.segments

  size : length v'.usage.segments ≡ length v.usage.segments
  size = ap length go.usage.puts.segments ∙ go.usage.lifts.size

  unit_still : v'.usage.unit ≡ v.usage.unit
  unit_still = go.usage.puts.unit ∙ go.usage.lifts.unit

  stale_still : (i : ℕ) → stale_of v.usage i ≡ true → stale_of v'.usage i ≡ true
  stale_still i on = ⊎_elim
      (λ (here : i ≡ j). ap (stale_of v'.usage) here ∙ go.usage.puts.stale.own)
      (λ (ne : i ≡ j → ⊥). go.usage.puts.stale.others i ne ∙ stays_stale i go.usage.lifts.blocks on) (cases_eq i j)

  address_other : (i : ℕ) → (i ≡ j → ⊥) → address_of v'.usage i ≡ address_of v.usage i
  address_other i ne = go.usage.puts.address.others i ne ∙ go.usage.lifts.blocks.address i

  usage_memory : IsMemory v → IsMemory v'
  usage_memory memory = record {
    count = rw size memory.count;
    opened = λ some.
        let o = memory.opened (rw (← go.chunk) some) in
        let s = ap (λ (c : Chunk). c.segment) go.chunk in
        record {
          inside = let i = o.inside in let l = size in omega (arith, i, s, l);
          used = ap (used_of v'.usage) s ∙ numbers (λ x. x.used) v.chunk.segment ∙ go.usage.lifts.used v.chunk.segment ∙ o.used
              ∙ sym (ap (λ (c : Chunk). c.start + suc (length c.names)) go.chunk);
          free = let a = ap (kept_of v'.usage) s in let b = numbers (λ x. x.kept) v.chunk.segment in let k = go.usage.lifts.kept
              v.chunk.segment in let f = o.free in let c = ap (λ (c : Chunk). c.start) go.chunk in omega (arith, a, b, k, f, c);
          last = go.usage.puts.last ∙ go.usage.lifts.last ∙ o.last ∙ ap (λ (n : ℕ). Some n) (sym s);
          stale = λ begun. ap (λ (n : ℕ). stale_of v'.usage (n / 64)) s
              ∙ stale_still (v.chunk.segment / 64) (o.stale (rw (← go.chunk) begun));
        };
    short = rw go.chunk memory.short;
    usages = λ i one. ⊎_elim
        (λ (here : i ≡ j). ap (stale_of v'.usage) here ∙ go.usage.puts.stale.own)
        (λ (ne : i ≡ j → ⊥). stale_still i (memory.usages i (sym (address_other i ne) ∙ one)))
        (cases_eq i j);
    few = let f = memory.few in let c = ap (λ (t : TableValue). t.capacity.limit) go.dirty in let l = size in omega (arith, f, c, l);
    unit = omega (arith, memory.unit, unit_still);
  }

  -- the tables in which block j isn't as the device has it, and stands where it stood
  abbrev marked : Tables
  marked = record {
    at = table_at v.map v.usage;
    used = used_of v.usage;
    live = live_of v.usage;
    held = held_of v.usage;
    age = age_of v.usage;
    kept = kept_of v.usage;
    stale = λ i. pick (cases_eq i j) true (stale_of v.usage i);
  }

  table_other : (y : Entry) → (y ≡ Usage j → ⊥) → (tables_of v').at y ≡ table_at v.map v.usage y
  table_other (Data n i) ne = refl
  table_other (Leaf n q) ne = refl
  table_other (Double n) ne = refl
  table_other (Inode n) ne = ap (λ (m : MapValue). address_in m n) go.map
  table_other (Map i) ne = ap (λ (m : MapValue). block_in m i) go.map
  table_other (Usage i) ne = address_other i (λ h. ne (ap Usage h))

  stale_now : IsSet marked.stale (stale_of v'.usage) (segment_of (address_of v.usage j) / 64) true
  stale_now = record {
    own = ⊎_elim
        (λ (here : segment_of (address_of v.usage j) / 64 ≡ j). ap (stale_of v'.usage) here ∙ go.usage.puts.stale.own)
        (λ (ne : segment_of (address_of v.usage j) / 64 ≡ j → ⊥). go.usage.puts.stale.others (segment_of (address_of v.usage j) / 64) ne
        ∙ go.usage.lifts.blocks.stale.own)
        (cases_eq (segment_of (address_of v.usage j) / 64) j);
    others = λ i away. ⊎_elim
        (λ (here : i ≡ j). ap (stale_of v'.usage) here ∙ go.usage.puts.stale.own ∙ sym (pick_yes _ true _ here))
        (λ (ne : i ≡ j → ⊥). go.usage.puts.stale.others i ne ∙ go.usage.lifts.blocks.stale.others i away ∙ sym (pick_no _ true _ ne))
        (cases_eq i j);
  }

  lifts_now : (m : LogMap) → IsLifted m marked (tables_of v') (Usage j) 1 (segment_of (address_of v.usage j))
  lifts_now m = record {
    at = record { own = λ top. go.usage.puts.address.own; others = λ y top ne. table_other y ne };
    used = λ i. numbers (λ x. x.used) i ∙ go.usage.lifts.used i;
    live = rw go.usage.puts.segments go.usage.lifts.live;
    held = rw go.usage.puts.segments go.usage.lifts.held;
    age = λ i. numbers (λ x. x.age) i ∙ go.usage.lifts.age i;
    kept = λ i. numbers (λ x. x.kept) i ∙ go.usage.lifts.kept i;
    stale = stale_now;
  }

  module _ (d : DeviceState) (k : CheckpointValue) (m0 m : LogMap) (is : IsLoose d v k m0 m) where
    abbrev w : Running d (blocks_of v.dirty) (tables_of v) k m0 m (segment_in v.chunk) (chunk_in v.chunk)
    w = is.running

    same : w.memory.at (Usage j) ≡ address_of v.usage j
    same = w.tables.at (Usage j) refl

    was_there : 2 ≤ w.memory.at (Usage j)
    was_there = let s = same in let up = go.usage.above in omega (arith, s, up)

    marked_tables : IsTables marked m w.memory
    marked_tables = record { at = w.tables.at; used = w.tables.used; live = w.tables.live; held = w.tables.held }

    marked_spells : (i : ℕ) {bytes : List ℕ} → SpellsUsage (tables_of v) i bytes → SpellsUsage marked i bytes
    marked_spells i s = record { long = s.long; used = s.used; live = s.live; age = s.age }

    never_marked : (i : ℕ) → marked.stale i ≡ false → stale_of v.usage i ≡ false
    never_marked i off = ⊎_elim
        (λ (here : i ≡ j). let bad : true ≡ false = sym (pick_yes _ true _ here) ∙ off in absurd (cc))
        (λ (ne : i ≡ j → ⊥). sym (pick_no _ true _ ne) ∙ off) (cases_eq i j)

    gone : (w' : Running d (blocks_of v.dirty) (tables_of v') k m0 m (segment_in v.chunk) (chunk_in v.chunk)) × HasTraces w.memory w'.memory
    unfolding left_memory taken_memory
    gone =
        let p = left_taken d (tables_of v') k m w (Usage j) (usage_table j) 1 (omega arith) in
        let next = left_memory d (tables_of v') k m w (Usage j) (usage_table j) 1 (omega arith) in
        let there = was_there in
        let go_now = lifts_now m in (
          record {
            memory = next;
            laid = usage_lifting d.content m w.memory (segment_in v.chunk) j next w.laid (record { taken = p; was = there; bytes = refl });
            segments = w.segments;
            settled = w.settled;
            cached = left_cached d (tables_of v') k m w (Usage j) (usage_table j) 1 (omega arith);
            tables =
                lifted_tables d.content m w.memory (segment_in v.chunk) (Usage j) 1 next marked (tables_of v') w.laid there p marked_tables
                (rw same go_now);
            fresh = λ i off low.
                let no = lifted_fresh m marked (tables_of v') (Usage j) 1 go_now i off in
                no.1 (w.memory.bytes (Usage i)) (marked_spells i (w.fresh i (never_marked i no.0) low));
            part = part_same (tables_of v) (tables_of v') go_now.used go_now.kept w.part;
            whole = whole_same k (tables_of v) (tables_of v') (segment_in v.chunk) go_now.used w.whole;
            kept = kept_same d.content k (tables_of v) (tables_of v') go_now.kept w.kept;
            opened = still_open d (tables_of v') k m w (Usage j) (usage_table j) 1 (omega arith) (chunk_in v.chunk) w.opened go_now.kept;
          },
          taken_traced w.memory next p,
        )

    usage_traced : (is' : IsLoose d v' k m0 m) × HasTraces is.running.memory is'.running.memory
    usage_traced = loose_traced v' is go.chunk (ap (λ (m : MapValue). m.hidden) go.map) size unit_still (rw go.dirty gone)

  usage_gone : (d : DeviceState) → IsMemory v → Relocates d d v v'
  usage_gone d memory = record {
    looks = looks_none d;
    memory = usage_memory memory;
    segments = size;
    clean = ap clean_in go.usage.puts.segments ∙ go.usage.lifts.clean;
    chunk = go.chunk;
    capacity = ap (λ (t : TableValue). t.capacity) go.dirty;
    stay = λ x there. rw go.dirty there;
    gathers = record {
      used = λ s. numbers (λ x. x.used) s ∙ go.usage.lifts.used s;
      kept = λ s. numbers (λ x. x.kept) s ∙ go.usage.lifts.kept s;
      traces = λ k m0 m keeps is. usage_traced d k m0 m is;
    };
  }

pub usage_relocates : (d : DeviceState) {v v' : LogMemory} {j : ℕ} → IsMemory v → (v' ≡ v) ⊎ UsageLeavesIn v v' j → Relocates d d v v'
usage_relocates d {v} {v'} {j} memory go = ⊎_elim
    (λ (same : v' ≡ v). rw same (relocates_looks v memory (looks_none d)))
    (λ (leaves : UsageLeavesIn v v' j). usage_gone v v' j leaves d memory)
    go
