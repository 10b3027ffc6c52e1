-- A block of the inode map goes to the next place, or isn't stored.
use Rattle.std.proofs.Common.{⊎_elim, ◌≤◌, ◌≡◌, ◌<◌, ◌+◌, ◌*◌, cond, ℕ, Bool, true, false, List, [], ◌∷◌, ◌++◌, Option, Some, None, refl}
use Rattle.std.proofs.Common.{sym, ◌∙◌, ap, arith}
use Rattle.std.proofs.lemmas.Bool.{cases_lt}
use Rattle.std.proofs.lemmas.List.{get_or_past}
use Rattle.std.specs.Prelude.{get_or}
use Rattle.lfs_model.specs.Checkpoint.{CheckpointValue, shape_of}
use Rattle.lfs_model.specs.Crash.{StandsOn}
use Rattle.lfs_model.specs.Device.{DeviceState, CrashWritesUnit, Carries, Elapses, IsLawful, put, left_new}
use Rattle.lfs_model.specs.Entry.{Entry, Data, Leaf, Double, Inode, Map, Usage, entry_of}
use Rattle.lfs_model.specs.Stands.{LogMap}
use Rattle.lfs_model.specs.Summary.{BlockNameValue, IsPlaced}
use Rattle.lfs_model.specs.declared.BlockKind.TheVariants as kind
use Rattle.lfs_model.specs.Memory.{parent, shown, is_shown}
use Rattle.lfs_model.specs.Running.{Dirty, Tables, Running, IsAddressed}
use Rattle.lfs_model.specs.Committing.{SpellsMap}
use Rattle.lfs_model.proofs.Leaving.{map_dropping}
use Rattle.lfs_model.proofs.Stepping.{map_stepping}
use Rattle.lfs_model.proofs.Moments.{carries_none, started}
use Rattle.lfs_model.proofs.Settled.{settled_stands}
use Rattle.lfs_model.proofs.UnitWrites.{to_unit}
use Rattle.lfs_memory.specs.segments.Chunk.{entries_of}
use Rattle.lfs_memory.specs.segments.Table.{UsageTable}
use Rattle.lfs_memory.specs.inodes.Blocks.{blocks_of}
use Rattle.lfs_memory.specs.inodes.MapValue.{MapValue, IsMap, IsMapOf, AreSettled, block_in}
use Rattle.lfs_memory.specs.declared.memory.LogMemory.{LogMemory}
use Rattle.lfs_memory.specs.Memory.{IsMemory, AreMapsOut, IsLog, IsBlockAt, AreHidden, Places, Goes, GoesUpTo, tables_by, tables_of}
use Rattle.lfs_memory.specs.Memory.{segment_in, chunk_in}
use Rattle.lfs_memory.proofs.Begun.{before, begun, noted, place_is, room_left, opened_after, segment_after, segments_same, unit_same}
use Rattle.lfs_memory.proofs.Begun.{memory_after}
use Rattle.lfs_memory.proofs.Begun.{placed_emptied}
use Rattle.lfs_memory.proofs.FileSteps.{quiet_step}
use Rattle.lfs_memory.proofs.Opened.{as_chunk}
use Rattle.lfs_memory.proofs.Rooms.{takes_place}

pub placed_map : (j : ℕ) → j < 32 → IsPlaced kind.Map 0 j
unfolding IsPlaced
placed_map j low = (refl, omega (arith, low))

-- the inode map, as the tables and the log map have it
pub map_of : (map : MapValue) (usage : UsageTable) (m : LogMap) → AreHidden map m → IsMapOf map m (tables_by map usage)
map_of map usage m hidden = record { inodes = λ n lt. refl; hidden = hidden; blocks = λ j lt. refl }

-- with no block of a file in memory, each inode has an address on the device
pub settled_inodes : (d : DeviceState) {dirty : Dirty} (t : Tables) (k : CheckpointValue) {m0 : LogMap} (m : LogMap) {seg : ℕ}
    {chunk : Option (List Entry)} → Running d dirty t k m0 m seg chunk → ((x : Entry) → dirty x ≡ None) → (j : ℕ) → AreSettled m t j
settled_inodes d t k m w none j i lt one =
    let n = 128 * j + i in
    let at : t.at (Inode n) ≡ 1 = those_one (is_shown m (Inode n)) (t.at (Inode n)) one in
    let found = w.cached.found (Inode n) (n, refl) (w.tables.at (Inode n) refl ∙ at) in
    absurd (let is = found.1 in let empty = none (Inode n) in cc)
  where
    those_one : (b : Bool) (a : ℕ) → cond b a 0 ≡ 1 → a ≡ 1
    those_one true a is = is
    those_one false a is = absurd (omega (arith, is))

-- the addresses in the tables, as a block of the map changes its own
map_table : {map map' : MapValue} (usage usage' : UsageTable) (j : ℕ) {place : ℕ} → IsBlockAt map map' j place
    → ((i : ℕ) → (tables_by map' usage').at (Usage i) ≡ (tables_by map usage).at (Usage i))
    → IsAddressed (tables_by map usage) (tables_by map' usage') (Map j) place
map_table {map} {map'} usage usage' j sets same = record { own = λ up. sets.block.own; others = others }
  where
    others : (y : Entry) → parent y ≡ y → (y ≡ Map j → ⊥) → (tables_by map' usage').at y ≡ (tables_by map usage).at y
    others (Data n i) up ne = refl
    others (Leaf n q) up ne = refl
    others (Double n) up ne = refl
    others (Inode n) up ne = ap (λ (l : List ℕ). get_or l n 0) sets.addresses
    others (Map i) up ne = sets.block.others i (λ is. ne (ap Map is))
    others (Usage i) up ne = same i

hidden_still : (map map' : MapValue) (m : LogMap) → map'.hidden ≡ map.hidden → AreHidden map m → AreHidden map' m
hidden_still map map' m same hidden n lt = hidden n lt ∙ ap (λ (l : List Bool). get_or l n false) (sym same)

-- one that shows no inode
module _ {d : DeviceState} (v : LogMemory) (j : ℕ) (map' : MapValue) (sets : IsBlockAt v.map map' j 0) (wanted : block_in v.map j ≡ 1)
    (memory : IsMemory v) (lawful : IsLawful d)
    (none : (m : LogMap) (t : Tables) → IsMapOf v.map m t → (i : ℕ) → i < 128 → shown m t.at (Inode (128 * j + i)) ≡ 0) where
  abbrev pub dropped_memory : LogMemory
  dropped_memory = record { map = map'; usage = v.usage; dirty = v.dirty; chunk = v.chunk }

  dropped_log : (k : CheckpointValue) (m0 m : LogMap) → IsLog d v k m0 m → IsLog d dropped_memory k m0 m
  dropped_log k m0 m is = record {
    running = map_dropping d (blocks_of v.dirty) (tables_of v) (tables_by map' v.usage) k m0 m (segment_in v.chunk)
        (chunk_in v.chunk) j is.running wanted
        (none m (tables_of v) (map_of v.map v.usage m is.hidden))
        (record {
          at = map_table v.usage v.usage j sets (λ i. refl);
          used = λ i. refl;
          live = λ i. refl;
          held = λ i. refl;
          age = λ i. refl;
          kept = λ i. refl;
          stale = λ i. refl;
        });
    hidden = hidden_still v.map map' m sets.hidden is.hidden;
    segments = is.segments;
    unit = is.unit;
    tight = is.tight;
  }

  pub drop_goes : Goes d d v dropped_memory 1
  drop_goes = record {
    carries = carries_none;
    memory = record {
      count = memory.count;
      opened = memory.opened;
      short = memory.short;
      usages = memory.usages;
      few = memory.few;
      unit = memory.unit;
    };
    segments = refl;
    room = omega arith;
    no_failure = refl;
    emptied = λ s is. is;
    log = λ k m0 m keeps is. dropped_log k m0 m is;
    quiet = λ k m0 m keeps is. started (λ c. StandsOn (shape_of k) c m0) lawful (settled_stands d k m0 is.running.settled);
  }

-- one that is written
module _ (v : LogMemory) {v' : LogMemory} (name : BlockNameValue) {age place : ℕ} (memory : IsMemory v)
    (p : Places v v' name true age place) {j : ℕ}
    (map' : MapValue) (sets : IsBlockAt v.map map' j place)
    {d d' : DeviceState} {bytes : List ℕ} (crash : CrashWritesUnit place bytes d d') (carries : Carries d d') (time : Elapses d d')
    (lawful : IsLawful d)
    (is_put : d'.keeps_model → d'.content ≡ put d.content place bytes) (named : entry_of name ≡ Map j) (wanted : block_in v.map j ≡ 1)
    (spells : (m : LogMap) (t : Tables) → IsMapOf v.map m t → AreSettled m t j → SpellsMap m t j bytes) (empty : (x : Entry)
    → blocks_of v.dirty x ≡ None) where
  abbrev pub after_map : LogMemory
  after_map = record { map = map'; usage = v'.usage; dirty = v.dirty; chunk = v'.chunk }

  log : (k : CheckpointValue) (m0 m : LogMap) → d'.keeps_model → IsLog d v k m0 m → IsLog d' after_map k m0 m
  log k m0 m keeps is =
      let same_place = place_is memory p in
      let es = entries_of v.chunk in
      let t = before memory p in
      let running = begun memory p is in
      let next = map_stepping d d' (blocks_of v.dirty) t (tables_by map' v'.usage) k m0 m v'.chunk.segment es j bytes
      running (room_left memory p) wanted (spells m t (map_of v.map p.middle m is.hidden) (settled_inodes d t k m running empty j))
      (rw (← same_place) (record { content = is_put keeps; crash = crash; unit = carries.unit })) (noted memory p is map' refl
      (map_table p.middle v'.usage j sets p.noted.blocks.address)) in
      record {
        running = as_chunk (sym (segment_after memory p))
            (sym (opened_after memory p ∙ ap (λ (e : Entry). Some (es ++ e ∷ [])) named)) next;
        hidden = hidden_still v.map map' m sets.hidden is.hidden;
        segments = segments_same memory p ∙ is.segments;
        unit = unit_same memory p ∙ is.unit;
        tight = is.tight;
      }

  pub map_goes : d'.failures ≡ d.failures → GoesUpTo 63 d d' v after_map 1
  map_goes no_failure = record {
    carries = carries;
    memory = memory_after memory p map' v.dirty refl;
    segments = segments_same memory p;
    room = let r = takes_place memory p in omega (arith, r);
    no_failure = no_failure;
    emptied = placed_emptied memory p;
    log = log;
    quiet = quiet_step memory p {bytes = bytes} crash carries time lawful
        (λ keeps. to_unit d.unit place bytes d.content d'.content (left_new (is_put keeps)));
  }

-- a map has no more than 32 blocks
pub maps_out : {map : MapValue} → IsMap map → ((j : ℕ) → j < 32 → block_in map j ≡ 1 → ⊥) → AreMapsOut map
maps_out {map} long known j one = ⊎_elim
    (λ (low : j < 32). known j low one)
    (λ (high : 32 ≤ j). let past = get_or_past map.blocks j 0 (let l = long.blocks in omega (arith, l, high)) in
    absurd (omega (arith, past, one)))
    (cases_lt j 32)
