-- A block that comes into memory, or an inode map block that will be written: the log map stays.
use Rattle.std.proofs.Common.{◌≡◌, ◌<◌, ◌≤◌, ◌⊎◌, ◌+◌, ◌/◌, ◌==◌, not, ℕ, zero, suc, Bool, true, false, List}
use Rattle.std.proofs.Common.{length, Some, None, refl, sym, ◌∙◌, ap, arith, inl, inr}
use Rattle.std.specs.Prelude.{get_or, Option, option_map, Result, Ok, Err, IsErr, IsErrAnd}
use Rattle.lfs_memory.specs.declared.lifting.LiftFault.TheVariants as fault
use Rattle.std.proofs.lemmas.Bool.{cases_eq, cond-false}
use Rattle.std.proofs.lemmas.Bool.Decides.{nat_tests}
use Rattle.lfs_model.specs.Checkpoint.{CheckpointValue}
use Rattle.lfs_model.specs.Content.{Content, block}
use Rattle.lfs_model.specs.Counting.{segment_of}
use Rattle.lfs_model.specs.Device.{DeviceState, IsLawful}
use Rattle.lfs_model.specs.Entry.{Entry, Data, Leaf, Double, Inode, Map, Usage}
use Rattle.lfs_model.specs.Memory.{Memory, parent, pointer, patched, file_of, IsOfFile, is_shown, is_held, is_nameless}
use Rattle.lfs_model.specs.Memory.{count_of}
use Rattle.lfs_model.specs.Running.{Dirty, Tables, Running, IsLifted, IsAddressed}
use Rattle.lfs_model.specs.Staging.{IsAtAddress, Fetches}
use Rattle.lfs_model.specs.Stands.{LogMap}
use Rattle.lfs_model.proofs.Counting.{taken_counts}
use Rattle.lfs_model.proofs.Entries.{same_entry, data_below, leaf_below, double_below}
use Rattle.lfs_model.proofs.Replacing.{address_at}
use Rattle.lfs_model.proofs.Running.{taken_memory, is_taken}
use Rattle.lfs_model.proofs.Staging.{fetching, map_fetching, map_adding}
use Rattle.lfs_model.proofs.Tables.{map_table, usage_table}
use Rattle.lfs_segments.specs.Chunk.{Chunk}
use Rattle.lfs_segments.specs.Table.{used_of, kept_of, address_of, stale_of, clean_in}
use Rattle.lfs_inodes.specs.Blocks.{Capacity, TableValue, blocks_of}
use Rattle.lfs_inodes.specs.MapValue.{MapValue, address_in, is_hidden_in, block_in}
use Rattle.lfs_inodes.specs.Present.{present}
use Rattle.lfs_memory.specs.declared.memory.LogMemory.{LogMemory}
use Rattle.lfs_memory.specs.Memory.{IsMemory, IsLoose, AreHidden, tables_of, segment_in, chunk_in}
use Rattle.lfs_memory.specs.Present.{Looks, IsMissing, FailsFromDevice}
use Rattle.lfs_memory.specs.Changing.{IsPointedIn}
use Rattle.lfs_memory.specs.declared.lifting.LiftFault.{LiftFault}
use Rattle.lfs_memory.specs.Lifting.{EndsLifting, IsInMemory, Prepares, IsCountedAbove, Brings, MapLifts, IsMapLost}
use Rattle.lfs_memory.proofs.Presents.{looks_none, looks_then, still_log, not_missing}
use Rattle.lfs_memory.proofs.Going.{ok_then}
use Rattle.lfs_memory.proofs.Stales.{stays_stale}

-- ---- a block that came stays in memory, and so does what was there
pub brought : (v v' : LogMemory) (x : Entry) (bytes : List ℕ) → Fetches (blocks_of v.dirty) (blocks_of v'.dirty) x bytes → (y : Entry)
    → IsInMemory v y → IsInMemory v' y
brought v v' x bytes fetch y was = elim (same_entry y x) [
  | inl here ↦ (bytes, ap (blocks_of v'.dirty) here ∙ fetch.own)
  | inr ne ↦ elim (same_entry y (parent x)) [
    | inl up ↦ (
      patched (pointer x) 1 was.0,
      ap (blocks_of v'.dirty) up ∙ fetch.patched (λ h. ne (up ∙ h))
          ∙ ap (option_map (patched (pointer x) 1)) (ap (blocks_of v.dirty) (sym up) ∙ was.1),
    )
    | inr np ↦ (was.0, fetch.kept y ne np ∙ was.1)
  ]
]

-- ---- entries whose address stands in a table
inode_or_not : (x : Entry) → ((n : ℕ) × (x ≡ Inode n)) ⊎ ((n : ℕ) → x ≡ Inode n → ⊥)
inode_or_not (Data n i) = inr (λ k h. cc)
inode_or_not (Leaf n q) = inr (λ k h. cc)
inode_or_not (Double n) = inr (λ k h. cc)
inode_or_not (Inode n) = inl (n, refl)
inode_or_not (Map j) = inr (λ k h. cc)
inode_or_not (Usage j) = inr (λ k h. cc)

top_is_inode : (x : Entry) → IsOfFile x → parent x ≡ x → (n : ℕ) × (x ≡ Inode n)
top_is_inode (Data n i) file top = absurd (data_below n i top)
top_is_inode (Leaf n q) file top = absurd (leaf_below n q top)
top_is_inode (Double n) file top = absurd (double_below n top)
top_is_inode (Inode n) file top = (n, refl)
top_is_inode (Map j) file top = absurd (map_table j file)
top_is_inode (Usage j) file top = absurd (usage_table j file)

-- ---- memory
pub kept_memory : (v v' : LogMemory) → IsMemory v → length v'.usage.segments ≡ length v.usage.segments → v'.chunk ≡ v.chunk
    → ((s : ℕ) → used_of v'.usage s ≡ used_of v.usage s)
    → ((s : ℕ) → kept_of v'.usage s ≡ kept_of v.usage s) → v'.usage.last ≡ v.usage.last → v'.usage.unit ≡ v.usage.unit
    → ((j : ℕ) → address_of v'.usage j ≡ address_of v.usage j) → ((j : ℕ) → stale_of v.usage j ≡ true → stale_of v'.usage j ≡ true)
    → v'.dirty.capacity ≡ v.dirty.capacity → IsMemory v'
kept_memory v v' memory size chunk used kept last unit address stale capacity = record {
  count = record {
    least = omega arith;
    most = omega arith;
    eighths = omega arith;
  };
  opened = λ some.
      let o = memory.opened (rw chunk at some) in
      let s : v'.chunk.segment ≡ v.chunk.segment = ap (λ (c : Chunk). c.segment) chunk in
      record {
        inside = omega arith;
        used = ap (used_of v'.usage) s ∙ used v.chunk.segment ∙ o.used ∙ sym (rw chunk);
        free = let c = ap (λ (c : Chunk). c.start) chunk in omega (arith, kept v.chunk.segment, ap (kept_of v'.usage) s);
        last = last ∙ o.last ∙ ap (λ (n : ℕ). Some n) (sym s);
        stale = λ begun. ap (λ (n : ℕ). stale_of v'.usage (n / 64)) s ∙ stale (v.chunk.segment / 64) (o.stale (rw chunk at begun));
      };
  short = rw chunk memory.short;
  usages = λ j one. stale j (memory.usages j (sym (address j) ∙ one));
  few = omega (arith, ap (λ (c : Capacity). c.limit) capacity);
  unit = omega (arith, memory.unit, unit);
}

with_chunk : (d : DeviceState) {dirty : Dirty} {t : Tables} (k : CheckpointValue) (m0 m : LogMap) {c c' : Chunk} → c' ≡ c
    → Running d dirty t k m0 m (segment_in c) (chunk_in c) → Running d dirty t k m0 m (segment_in c') (chunk_in c')
with_chunk d k m0 m e w = rw e w

pub same_hidden : (map map' : MapValue) (m : LogMap) → map'.hidden ≡ map.hidden → AreHidden map m → AreHidden map' m
same_hidden map map' m e is n low = is n low ∙ ap (λ (l : List Bool). get_or l n false) (sym e)

-- ---- a block of a file
module _ {d : DeviceState} {v : LogMemory} {k : CheckpointValue} {m0 m : LogMap} (is : IsLoose d v k m0 m) {x : Entry} {f address : ℕ}
    {lives : Bool}
    (file : file_of x ≡ Some f) (low : f < 4096) (at : IsAtAddress (blocks_of v.dirty) (tables_of v) x address) (above : 2 ≤ address)
    (is_lives : lives ≡ not (is_hidden_in v.map f)) where
  abbrev M : Memory
  M = is.running.memory

  of_file : IsOfFile x
  of_file = (f, file)

  pub stands_at : M.at x ≡ address
  stands_at = address_at d k m0 m x address is.running at

  shown_by : (o : Option ℕ) → o ≡ Some f → elim o [ None ↦ true | Some n ↦ not (is_nameless m n) ] ≡ not (is_nameless m f)
  shown_by None e = cc
  shown_by (Some n) e = let s : n ≡ f = cc in rw s

  shows : is_shown m x ≡ lives
  shows = shown_by (file_of x) file ∙ ap not (is.hidden f low) ∙ sym is_lives

  counted_by : (test : Entry → Bool) → test x ≡ true → 0 < count_of test M (segment_of address)
  counted_by test on =
      let up : 2 ≤ M.at x = let s = stands_at in omega arith in
      let e = ap (λ (a : ℕ). count_of test M (segment_of a)) stands_at in
      omega (
        arith,
        (taken_counts d.content m M _ x 1 (taken_memory M x 1 M.bytes) is.running.laid up
            (is_taken M x 1 M.bytes (omega arith)) test).0 on,
      )

  pub is_counted : IsCountedAbove v.usage address lives
  is_counted = record {
    above = above;
    inside = let s = stands_at in omega arith;
    live = λ on. omega (arith, is.running.tables.live (segment_of address), counted_by (is_shown m) (shows ∙ on));
    held = λ off. omega (arith, is.running.tables.held (segment_of address), counted_by (is_held m) (ap not (shows ∙ off)));
  }

  pub is_read : IsMissing d.content (blocks_of v.dirty) x address → ⊥
  is_read missing = not_missing d v k m0 m is x of_file stands_at (omega arith) missing

  module _ {v' : LogMemory} {bytes : List ℕ} (go : Brings v v' x address lives bytes) where
    addresses : (n : ℕ) → (Inode n ≡ x → ⊥) → address_in v'.map n ≡ address_in v.map n
    addresses n ne = elim (inode_or_not x) [
      | inl w ↦ (go.inode w.0 w.1).others n (λ h. ne (ap Inode h ∙ sym w.1))
      | inr other ↦ rw (go.others other)
    ]

    other_tables : (y : Entry) → (y ≡ x → ⊥) → (tables_of v').at y ≡ (tables_of v).at y
    other_tables (Data n i) ne = refl
    other_tables (Leaf n q) ne = refl
    other_tables (Double n) ne = refl
    other_tables (Inode n) ne = addresses n ne
    other_tables (Map j) ne = ap (λ (l : List ℕ). get_or l j 0) go.blocks
    other_tables (Usage j) ne = go.usage.blocks.address j

    pub is_lifted : IsLifted m (tables_of v) (tables_of v') x 1 (segment_of address)
    is_lifted = record {
      at = record {
        own = λ top. let w = top_is_inode x of_file top in ap (tables_of v').at w.1 ∙ (go.inode w.0 w.1).own;
        others = λ y top ne. other_tables y ne;
      };
      used = go.usage.used;
      live = rw shows go.usage.live;
      held = rw shows go.usage.held;
      age = go.usage.age;
      kept = go.usage.kept;
      stale = go.usage.blocks.stale;
    }

    module _ (there : block d.content address ≡ bytes)
        (mapped : (n : ℕ) → x ≡ Inode n → is_hidden_in v.map n ≡ false → block_in v.map (n / 128) ≡ 1) where
      pub is_named : (n : ℕ) → x ≡ Inode n → is_shown m x ≡ true → block_in v.map (n / 128) ≡ 1
      is_named n e on =
          let own : n ≡ f = cc in
          mapped n e (ap (is_hidden_in v.map) own ∙ not_true (is_hidden_in v.map f) (sym is_lives ∙ sym shows ∙ on))
        where
          not_true : (b : Bool) → not b ≡ true → b ≡ false
          not_true true h = cc
          not_true false h = refl

      pub log_brought : IsLoose d v' k m0 m
      log_brought = record {
        running = with_chunk d k m0 m go.chunk
            (fetching d _ _ _ _ k m0 m _ _ x address bytes
            is.running of_file at above there is_named go.dirty is_lifted);
        hidden = same_hidden v.map v'.map m go.hidden is.hidden;
        segments = cc;
        unit = go.usage.unit ∙ is.unit;
      }

-- ---- a block of the inode map
module _ (d : DeviceState) (v : LogMemory) (k : CheckpointValue) (m0 m : LogMap) (is : IsLoose d v k m0 m) (j : ℕ) where
  map_at : is.running.memory.at (Map j) ≡ block_in v.map j
  map_at = is.running.tables.at (Map j) refl

  pub map_counted : 2 ≤ block_in v.map j → IsCountedAbove v.usage (block_in v.map j) true
  map_counted above = record {
    above = above;
    inside = let s = map_at in omega arith;
    live = λ on.
        let s = map_at in
        let up : 2 ≤ is.running.memory.at (Map j) = omega arith in
        let e = ap (λ (a : ℕ). count_of (is_shown m) is.running.memory (segment_of a)) map_at in
        let t = is.running.tables.live (segment_of (block_in v.map j)) in
        omega (
          arith,
          (taken_counts d.content m is.running.memory _ (Map j) 1
              (taken_memory is.running.memory (Map j) 1 is.running.memory.bytes) is.running.laid up
              (is_taken is.running.memory (Map j) 1 is.running.memory.bytes (omega arith)) (is_shown m)).0 refl,
        );
    held = λ off. cc;
  }

  module _ (v' : LogMemory) (go : MapLifts v v' j) where
    same_dirty : blocks_of v'.dirty ≡ blocks_of v.dirty
    same_dirty = cc

    with_dirty : {t : Tables} → Running d (blocks_of v.dirty) t k m0 m (segment_in v.chunk) (chunk_in v.chunk)
        → Running d (blocks_of v'.dirty) t k m0 m (segment_in v'.chunk) (chunk_in v'.chunk)
    with_dirty w = with_chunk d k m0 m go.chunk
        (rw same_dirty w)

    map_tables : ((i : ℕ) → address_of v'.usage i ≡ address_of v.usage i) → (y : Entry) → (y ≡ Map j → ⊥)
        → (tables_of v').at y ≡ (tables_of v).at y
    map_tables usages (Data n i) ne = refl
    map_tables usages (Leaf n q) ne = refl
    map_tables usages (Double n) ne = refl
    map_tables usages (Inode n) ne = ap (λ (l : List ℕ). get_or l n 0) go.addresses
    map_tables usages (Map i) ne = go.blocks.others i (λ h. ne (ap Map h))
    map_tables usages (Usage i) ne = usages i

    pub map_addressed : ((i : ℕ) → address_of v'.usage i ≡ address_of v.usage i) → IsAddressed (tables_of v) (tables_of v') (Map j) 1
    map_addressed usages = record { own = λ top. go.blocks.own; others = λ y top ne. map_tables usages y ne }

    two_or_less : (n : ℕ) → (2 ≤ n) ⊎ (n < 2)
    two_or_less zero = inr (omega arith)
    two_or_less (suc zero) = inr (omega arith)
    two_or_less (suc (suc n)) = inl (omega arith)

    with_map : length v'.usage.segments ≡ length v.usage.segments → v'.usage.unit ≡ v.usage.unit
        → Running d (blocks_of v.dirty) (tables_of v') k m0 m (segment_in v.chunk) (chunk_in v.chunk) → IsLoose d v' k m0 m
    with_map size unit w = record {
      running = with_dirty w;
      hidden = same_hidden v.map v'.map m go.hidden is.hidden;
      segments = cc;
      unit = unit ∙ is.unit;
    }

    fetched : 2 ≤ block_in v.map j → IsLoose d v' k m0 m
    fetched above =
        let l = go.lifted above in
        with_map l.size l.unit (map_fetching d _ _ _ k m0 m _ _ j is.running above
        (assumption (map_addressed l.blocks.address)))

    added : block_in v.map j ≡ 0 → IsLoose d v' k m0 m
    added none =
        with_map (rw (go.added none)) (rw (go.added none))
        (map_adding d _ _ _ k m0 m _ _ j is.running none (record {
          at = map_addressed (λ i. rw (go.added none));
          used = λ i. rw (go.added none);
          live = λ i. rw (go.added none);
          held = λ i. rw (go.added none);
          age = λ i. rw (go.added none);
          kept = λ i. rw (go.added none);
          stale = λ i. rw (go.added none);
        }))

    pub log_mapped : IsLoose d v' k m0 m
    log_mapped = elim (two_or_less (block_in v.map j)) [
      | inl above ↦ fetched above
      | inr small ↦ elim (cases_eq (block_in v.map j) 0) [
        | inl none ↦ added none
        | inr some ↦ rw (go.same (omega arith)) is
      ]
    ]

-- ---- calls one after the other
pub prepares_looks : {d d' : DeviceState} {v : LogMemory} {most : ℕ} → IsMemory v → Looks d d' → Prepares d d' v v most
prepares_looks memory looks = record {
  looks = looks;
  memory = memory;
  segments = refl;
  clean = refl;
  used = λ s. refl;
  kept = λ s. refl;
  chunk = refl;
  capacity = refl;
  few = omega arith;
  stay = λ x is. is;
  hidden = refl;
  mapped = λ j is. is;
  absent = λ l none. none;
  log = λ k m0 m keeps is. still_log looks is;
}

pub prepares_then : {a b c : DeviceState} {v v' v'' : LogMemory} {n l : ℕ} → IsLawful a → Prepares a b v v' n → Prepares b c v' v'' l
    → Prepares a c v v'' (n + l)
prepares_then {l = l} lawful one two =
    let looks = looks_then lawful one.looks two.looks in
    record {
      looks = looks;
      memory = two.memory;
      segments = cc;
      clean = cc;
      used = λ s. two.used s ∙ one.used s;
      kept = λ s. two.kept s ∙ one.kept s;
      chunk = cc;
      capacity = cc;
      few = omega arith;
      stay = λ x is. two.stay x (one.stay x is);
      hidden = cc;
      mapped = λ j is. two.mapped j (one.mapped j is);
      absent = λ l none. two.absent l (one.absent l none);
      log = λ k m0 m keeps is. two.log k m0 m keeps (one.log k m0 m (two.looks.carries.kept_before keeps) is);
    }

pub prepares_at_most : {a b : DeviceState} {v v' : LogMemory} {n l : ℕ} → n ≤ l → Prepares a b v v' n → Prepares a b v v' l
prepares_at_most {v = v} {v'} {l = l} le one =
    let few : length v'.dirty.blocks ≤ length v.dirty.blocks + l = omega arith in assumption few

pub prepares_and_looks : {a b c : DeviceState} {v v' : LogMemory} {n : ℕ} → IsLawful a → Prepares a b v v' n → Looks b c
    → Prepares a c v v' n
prepares_and_looks lawful one looks = prepares_at_most (omega arith) (prepares_then lawful one (prepares_looks {most = 0} one.memory looks))

pub prepares_excused : {a b c : DeviceState} {v v' : LogMemory} {n : ℕ} → Prepares a b v v' n → Looks b c → FailsFromDevice b c v'
    → FailsFromDevice a c v
prepares_excused one two failed k m0 m keeps is =
    let back = two.carries.kept_before keeps in
    omega (arith, failed k m0 m keeps (one.log k m0 m back is))

-- ---- what a call that brings a block does
pub on_device : (content : Content) (dirty : Dirty) (x : Entry) (a : ℕ) → (a ≡ 1 → ⊥) → present content dirty x a ≡ block content a
on_device content dirty x a ne = cond-false _ _ _ (not_one a ne)
  where
    not_one : (a : ℕ) → (a ≡ 1 → ⊥) → (a == 1) ≡ false
    not_one a ne = grind (arith, nat_tests)

pub brings_memory : (v v' : LogMemory) (x : Entry) {address : ℕ} {lives : Bool} {bytes : List ℕ} → IsMemory v
    → Brings v v' x address lives bytes → IsMemory v'
brings_memory v v' x memory go =
    kept_memory v v' memory go.usage.size go.chunk go.usage.used go.usage.kept go.usage.last go.usage.unit go.usage.blocks.address
    (λ j. stays_stale j go.usage.blocks) go.capacity

pub bring_prepares : {d d' : DeviceState} {v v' : LogMemory} (x : Entry) {f address : ℕ} {lives : Bool} {bytes : List ℕ}
    → IsMemory v → Looks d d' → file_of x ≡ Some f → f < 4096 → IsAtAddress (blocks_of v.dirty) (tables_of v) x address → 2 ≤ address
    → lives ≡ not (is_hidden_in v.map f)
    → ((n : ℕ) → x ≡ Inode n → is_hidden_in v.map n ≡ false → block_in v.map (n / 128) ≡ 1)
    → (d'.keeps_model → bytes ≡ present d.content (blocks_of v.dirty) x address)
    → Brings v v' x address lives bytes → Prepares d d' v v' 1
bring_prepares {d} {v = v} {v'} x {address = address} {bytes = bytes} memory looks file low at above is_lives mapped read go = record {
  looks = looks;
  memory = brings_memory v v' x memory go;
  segments = go.usage.size;
  clean = go.usage.clean;
  used = go.usage.used;
  kept = go.usage.kept;
  chunk = go.chunk;
  capacity = go.capacity;
  few = go.few;
  stay = brought v v' x bytes go.dirty;
  hidden = go.hidden;
  mapped = λ j is. rw go.blocks is;
  absent = λ l none. elim (inode_or_not x) [
    | inl w ↦ elim (cases_eq l w.0) [
      | inl here ↦ absurd (omega (
        arith,
        ap (tables_of v).at w.1 ∙ ap (address_in v.map) (sym here) ∙ none,
        at.top (ap parent w.1 ∙ sym w.1),
      ))
      | inr ne ↦ (go.inode w.0 w.1).others l ne ∙ none
    ]
    | inr other ↦ rw (go.others other) none
  ];
  log =
      λ k m0 m keeps is. log_brought (still_log looks is) file low at above is_lives go
      (rw looks.untouched.content (sym (read keeps ∙ on_device d.content (blocks_of v.dirty) x address (omega arith)))) mapped;
}

-- where the block isn't counted, or isn't read, a call of the device failed
pub bring_lost : (d : DeviceState) (v : LogMemory) (x : Entry) {f address : ℕ} {lives : Bool} → file_of x ≡ Some f → f < 4096
    → IsAtAddress (blocks_of v.dirty) (tables_of v) x address → 2 ≤ address
    → lives ≡ not (is_hidden_in v.map f) → (IsCountedAbove v.usage address lives → ⊥) → FailsFromDevice d d v
bring_lost d v x file low at above is_lives lost k m0 m keeps is =
    absurd (lost (is_counted is file low at above is_lives))

pub bring_unread : (d d' : DeviceState) (v : LogMemory) (x : Entry) {f address : ℕ} → file_of x ≡ Some f → f < 4096
    → IsAtAddress (blocks_of v.dirty) (tables_of v) x address → 2 ≤ address
    → (d'.keeps_model → (d.failures < d'.failures) ⊎ IsMissing d.content (blocks_of v.dirty) x address) → FailsFromDevice d d' v
bring_unread d d' v x {f} file low at above unread k m0 m keeps is = elim (unread keeps) [
  | inl failed ↦ failed
  | inr missing ↦
      absurd (is_read is {lives = not (is_hidden_in v.map f)} file low at above refl missing)
]

map_prepares : {d : DeviceState} {v v' : LogMemory} {j : ℕ} → IsMemory v → MapLifts v v' j → Prepares d d v v' 0
map_prepares {d} {v} {v'} {j} memory go = elim (two_or_less (block_in v.map j)) [
  | inl above ↦
      let l = go.lifted above in
      made (kept_memory v v' memory l.size go.chunk l.used l.kept l.last l.unit l.blocks.address
      (λ i. stays_stale i l.blocks) capacity) l.size l.clean l.used l.kept
  | inr small ↦ elim (cases_eq (block_in v.map j) 0) [
    | inl none ↦
        let e = go.added none in
        let size : length v'.usage.segments ≡ length v.usage.segments = rw e in
        made (kept_memory v v' memory size go.chunk (λ s. rw e) (λ s. rw e) (rw e) (rw e) (λ i. rw e) (λ i on. rw e on) capacity)
        size (rw e) (λ s. rw e) (λ s. rw e)
    | inr some ↦ rw (go.same (omega arith)) (prepares_looks memory (looks_none d))
  ]
]
  where
    two_or_less : (n : ℕ) → (2 ≤ n) ⊎ (n < 2)
    two_or_less zero = inr (omega arith)
    two_or_less (suc zero) = inr (omega arith)
    two_or_less (suc (suc n)) = inl (omega arith)

    capacity : v'.dirty.capacity ≡ v.dirty.capacity
    capacity = rw go.dirty

    made : IsMemory v' → length v'.usage.segments ≡ length v.usage.segments → clean_in v'.usage.segments ≡ clean_in v.usage.segments
        → ((s : ℕ) → used_of v'.usage s ≡ used_of v.usage s)
        → ((s : ℕ) → kept_of v'.usage s ≡ kept_of v.usage s) → Prepares d d v v' 0
    made memory' size clean used kept = record {
      looks = looks_none d;
      memory = memory';
      segments = size;
      clean = clean;
      used = used;
      kept = kept;
      chunk = go.chunk;
      capacity = capacity;
      few = omega (arith, ap (λ (t : TableValue). length t.blocks) go.dirty);
      stay = λ x is. (is.0, rw go.dirty is.1);
      hidden = go.hidden;
      mapped = λ i one. elim (cases_eq i j) [
        | inl here ↦ cc
        | inr ne ↦ go.blocks.others i ne ∙ one
      ];
      absent = λ l none. rw go.addresses none;
      log = λ k m0 m keeps is. log_mapped d v k m0 m is j v' go;
    }

pub map_lost : (d : DeviceState) {v : LogMemory} {j : ℕ} → IsMapLost v j → FailsFromDevice d d v
map_lost d {v} {j} lost k m0 m keeps is = absurd (lost.lost (map_counted d v k m0 m is j lost.above))

-- nothing happened
pub prepares_none : {d : DeviceState} {v v' : LogMemory} {most : ℕ} → v' ≡ v → IsMemory v → Prepares d d v v' most
prepares_none {d} same memory = rw same (prepares_looks memory (looks_none d))

pub map_of_prepares : {d : DeviceState} {v v' : LogMemory} {j : ℕ} → IsLawful d → IsMemory v → (v' ≡ v) ⊎ MapLifts v v' j
    → Prepares d d v v' 0
map_of_prepares lawful memory o = elim o [ inl same ↦ prepares_none same memory | inr go ↦ map_prepares memory go ]

-- ---- where blocks are
pub inode_stands : (v : LogMemory) (x : Entry) {n : ℕ} (a : ℕ) → x ≡ Inode n → address_in v.map n ≡ a
    → IsAtAddress (blocks_of v.dirty) (tables_of v) x a
inode_stands v x a named at = record {
  top = λ top. ap (tables_of v).at named ∙ at;
  pointed = λ ne. absurd (ne (ap parent named ∙ sym named));
  low = λ k q leaf. cc;
}

pub not_inside : (d : DeviceState) (v : LogMemory) (x : Entry) (f : ℕ) → file_of x ≡ Some f
    → IsAtAddress (blocks_of v.dirty) (tables_of v) x 1 → blocks_of v.dirty x ≡ None → FailsFromDevice d d v
not_inside d v x f file at none k m0 m keeps is =
    absurd (not_missing d v k m0 m is x (f, file) (address_at d k m0 m x 1 is.running at) (omega arith)
    (record { inside = λ one. none; outside = λ ne. absurd (ne refl) }))

-- how one call after another ends
pub ends_then : {T : Type 0} {a b c : DeviceState} {v v' v'' : LogMemory} (n : ℕ) → Prepares a b v v' n → b.failures ≡ a.failures
    → Looks b c → {r : Result T LiftFault} → EndsLifting b c v' v'' r → EndsLifting a c v v'' r
ends_then n one same looks {r} two = record {
  full = two.full;
  failed = λ is. prepares_excused one looks (two.failed is);
  no_failure = ok_then r _ _ (λ still. still ∙ same) two.no_failure;
}

pub ends_after : {T : Type 0} {a b c : DeviceState} {v v' v'' : LogMemory} {n : ℕ} {e : LiftFault} → Prepares a b v v' n → Looks b c
    → EndsLifting {T = T} b c v' v'' (Err e) → EndsLifting {T = T} a c v v'' (Err e)
ends_after one looks ends = record { full = ends.full; failed = λ is. prepares_excused one looks (ends.failed is); no_failure = tt }

-- a call of the device failed
pub ends_failed : {T : Type 0} {d d' : DeviceState} {v v' : LogMemory} → FailsFromDevice d d' v
    → EndsLifting {T = T} d d' v v' (Err fault.Device)
ends_failed failed = record { full = λ is. cc; failed = λ is. failed; no_failure = tt }

-- a fault is what it is in another result too, and where it is passed on
pub ends_other : {T U : Type 0} {d d' : DeviceState} {v v' : LogMemory} {e : LiftFault} → EndsLifting {T = T} d d' v v' (Err e)
    → EndsLifting {T = U} d d' v v' (Err e)
ends_other ends = record { full = λ is. ends.full (cc); failed = λ is. ends.failed (cc); no_failure = tt }

pub ends_passed : {T U : Type 0} {d d' : DeviceState} {v v' : LogMemory} {e : LiftFault} {r : Result U LiftFault}
    → EndsLifting {T = T} d d' v v' (Err e) → IsErr r × IsErrAnd r (λ y. y ≡ e) → EndsLifting d d' v v' r
ends_passed {r = Ok x} ends gives = absurd gives.1
ends_passed {r = Err y} ends gives = record { full = λ is. ends.full (cc); failed = λ is. ends.failed (cc); no_failure = tt }

-- after the inode map's block
module _ {d d' : DeviceState} {v v' v'' : LogMemory} {j : ℕ} (lawful : IsLawful d) (memory : IsMemory v)
    (named : (v' ≡ v) ⊎ MapLifts v v' j) (one : Prepares d d' v' v'' 1) where
  pub named_prepares : Prepares d d' v v'' 1
  named_prepares = prepares_then lawful (map_of_prepares lawful memory named) one

  pub named_ends : {T : Type 0} {e : LiftFault} → EndsLifting {T = T} d d' v' v'' (Err e) → EndsLifting {T = T} d d' v v'' (Err e)
  named_ends ends = ends_after (map_of_prepares lawful memory named) one.looks ends

-- a block below the one above it
pub pointed_stands : (v : LogMemory) (x : Entry) (a : ℕ) → (parent x ≡ x → ⊥) → ((n q : ℕ) → x ≡ Leaf n q → q ≤ 128)
    → IsPointedIn (blocks_of v.dirty) x a → IsAtAddress (blocks_of v.dirty) (tables_of v) x a
pointed_stands v x a below low pointed = record { top = λ top. absurd (below top); pointed = λ ne. pointed; low = low }
