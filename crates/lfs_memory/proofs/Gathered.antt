-- Blocks that come into memory: no block has an address afterwards that it hadn't before.
use Rattle.std.proofs.Common.{◌≡◌, ◌<◌, ◌≤◌, ◌⊎◌, ◌+◌, ◌*◌, ◌/◌, not, ℕ, zero, suc, Bool, false, List, length, Option, Some, refl}
use Rattle.std.proofs.Common.{sym, ◌∙◌, ap, subst, arith, inl, inr}
use Rattle.lfs_model.specs.Checkpoint.{CheckpointValue}
use Rattle.lfs_model.specs.Content.{Content, block}
use Rattle.lfs_model.specs.Counting.{segment_of}
use Rattle.lfs_model.specs.Device.{DeviceState}
use Rattle.lfs_model.specs.Entry.{Entry, Inode, Map, Usage}
use Rattle.lfs_model.specs.Lifting.{IsTaken}
use Rattle.lfs_model.specs.Memory.{Memory, file_of, is_shown, is_held}
use Rattle.lfs_model.specs.Running.{Dirty, Tables, Running, IsLifted, IsReaddressed}
use Rattle.lfs_model.specs.Staging.{IsAtAddress}
use Rattle.lfs_model.specs.Stands.{LogMap}
use Rattle.lfs_model.proofs.Counting.{unplaced_counts}
use Rattle.lfs_model.proofs.Entries.{same_entry}
use Rattle.lfs_model.proofs.Leaving.{left_memory, left_taken, left_cached, still_open}
use Rattle.lfs_model.proofs.Outgoing.{map_lifting}
use Rattle.lfs_model.proofs.Running.{taken_memory, addressed, lifted_tables, lifted_fresh, usage_kept, part_same, whole_same, kept_same}
use Rattle.lfs_model.proofs.Settled.{settled_still}
use Rattle.lfs_model.proofs.Staging.{fetching_traces}
use Rattle.lfs_model.proofs.Tables.{map_table}
use Rattle.lfs_segments.specs.Chunk.{Chunk}
use Rattle.lfs_inodes.specs.Blocks.{blocks_of}
use Rattle.lfs_inodes.specs.MapValue.{is_hidden_in, block_in}
use Rattle.lfs_inodes.specs.Present.{present}
use Rattle.lfs_memory.specs.declared.memory.LogMemory.{LogMemory}
use Rattle.lfs_memory.specs.Memory.{IsLoose, tables_of, segment_in, chunk_in}
use Rattle.lfs_memory.specs.Present.{Looks}
use Rattle.lfs_memory.specs.Lifting.{Brings, Gathers, HasTraces, MapLifts}
use Rattle.lfs_memory.proofs.Lifted.{is_lifted, is_named, map_addressed, on_device, same_hidden}
use Rattle.lfs_memory.proofs.Presents.{looks_none}

-- ---- one block that leaves its address
pub taken_traced : (M : Memory) {x : Entry} (M' : Memory) → IsTaken M x 1 M' → HasTraces M M'
taken_traced M {x} M' go y above = elim (same_entry y x) [
  | inl here ↦ absurd (omega (arith, ap M'.at here ∙ go.at))
  | inr ne ↦ sym (go.others y ne)
]

pub traces_none : (M : Memory) → HasTraces M M
traces_none M y above = refl

pub traces_then : (L M N : Memory) → HasTraces L M → HasTraces M N → HasTraces L N
traces_then L M N one two y above = let same = two y above in one y (omega arith) ∙ same

-- ---- a device that was only looked at
pub still_traced : (d : DeviceState) {d' : DeviceState} {v : LogMemory} (k : CheckpointValue) {m0 : LogMap} (m : LogMap) → Looks d d'
    → (is : IsLoose d v k m0 m)
    → (is' : IsLoose d' v k m0 m) × HasTraces is.running.memory is'.running.memory
still_traced d {d'} {v} k {m0} m looks is =
    let w = is.running in
    let same = looks.untouched in
    let after : IsLoose d' v k m0 m = record {
      running = record {
        memory = w.memory;
        laid = rw same.content w.laid;
        segments = w.segments;
        settled = settled_still d d' k m0 w.settled same looks.carries.unit;
        cached = w.cached;
        tables = w.tables;
        fresh = w.fresh;
        part = w.part;
        whole = w.whole;
        kept = λ i low. rw same.content (w.kept i low);
        opened = rw same.content w.opened;
      };
      hidden = is.hidden;
      segments = is.segments;
      unit = is.unit;
    } in
    (after, traces_none w.memory)

-- ---- a block of the inode map
module _ (d : DeviceState) {dirty : Dirty} {t : Tables} (t' : Tables) (k : CheckpointValue) (m0 m : LogMap) {seg : ℕ}
    {chunk : Option (List Entry)}
    (j : ℕ) (w : Running d dirty t k m0 m seg chunk) where
  abbrev Traced : Type 0
  Traced = (w' : Running d dirty t' k m0 m seg chunk) × HasTraces w.memory w'.memory

  map_fetched : 2 ≤ t.at (Map j) → IsLifted m t t' (Map j) 1 (segment_of (t.at (Map j))) → Traced
  unfolding left_memory taken_memory
  map_fetched above go =
      let p = left_taken d t' k m w (Map j) (map_table j) 1 (omega arith) in
      let next = left_memory d t' k m w (Map j) (map_table j) 1 (omega arith) in
      let same : w.memory.at (Map j) ≡ t.at (Map j) = w.tables.at (Map j) refl in
      let was : 2 ≤ w.memory.at (Map j) = omega arith in (
        record {
          memory = next;
          laid = map_lifting d.content m w.memory seg j next w.laid (record { taken = p; bytes = refl });
          segments = w.segments;
          settled = w.settled;
          cached = left_cached d t' k m w (Map j) (map_table j) 1 (omega arith);
          tables = lifted_tables d.content m w.memory seg (Map j) 1 next t t' w.laid was p w.tables
              (rw same go);
          fresh = λ i off low. let no = lifted_fresh m t t' (Map j) 1 go i off in
              no.1 (w.memory.bytes (Usage i)) (w.fresh i no.0 low);
          part = part_same t t' go.used go.kept w.part;
          whole = whole_same k t t' seg go.used w.whole;
          kept = kept_same d.content k t t' go.kept w.kept;
          opened = still_open d t' k m w (Map j) (map_table j) 1 (omega arith) chunk w.opened go.kept;
        },
        taken_traced w.memory next p,
      )

  map_added : t.at (Map j) ≡ 0 → IsReaddressed t t' (Map j) 1 → Traced
  unfolding left_memory taken_memory
  map_added none go =
      let p = left_taken d t' k m w (Map j) (map_table j) 1 (omega arith) in
      let next = left_memory d t' k m w (Map j) (map_table j) 1 (omega arith) in
      let was : w.memory.at (Map j) ≡ 0 = w.tables.at (Map j) refl ∙ none in
      let counts = unplaced_counts d.content m w.memory seg (Map j) 1 next w.laid (omega arith) p in (
        record {
          memory = next;
          laid = map_lifting d.content m w.memory seg j next w.laid (record { taken = p; bytes = refl });
          segments = w.segments;
          settled = w.settled;
          cached = left_cached d t' k m w (Map j) (map_table j) 1 (omega arith);
          tables = record {
            at = addressed t t' (Map j) 1 w.memory next go.at p.at p.others w.tables.at;
            used = λ s. go.used s ∙ w.tables.used s;
            live = λ s. go.live s ∙ w.tables.live s ∙ sym (counts (is_shown m) s);
            held = λ s. go.held s ∙ w.tables.held s ∙ sym (counts (is_held m) s);
          };
          fresh = λ i off low. usage_kept t t' i (w.memory.bytes (Usage i))
              (λ q lt. (go.used (64 * i + q), go.live (64 * i + q), go.age (64 * i + q))) (w.fresh i (sym (go.stale i) ∙ off) low);
          part = part_same t t' go.used go.kept w.part;
          whole = whole_same k t t' seg go.used w.whole;
          kept = kept_same d.content k t t' go.kept w.kept;
          opened = still_open d t' k m w (Map j) (map_table j) 1 (omega arith) chunk w.opened go.kept;
        },
        taken_traced w.memory next p,
      )

-- ---- as memory has it
module _ {d : DeviceState} {v : LogMemory} (v' : LogMemory) {k : CheckpointValue} {m0 m : LogMap} (is : IsLoose d v k m0 m) where
  abbrev pub TracedIn : Dirty → Chunk → Type 0
  TracedIn dirty c = (w' : Running d dirty (tables_of v') k m0 m (segment_in c) (chunk_in c)) × HasTraces is.running.memory w'.memory

  pub loose_traced : v'.chunk ≡ v.chunk → v'.map.hidden ≡ v.map.hidden → length v'.usage.segments ≡ length v.usage.segments
      → v'.usage.unit ≡ v.usage.unit → TracedIn (blocks_of v'.dirty) v.chunk
      → (is' : IsLoose d v' k m0 m) × HasTraces is.running.memory is'.running.memory
  loose_traced chunk hidden size unit go =
      let there = subst (λ (c : Chunk). TracedIn (blocks_of v'.dirty) c) (sym chunk) go in
      let after : IsLoose d v' k m0 m =
      record {
        running = there.0;
        hidden = same_hidden v.map v'.map m hidden is.hidden;
        segments = size ∙ is.segments;
        unit = unit ∙ is.unit;
      } in
      (after, there.1)

module _ (d : DeviceState) (v v' : LogMemory) (k : CheckpointValue) (m0 m : LogMap) (is : IsLoose d v k m0 m) (j : ℕ)
    (go : MapLifts v v' j) where
  fetched_now : 2 ≤ block_in v.map j → (is' : IsLoose d v' k m0 m) × HasTraces is.running.memory is'.running.memory
  fetched_now above =
      let l = go.lifted above in
      loose_traced v' is go.chunk go.hidden l.size l.unit
      (subst (λ (dirty : Dirty). TracedIn v' is dirty v.chunk) (sym (ap blocks_of go.dirty))
      (map_fetched d (tables_of v') k m0 m j is.running above (assumption (map_addressed d v k m0 m is j v' go l.blocks.address))))

  added_now : block_in v.map j ≡ 0 → (is' : IsLoose d v' k m0 m) × HasTraces is.running.memory is'.running.memory
  added_now none =
      let e = go.added none in
      loose_traced v' is go.chunk go.hidden (rw e) (rw e)
      (rw (ap blocks_of go.dirty)
      (map_added d _ k m0 m j is.running none (record {
        at = map_addressed d v k m0 m is j v' go (λ i. rw e);
        used = λ i. rw e;
        live = λ i. rw e;
        held = λ i. rw e;
        age = λ i. rw e;
        kept = λ i. rw e;
        stale = λ i. rw e;
      })))

two_or_less : (n : ℕ) → (n ≡ 0) ⊎ (n ≡ 1) ⊎ (2 ≤ n)
two_or_less zero = inl refl
two_or_less (suc zero) = inr (inl refl)
two_or_less (suc (suc n)) = inr (inr (omega arith))

-- ---- calls
pub gathers_looks : {d d' : DeviceState} {v : LogMemory} → Looks d d' → Gathers d d' v v
gathers_looks {d} looks = record { used = λ s. refl; kept = λ s. refl; traces = λ k m0 m keeps is. still_traced d k m looks is }

pub gathers_none : {d : DeviceState} {v v' : LogMemory} → v' ≡ v → Gathers d d v v'
gathers_none {d} {v} same = rw same (gathers_looks {v = v} (looks_none d))

pub gathers_then : {a b c : DeviceState} {v v' v'' : LogMemory} → (c.keeps_model → b.keeps_model) → Gathers a b v v' → Gathers b c v' v''
    → Gathers a c v v''
gathers_then back one two = record {
  used = λ s. two.used s ∙ one.used s;
  kept = λ s. two.kept s ∙ one.kept s;
  traces = λ k m0 m keeps is.
      let first = one.traces k m0 m (back keeps) is in
      let second = two.traces k m0 m keeps first.0 in
      (second.0, traces_then is.running.memory first.0.running.memory second.0.running.memory first.1 second.1);
}

pub map_gathers : (d : DeviceState) (v v' : LogMemory) (j : ℕ) → MapLifts v v' j → Gathers d d v v'
map_gathers d v v' j go = elim (two_or_less (block_in v.map j)) [
  | inl none ↦
      let e = go.added none in
      record {
        used = λ s. rw e;
        kept = λ s. rw e;
        traces = λ k m0 m keeps is. added_now d v v' k m0 m is j go none;
      }
  | inr some ↦ elim some [
    | inl one ↦ gathers_none {d = d} (go.same one)
    | inr above ↦
        let l = go.lifted above in
        record { used = l.used; kept = l.kept; traces = λ k m0 m keeps is. fetched_now d v v' k m0 m is j go above }
  ]
]

pub map_of_gathers : (d : DeviceState) {v v' : LogMemory} {j : ℕ} → (v' ≡ v) ⊎ MapLifts v v' j → Gathers d d v v'
map_of_gathers d {v} {v'} {j} o = elim o [
  | inl same ↦ gathers_none {d = d} same
  | inr go ↦ map_gathers d v v' j go
]

pub bring_gathers : {d d' : DeviceState} {v v' : LogMemory} (x : Entry) {f address : ℕ} {lives : Bool} {bytes : List ℕ} → Looks d d'
    → file_of x ≡ Some f → f < 4096 → IsAtAddress (blocks_of v.dirty) (tables_of v) x address → 2 ≤ address
    → lives ≡ not (is_hidden_in v.map f)
    → ((n : ℕ) → x ≡ Inode n → is_hidden_in v.map n ≡ false → block_in v.map (n / 128) ≡ 1)
    → (d'.keeps_model → bytes ≡ present d.content (blocks_of v.dirty) x address)
    → Brings v v' x address lives bytes → Gathers d d' v v'
bring_gathers {d} {d'} {v} {v'} x {f} {address} {lives} {bytes} looks file low at above is_lives mapped read go = record {
  used = go.usage.used;
  kept = go.usage.kept;
  traces = λ k m0 m keeps is.
      let first = still_traced d k m looks is in
      let now = first.0 in
      let there : block d'.content address ≡ bytes = ap (λ (c : Content). block c address) looks.untouched.content
      ∙ sym (read keeps ∙ on_device d.content (blocks_of v.dirty) x address (omega arith)) in
      let second = loose_traced v' now go.chunk go.hidden go.usage.size go.usage.unit
      (fetching_traces d' (blocks_of v.dirty) _ _ _ k m0 m _
      _ x address bytes now.running (f, file) at above there (is_named now file low at above is_lives go there mapped)
      go.dirty (is_lifted now file low at above is_lives go)) in
      (second.0, traces_then is.running.memory now.running.memory second.0.running.memory first.1 second.1);
}
