-- How blocks change their places by calls, one after another, while the log map stays.
use Rattle.std.proofs.Common.{◌≡◌, ◌<◌, ◌≤◌, ◌⊎◌, ◌/◌, not, ℕ, zero, suc, Bool, false, List, length, refl, sym, ◌∙◌, ap, subst}
use Rattle.std.proofs.Common.{arith, inl, inr, Some}
use Rattle.lfs_model.specs.Checkpoint.{CheckpointValue}
use Rattle.lfs_model.specs.Content.{Content, block}
use Rattle.lfs_model.specs.Counting.{segment_of}
use Rattle.lfs_model.specs.Device.{DeviceState}
use Rattle.lfs_model.specs.Entry.{Entry, Inode, Map}
use Rattle.lfs_model.specs.Memory.{Memory, file_of, IsOfFile}
use Rattle.lfs_model.specs.Running.{Dirty, IsTight, Running}
use Rattle.lfs_model.specs.Staging.{IsAtAddress}
use Rattle.lfs_model.specs.Stands.{LogMap}
use Rattle.lfs_model.proofs.Entries.{same_entry}
use Rattle.lfs_model.proofs.Leaving.{staying_to}
use Rattle.lfs_model.proofs.Staging.{fetching_to, fetching_tight, map_fetching_to, map_adding_to}
use Rattle.lfs_model.proofs.Tables.{map_table}
use Rattle.lfs_segments.specs.Chunk.{Chunk}
use Rattle.lfs_inodes.specs.Blocks.{blocks_of}
use Rattle.lfs_inodes.specs.MapValue.{is_hidden_in, block_in}
use Rattle.lfs_inodes.specs.Present.{present}
use Rattle.lfs_memory.specs.declared.memory.LogMemory.{LogMemory}
use Rattle.lfs_memory.specs.Memory.{IsLog, IsLoose, tables_of, segment_in, chunk_in}
use Rattle.lfs_memory.specs.Moving.{ComesIn, GoesOut, HoldsOn, MovesIn, MovesOut, StaysPut}
use Rattle.lfs_memory.specs.Present.{Looks}
use Rattle.lfs_memory.specs.Lifting.{Brings, MapLifts}
use Rattle.lfs_memory.proofs.Lifted.{is_lifted, is_named, map_addressed, on_device, same_hidden}

-- ---- one call after another
pub holds_then : {a b c : DeviceState} {v v' v'' : LogMemory} {P Q R : Memory → Memory → Type 0} → (c.keeps_model → b.keeps_model)
    → ((L M N : Memory) → P L M → Q M N → R L N) → HoldsOn a b v v' P → HoldsOn b c v' v'' Q → HoldsOn a c v v'' R
holds_then back both one two k m0 m keeps is =
    let first = one k m0 m (back keeps) is in
    let second = two k m0 m keeps first.0 in
    (second.0, both is.running.memory first.0.running.memory second.0.running.memory first.1 second.1)

-- a device that was only looked at
pub holds_looked : {d d' : DeviceState} {v : LogMemory} → Looks d d' → HoldsOn d d' v v StaysPut
holds_looked {d} {d'} {v} looks k m0 m keeps is =
    let w = staying_to d d' (blocks_of v.dirty) _ k m0 m _ _ is.running looks.untouched looks.carries.unit in
    let after : IsLog d' v k m0 m =
    record { running = w.0; hidden = is.hidden; segments = is.segments; unit = is.unit; tight = is.tight } in
    (after, w.1)

pub holds_still : {d d' : DeviceState} {v v' : LogMemory} → Looks d d' → v' ≡ v → HoldsOn d d' v v' StaysPut
holds_still {d} {d'} {v} looks same = subst (λ (w : LogMemory). HoldsOn d d' v w StaysPut) (sym same) (holds_looked looks)

pub holds_none : {d : DeviceState} {v : LogMemory} → HoldsOn d d v v StaysPut
holds_none k m0 m keeps is = (is, λ y. refl)

pub stays_then : (L M N : Memory) → StaysPut L M → StaysPut M N → StaysPut L N
stays_then L M N one two y = two y ∙ one y

pub in_behind : (x : Entry) (L M N : Memory) → StaysPut L M → ComesIn M N x → ComesIn L N x
in_behind x L M N same come = record {
  was = let e = same x in let a = come.was in omega (arith, e, a);
  now = come.now;
  others = λ y file ne. come.others y file ne ∙ same y;
  tables = λ y table. elim (come.tables y table) [ inl stays ↦ inl (stays ∙ same y) | inr one ↦ inr one ];
}

pub in_before : (x : Entry) (L M N : Memory) → ComesIn L M x → StaysPut M N → ComesIn L N x
in_before x L M N come same = record {
  was = come.was;
  now = same x ∙ come.now;
  others = λ y file ne. same y ∙ come.others y file ne;
  tables = λ y table. elim (come.tables y table) [ inl stays ↦ inl (same y ∙ stays) | inr one ↦ inr (same y ∙ one) ];
}

pub out_behind : (x : Entry) (L M N : Memory) → StaysPut L M → GoesOut M N x → GoesOut L N x
out_behind x L M N same go = record { was = sym (same x) ∙ go.was; now = go.now; others = λ y ne. go.others y ne ∙ same y }

pub out_before : (x : Entry) (L M N : Memory) → GoesOut L M x → StaysPut M N → GoesOut L N x
out_before x L M N go same = record {
  was = go.was;
  now = let e = same x in let a = go.now in omega (arith, e, a);
  others = λ y ne. same y ∙ go.others y ne;
}

-- a chunk that is sealed behind a block stays in its segment
pub moves_out_then : {a b c : DeviceState} {v v' v'' : LogMemory} (x : Entry) → (c.keeps_model → b.keeps_model)
    → v''.chunk.segment ≡ v'.chunk.segment → MovesOut a b v v' x → HoldsOn b c v' v'' StaysPut → MovesOut a c v v'' x
moves_out_then {v' = v'} {v''} x back stands one two = holds_then back both one two
  where
    both : (L M N : Memory) → GoesOut L M x × (segment_of (M.at x) ≡ v'.chunk.segment) → StaysPut M N
        → GoesOut L N x × (segment_of (N.at x) ≡ v''.chunk.segment)
    both L M N go same = (out_before x L M N go.0 same, ap segment_of (same x) ∙ go.1 ∙ sym stands)

-- ---- the log map in memory by other words
module _ {d : DeviceState} {v : LogMemory} (v' : LogMemory) {k : CheckpointValue} {m0 m : LogMap} (is : IsLog d v k m0 m)
    (P : Memory → Type 0) where
  abbrev RunsIn : Dirty → Chunk → Type 0
  RunsIn dirty c = (w' : Running d dirty (tables_of v') k m0 m (segment_in c) (chunk_in c)) × P w'.memory

  log_to : v'.chunk ≡ v.chunk → v'.map.hidden ≡ v.map.hidden → length v'.usage.segments ≡ length v.usage.segments
      → v'.usage.unit ≡ v.usage.unit → IsTight (blocks_of v'.dirty) → RunsIn (blocks_of v'.dirty) v.chunk
      → (is' : IsLog d v' k m0 m) × P is'.running.memory
  log_to chunk hidden size unit tight go =
      let there = subst (λ (c : Chunk). RunsIn (blocks_of v'.dirty) c) (sym chunk) go in
      let after : IsLog d v' k m0 m = record {
        running = there.0;
        hidden = same_hidden v.map v'.map m hidden is.hidden;
        segments = size ∙ is.segments;
        unit = unit ∙ is.unit;
        tight = tight;
      } in
      (after, there.1)

as_loose : (d : DeviceState) (v : LogMemory) (k : CheckpointValue) (m0 m : LogMap) → IsLog d v k m0 m → IsLoose d v k m0 m
as_loose d v k m0 m is = record { running = is.running; hidden = is.hidden; segments = is.segments; unit = is.unit }

-- ---- a block of the inode map will be written
record TableComesIn (M M' : Memory) : Type 0 where
  files : (y : Entry) → IsOfFile y → M'.at y ≡ M.at y
  tables : (y : Entry) → (IsOfFile y → ⊥) → (M'.at y ≡ M.at y) ⊎ (M'.at y ≡ 1)

table_comes : (M M' : Memory) (j : ℕ) → (M'.at (Map j) ≡ 1) × ((y : Entry) → (y ≡ Map j → ⊥) → M'.at y ≡ M.at y) → TableComesIn M M'
table_comes M M' j to = record {
  files = λ y file. to.1 y (λ h. map_table j (subst IsOfFile h file));
  tables = λ y table. elim (same_entry y (Map j)) [ inl here ↦ inr (ap M'.at here ∙ to.0) | inr ne ↦ inl (to.1 y ne) ];
}

module _ (d : DeviceState) (v v' : LogMemory) (k : CheckpointValue) (m0 m : LogMap) (is : IsLog d v k m0 m) (j : ℕ)
    (go : MapLifts v v' j) where
  abbrev Comes : Type 0
  Comes = (is' : IsLog d v' k m0 m) × TableComesIn is.running.memory is'.running.memory

  tight_still : IsTight (blocks_of v'.dirty)
  tight_still = subst IsTight (sym (ap blocks_of go.dirty)) is.tight

  lifted_now : 2 ≤ block_in v.map j → Comes
  lifted_now above =
      let l = go.lifted above in
      let n = map_fetching_to d _ _ (tables_of v') k m0 m _ _ j is.running above
      (assumption (map_addressed d v k m0 m (as_loose d v k m0 m is) j v' go l.blocks.address)) in
      log_to v' is (TableComesIn is.running.memory) go.chunk go.hidden l.size l.unit tight_still
      (subst (λ (dirty : Dirty). RunsIn v' is (TableComesIn is.running.memory) dirty v.chunk) (sym (ap blocks_of go.dirty))
      (n.0, table_comes is.running.memory n.0.memory j n.1))

  added_now : block_in v.map j ≡ 0 → Comes
  added_now none =
      let e = go.added none in
      let n = map_adding_to d _ _ (tables_of v') k m0 m _ _ j is.running none (record {
        at = map_addressed d v k m0 m (as_loose d v k m0 m is) j v' go (λ i. rw e);
        used = λ i. rw e;
        live = λ i. rw e;
        held = λ i. rw e;
        age = λ i. rw e;
        kept = λ i. rw e;
        stale = λ i. rw e;
      }) in
      log_to v' is (TableComesIn is.running.memory) go.chunk go.hidden (rw e) (rw e) tight_still
      (subst (λ (dirty : Dirty). RunsIn v' is (TableComesIn is.running.memory) dirty v.chunk) (sym (ap blocks_of go.dirty))
      (n.0, table_comes is.running.memory n.0.memory j n.1))

two_or_less : (n : ℕ) → (n ≡ 0) ⊎ (n ≡ 1) ⊎ (2 ≤ n)
two_or_less zero = inl refl
two_or_less (suc zero) = inr (inl refl)
two_or_less (suc (suc n)) = inr (inr (omega arith))

abbrev HoldsTables : DeviceState → LogMemory → LogMemory → Type 0
HoldsTables d v v' = HoldsOn d d v v' TableComesIn

holds_tables_none : {d : DeviceState} {v v' : LogMemory} → v' ≡ v → HoldsTables d v v'
holds_tables_none {d = d} {v} same = subst (λ (w : LogMemory). HoldsTables d v w) (sym same)
    (λ k m0 m keeps is. (is, record { files = λ y file. refl; tables = λ y table. inl refl }))

map_comes : (d : DeviceState) (v v' : LogMemory) (j : ℕ) → MapLifts v v' j → HoldsTables d v v'
map_comes d v v' j go = elim (two_or_less (block_in v.map j)) [
  | inl none ↦ λ k m0 m keeps is. added_now d v v' k m0 m is j go none
  | inr some ↦ elim some [
    | inl one ↦ holds_tables_none {d = d} (go.same one)
    | inr above ↦ λ k m0 m keeps is. lifted_now d v v' k m0 m is j go above
  ]
]

-- and then one of a file comes in
pub comes_after_map : {d d' : DeviceState} {v v' v'' : LogMemory} {j : ℕ} (x : Entry) → IsOfFile x → (d'.keeps_model → d.keeps_model)
    → (v' ≡ v) ⊎ MapLifts v v' j → MovesIn d d' v' v'' x → MovesIn d d' v v'' x
comes_after_map {d} {v = v} {v'} {j = j} x file back o come =
    holds_then back both (elim o [ inl same ↦ holds_tables_none {d = d} same | inr go ↦ map_comes d v v' j go ]) come
  where
    both : (L M N : Memory) → TableComesIn L M → ComesIn M N x → ComesIn L N x
    both L M N table in_now = record {
      was = let e = table.files x file in let a = in_now.was in omega (arith, e, a);
      now = in_now.now;
      others = λ y of_file ne. in_now.others y of_file ne ∙ table.files y of_file;
      tables = λ y of_table. elim (in_now.tables y of_table) [
        | inl same ↦ elim (table.tables y of_table) [ inl stays ↦ inl (same ∙ stays) | inr one ↦ inr (same ∙ one) ]
        | inr one ↦ inr one
      ];
    }

-- ---- a block of a file comes in
pub bring_comes : {d d' : DeviceState} {v v' : LogMemory} (x : Entry) {f address : ℕ} {lives : Bool} {bytes : List ℕ} → Looks d d'
    → file_of x ≡ Some f → f < 4096 → IsAtAddress (blocks_of v.dirty) (tables_of v) x address → 2 ≤ address
    → lives ≡ not (is_hidden_in v.map f)
    → ((n : ℕ) → x ≡ Inode n → is_hidden_in v.map n ≡ false → block_in v.map (n / 128) ≡ 1)
    → (d'.keeps_model → bytes ≡ present d.content (blocks_of v.dirty) x address)
    → Brings v v' x address lives bytes → MovesIn d d' v v' x
bring_comes {d} {d'} {v} {v'} x {f} {address} {lives} {bytes} looks file low at above is_lives mapped read go k m0 m keeps is =
    let first = holds_looked looks k m0 m keeps is in
    let now = first.0 in
    let loose = as_loose d' v k m0 m now in
    let there : block d'.content address ≡ bytes = ap (λ (c : Content). block c address) looks.untouched.content
    ∙ sym (read keeps ∙ on_device d.content (blocks_of v.dirty) x address (omega arith)) in
    let named = is_named loose file low at above is_lives go there mapped in
    let lifted = is_lifted loose file low at above is_lives go in
    let n = fetching_to d' (blocks_of v.dirty) (blocks_of v'.dirty) _ (tables_of v') k m0 m _ _ x address bytes
    now.running (f, file) at above there named go.dirty lifted in
    let tight = fetching_tight d' (blocks_of v.dirty) (blocks_of v'.dirty) _ (tables_of v') k m0 m _ _ x address bytes
    now.running (f, file) at above there named go.dirty lifted now.tight in
    let come : ComesIn now.running.memory n.0.memory x = record {
      was = n.1.0;
      now = n.1.1;
      others = λ y of_file ne. n.1.2 y ne;
      tables = λ y of_table. inl (n.1.2 y (λ h. of_table (subst IsOfFile (sym h) (f, file))));
    } in
    let second = log_to v' now (λ (M : Memory). ComesIn now.running.memory M x) go.chunk go.hidden go.usage.size go.usage.unit tight
    (n.0, come) in
    (second.0, in_behind x is.running.memory now.running.memory second.0.running.memory first.1 second.1)
