-- Blocks of files change in memory: what that leaves of the log.
use Rattle.std.proofs.Common.{◌≡◌, ◌<◌, ◌≤◌, not, ℕ, Bool, List, [], length, Option, Some, refl, sym, ◌∙◌, ap, subst, arith}
use Rattle.std.proofs.Common.{inl, inr}
use Rattle.std.proofs.lemmas.Bool.{cases_eq}
use Rattle.lfs_model.specs.Checkpoint.{CheckpointValue}
use Rattle.lfs_model.specs.Device.{DeviceState}
use Rattle.lfs_model.specs.Entry.{Entry, Data, Leaf}
use Rattle.lfs_model.specs.Fields.{zeros}
use Rattle.lfs_model.specs.Memory.{IsPointers, is_unlinked, is_shown}
use Rattle.lfs_model.specs.Running.{Dirty, Tables, Running}
use Rattle.lfs_model.specs.Staging.{IsAtAddress}
use Rattle.lfs_model.specs.Stands.{LogMap}
use Rattle.lfs_model.proofs.Changed.{block_adding, block_removing, block_rewriting, pointers_growing, pointers_shrinking}
use Rattle.lfs_model.proofs.Entries.{data_below, pointers_below}
use Rattle.lfs_model.proofs.Reading.{reading}
use Rattle.lfs_model.proofs.Replacing.{address_at, block_replacing, block_leaving}
use Rattle.lfs_segments.specs.Table.{UsageTable}
use Rattle.lfs_inodes.specs.Blocks.{TableValue, blocks_of}
use Rattle.lfs_inodes.specs.MapValue.{MapValue, is_hidden_in}
use Rattle.lfs_memory.specs.declared.memory.LogMemory.{LogMemory}
use Rattle.lfs_memory.specs.Memory.{IsLog, IsLoose, tables_of, segment_in, chunk_in}
use Rattle.lfs_memory.specs.Changing.{IsPointedIn, Stays, Stores, Drops, MakesBlock, ChangesBlock, IsBlockMiscounted, Grows, Prunes}
use Rattle.lfs_memory.specs.Changing.{Departs, Tightens, stored, with_block}
use Rattle.lfs_memory.proofs.FileSteps.{shows}
use Rattle.lfs_memory.proofs.LogMaps.{is_with_block, with_same_block, stored_none, stored_some, word_zeros, length_zeros, blank_or}
use Rattle.lfs_memory.proofs.Looses.{as_memory, tables_same, lifts_tables, pointed_at, below_or, tight_again, never_miscounted, stays_more}

departs_unit : {old new : UsageTable} {a : ℕ} {lives : Bool} → Departs old new a lives → new.unit ≡ old.unit
departs_unit {old} {new} {a} go =
    below_or a (new.unit ≡ old.unit) (λ low. ap (λ (u : UsageTable). u.unit) (go.none low)) (λ high. (go.lifts high).unit)

data_low : (n i l q : ℕ) → Data n i ≡ Leaf l q → q ≤ 128
data_low n i l q is = cc

-- what is in memory, by its pointer
in_memory : {d : DeviceState} {v : LogMemory} {k : CheckpointValue} {m0 m : LogMap} → (is : IsLoose d v k m0 m) → (n i : ℕ)
    → is.running.memory.at (Data n i) ≡ 1 → (b : List ℕ) × (blocks_of v.dirty (Data n i) ≡ Some b)
in_memory is n i one = is.running.cached.found (Data n i) (n, refl) one

module _ (d : DeviceState) (v v' : LogMemory) (k : CheckpointValue) (m0 m : LogMap) (is : IsLoose d v k m0 m) (n i a : ℕ) (few : n < 4096)
    (pointed : IsPointedIn (blocks_of v.dirty) (Data n i) a) where
  at : IsAtAddress (blocks_of v.dirty) (tables_of v) (Data n i) a
  at = pointed_at _ _ a (data_below n i) (data_low n i) pointed

  where_it_is : is.running.memory.at (Data n i) ≡ a
  where_it_is = address_at d k m0 m (Data n i) a is.running at

  lives_as : not (is_hidden_in v.map n) ≡ is_shown m (Data n i)
  lives_as = shows m (Data n i) n (is_hidden_in v.map n) refl (is.hidden n few)

  -- the same tables, where nothing leaves an address
  still : {dirty : Dirty} {w : LogMap} → v'.map ≡ v.map → v'.usage ≡ v.usage → v'.chunk ≡ v.chunk
      → Running d dirty (tables_of v) k m0 w (segment_in v.chunk) (chunk_in v.chunk)
      → Running d dirty (tables_of v') k m0 w (segment_in v'.chunk) (chunk_in v'.chunk)
  still map usage chunk run = as_memory v v' chunk (tables_same v v' map usage) run

  loosely : {w : LogMap} → ((l : ℕ) → w.header l ≡ m.header l) → v'.map ≡ v.map → length v'.usage.segments ≡ length v.usage.segments
      → v'.usage.unit ≡ v.usage.unit → Running d (blocks_of v'.dirty) (tables_of v') k m0 w (segment_in v'.chunk) (chunk_in v'.chunk)
      → IsLoose d v' k m0 w
  loosely headers map segments unit run = record {
    running = run;
    hidden = λ l lt. ap is_unlinked (headers l) ∙ is.hidden l lt ∙ ap (λ (x : MapValue). is_hidden_in x l) (sym map);
    segments = cc;
    unit = unit ∙ is.unit;
  }

  module _ (bytes : List ℕ) (long : length bytes ≡ 512) (go : Stores v v' n (Data n i) a bytes) where
    stored_low : a < 2
        → Running d (blocks_of v'.dirty) (tables_of v') k m0 (with_block m n i bytes) (segment_in v'.chunk) (chunk_in v'.chunk)
    stored_low low = elim (cases_eq a 1) [
      | inl one ↦
          let old = in_memory is n i (where_it_is ∙ one) in
          still go.map (go.departs.none low) go.stays.chunk
          (block_rewriting d _ _ _ k m0 m (with_block m n i bytes) _
          _ n i old.0 bytes is.running old.1 long (is_with_block m n i bytes) (go.changes one))
      | inr ne ↦
          let none : a ≡ 0 = omega arith in
          still go.map (go.departs.none low) go.stays.chunk
          (block_adding d _ _ _ k m0 m (with_block m n i bytes) _ _ n i bytes is.running
          (rw none at at) long (is_with_block m n i bytes)
          (go.comes ne))
    ]

    stored_high : 2 ≤ a
        → Running d (blocks_of v'.dirty) (tables_of v') k m0 (with_block m n i bytes) (segment_in v'.chunk) (chunk_in v'.chunk)
    stored_high high =
        as_memory v v' go.stays.chunk refl
        (block_replacing d _ _ _ _ k m0 m (with_block m n i bytes) _ _ n i a bytes is.running at high long (is_with_block m n i bytes)
        (go.comes (λ one. omega arith)) (lifts_tables m 1 go.map (go.departs.lifts high) lives_as (data_below n i)))

    pub stored_log : IsLoose d v' k m0 (with_block m n i bytes)
    stored_log = loosely (λ l. refl) go.map go.stays.segments (departs_unit go.departs)
        (below_or a (Running d _ _ k m0 (with_block m n i bytes) _ _) stored_low stored_high)

  module _ (go : Drops v v' n (Data n i) a) where
    abbrev without : LogMap
    without = with_block m n i []

    dropped_low : a < 2 → Running d (blocks_of v'.dirty) (tables_of v') k m0 without (segment_in v'.chunk) (chunk_in v'.chunk)
    dropped_low low = elim (cases_eq a 1) [
      | inl one ↦
          let old = in_memory is n i (where_it_is ∙ one) in
          still go.map (go.departs.none low) go.stays.chunk
          (block_removing d _ _ _ k m0 m without _ _ n i old.0 is.running old.1 (is_with_block m n i []) (go.leaves (omega arith)))
      | inr ne ↦
          let none : a ≡ 0 = omega arith in
          let empty : m.block n i ≡ [] =
          (reading d.content m is.running.memory _ is.running.laid).no_block n i (where_it_is ∙ none) in
          subst (λ (w : LogMap). Running d (blocks_of v'.dirty) (tables_of v') k m0 w (segment_in v'.chunk) (chunk_in v'.chunk))
          (sym (with_same_block m n i [] empty))
          (rw (go.none none) (still go.map (go.departs.none low) go.stays.chunk is.running))
    ]

    dropped_high : 2 ≤ a → Running d (blocks_of v'.dirty) (tables_of v') k m0 without (segment_in v'.chunk) (chunk_in v'.chunk)
    dropped_high high =
        as_memory v v' go.stays.chunk refl
        (block_leaving d _ _ _ _ k m0 m without _ _ n i a is.running at high (is_with_block m n i [])
        (go.leaves (omega arith)) (lifts_tables m 1 go.map (go.departs.lifts high) lives_as (data_below n i)))

    pub dropped_log : IsLoose d v' k m0 without
    dropped_log = loosely (λ l. refl) go.map go.stays.segments (departs_unit go.departs)
        (below_or a (Running d _ _ k m0 without _ _) dropped_low dropped_high)

  put_log : (bytes : List ℕ) → length bytes ≡ 512 → MakesBlock v v' n i a bytes → IsLoose d v' k m0 (with_block m n i (stored bytes))
  put_log bytes long go = elim (blank_or bytes long) [
    | inl none ↦ rw (stored_none bytes 512 none) (dropped_log (go.drops none))
    | inr some ↦ rw (stored_some bytes long some) (stored_log bytes long (go.stores some))
  ]

-- a data block of a file is these bytes
pub block_changed : (d : DeviceState) (v v' : LogMemory) (k : CheckpointValue) (m0 m : LogMap) → IsLoose d v k m0 m → {n i : ℕ} → n < 4096
    → {bytes : List ℕ} → length bytes ≡ 512 → ChangesBlock v v' n i bytes → IsLoose d v' k m0 (with_block m n i (stored bytes))
block_changed d v v' k m0 m is {n} {i} few {bytes} long go = put_log d v v' k m0 m is n i go.address few go.pointed bytes long go.puts

-- and that doesn't fail
pub block_counted : (d : DeviceState) (v : LogMemory) (k : CheckpointValue) (m0 m : LogMap) → IsLoose d v k m0 m → {n i : ℕ} → n < 4096
    → IsBlockMiscounted v n i → ⊥
block_counted d v k m0 m is {n} {i} few bad =
    never_miscounted d v k m0 m is n refl few
    (pointed_at _ _ bad.address (data_below n i) (data_low n i) bad.pointed) bad.miscounted

-- what stays then
pub block_stays : (v : LogMemory) {v' : LogMemory} {n i : ℕ} {bytes : List ℕ} → length bytes ≡ 512 → ChangesBlock v v' n i bytes
    → Stays 1 v v' × (v'.map ≡ v.map)
block_stays v {v'} {bytes} long go = elim (blank_or bytes long) [
  | inl none ↦ let s = go.puts.drops none in (stays_more s.stays, s.map)
  | inr some ↦ let s = go.puts.stores some in (s.stays, s.map)
]

-- ---- blocks of pointers
-- an empty block of pointers comes
pub grown_log : (d : DeviceState) (v v' : LogMemory) (k : CheckpointValue) (m0 m : LogMap) → IsLoose d v k m0 m → (x : Entry) → IsPointers x
    → IsPointedIn (blocks_of v.dirty) x 0 → Grows v v' x → IsLoose d v' k m0 m
grown_log d v v' k m0 m is x pointers pointed go = record {
  running = as_memory v v' go.stays.chunk (tables_same v v' go.map go.usage)
      (pointers_growing d _ _ _ k m0 m _ _ x (zeros 512) is.running pointers
      (pointed_at _ _ 0 (pointers_below x pointers) go.low pointed) (length_zeros 512) (λ w lt. word_zeros 512 w) go.comes);
  hidden = rw go.map is.hidden;
  segments = cc;
  unit = ap (λ (u : UsageTable). u.unit) go.usage ∙ is.unit;
}

-- those that lead nowhere leave
module _ (d : DeviceState) (k : CheckpointValue) (m0 m : LogMap) {t : Tables} {seg : ℕ} {chunk : Option (List Entry)} (old : TableValue)
    (w : Running d (blocks_of old) t k m0 m seg chunk) where
  pub pruned : {new : TableValue} → Prunes old new → Running d (blocks_of new) t k m0 m seg chunk
  pruned Prunes.nothing = w
  pruned (Prunes.more u new x before empty moves) =
      pointers_shrinking d _ _ t k m0 m seg chunk x empty.bytes
      (pruned before) empty.pointers empty.there empty.empty moves

pub tightened_log : {d : DeviceState} {v v' : LogMemory} (k : CheckpointValue) {m0 : LogMap} (m : LogMap) → Tightens v v'
    → IsLoose d v k m0 m
    → IsLog d v' k m0 m
tightened_log {d} {v} {v'} k {m0} m go is =
    tight_again (record {
      running = as_memory v v' go.stays.chunk (tables_same v v' go.map go.usage) (pruned d k m0 m v.dirty is.running go.prunes);
      hidden = rw go.map is.hidden;
      segments = cc;
      unit = ap (λ (u : UsageTable). u.unit) go.usage ∙ is.unit;
    })
    go.tight
