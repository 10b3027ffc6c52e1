-- The blocks that stand in segments are listed chunk by chunk, in the end all of them.
use Rattle.std.proofs.Common.{◌≡◌, ◌<◌, ◌≤◌, ⊎_elim, ◌⊎◌, ◌+◌, ◌-◌, ◌*◌, ◌/◌, ◌++◌, ◌∷◌, zero, suc, ℕ, List, [], length, get_or, Some, None}
use Rattle.std.proofs.Common.{refl, sym, ◌∙◌, ap, subst, arith, inl, inr}
use Rattle.std.specs.Prelude.{IsPermutation, OnErr, OnOk, Ok, Err, Result, slice_index_or}
use Rattle.std.proofs.lemmas.Bool.{cases_eq, cases_lt}
use Rattle.std.proofs.lemmas.List.{append_assoc, append-nil, length-append}
use Rattle.std.proofs.lemmas.List.Elements.{Contains-append_left, Contains-push}
use Rattle.std.proofs.lemmas.List.Sorted.{Contains-permutation}
use Rattle.lfs_model.specs.Checkpoint.{CheckpointValue}
use Rattle.lfs_model.specs.Content.{Content, block, bytes_of}
use Rattle.lfs_model.specs.Device.{DeviceState, IsLawful, cell_at}
use Rattle.lfs_model.specs.Entry.{Entry, Data, Leaf, Double, Inode, Map, Usage, entries_in}
use Rattle.lfs_model.specs.Entry as entry
use Rattle.lfs_model.specs.Reach.{place_in, row_by, segment_start}
use Rattle.lfs_model.specs.Stands.{LogMap}
use Rattle.lfs_model.specs.Summary.{BlockNameValue, no_block, summary_in}
use Rattle.lfs_model.proofs.Tables.{block_at}
use Rattle.lfs_memory.specs.inodes.Key.{entry_of}
use Rattle.lfs_memory.specs.inodes.declared.key.BlockKey.{BlockKey}
use Rattle.lfs_memory.specs.inodes.MapValue.{MapValue, address_in, block_in}
use Rattle.lfs_memory.specs.segments.Table.{UsageTable, address_of, used_of}
use Rattle.lfs_memory.specs.declared.memory.LogMemory.{LogMemory}
use Rattle.lfs_memory.specs.Lifting.{IsMapLost, MapLifts}
use Rattle.lfs_memory.specs.Memory.{HoldsVolume, IsLoose, IsMemory, tables_of}
use Rattle.lfs_memory.specs.Present.{FailsFromDevice, Looks}
use Rattle.lfs_memory.proofs.Gathered.{still_traced, traces_none, traces_then}
use Rattle.lfs_memory.proofs.Lifted.{map_lost}
use Rattle.lfs_memory.proofs.Presents.{looks_none}
use Rattle.lfs_log.specs.Collecting.{AddsKeys, AreListed, Collects, IsFound, IsListed, IsTableLost, LiftsOne, LiftsTables, ListsAll}
use Rattle.lfs_log.specs.Collecting.{ListsBetween, ListsEach, NamesFound}
use Rattle.lfs_log.specs.Groups.{ListedKeys}
use Rattle.lfs_log.specs.Relocating.{IsUsageLost, Relocates, Traced, UsageLeavesIn}
use Rattle.lfs_log.proofs.Cleaned.{at_one}
use Rattle.lfs_log.proofs.of_verify.RowSteps.{cut_chunk, entries_none, names_of, no_chunk, no_entries}
use Rattle.lfs_log.proofs.Relocated.{relocated_excused, relocates_looks, relocates_then}
use Rattle.lfs_log.proofs.RowLabels.{IsRowFrom, label_is, row_end, row_next, row_start, summary_place}
use Rattle.lfs_log.proofs.TableBlocks.{map_relocates, usage_lost, usage_relocates}
use Rattle.lfs_log.proofs.Named.{has_row, stands_named}

-- ---- the list
pub adds_none : (l : ListedKeys) {most : ℕ} → AddsKeys l l most
adds_none l = record { added = []; keys = sym (append-nil l.keys); few = omega arith; room = omega arith }

pub adds_one : {l l' : ListedKeys} (key : BlockKey) → l'.keys ≡ l.keys ++ key ∷ [] → l.room ≤ l'.room → AddsKeys l l' 1
adds_one key keys room = record { added = key ∷ []; keys = keys; few = omega arith; room = room }

module _ {l l' l'' : ListedKeys} {n n' : ℕ} (one : AddsKeys l l' n) (two : AddsKeys l' l'' n') where
  pub adds_then : (most : ℕ) → n + n' ≤ most → AddsKeys l l'' most
  adds_then most few = record {
    added = one.added ++ two.added;
    keys = two.keys ∙ ap (λ (ks : List BlockKey). ks ++ two.added) one.keys ∙ append_assoc l.keys one.added two.added;
    few = let long = length-append one.added two.added in let a = one.few in let b = two.few in omega (arith, long, a, b, few);
    room = let a = one.room in let b = two.room in omega (arith, a, b);
  }

pub listed_more : {l l' : ListedKeys} {n : ℕ} → AddsKeys l l' n → {x : Entry} → IsListed l.keys x → IsListed l'.keys x
listed_more {l} one is = (is.0, rw one.keys (Contains-append_left l.keys one.added is.0 is.1), is.2)

pub listed_last : (keys keys' : List BlockKey) (key : BlockKey) (x : Entry) → keys' ≡ keys ++ key ∷ [] → entry_of key ≡ x → IsListed keys' x
listed_last keys keys' key x pushed is = (key, rw pushed (Contains-push keys key), is)

-- in another order too
pub listed_sorted : {keys keys' : List BlockKey} → IsPermutation keys keys' → {x : Entry} → IsListed keys x → IsListed keys' x
listed_sorted {keys} {keys'} moved is = (is.0, Contains-permutation keys keys' is.0 moved is.1, is.2)

-- what holds of the block of each key does of each block that is listed
pub listed_holds : (P : Entry → Type 0) (keys : List BlockKey)
    → ((i : ℕ) (d : BlockKey) → i < length keys → P (entry_of (slice_index_or keys i d))) → {x : Entry} → IsListed keys x → P x
listed_holds P keys each is = rw (← is.2) (rw (← is.1.2) (each is.1.0 is.0 is.1.1))

pub found_more : {l l' : ListedKeys} {n : ℕ} → AddsKeys l l' n → (v : LogMemory) {x : Entry} {address : ℕ} → IsFound l.keys v x address
    → IsFound l'.keys v x address
found_more one v is = ⊎_elim (λ listed. inl (listed_more one listed)) (λ away. inr away) is

-- ---- blocks of the tables
module _ {v v' : LogMemory} where
  map_last : (j : ℕ) → MapLifts v v' j → v'.usage.last ≡ v.usage.last
  map_last j lifts = ⊎_elim
      (λ (none : block_in v.map j < 1). ap (λ (t : UsageTable). t.last) (lifts.added (omega (arith, none))))
      (λ (some : 1 ≤ block_in v.map j). ⊎_elim
      (λ (one : block_in v.map j < 2). ap (λ (w : LogMemory). w.usage.last) (lifts.same (omega (arith, some, one))))
      (λ (up : 2 ≤ block_in v.map j). let go = lifts.lifted up in go.last)
      (cases_lt (block_in v.map j) 2))
      (cases_lt (block_in v.map j) 1)

  pub one_relocates : {d : DeviceState} → IsLawful d → IsMemory v → LiftsOne v v' → Relocates d d v v'
  one_relocates {d} lawful memory go = ⊎_elim
      (λ (same : v' ≡ v). rw same (relocates_looks v memory (looks_none d)))
      (λ (lifts : MapLifts v v' go.0 ⊎ UsageLeavesIn v v' go.0). ⊎_elim
      (λ (mapped : MapLifts v v' go.0). map_relocates lawful memory (inr mapped))
      (λ (left : UsageLeavesIn v v' go.0). usage_relocates d memory (inr left)) lifts)
      go.1

  one_dirty : LiftsOne v v' → v'.dirty ≡ v.dirty
  one_dirty go = ⊎_elim
      (λ (same : v' ≡ v). ap (λ (w : LogMemory). w.dirty) same)
      (λ (lifts : MapLifts v v' go.0 ⊎ UsageLeavesIn v v' go.0). ⊎_elim
      (λ (mapped : MapLifts v v' go.0). mapped.dirty)
      (λ (left : UsageLeavesIn v v' go.0). left.dirty) lifts)
      go.1

  one_last : LiftsOne v v' → v'.usage.last ≡ v.usage.last
  one_last go = ⊎_elim
      (λ (same : v' ≡ v). ap (λ (w : LogMemory). w.usage.last) same)
      (λ (lifts : MapLifts v v' go.0 ⊎ UsageLeavesIn v v' go.0). ⊎_elim
      (λ (mapped : MapLifts v v' go.0). map_last go.0 mapped)
      (λ (left : UsageLeavesIn v v' go.0). left.usage.puts.last ∙ left.usage.lifts.last) lifts)
      go.1

  -- no block of the tables gets an address
  table_stays : LiftsOne v v' → (x : Entry) → 2 ≤ (tables_of v').at x → (tables_of v).at x ≡ (tables_of v').at x
  table_stays go x up = ⊎_elim
      (λ (same : v' ≡ v). ap (λ (w : LogMemory). (tables_of w).at x) (sym same))
      (λ (lifts : MapLifts v v' go.0 ⊎ UsageLeavesIn v v' go.0). ⊎_elim
      (λ (mapped : MapLifts v v' go.0). map_stays go.0 mapped x up)
      (λ (left : UsageLeavesIn v v' go.0). usage_stays go.0 left x up) lifts)
      go.1
    where
      usage_still : (j : ℕ) → MapLifts v v' j → (i : ℕ) → address_of v'.usage i ≡ address_of v.usage i
      usage_still j lifts i = ⊎_elim
          (λ (none : block_in v.map j < 1). ap (λ (t : UsageTable). address_of t i) (lifts.added (omega (arith, none))))
          (λ (some : 1 ≤ block_in v.map j). ⊎_elim
          (λ (one : block_in v.map j < 2). ap (λ (w : LogMemory). address_of w.usage i) (lifts.same (omega (arith, some, one))))
          (λ (high : 2 ≤ block_in v.map j). let go = lifts.lifted high in go.blocks.address i)
          (cases_lt (block_in v.map j) 2))
          (cases_lt (block_in v.map j) 1)

      map_stays : (j : ℕ) → MapLifts v v' j → (x : Entry) → 2 ≤ (tables_of v').at x → (tables_of v).at x ≡ (tables_of v').at x
      map_stays j lifts (Data n i) up = refl
      map_stays j lifts (Leaf n q) up = refl
      map_stays j lifts (Double n) up = refl
      map_stays j lifts (Inode n) up = ap (λ (list : List ℕ). get_or list n 0) (sym lifts.addresses)
      map_stays j lifts (Map i) up = ⊎_elim
          (λ (here : i ≡ j). let own = lifts.blocks.own in let there = ap (block_in v'.map) here in absurd (omega (arith, up, own, there)))
          (λ (ne : i ≡ j → ⊥). sym (lifts.blocks.others i ne)) (cases_eq i j)
      map_stays j lifts (Usage i) up = sym (usage_still j lifts i)

      usage_stays : (j : ℕ) → UsageLeavesIn v v' j → (x : Entry) → 2 ≤ (tables_of v').at x → (tables_of v).at x ≡ (tables_of v').at x
      usage_stays j left (Data n i) up = refl
      usage_stays j left (Leaf n q) up = refl
      usage_stays j left (Double n) up = refl
      usage_stays j left (Inode n) up = ap (λ (m : MapValue). address_in m n) (sym left.map)
      usage_stays j left (Map i) up = ap (λ (m : MapValue). block_in m i) (sym left.map)
      usage_stays j left (Usage i) up = ⊎_elim
          (λ (here : i ≡ j).
          let own = left.usage.puts.address.own in let there = ap (address_of v'.usage) here in absurd (omega (arith, up, own, there)))
          (λ (ne : i ≡ j → ⊥). sym (left.usage.puts.address.others i ne ∙ left.usage.lifts.blocks.address i)) (cases_eq i j)

  found_stays : LiftsOne v v' → (keys : List BlockKey) (x : Entry) (address : ℕ) → 2 ≤ address → IsFound keys v x address
      → IsFound keys v' x address
  found_stays go keys x address high is = ⊎_elim
      (λ listed. inl listed)
      (λ away. inr (away.0, λ at. away.1 (table_stays go x (omega (arith, at, high)) ∙ at))) is

pub ends_usage : {T E : Type 0} (r : Result T E) {v v' : LogMemory} (j : ℕ) → OnOk r ((v' ≡ v) ⊎ UsageLeavesIn v v' j) → OnErr r (v' ≡ v)
    → LiftsOne v v'
ends_usage (Ok x) j done kept = (j, ⊎_elim (λ same. inl same) (λ left. inr (inr left)) done)
ends_usage (Err e) j done kept = (j, inl kept)

-- in so many steps
pub lifts_more : (n : ℕ) (v w v' : LogMemory) → LiftsTables n v w → LiftsOne w v' → LiftsTables (n + 1) v v'
lifts_more n v w v' lifts one = let next : suc n ≡ n + 1 = omega arith in subst (λ k. LiftsTables k v v') next (w, lifts, one)

pub lifts_relocates : (n : ℕ) (d : DeviceState) (v v' : LogMemory) → IsLawful d → IsMemory v → LiftsTables n v v' → Relocates d d v v'
lifts_relocates zero d v v' lawful memory same = rw same (relocates_looks v memory (looks_none d))
lifts_relocates (suc n) d v v' lawful memory steps =
    let one = lifts_relocates n d v steps.0 lawful memory steps.1 in
    relocates_then lawful one (one_relocates lawful one.memory steps.2)

pub lifts_dirty : (n : ℕ) (v v' : LogMemory) → LiftsTables n v v' → v'.dirty ≡ v.dirty
lifts_dirty zero v v' same = ap (λ (w : LogMemory). w.dirty) same
lifts_dirty (suc n) v v' steps = one_dirty steps.2 ∙ lifts_dirty n v steps.0 steps.1

pub lifts_last : (n : ℕ) (v v' : LogMemory) → LiftsTables n v v' → v'.usage.last ≡ v.usage.last
lifts_last zero v v' same = ap (λ (w : LogMemory). w.usage.last) same
lifts_last (suc n) v v' steps = one_last steps.2 ∙ lifts_last n v steps.0 steps.1

pub table_lost : (d : DeviceState) {v : LogMemory} → IsTableLost v → FailsFromDevice d d v
table_lost d {v} lost = ⊎_elim
    (λ (mapped : IsMapLost v lost.0). map_lost d mapped)
    (λ (usage : IsUsageLost v lost.0). usage_lost d usage) lost.1

-- ---- the blocks of a chunk
pub names_none : (keys : List BlockKey) (v : LogMemory) (names : List BlockNameValue) (first : ℕ) → NamesFound keys v names first 0
names_none keys v names first i lt = absurd (omega (arith, lt))

pub names_more : {l l' : ListedKeys} {n : ℕ} {v v' : LogMemory} (names : List BlockNameValue) (first place : ℕ) → 2 ≤ first
    → AddsKeys l l' n → LiftsOne v v' → IsFound l'.keys v' (entry.entry_of (get_or names place no_block)) (first + place)
    → NamesFound l.keys v names first place
    → NamesFound l'.keys v' names first (place + 1)
names_more {l} {l'} {v = v} {v' = v'} names first place high adds lifts now was i lt = ⊎_elim
    (λ (before : i < place).
    found_stays lifts l'.keys (entry.entry_of (get_or names i no_block)) (first + i) (omega (arith, high))
    (found_more adds v (was i before)))
    (λ (last : place ≤ i). let same : i ≡ place = omega (arith, lt, last) in rw same now) (cases_lt i place)

-- ---- calls that list, one after the other
pub collects_none : (d : DeviceState) {v : LogMemory} (l : ListedKeys) {most : ℕ} → IsMemory v → Collects d d v v l l most
collects_none d {v} l memory = record {
  relocates = relocates_looks v memory (looks_none d);
  dirty = refl;
  last = refl;
  adds = adds_none l;
}

module _ {a b c : DeviceState} {v v' : LogMemory} {l l' : ListedKeys} {n : ℕ} (lawful : IsLawful a) (one : Collects a b v v' l l' n) where
  pub collects_looked : Looks b c → (most : ℕ) → n ≤ most → Collects a c v v' l l' most
  collects_looked looks most few = record {
    relocates = relocates_then lawful one.relocates (relocates_looks v' one.relocates.memory looks);
    dirty = one.dirty;
    last = one.last;
    adds = adds_then one.adds (adds_none l' {most = 0}) most (omega (arith, few));
  }

  pub collects_then : {v'' : LogMemory} {l'' : ListedKeys} {n' : ℕ} → Collects b c v' v'' l' l'' n' → (most : ℕ) → n + n' ≤ most
      → Collects a c v v'' l l'' most
  collects_then two most few = record {
    relocates = relocates_then lawful one.relocates two.relocates;
    dirty = two.dirty ∙ one.dirty;
    last = two.last ∙ one.last;
    adds = adds_then one.adds two.adds most few;
  }

pub collects_lifts : (n : ℕ) (d : DeviceState) (v v' : LogMemory) {l l' : ListedKeys} {most : ℕ} → IsLawful d → IsMemory v
    → LiftsTables n v v' → AddsKeys l l' most → Collects d d v v' l l' most
collects_lifts n d v v' lawful memory lifts adds = record {
  relocates = lifts_relocates n d v v' lawful memory lifts;
  dirty = lifts_dirty n v v' lifts;
  last = lifts_last n v v' lifts;
  adds = adds;
}

-- ---- a segment
-- Up to a place of it all blocks are listed, and there are whole chunks behind.
abbrev pub ListsTo : DeviceState → DeviceState → LogMemory → LogMemory → ℕ → ℕ → ℕ → List BlockKey → Type 0
ListsTo d d' v v' segment used at keys = (k : CheckpointValue) (m0 m : LogMap) → d'.keeps_model → (is : IsLoose d v k m0 m)
    → Traced d' v' k m0 m is.running.memory (AreListed keys (2 + 64 * segment) (2 + 64 * segment + at))
    × IsRowFrom d.content used segment at

pub lists_start : (d : DeviceState) (v : LogMemory) (segment : ℕ) (keys : List BlockKey) → v.chunk.names ≡ []
    → segment < length v.usage.segments → ListsTo d d v v segment (used_of v.usage segment) 0 keys
lists_start d v segment keys closed low k m0 m keeps is = (
  (is, traces_none is.running.memory, λ y from to. absurd (omega (arith, from, to))),
  row_start d.content (used_of v.usage segment) segment (has_row d v k m is segment closed low),
)

long_there : {d : DeviceState} (v : LogMemory) (segment used : ℕ) → IsLawful d → HoldsVolume d v → segment < length v.usage.segments
    → used ≤ 64 → 2 + 64 * segment + used ≤ length d.content
long_there v segment used lawful room low few = let size = lawful.size in omega (arith, room, low, few, size)

-- ---- a summary is read
module _ {a b c : DeviceState} {v v' : LogMemory} (l : ListedKeys) (segment used at : ℕ) (lawful : IsLawful a) (here : Relocates a b v v')
    (was : ListsTo a b v v' segment used at l.keys) (looks : Looks b c) (size : HoldsVolume a v)
    (low : segment < length v.usage.segments) (few : used ≤ 64) (lt : at < used) where
  long : 2 + 64 * segment + used ≤ length a.content
  long = long_there v segment used lawful size low few

  row_then : (k : CheckpointValue) {m0 : LogMap} (m : LogMap) → c.keeps_model → IsLoose a v k m0 m → IsRowFrom a.content used segment at
  row_then k {m0} m keeps is = (was k m0 m (looks.carries.kept_before keeps) is).1

  pub summary_missing : (c.keeps_model → (b.failures < c.failures) ⊎ (cell_at b.content (2 + 64 * segment + at) ≡ None))
      → FailsFromDevice a c v
  summary_missing unread k m0 m keeps is = ⊎_elim
      (λ (failed : b.failures < c.failures). let before = here.looks.carries.failures in omega (arith, failed, before))
      (λ (missing : cell_at b.content (2 + 64 * segment + at) ≡ None).
      let none : block a.content (2 + 64 * segment + at) ≡ [] =
      ap (λ (e : Content). block e (2 + 64 * segment + at)) (sym here.looks.untouched.content)
      ∙ block_at b.content (2 + 64 * segment + at) (omega arith) ∙ ap bytes_of missing in
      absurd (no_chunk _ used _ at long lt (ap entries_in none ∙ no_entries) (row_then k m keeps is).rest)) (unread keeps)

  module _ {bytes : List ℕ} (read : c.keeps_model → block b.content (2 + 64 * segment + at) ≡ bytes) where
    bytes_there : c.keeps_model → block a.content (2 + 64 * segment + at) ≡ bytes
    bytes_there keeps = ap (λ (e : Content). block e (2 + 64 * segment + at)) (sym here.looks.untouched.content) ∙ read keeps

    pub no_summary : None ≡ summary_in bytes → FailsFromDevice a c v
    no_summary none k m0 m keeps is =
        absurd (no_chunk _ used _ at long lt (ap entries_in (bytes_there keeps) ∙ entries_none _ none) (row_then k m keeps is).rest)

    module _ {names : List BlockNameValue} (exact : Some names ≡ summary_in bytes) where
      pub too_long : {count : ℕ} → count ≡ length names → used ≤ at + count → FailsFromDevice a c v
      too_long {count} is_count high k m0 m keeps is =
          absurd (cut_chunk a.content used segment at long lt count (rw (bytes_there keeps)
          (names_of bytes exact is_count)) high (row_then k m keeps is).rest)

      -- and the blocks that it names are listed
      pub lists_more : v.chunk.names ≡ [] → used ≡ used_of v.usage segment → at + length names < used
          → {w : LogMemory} {l' : ListedKeys} {n : ℕ} → Relocates c c v' w → AddsKeys l l' n → (first next : ℕ)
          → first ≡ 2 + 64 * segment + at + 1 → next ≡ at + 1 + length names → NamesFound l'.keys w names first (length names)
          → ListsTo a c v w segment used next l'.keys
      lists_more closed is_used room {w} {l'} one adds first next is_first is_next found k m0 m keeps is =
          let before = was k m0 m (looks.carries.kept_before keeps) is in
          let so_far = before.0 in
          let row = before.1 in
          let still = still_traced b k m looks so_far.0 in
          let now = one.gathers.traces k m0 m keeps still.0 in
          let between = traces_then so_far.0.running.memory still.0.running.memory now.0.running.memory still.1 now.1 in
          let all = traces_then is.running.memory so_far.0.running.memory now.0.running.memory so_far.1 between in
          let there = bytes_there keeps in (
            (
              now.0,
              all,
              λ y from to.
                  let up : 2 ≤ now.0.running.memory.at y = omega (arith, from) in
                  let same = all y up in
                  let place : place_in (row_by a.content used segment) (now.0.running.memory.at y - (2 + 64 * segment)) ≡ Some y =
                  rw (is_used, ← same) (stands_named a v k m is segment closed low y (omega (arith, same, from))
                  (omega (arith, same, to, is_next, room, few))) in
                  ⊎_elim
                  (λ (earlier : now.0.running.memory.at y < 2 + 64 * segment + at).
                  let was_there = between y up in
                  listed_more adds (so_far.2 y (omega (arith, was_there, from)) (omega (arith, was_there, earlier))))
                  (λ (later : 2 + 64 * segment + at ≤ now.0.running.memory.at y). ⊎_elim
                  (λ (summary : now.0.running.memory.at y ≡ 2 + 64 * segment + at).
                  let o : now.0.running.memory.at y - (2 + 64 * segment) ≡ at = omega (arith, summary) in
                  let bad : Some y ≡ None = sym place ∙ ap (place_in (row_by a.content used segment)) o ∙ summary_place long lt row in
                  absurd (cc))
                  (λ (other : now.0.running.memory.at y ≡ 2 + 64 * segment + at → ⊥).
                  let small : now.0.running.memory.at y - first < length names = omega (arith, later, other, to, is_first, is_next) in
                  let o : now.0.running.memory.at y - (2 + 64 * segment) ≡ at + 1 + (now.0.running.memory.at y - first) =
                  omega (arith, later, other, is_first) in
                  let label : Some y ≡ Some (entry.entry_of (get_or names (now.0.running.memory.at y - first) no_block)) =
                  sym place ∙ ap (place_in (row_by a.content used segment)) o ∙ label_is long lt row there
                  exact room (now.0.running.memory.at y - first) small in
                  let own : entry.entry_of (get_or names (now.0.running.memory.at y - first) no_block) ≡ y = cc in
                  let whole : now.0.running.memory.at y ≡ first + (now.0.running.memory.at y - first) =
                  omega (arith, later, other, is_first) in
                  ⊎_elim
                  (λ listed. subst (IsListed l'.keys) own listed)
                  (λ away. absurd (away.1 (sym (now.0.running.tables.at _ away.0) ∙ ap now.0.running.memory.at own ∙ whole)))
                  (found (now.0.running.memory.at y - first) small))
                  (cases_eq (now.0.running.memory.at y) (2 + 64 * segment + at)))
                  (cases_lt (now.0.running.memory.at y) (2 + 64 * segment + at)),
            ),
            row_next long lt row there exact room next is_next,
          )

-- a block of the tables isn't counted where it stands
pub chunk_lost : {a c : DeviceState} {v w : LogMemory} → Relocates a c v w → IsTableLost w → FailsFromDevice a c v
chunk_lost {a} {c} {v} one lost = relocated_excused a c c v one (looks_none c) (table_lost c lost)

-- ---- the whole of it
pub all_listed : (a b : DeviceState) (v v' : LogMemory) (segment : ℕ) {used : ℕ} (keys : List BlockKey) → v.chunk.names ≡ []
    → segment < length v.usage.segments → used ≡ used_of v.usage segment → IsLawful a → HoldsVolume a v → used ≤ 64
    → ListsTo a b v v' segment used used keys
    → ListsBetween a b v v' (segment_start segment) (segment_start (segment + 1)) keys
all_listed a b v v' segment {used} keys closed low is_used lawful size few was k m0 m keeps is =
    let long = long_there v segment used lawful size low few in
    let here = was k m0 m keeps is in
    let now = here.0 in (
      now.0,
      now.1,
      λ y from to. ⊎_elim
          (λ (inside : now.0.running.memory.at y < 2 + 64 * segment + used). now.2 y from inside)
          (λ (past : 2 + 64 * segment + used ≤ now.0.running.memory.at y).
          let same = now.1 y (omega (arith, from)) in
          let place : place_in (row_by a.content used segment) (now.0.running.memory.at y - (2 + 64 * segment)) ≡ Some y =
          rw (is_used, ← same) (stands_named a v k m is segment closed low y (omega (arith, same, from)) (omega (arith, same, to))) in
          let bad : Some y ≡ None = sym place
          ∙ row_end used long here.1 (now.0.running.memory.at y - (2 + 64 * segment)) (omega (arith, past)) in
          absurd (cc))
          (cases_lt (now.0.running.memory.at y) (2 + 64 * segment + used)),
    )

-- ---- one segment after the other
pub each_none : (d : DeviceState) (v : LogMemory) (segments : List ℕ) (keys : List BlockKey) → ListsEach d d v v segments 0 keys
each_none d v segments keys k m0 m keeps is = (is, traces_none is.running.memory, λ i lt y from to. absurd (omega (arith, lt)))

pub each_more : (a b c : DeviceState) (v v' v'' : LogMemory) {l l' : ListedKeys} {n : ℕ} (segments : List ℕ) (at segment : ℕ)
    → segment ≡ get_or segments at 0 → (c.keeps_model → b.keeps_model) → AddsKeys l l' n
    → ListsBetween b c v' v'' (segment_start segment) (segment_start (segment + 1)) l'.keys → ListsEach a b v v' segments at l.keys
    → ListsEach a c v v'' segments (at + 1) l'.keys
each_more a b c v v' v'' segments at segment is_segment back adds one was k m0 m keeps is =
    let so_far = was k m0 m (back keeps) is in
    let now = one k m0 m keeps so_far.0 in (
      now.0,
      traces_then is.running.memory so_far.0.running.memory now.0.running.memory so_far.1 now.1,
      λ i lt y from to. ⊎_elim
          (λ (before : i < at).
          let same = now.1 y (omega (arith, from)) in
          listed_more adds (so_far.2 i before y (omega (arith, same, from)) (omega (arith, same, to))))
          (λ (last : at ≤ i).
          let here : get_or segments i 0 ≡ segment = ap (λ (j : ℕ). get_or segments j 0) (omega (arith, lt, last)) ∙ sym is_segment in
          now.2 y (omega (arith, here, from)) (omega (arith, here, to)))
          (cases_lt i at),
    )

pub lists_all : (a b : DeviceState) (v v' : LogMemory) (segments : List ℕ) (keys : List BlockKey)
    → ListsEach a b v v' segments (length segments) keys → ListsAll a b v v' segments keys
lists_all a b v v' segments keys each k m0 m keeps is =
    let all = each k m0 m keeps is in (
      all.0,
      all.1,
      λ y up among. at_one (λ (s : ℕ). s ≡ (all.0.running.memory.at y - 2) / 64 → IsListed keys y) segments _
          (λ i lt here. all.2 i lt y (omega (arith, here, up)) (omega (arith, here, up))) among refl,
    )
