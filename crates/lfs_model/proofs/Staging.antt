-- Blocks come into memory before they change.
use Rattle.std.proofs.Common.{◌≡◌, ◌<◌, ◌≤◌, ⊎_elim, ◌+◌, ◌*◌, ◌/◌, true, ℕ, List, map, length, Option, Some, refl, sym, ◌∙◌, ap}
use Rattle.std.proofs.Common.{subst, arith}
use Rattle.std.specs.Prelude.{option_map}
use Rattle.lfs_model.specs.Entry.{Entry, Inode, Map, Usage, word}
use Rattle.lfs_model.specs.Checkpoint.{CheckpointValue}
use Rattle.lfs_model.specs.Content.{block}
use Rattle.lfs_model.specs.Counting.{segment_of}
use Rattle.lfs_model.specs.Device.{DeviceState}
use Rattle.lfs_model.specs.Lifting.{IsTaken, IsLifting}
use Rattle.lfs_model.specs.Memory.{Memory, parent, pointer, patched, IsOfFile, IsPointers, HasPointer, is_shown, is_held}
use Rattle.lfs_model.specs.Running.{Dirty, IsTight, Tables, IsCached, SpellsUsage, Running, IsLifted}
use Rattle.lfs_model.specs.Staging.{IsAtAddress, Fetches, Fetching, FetchingTo, FetchingTight, MapFetching, MapFetchingTo}
use Rattle.lfs_model.specs.Staging.{MapAdding, MapAddingTo}
use Rattle.lfs_model.specs.Stands.{LogMap}
use Rattle.lfs_model.proofs.Counting.{unplaced_counts}
use Rattle.lfs_model.proofs.Entries.{same_entry, file_of_parent, pointer_low}
use Rattle.lfs_model.proofs.Filled.{pointer_patched}
use Rattle.lfs_model.proofs.Leaving.{left_memory, left_taken, left_cached, still_open}
use Rattle.lfs_model.proofs.Lifting.{lifting}
use Rattle.lfs_model.proofs.Outgoing.{map_lifting}
use Rattle.lfs_model.proofs.Reading.{reading}
use Rattle.lfs_model.proofs.Running.{pick, pick_yes, pick_no, taken_memory, is_taken, addressed, lifted_tables, lifted_fresh, usage_kept}
use Rattle.lfs_model.proofs.Running.{part_same, whole_same, kept_same, open_same}
use Rattle.lfs_model.proofs.Tables.{map_table, usage_table}

module _ (d : DeviceState) (dirty dirty' : Dirty) (t t' : Tables) (k : CheckpointValue) (m0 m : LogMap) (seg : ℕ)
    (chunk : Option (List Entry)) (x : Entry) (address : ℕ) (bytes : List ℕ)
    (w : Running d dirty t k m0 m seg chunk) (file : IsOfFile x) (at : IsAtAddress dirty t x address) (above : 2 ≤ address)
    (is : block d.content address ≡ bytes)
    (map : (n : ℕ) → x ≡ Inode n → is_shown m x ≡ true → t.at (Map (n / 128)) ≡ 1) (fetch : Fetches dirty dirty' x bytes)
    (go : IsLifted m t t' x 1 (segment_of address)) where
  address_is : w.memory.at x ≡ address
  address_is = ⊎_elim
      (λ (top : parent x ≡ x). w.tables.at x top ∙ at.top top)
      (λ (ne : parent x ≡ x → ⊥).
      let p = at.pointed ne in
      let c = w.cached.cached (parent x) p.0 p.1 in
      let one = c.1 in
      sym ((reading d.content m w.memory seg w.laid).pointer x ne at.low (omega arith)) ∙ ap (λ (b : List ℕ). word b (pointer x)) c.2 ∙ p.2)
      (same_entry (parent x) x)

  placed : 2 ≤ w.memory.at x
  placed = let s = address_is in omega arith

  bytes_next : Entry → List ℕ
  bytes_next y = pick (same_entry y x) (w.memory.bytes x)
      (pick (same_entry y (parent x)) (patched (pointer x) 1 (w.memory.bytes y)) (w.memory.bytes y))

  next : Memory
  next = taken_memory w.memory x 1 bytes_next

  own : bytes_next x ≡ w.memory.bytes x
  unfolding bytes_next
  own = pick_yes (same_entry x x) (w.memory.bytes x) _ refl

  kept : (y : Entry) → (y ≡ x → ⊥) → (y ≡ parent x → ⊥) → bytes_next y ≡ w.memory.bytes y
  unfolding bytes_next
  kept y ne np = pick_no (same_entry y x) (w.memory.bytes x) _ ne ∙ pick_no (same_entry y (parent x)) _ (w.memory.bytes y) np

  of_parent : (parent x ≡ x → ⊥) → bytes_next (parent x) ≡ patched (pointer x) 1 (w.memory.bytes (parent x))
  unfolding bytes_next
  of_parent ne = pick_no (same_entry (parent x) x) (w.memory.bytes x) _ ne
      ∙ pick_yes (same_entry (parent x) (parent x)) _ (w.memory.bytes (parent x)) refl

  taken_now : IsTaken w.memory x 1 next
  unfolding next
  taken_now = is_taken w.memory x 1 bytes_next (omega arith)

  lifting_now : IsLifting m w.memory x next
  unfolding next taken_memory
  lifting_now = record {
    taken = taken_now;
    was = placed;
    of_file = file;
    above = λ ne. (w.cached.cached (parent x) (at.pointed ne).0 (at.pointed ne).1).1;
    map = λ n h on. w.tables.at (Map (n / 128)) refl ∙ map n h on;
    own = own;
    patched = of_parent;
    kept = kept;
  }

  own_bytes : w.memory.bytes x ≡ bytes
  own_bytes = sym (w.laid.there x placed) ∙ ap (block d.content) address_is ∙ is

  parent_file : IsOfFile (parent x)
  parent_file = (file.0, file_of_parent x ∙ file.1)

  cached_now : IsCached dirty' next
  unfolding next taken_memory
  cached_now = record {
    cached = λ y b held. ⊎_elim
        (λ (here : y ≡ x).
        let e : Some b ≡ Some bytes = sym held ∙ ap dirty' here ∙ fetch.own in
        let same : b ≡ bytes = cc in
        (subst IsOfFile (sym here) file, ap next.at here ∙ taken_now.at, ap bytes_next here ∙ own ∙ own_bytes ∙ sym same))
        (λ (ne : y ≡ x → ⊥). ⊎_elim
        (λ (up : y ≡ parent x).
        let np : parent x ≡ x → ⊥ = λ h. ne (up ∙ h) in
        let p = at.pointed np in
        let c = w.cached.cached (parent x) p.0 p.1 in
        let e : Some b ≡ Some (patched (pointer x) 1 p.0) = sym held ∙ ap dirty' up ∙ fetch.patched np
        ∙ ap (option_map (patched (pointer x) 1)) p.1 in
        let same : b ≡ patched (pointer x) 1 p.0 = cc in (
          subst IsOfFile (sym up) parent_file,
          taken_now.others y ne ∙ ap w.memory.at up ∙ c.1,
          ap bytes_next up ∙ of_parent np
              ∙ ap (patched (pointer x) 1) c.2 ∙ sym same,
        ))
        (λ (np : y ≡ parent x → ⊥).
        let c = w.cached.cached y b (sym (fetch.kept y ne np) ∙ held) in
        (c.0, taken_now.others y ne ∙ c.1, kept y ne np ∙ c.2))
        (same_entry y (parent x)))
        (same_entry y x);
    found = λ y f one. ⊎_elim
        (λ (here : y ≡ x). (bytes, ap dirty' here ∙ fetch.own))
        (λ (ne : y ≡ x → ⊥).
        let was = w.cached.found y f (sym (taken_now.others y ne) ∙ one) in
        ⊎_elim
        (λ (up : y ≡ parent x).
        let np : parent x ≡ x → ⊥ = λ h. ne (up ∙ h) in (
          patched (pointer x) 1 was.0,
          ap dirty' up ∙ fetch.patched np
              ∙ ap (option_map (patched (pointer x) 1)) (ap dirty (sym up) ∙ was.1),
        ))
        (λ (np : y ≡ parent x → ⊥). (was.0, fetch.kept y ne np ∙ was.1))
        (same_entry y (parent x)))
        (same_entry y x);
  }

  usage_same : (j : ℕ) → bytes_next (Usage j) ≡ w.memory.bytes (Usage j)
  usage_same j = kept (Usage j) (λ h. usage_table j (subst IsOfFile (sym h) file)) (λ h. usage_table j (subst IsOfFile (sym h) parent_file))

  fetched : Running d dirty' t' k m0 m seg chunk
  unfolding next taken_memory
  fetched = record {
    memory = next;
    laid = lifting d.content m w.memory seg x next w.laid lifting_now;
    segments = w.segments;
    settled = w.settled;
    cached = cached_now;
    tables = lifted_tables d.content m w.memory seg x 1 next t t' w.laid placed taken_now w.tables
        (subst (λ (a : ℕ). IsLifted m t t' x 1 (segment_of a)) (sym address_is) go);
    fresh = λ j off low. let no = lifted_fresh m t t' x 1 go j off in
        subst (SpellsUsage t' j) (sym (usage_same j)) (no.1 (w.memory.bytes (Usage j)) (w.fresh j no.0 low));
    part = part_same t t' go.used go.kept w.part;
    whole = whole_same k t t' seg go.used w.whole;
    kept = kept_same d.content k t t' go.kept w.kept;
    opened = open_same d.content w.memory next t t' seg chunk refl refl go.kept w.opened;
  }

  -- only x comes into memory: what has an address after it had that before
  fetched_traces : (y : Entry) → 2 ≤ fetched.memory.at y → w.memory.at y ≡ fetched.memory.at y
  unfolding fetched
  fetched_traces y above = ⊎_elim
      (λ (here : y ≡ x). let one = ap next.at here ∙ taken_now.at in absurd (omega (arith, above, one)))
      (λ (ne : y ≡ x → ⊥). sym (taken_now.others y ne))
      (same_entry y x)

  fetched_at : (2 ≤ w.memory.at x) × (fetched.memory.at x ≡ 1) × ((y : Entry) → (y ≡ x → ⊥) → fetched.memory.at y ≡ w.memory.at y)
  unfolding fetched
  fetched_at = (placed, taken_now.at, taken_now.others)

  -- x has a pointer if it is a block of pointers, and so has the one above it, which points to x
  fetched_tight : IsTight dirty → IsTight dirty'
  fetched_tight tight y b held is = ⊎_elim
      (λ (here : y ≡ x).
      let e : Some b ≡ Some bytes = sym held ∙ ap dirty' here ∙ fetch.own in
      let same : b ≡ bytes = cc in
      subst HasPointer (own_bytes ∙ sym same) (w.laid.some x (subst IsPointers here is) placed))
      (λ (ne : y ≡ x → ⊥). ⊎_elim
      (λ (up : y ≡ parent x). over (λ h. ne (up ∙ h)) b (ap dirty' (sym up) ∙ held))
      (λ (np : y ≡ parent x → ⊥). tight y b (sym (fetch.kept y ne np) ∙ held) is)
      (same_entry y (parent x)))
      (same_entry y x)
    where
      over : (parent x ≡ x → ⊥) → (b : List ℕ) → dirty' (parent x) ≡ Some b → HasPointer b
      over ne b held =
          let p = at.pointed ne in
          let c = w.cached.cached (parent x) p.0 p.1 in
          let long : length p.0 ≡ 512 = ap length (sym c.2) ∙ w.laid.long (parent x) c.0 (let one = c.1 in omega arith) in
          let small : pointer x < 128 =
          pointer_low x (λ n i h. w.laid.low n i (let e = ap w.memory.at h in let a = placed in omega arith)) in
          let e : Some b ≡ Some (patched (pointer x) 1 p.0) = sym held ∙ fetch.patched ne ∙ ap (option_map (patched (pointer x) 1)) p.1 in
          let same : b ≡ patched (pointer x) 1 p.0 = cc in
          subst HasPointer (sym same) (pointer_patched (pointer x) 1 p.0 long small (omega arith) (omega arith))

pub fetching : Fetching
fetching d dirty dirty' t t' k m0 m seg chunk x address bytes w file at above is map fetch go =
    fetched d dirty dirty' t t' k m0 m seg chunk x address bytes w file at above is map fetch go

pub fetching_to : FetchingTo
fetching_to d dirty dirty' t t' k m0 m seg chunk x address bytes w file at above is map fetch go = (
  fetched d dirty dirty' t t' k m0 m seg chunk x address bytes w file at above is map fetch go,
  fetched_at d dirty dirty' t t' k m0 m seg chunk x address bytes w file at above is map fetch go,
)

pub fetching_tight : FetchingTight
fetching_tight d dirty dirty' t t' k m0 m seg chunk x address bytes w file at above is map fetch go =
    fetched_tight d dirty dirty' t t' k m0 m seg chunk x address bytes w file at above is map fetch go

-- A block that comes into memory leaves every other address as it was, and gives no new one.
pub fetching_traces : (d : DeviceState) (dirty dirty' : Dirty) (t t' : Tables) (k : CheckpointValue) (m0 m : LogMap) (seg : ℕ)
    (chunk : Option (List Entry)) (x : Entry) (address : ℕ) (bytes : List ℕ)
    → (w : Running d dirty t k m0 m seg chunk) → IsOfFile x → IsAtAddress dirty t x address → 2 ≤ address → block d.content address ≡ bytes
    → ((n : ℕ) → x ≡ Inode n → is_shown m x ≡ true → t.at (Map (n / 128)) ≡ 1)
    → Fetches dirty dirty' x bytes → IsLifted m t t' x 1 (segment_of address)
    → (w' : Running d dirty' t' k m0 m seg chunk) × ((y : Entry) → 2 ≤ w'.memory.at y → w.memory.at y ≡ w'.memory.at y)
fetching_traces d dirty dirty' t t' k m0 m seg chunk x address bytes w file at above is map fetch go = (
  fetched d dirty dirty' t t' k m0 m seg chunk x address bytes w file at above is map fetch go,
  fetched_traces d dirty dirty' t t' k m0 m seg chunk x address bytes w file at above is map fetch go,
)

-- ---- inode map blocks
pub map_fetching : MapFetching
unfolding left_memory taken_memory
map_fetching d dirty t t' k m0 m seg chunk j w above go =
    let p = left_taken d t' k m w (Map j) (map_table j) 1 (omega arith) in
    let same : w.memory.at (Map j) ≡ t.at (Map j) = w.tables.at (Map j) refl in
    let was : 2 ≤ w.memory.at (Map j) = omega arith in
    record {
      memory = left_memory d t' k m w (Map j) (map_table j) 1 (omega arith);
      laid = map_lifting d.content m w.memory seg j (left_memory d t' k m w (Map j) (map_table j) 1 (omega arith))
          w.laid (record { taken = p; bytes = refl });
      segments = w.segments;
      settled = w.settled;
      cached = left_cached d t' k m w (Map j) (map_table j) 1 (omega arith);
      tables = lifted_tables d.content m w.memory seg (Map j) 1
          (left_memory d t' k m w (Map j) (map_table j) 1 (omega arith)) t t' w.laid was p w.tables
          (subst (λ (a : ℕ). IsLifted m t t' (Map j) 1 (segment_of a)) (sym same) go);
      fresh = λ i off low. let no = lifted_fresh m t t' (Map j) 1 go i off in
          no.1 (w.memory.bytes (Usage i)) (w.fresh i no.0 low);
      part = part_same t t' go.used go.kept w.part;
      whole = whole_same k t t' seg go.used w.whole;
      kept = kept_same d.content k t t' go.kept w.kept;
      opened = still_open d t' k m w (Map j) (map_table j) 1 (omega arith) chunk w.opened go.kept;
    }

pub map_adding : MapAdding
unfolding left_memory taken_memory
map_adding d dirty t t' k m0 m seg chunk j w none go =
    let p = left_taken d t' k m w (Map j) (map_table j) 1 (omega arith) in
    let was : w.memory.at (Map j) ≡ 0 = w.tables.at (Map j) refl ∙ none in
    let counts = unplaced_counts d.content m w.memory seg (Map j) 1
    (left_memory d t' k m w (Map j) (map_table j) 1 (omega arith)) w.laid (omega (arith, was)) p in
    record {
      memory = left_memory d t' k m w (Map j) (map_table j) 1 (omega arith);
      laid = map_lifting d.content m w.memory seg j (left_memory d t' k m w (Map j) (map_table j) 1 (omega arith))
          w.laid (record { taken = p; bytes = refl });
      segments = w.segments;
      settled = w.settled;
      cached = left_cached d t' k m w (Map j) (map_table j) 1 (omega arith);
      tables = record {
        at = addressed t t' (Map j) 1 w.memory (left_memory d t' k m w (Map j) (map_table j) 1 (omega arith)) go.at
            p.at p.others w.tables.at;
        used = λ s. go.used s ∙ w.tables.used s;
        live = λ s. go.live s ∙ w.tables.live s ∙ sym (counts (is_shown m) s);
        held = λ s. go.held s ∙ w.tables.held s ∙ sym (counts (is_held m) s);
      };
      fresh = λ i off low. usage_kept t t' i (w.memory.bytes (Usage i))
          (λ q lt. (go.used (64 * i + q), go.live (64 * i + q), go.age (64 * i + q))) (w.fresh i (sym (go.stale i) ∙ off) low);
      part = part_same t t' go.used go.kept w.part;
      whole = whole_same k t t' seg go.used w.whole;
      kept = kept_same d.content k t t' go.kept w.kept;
      opened = still_open d t' k m w (Map j) (map_table j) 1 (omega arith) chunk w.opened go.kept;
    }

pub map_fetching_to : MapFetchingTo
unfolding map_fetching left_memory
map_fetching_to d dirty t t' k m0 m seg chunk j w above go =
    let p = left_taken d t' k m w (Map j) (map_table j) 1 (omega arith) in
    (map_fetching d dirty t t' k m0 m seg chunk j w above go, (p.at, p.others))

pub map_adding_to : MapAddingTo
unfolding map_adding left_memory
map_adding_to d dirty t t' k m0 m seg chunk j w none go =
    let p = left_taken d t' k m w (Map j) (map_table j) 1 (omega arith) in
    (map_adding d dirty t t' k m0 m seg chunk j w none go, (p.at, p.others))
