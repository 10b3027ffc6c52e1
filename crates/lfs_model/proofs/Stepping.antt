-- A commit's blocks go out, one by one.
use Rattle.std.proofs.Common.{◌≡◌, ◌<◌, ◌≤◌, ⊎_elim, ◌+◌, ◌*◌, ◌/◌, cond, true, false, ℕ, suc, List, [], ◌∷◌, ◌++◌, length, Some, None}
use Rattle.std.proofs.Common.{refl, sym, ◌∙◌, ap, ap₂, subst, arith, length-set, get_or-set_other}
use Rattle.std.proofs.lemmas.Bool.{cases_eq}
use Rattle.std.specs.Prelude.{option_map}
use Rattle.lfs_model.specs.Entry.{Entry, Inode, Map, Usage}
use Rattle.lfs_model.specs.Checkpoint.{CheckpointValue}
use Rattle.lfs_model.specs.Content.{Content, block}
use Rattle.lfs_model.specs.Crash.{IsFreeSector}
use Rattle.lfs_model.specs.Device.{DeviceState, put, left_new}
use Rattle.lfs_model.specs.Reach.{Row, row_by, view}
use Rattle.lfs_model.specs.Stands.{LogMap, used_in}
use Rattle.lfs_model.specs.Memory.{Memory, parent, pointer, patched, file_of, IsOfFile, IsPointers, HasPointer, shown, is_shown}
use Rattle.lfs_model.specs.Laid.{IsLaid}
use Rattle.lfs_model.specs.Placing.{IsMoved, next_place, IsPlacing, IsMapPlacing, IsSettling}
use Rattle.lfs_model.specs.Settled.{IsSettled, IsFreeFrom}
use Rattle.lfs_model.specs.Running.{Dirty, Tables, IsTables, IsCached, SpellsUsage, IsOpenAt, Running, IsLowest, Moves, IsNoted}
use Rattle.lfs_model.specs.Committing.{place_of, IsWritten, Stepping, SteppingTo, SteppingTight, SpellsMap, MapStepping, UsageSettling}
use Rattle.lfs_model.proofs.Entries.{same_entry, file_of_parent, pointer_low}
use Rattle.lfs_model.proofs.Filled.{pointer_patched}
use Rattle.lfs_model.proofs.Placing.{placing}
use Rattle.lfs_model.proofs.Outgoing.{map_placing, settling}
use Rattle.lfs_model.proofs.Tables.{map_table, usage_table, row_kept}
use Rattle.lfs_model.proofs.UnitWrites.{to_unit}
use Rattle.lfs_model.proofs.Settled.{settled_write}
use Rattle.lfs_model.proofs.Running.{pick, pick_yes, pick_no, row_end, row_length, moved_memory, is_moved, noted_tables, noted_fresh}
use Rattle.lfs_model.proofs.Running.{whole_beside}

-- ---- what the three kinds of blocks share
module _ (d : DeviceState) (dirty : Dirty) (t t' : Tables) (k : CheckpointValue) (m0 m : LogMap) (seg : ℕ) (es : List Entry) (x : Entry)
    (w : Running d dirty t k m0 m seg (Some es)) (room : t.used seg < 64) (noted : IsNoted m t t' x (place_of t seg) seg) where
  long_row : length (w.memory.rows seg) ≡ length w.opened.before + suc (length es)
  long_row = row_length (w.memory.rows seg) w.opened.before es w.opened.row

  at_end : next_place w.memory seg ≡ place_of t seg
  at_end = ap (λ (n : ℕ). 2 + 64 * seg + n) (sym (w.tables.used seg))

  free : IsFreeSector d.content k (place_of t seg)
  free = record {
    segment = seg;
    place = t.used seg;
    is = refl;
    within = room;
    below = low;
    unused = let u = w.kept seg low in let p = w.part seg in omega arith;
  }
    where
      low : seg < k.segments
      low = subst (λ (n : ℕ). seg < n) w.segments w.opened.inside

  settled_now : (d' : DeviceState) (bytes : List ℕ) → IsWritten d d' (place_of t seg) bytes
      → IsSettled d' k m0 × ((s : ℕ) → used_in (view d'.content k) s ≡ used_in (view d.content k) s)
  settled_now d' bytes is = settled_write d d' k m0 (place_of t seg) bytes w.settled free
      (to_unit d.unit _ bytes d.content d'.content (left_new is.content)) is.crash is.unit

  part_now : (s : ℕ) → t'.kept s ≤ t'.used s
  part_now s =
      let k = noted.kept s in
      let p = w.part s in
      ⊎_elim
      (λ (here : s ≡ seg). let u = noted.used.own in let v = ap t'.used here in let o = ap t.used here in omega arith)
      (λ (away : s ≡ seg → ⊥). let u = noted.used.others s away in omega arith)
      (cases_eq s seg)

  kept_now : (d' : DeviceState) → ((s : ℕ) → used_in (view d'.content k) s ≡ used_in (view d.content k) s) → (s : ℕ) → s < k.segments
      → IsFreeFrom d'.content k s (t'.kept s)
  kept_now d' same s low = let a = same s in let b = w.kept s low in let c = noted.kept s in omega arith

  moved_now : (bytes : Entry → List ℕ) → w.memory.at x ≡ 1
      → IsMoved w.memory seg x (moved_memory w.memory x (next_place w.memory seg) bytes seg)
  moved_now bytes was =
      is_moved w.memory x bytes seg was (omega (arith, long_row)) (let u = w.tables.used seg in omega arith) w.opened.inside

  tables_now : (M' : Memory) → IsMoved w.memory seg x M' → IsTables t' m M'
  tables_now M' p =
      noted_tables d.content m w.memory seg x M' t t' w.laid p w.tables (subst (λ (a : ℕ). IsNoted m t t' x a seg) (sym at_end) noted)

  -- the chunks before it stay sealed
  sealed_now : (d' : DeviceState) (bytes : List ℕ) → IsWritten d d' (place_of t seg) bytes
      → row_by d'.content (length w.opened.before) seg ≡ Some w.opened.before
  sealed_now d' bytes is =
      let u = w.tables.used seg in
      let long = long_row in
      let few = w.laid.short seg in
      subst (λ (c : Content). row_by c (length w.opened.before) seg ≡ Some w.opened.before) (sym is.content)
      (row_kept d.content (put d.content (place_of t seg) bytes) seg w.opened.before (omega arith)
      (length-set d.content (place_of t seg) (Some bytes))
      (λ q lt blank. get_or-set_other d.content (place_of t seg) (2 + 64 * seg + q) (Some bytes) None (λ h. omega arith)) w.opened.sealed)

  opened_now : (c : Content) → row_by c (length w.opened.before) seg ≡ Some w.opened.before → (M' : Memory) → IsMoved w.memory seg x M'
      → IsOpenAt c M' t' seg (Some (es ++ x ∷ []))
  opened_now c sealed M' p = record {
    inside = subst (λ (n : ℕ). seg < n) (sym p.segments) w.opened.inside;
    before = w.opened.before;
    row = p.row ∙ ap (λ (r : Row). r ++ Some x ∷ []) w.opened.row ∙ row_end w.opened.before es x;
    sealed = sealed;
    free = let a = noted.kept seg in let b = w.opened.free in omega arith;
  }

  fresh_now : (M' : Memory) → ((j : ℕ) → t'.stale j ≡ false → M'.bytes (Usage j) ≡ w.memory.bytes (Usage j)) → (j : ℕ) → t'.stale j ≡ false
      → j < (k.segments + 63) / 64 → SpellsUsage t' j (M'.bytes (Usage j))
  fresh_now M' same j off low =
      let no = noted_fresh m t t' x (place_of t seg) seg noted j off in
      subst (SpellsUsage t' j) (sym (same j off)) (no.1 (w.memory.bytes (Usage j)) (w.fresh j no.0 low))

  -- the blocks of files stay in memory where x is none
  cached_kept : (M' : Memory) → IsMoved w.memory seg x M' → (IsOfFile x → ⊥) → ((y : Entry) → (y ≡ x → ⊥) → M'.bytes y ≡ w.memory.bytes y)
      → IsCached dirty M'
  cached_kept M' p table kept = record {
    cached = λ y b is. let c = w.cached.cached y b is in let ne = other y c.0 in (c.0, p.others y ne ∙ c.1, kept y ne ∙ c.2);
    found = λ y f one. w.cached.found y f (sym (p.others y (other y f)) ∙ one);
  }
    where
      other : (y : Entry) → IsOfFile y → y ≡ x → ⊥
      other y f h = table (subst IsOfFile h f)

-- ---- a block of a file
module _ (d d' : DeviceState) (dirty dirty' : Dirty) (t t' : Tables) (k : CheckpointValue) (m0 m : LogMap) (seg : ℕ) (es : List Entry)
    (x : Entry) (bytes : List ℕ)
    (w : Running d dirty t k m0 m seg (Some es)) (room : t.used seg < 64) (low : IsLowest dirty x) (there : dirty x ≡ Some bytes)
    (full : IsPointers x → HasPointer bytes)
    (is : IsWritten d d' (place_of t seg) bytes) (moves : Moves dirty dirty' x (place_of t seg))
    (noted : IsNoted m t t' x (place_of t seg) seg) where
  a : ℕ
  a = next_place w.memory seg

  same_place : next_place w.memory seg ≡ place_of t seg
  same_place = at_end d dirty t t' k m0 m seg es x w room noted

  in_memory : IsOfFile x × (w.memory.at x ≡ 1) × (w.memory.bytes x ≡ bytes)
  in_memory = w.cached.cached x bytes there

  bytes_next : Entry → List ℕ
  bytes_next y = pick (same_entry y x) (w.memory.bytes x)
      (pick (same_entry y (parent x)) (patched (pointer x) (next_place w.memory seg) (w.memory.bytes y)) (w.memory.bytes y))

  next : Memory
  next = moved_memory w.memory x (next_place w.memory seg) bytes_next seg

  own : bytes_next x ≡ w.memory.bytes x
  unfolding bytes_next
  own = pick_yes (same_entry x x) (w.memory.bytes x) _ refl

  kept : (y : Entry) → (y ≡ x → ⊥) → (y ≡ parent x → ⊥) → bytes_next y ≡ w.memory.bytes y
  unfolding bytes_next
  kept y ne np = pick_no (same_entry y x) (w.memory.bytes x) _ ne ∙ pick_no (same_entry y (parent x)) _ (w.memory.bytes y) np

  of_parent : (parent x ≡ x → ⊥) → bytes_next (parent x) ≡ patched (pointer x) (next_place w.memory seg) (w.memory.bytes (parent x))
  unfolding bytes_next
  of_parent ne = pick_no (same_entry (parent x) x) (w.memory.bytes x) _ ne
      ∙ pick_yes (same_entry (parent x) (parent x)) _ (w.memory.bytes (parent x)) refl

  is_moved_now : IsMoved w.memory seg x next
  unfolding next
  is_moved_now = moved_now d dirty t t' k m0 m seg es x w room noted bytes_next in_memory.1

  -- what is below x is of its file
  below : (y : Entry) → parent y ≡ x → IsOfFile y
  below y up = let f = in_memory.0 in (f.0, sym (file_of_parent y) ∙ ap file_of up ∙ f.1)

  placing_now : IsPlacing w.memory seg x next
  unfolding next moved_memory
  placing_now = record {
    moved = is_moved_now;
    of_file = in_memory.0;
    lowest = λ y up one. let f = w.cached.found y (below y up) one in low.lowest y f.0 up f.1;
    some = λ p. subst HasPointer (sym in_memory.2) (full p);
    own = own;
    patched = λ ne. of_parent ne ∙ ap (λ (v : ℕ). patched (pointer x) v (w.memory.bytes (parent x))) (sym is_moved_now.at);
    kept = kept;
  }

  laid_now : IsLaid d'.content m next seg
  laid_now =
      let there : d'.content ≡ put d.content (next_place w.memory seg) (w.memory.bytes x) = is.content
      ∙ ap₂ (put d.content) (sym same_place) (sym in_memory.2) in
      subst (λ (c : Content). IsLaid c m next seg) (sym there) (placing d.content m w.memory seg x next w.laid placing_now)

  above : 2 ≤ next.at x
  above = let at = is_moved_now.at in omega arith

  at_other : (y : Entry) → (y ≡ x → ⊥) → next.at y ≡ w.memory.at y
  at_other = is_moved_now.others

  parent_one : w.memory.at (parent x) ≡ 1
  parent_one = w.laid.up x in_memory.1

  parent_file : IsOfFile (parent x)
  parent_file = let f = in_memory.0 in (f.0, file_of_parent x ∙ f.1)

  cached_now : IsCached dirty' next
  unfolding next moved_memory
  cached_now = record {
    cached = λ y b held. ⊎_elim
        (λ (here : y ≡ x). let bad : None ≡ Some b = sym moves.gone ∙ ap dirty' (sym here) ∙ held in absurd (cc))
        (λ (ne : y ≡ x → ⊥). ⊎_elim
        (λ (up : y ≡ parent x).
        let np : parent x ≡ x → ⊥ = λ h. ne (up ∙ h) in
        let c = by_parent np b (ap dirty' (sym up) ∙ held) in
        (subst IsOfFile (sym up) parent_file, at_other y ne ∙ ap w.memory.at up ∙ parent_one, ap bytes_next up ∙ c))
        (λ (np : y ≡ parent x → ⊥).
        let c = w.cached.cached y b (sym (moves.kept y ne np) ∙ held) in
        (c.0, at_other y ne ∙ c.1, kept y ne np ∙ c.2))
        (same_entry y (parent x)))
        (same_entry y x);
    found = λ y f one.
        let ne : y ≡ x → ⊥ = λ h. let e = ap next.at h in omega (arith, above) in
        let was = w.cached.found y f (sym (at_other y ne) ∙ one) in
        ⊎_elim
        (λ (up : y ≡ parent x).
        let np : parent x ≡ x → ⊥ = λ h. ne (up ∙ h) in (
          patched (pointer x) (place_of t seg) was.0,
          ap dirty' up ∙ moves.patched np ∙ ap (option_map (patched (pointer x) (place_of t seg))) (ap dirty (sym up) ∙ was.1),
        ))
        (λ (np : y ≡ parent x → ⊥). (was.0, moves.kept y ne np ∙ was.1))
        (same_entry y (parent x));
  }
    where
      by_parent : (parent x ≡ x → ⊥) → (b : List ℕ) → dirty' (parent x) ≡ Some b → bytes_next (parent x) ≡ b
      by_parent np b held =
          let was = w.cached.found (parent x) parent_file parent_one in
          let c = w.cached.cached (parent x) was.0 was.1 in
          let e : Some b ≡ Some (patched (pointer x) (place_of t seg) was.0) = sym held ∙ moves.patched np
          ∙ ap (option_map (patched (pointer x) (place_of t seg))) was.1 in
          let same : b ≡ patched (pointer x) (place_of t seg) was.0 = cc in
          of_parent np ∙ ap₂ (patched (pointer x)) same_place c.2 ∙ sym same

  usage_same : (j : ℕ) → bytes_next (Usage j) ≡ w.memory.bytes (Usage j)
  usage_same j =
      kept (Usage j) (λ h. usage_table j (subst IsOfFile (sym h) in_memory.0)) (λ h. usage_table j (subst IsOfFile (sym h) parent_file))

  stepped : Running d' dirty' t' k m0 m seg (Some (es ++ x ∷ []))
  unfolding next moved_memory
  stepped =
      let s = settled_now d dirty t t' k m0 m seg es x w room noted d' bytes is in
      record {
        memory = next;
        laid = laid_now;
        segments = w.segments;
        settled = s.0;
        cached = cached_now;
        tables = tables_now d dirty t t' k m0 m seg es x w room noted next is_moved_now;
        fresh = fresh_now d dirty t t' k m0 m seg es x w room noted next (λ j off. usage_same j);
        part = part_now d dirty t t' k m0 m seg es x w room noted;
        whole = whole_beside k t t' seg (suc (t.used seg)) noted.used w.whole;
        kept = kept_now d dirty t t' k m0 m seg es x w room noted d' s.1;
        opened = opened_now d dirty t t' k m0 m seg es x w room noted d'.content
            (sealed_now d dirty t t' k m0 m seg es x w room noted d' bytes is) next is_moved_now;
      }

  -- only x leaves memory, for the place that it gets
  stepped_at : (w.memory.at x ≡ 1) × (stepped.memory.at x ≡ place_of t seg)
      × ((y : Entry) → (y ≡ x → ⊥) → stepped.memory.at y ≡ w.memory.at y)
  unfolding stepped
  stepped_at = (in_memory.1, is_moved_now.at ∙ same_place, at_other)

pub stepping : Stepping
stepping d d' dirty dirty' t t' k m0 m seg es x bytes w room low there full is moves noted =
    stepped d d' dirty dirty' t t' k m0 m seg es x bytes w room low there full is moves noted

-- and where each block stands then
pub stepping_to : SteppingTo
stepping_to d d' dirty dirty' t t' k m0 m seg es x bytes w room low there full is moves noted = (
  stepped d d' dirty dirty' t t' k m0 m seg es x bytes w room low there full is moves noted,
  stepped_at d d' dirty dirty' t t' k m0 m seg es x bytes w room low there full is moves noted,
)

-- the block above x points to a place of the log, so it isn't empty
pub stepping_tight : SteppingTight
stepping_tight d dirty dirty' t k m0 m seg es x bytes w room there moves tight y b held is =
    ⊎_elim
    (λ (here : y ≡ x). let bad : None ≡ Some b = sym moves.gone ∙ ap dirty' (sym here) ∙ held in absurd (cc))
    (λ (ne : y ≡ x → ⊥). ⊎_elim
    (λ (up : y ≡ parent x). above (λ h. ne (up ∙ h)) (ap dirty' (sym up) ∙ held))
    (λ (np : y ≡ parent x → ⊥). tight y b (sym (moves.kept y ne np) ∙ held) is)
    (same_entry y (parent x)))
    (same_entry y x)
  where
    above : (parent x ≡ x → ⊥) → dirty' (parent x) ≡ Some b → HasPointer b
    above ne held =
        let c = w.cached.cached x bytes there in
        let file = c.0 in
        let one = c.1 in
        let over : IsOfFile (parent x) = (file.0, file_of_parent x ∙ file.1) in
        let up = w.laid.up x one in
        let p = w.cached.found (parent x) over up in
        let q = w.cached.cached (parent x) p.0 p.1 in
        let few = w.laid.few in
        let inside : seg < w.memory.segments = w.opened.inside in
        let used = w.tables.used seg in
        let short = w.laid.short seg in
        let long : length p.0 ≡ 512 = ap length (sym q.2) ∙ w.laid.long (parent x) over (omega arith) in
        let small : pointer x < 128 = pointer_low x (λ n i h. w.laid.low n i (let e = ap w.memory.at h in omega arith)) in
        let e : Some b ≡ Some (patched (pointer x) (place_of t seg) p.0) = sym held ∙ moves.patched ne
        ∙ ap (option_map (patched (pointer x) (place_of t seg))) p.1 in
        let same : b ≡ patched (pointer x) (place_of t seg) p.0 = cc in
        subst HasPointer (sym same) (pointer_patched (pointer x) (place_of t seg) p.0 long small (omega arith) (omega arith))

-- ---- an inode map block
module _ (d d' : DeviceState) (dirty : Dirty) (t t' : Tables) (k : CheckpointValue) (m0 m : LogMap) (seg : ℕ) (es : List Entry) (j : ℕ)
    (bytes : List ℕ)
    (w : Running d dirty t k m0 m seg (Some es)) (room : t.used seg < 64) (one : t.at (Map j) ≡ 1) (spells : SpellsMap m t j bytes)
    (is : IsWritten d d' (place_of t seg) bytes) (noted : IsNoted m t t' (Map j) (place_of t seg) seg) where
  map_bytes : Entry → List ℕ
  map_bytes y = pick (same_entry y (Map j)) bytes (w.memory.bytes y)

  map_next : Memory
  map_next = moved_memory w.memory (Map j) (next_place w.memory seg) map_bytes seg

  map_own : map_bytes (Map j) ≡ bytes
  unfolding map_bytes
  map_own = pick_yes (same_entry (Map j) (Map j)) bytes (w.memory.bytes (Map j)) refl

  map_kept : (y : Entry) → (y ≡ Map j → ⊥) → map_bytes y ≡ w.memory.bytes y
  unfolding map_bytes
  map_kept y ne = pick_no (same_entry y (Map j)) bytes (w.memory.bytes y) ne

  map_moved : IsMoved w.memory seg (Map j) map_next
  unfolding map_next
  map_moved = moved_now d dirty t t' k m0 m seg es (Map j) w room noted map_bytes (w.tables.at (Map j) refl ∙ one)

  shows : (n : ℕ) → shown m w.memory.at (Inode n) ≡ shown m t.at (Inode n)
  shows n = ap (λ (a : ℕ). cond (is_shown m (Inode n)) a 0) (w.tables.at (Inode n) refl)

  map_placing_now : IsMapPlacing m w.memory seg j bytes map_next
  unfolding map_next moved_memory
  map_placing_now = record {
    moved = map_moved;
    settled = λ i low h. spells.settled i low (sym (shows (128 * j + i)) ∙ h);
    long = spells.long;
    spells = λ i low. spells.spells i low ∙ sym (shows (128 * j + i));
    some = spells.some;
    own = map_own;
    kept = map_kept;
  }

  map_stepped : Running d' dirty t' k m0 m seg (Some (es ++ Map j ∷ []))
  unfolding map_next moved_memory
  map_stepped =
      let s = settled_now d dirty t t' k m0 m seg es (Map j) w room noted d' bytes is in
      let there : d'.content ≡ put d.content (next_place w.memory seg) bytes = is.content
      ∙ ap (λ (a : ℕ). put d.content a bytes) (sym (at_end d dirty t t' k m0 m seg es (Map j) w room noted)) in
      record {
        memory = map_next;
        laid = subst (λ (c : Content). IsLaid c m map_next seg) (sym there)
            (map_placing d.content m w.memory seg j bytes map_next w.laid map_placing_now);
        segments = w.segments;
        settled = s.0;
        cached = cached_kept d dirty t t' k m0 m seg es (Map j) w room noted map_next map_moved (map_table j) map_kept;
        tables = tables_now d dirty t t' k m0 m seg es (Map j) w room noted map_next map_moved;
        fresh = fresh_now d dirty t t' k m0 m seg es (Map j) w room noted map_next
            (λ i off. map_kept (Usage i) (λ h. let bad : Usage i ≡ Map j = h in absurd (cc)));
        part = part_now d dirty t t' k m0 m seg es (Map j) w room noted;
        whole = whole_beside k t t' seg (suc (t.used seg)) noted.used w.whole;
        kept = kept_now d dirty t t' k m0 m seg es (Map j) w room noted d' s.1;
        opened = opened_now d dirty t t' k m0 m seg es (Map j) w room noted d'.content
            (sealed_now d dirty t t' k m0 m seg es (Map j) w room noted d' bytes is) map_next map_moved;
      }

pub map_stepping : MapStepping
map_stepping d d' dirty t t' k m0 m seg es j bytes w room one spells is noted =
    map_stepped d d' dirty t t' k m0 m seg es j bytes w room one spells is noted

-- ---- a usage block gets its place
module _ (d : DeviceState) (dirty : Dirty) (t t' : Tables) (k : CheckpointValue) (m0 m : LogMap) (seg : ℕ) (es : List Entry) (j : ℕ)
    (w : Running d dirty t k m0 m seg (Some es)) (room : t.used seg < 64) (one : t.at (Usage j) ≡ 1) (old : t.stale j ≡ true)
    (noted : IsNoted m t t' (Usage j) (place_of t seg) seg) where
  usage_bytes : Entry → List ℕ
  usage_bytes y = pick (same_entry y (Usage j)) (block d.content (next_place w.memory seg)) (w.memory.bytes y)

  usage_next : Memory
  usage_next = moved_memory w.memory (Usage j) (next_place w.memory seg) usage_bytes seg

  usage_own : usage_bytes (Usage j) ≡ block d.content (next_place w.memory seg)
  unfolding usage_bytes
  usage_own = pick_yes (same_entry (Usage j) (Usage j)) (block d.content (next_place w.memory seg)) (w.memory.bytes (Usage j)) refl

  usage_kept_bytes : (y : Entry) → (y ≡ Usage j → ⊥) → usage_bytes y ≡ w.memory.bytes y
  unfolding usage_bytes
  usage_kept_bytes y ne = pick_no (same_entry y (Usage j)) (block d.content (next_place w.memory seg)) (w.memory.bytes y) ne

  usage_moved : IsMoved w.memory seg (Usage j) usage_next
  unfolding usage_next
  usage_moved = moved_now d dirty t t' k m0 m seg es (Usage j) w room noted usage_bytes (w.tables.at (Usage j) refl ∙ one)

  settling_now : IsSettling d.content w.memory seg j usage_next
  unfolding usage_next moved_memory
  settling_now = record { moved = usage_moved; own = usage_own; kept = usage_kept_bytes }

  -- block j is stale still
  not_fresh : (i : ℕ) → t'.stale i ≡ false → Usage i ≡ Usage j → ⊥
  not_fresh i off h =
      let same : i ≡ j = cc in
      let was = (noted_fresh m t t' (Usage j) (place_of t seg) seg noted i off).0 in
      let bad : true ≡ false = sym old ∙ ap t.stale (sym same) ∙ was in
      absurd (cc)

  usage_settled : Running d dirty t' k m0 m seg (Some (es ++ Usage j ∷ []))
  unfolding usage_next moved_memory
  usage_settled = record {
    memory = usage_next;
    laid = settling d.content m w.memory seg j usage_next w.laid settling_now;
    segments = w.segments;
    settled = w.settled;
    cached = cached_kept d dirty t t' k m0 m seg es (Usage j) w room noted usage_next usage_moved (usage_table j) usage_kept_bytes;
    tables = tables_now d dirty t t' k m0 m seg es (Usage j) w room noted usage_next usage_moved;
    fresh = fresh_now d dirty t t' k m0 m seg es (Usage j) w room noted usage_next (λ i off. usage_kept_bytes (Usage i) (not_fresh i off));
    part = part_now d dirty t t' k m0 m seg es (Usage j) w room noted;
    whole = whole_beside k t t' seg (suc (t.used seg)) noted.used w.whole;
    kept = kept_now d dirty t t' k m0 m seg es (Usage j) w room noted d (λ s. refl);
    opened = opened_now d dirty t t' k m0 m seg es (Usage j) w room noted d.content w.opened.sealed usage_next usage_moved;
  }

pub usage_settling : UsageSettling
usage_settling d dirty t t' k m0 m seg es j w room one old noted = usage_settled d dirty t t' k m0 m seg es j w room one old noted
