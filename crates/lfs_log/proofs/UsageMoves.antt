-- A usage block gets a new place: what that leaves of the log.
use Rattle.std.proofs.Common.{◌≡◌, ◌<◌, ◌≤◌, ◌⊎◌, inl, inr, ⊎_elim, ◌+◌, ◌-◌, ◌*◌, ◌/◌, ◌%◌, true, false, ℕ, suc, List, [], ◌∷◌, ◌++◌}
use Rattle.std.proofs.Common.{length, map, get_or, Some, None, refl, sym, ◌∙◌, ap, subst, arith, length-append, Result, Ok, Err}
use Rattle.std.proofs.Common.{OnOk}
use Rattle.std.proofs.Math.Path.{fun_ext}
use Rattle.std.proofs.lemmas.Bool.{cases_eq}
use Rattle.lfs_model.specs.Entry.{Entry, Data, Leaf, Double, Inode, Map, Usage, entry_of}
use Rattle.lfs_model.specs.Checkpoint.{CheckpointValue}
use Rattle.lfs_model.specs.Device.{DeviceState, Carries}
use Rattle.lfs_model.specs.Stands.{LogMap}
use Rattle.lfs_model.specs.Summary.{BlockNameValue, IsPlaced}
use Rattle.lfs_model.specs.declared.BlockKind.TheVariants as kind
use Rattle.lfs_model.specs.Memory.{is_shown}
use Rattle.lfs_model.specs.Counting.{segment_of}
use Rattle.lfs_model.specs.Running.{Dirty, Tables, Running, IsSet, CountsUp, IsNoted, IsLifted, IsTakenFrom, GoesOnIn}
use Rattle.lfs_model.specs.Committing.{place_of}
use Rattle.lfs_model.proofs.Entries.{same_entry}
use Rattle.lfs_model.proofs.Counting.{taken_counts}
use Rattle.lfs_model.proofs.Running.{pick, pick_yes, pick_no, taken_memory, is_taken}
use Rattle.lfs_model.proofs.Leaving.{beginning, going_on, usage_leaving}
use Rattle.lfs_model.proofs.Stepping.{usage_settling}
use Rattle.lfs_memory.specs.segments.Table.{SegmentNumbers, UsageTable, no_segment, used_of, live_of, held_of, age_of, kept_of, address_of}
use Rattle.lfs_memory.specs.segments.Table.{stale_of, clean_in}
use Rattle.lfs_memory.specs.segments.Chunk.{Chunk, IsOpenChunk, entries_of}
use Rattle.lfs_memory.specs.segments.Steps.{Lifts, TakesSegment, GoesOn, Begins}
use Rattle.lfs_memory.specs.segments.Emptied.{IsEmptied}
use Rattle.lfs_memory.proofs.of_segments.Beginnings.{begins_inside, begins_size, begins_unit, begins_room, begins_kept, begins_address}
use Rattle.lfs_memory.proofs.of_segments.Beginnings.{begins_stale}
use Rattle.lfs_memory.proofs.of_segments.StaysEmptied.{stays_emptied}
use Rattle.lfs_memory.specs.inodes.Blocks.{TableValue, blocks_of}
use Rattle.lfs_memory.specs.inodes.MapValue.{MapValue, address_in, block_in}
use Rattle.lfs_memory.specs.declared.memory.LogMemory.{LogMemory}
use Rattle.lfs_memory.specs.Memory.{table_at, tables_by, tables_of, segment_in, chunk_in, room_of, IsMemoryUpTo, IsMemory, IsLog}
use Rattle.lfs_memory.specs.Memory.{Goes, Stops}
use Rattle.lfs_memory.proofs.Opened.{open_segment, open_chunk, closed_segment, closed_chunk, as_chunk}
use Rattle.lfs_memory.proofs.Rooms.{room_none, room_some}
use Rattle.lfs_memory.proofs.Stales.{stays_stale}
use Rattle.lfs_memory.specs.segments.Chunk.{usage_name}
use Rattle.lfs_log.specs.Settling.{IsNowhere, IsThere, Resettles, IsResettled}

-- ---- facts of a result
pub all_ok : {A E : Type 0} (r : Result A E) (P : Type 0) → P → OnOk r P
all_ok (Ok x) P p = p
all_ok (Err e) P p = tt

-- ---- the chunk that is being written
no_names : (names : List BlockNameValue) → length names ≡ 0 → map entry_of names ≡ []
no_names [] z = refl
no_names (x ∷ xs) z = absurd (omega arith)

names_end : (names : List BlockNameValue) (x : BlockNameValue) → map entry_of (names ++ x ∷ []) ≡ map entry_of names ++ entry_of x ∷ []
names_end [] x = refl
names_end (y ∷ ys) x = ap (λ (es : List Entry). entry_of y ∷ es) (names_end ys x)

one_longer : (names : List BlockNameValue) (x : BlockNameValue) → length (names ++ x ∷ []) ≡ suc (length names)
one_longer names x = length-append names (x ∷ []) ∙ plus_one (length names)
  where
    plus_one : (n : ℕ) → n + 1 ≡ suc n
    plus_one n = omega arith

-- a chunk begins, or it goes on
pub goes_into : (d : DeviceState) {dirty : Dirty} {t : Tables} (t' : Tables) (k : CheckpointValue) (m0 m : LogMap) (c : Chunk) (seg : ℕ)
    → Running d dirty t k m0 m (segment_in c) (chunk_in c)
    → (length c.names ≡ 0 → (seg < k.segments) × (IsTakenFrom t t' seg ⊎ GoesOnIn t t' seg))
    → ((length c.names ≡ 0 → ⊥) → (t' ≡ t) × (seg ≡ c.segment))
    → Running d dirty t' k m0 m seg (Some (entries_of c))
goes_into d {dirty} {t} t' k m0 m c seg w begins goes = ⊎_elim
    (λ (z : length c.names ≡ 0).
    let b = begins z in
    let none : Running d dirty t k m0 m 1024 None =
    as_chunk (closed_segment c z) (closed_chunk c z) w in
    rw (no_names _ z) (⊎_elim (λ (takes : IsTakenFrom t t' seg). beginning d dirty t t' k m0 m 1024 seg none b.0 takes)
    (λ (g : GoesOnIn t t' seg). going_on d dirty t t' k m0 m 1024 seg none b.0 g) b.1))
    (λ (ne : length c.names ≡ 0 → ⊥).
    let g = goes ne in
    rw g.0 (rw g.1 (as_chunk (open_segment c (omega arith)) (open_chunk c (omega arith)) w))) (cases_eq (length c.names) 0)

-- ---- the tables
-- those in which usage block j is to be written
abbrev without : MapValue → UsageTable → ℕ → Tables
without map usage j = record {
  at = λ x. pick (same_entry x (Usage j)) 1 (table_at map usage x);
  used = used_of usage;
  live = live_of usage;
  held = held_of usage;
  age = age_of usage;
  kept = kept_of usage;
  stale = stale_of usage;
}

-- the addresses besides that of usage block j
table_other : (v : MapValue) {v' : MapValue} (u u' : UsageTable) {j : ℕ} → v' ≡ v
    → ((i : ℕ) → (i ≡ j → ⊥) → address_of u' i ≡ address_of u i)
    → (y : Entry) → (y ≡ Usage j → ⊥) → table_at v' u' y ≡ table_at v u y
table_other v u u' e same (Data n i) ne = refl
table_other v u u' e same (Leaf n q) ne = refl
table_other v u u' e same (Double n) ne = refl
table_other v u u' e same (Inode n) ne = ap (λ (v : MapValue). address_in v n) e
table_other v u u' e same (Map i) ne = ap (λ (v : MapValue). block_in v i) e
table_other v u u' e same (Usage i) ne = same i (λ h. ne (ap Usage h))

without_same : (v : MapValue) (u u' : UsageTable) (j : ℕ) → ((i : ℕ) → address_of u' i ≡ address_of u i) → (y : Entry)
    → (without v u' j).at y ≡ (without v u j).at y
without_same v u u' j same y = ⊎_elim
    (λ (here : y ≡ Usage j). pick_yes (same_entry y (Usage j)) 1 (table_at v u' y) here
    ∙ sym (pick_yes (same_entry y (Usage j)) 1 (table_at v u y) here))
    (λ (ne : y ≡ Usage j → ⊥).
    pick_no (same_entry y (Usage j)) 1 (table_at v u' y) ne ∙ table_other v {v' = v} u u' refl (λ i away. same i) y ne
    ∙ sym (pick_no (same_entry y (Usage j)) 1 (table_at v u y) ne))
    (same_entry y (Usage j))

-- where usage block j has left its address, that changes nothing
without_left : (map : MapValue) (usage : UsageTable) (j : ℕ) → address_of usage j ≡ 1 → tables_by map usage ≡ without map usage j
without_left map usage j one = ap (λ (at : Entry → ℕ). by_at at) (fun_ext (λ x. sym (same x)))
  where
    by_at : (Entry → ℕ) → Tables
    by_at at = record {
      at = at;
      used = used_of usage;
      live = live_of usage;
      held = held_of usage;
      age = age_of usage;
      kept = kept_of usage;
      stale = stale_of usage;
    }

    same : (x : Entry) → pick (same_entry x (Usage j)) 1 (table_at map usage x) ≡ table_at map usage x
    same x = ⊎_elim
        (λ (here : x ≡ Usage j). pick_yes _ 1 _ here ∙ sym one ∙ ap (table_at map usage) (sym here))
        (λ (ne : x ≡ Usage j → ⊥). pick_no _ 1 _ ne) (same_entry x _)

module _ (v v' : LogMemory) (j number : ℕ) (good : IsMemory v) (old : stale_of v.usage j ≡ true) (r : Resettles v v' j number) where
  abbrev segment : ℕ
  segment = r.placed.chunk.segment

  -- the table between, which is that in which it left or one that took a segment
  abbrev middle : UsageTable
  middle = r.places.middle

  by_case : (P : Type 0) → (length v.chunk.names ≡ 0 → Begins r.lifted middle segment number → P)
      → (0 < length v.chunk.names → middle ≡ r.lifted → segment ≡ v.chunk.segment → P) → P
  by_case P begun on = ⊎_elim
      (λ (z : length v.chunk.names ≡ 0). begun z (r.places.begun z))
      (λ (ne : length v.chunk.names ≡ 0 → ⊥). let lt : 0 < length v.chunk.names = omega arith in let g = r.places.went_on lt in
      on lt g.0 g.1)
      (cases_eq (length v.chunk.names) 0)

  -- it has left its address before, or leaves it now
  if_left : (P : Type 0) → (r.lifted ≡ v.usage → P)
      → (2 ≤ address_of v.usage j → Lifts v.usage r.lifted (segment_of (address_of v.usage j)) true → P) → P
  if_left P before now = ⊎_elim
      (λ (one : address_of v.usage j ≡ 1). before (r.leaves.left one))
      (λ (ne : address_of v.usage j ≡ 1 → ⊥). now (r.leaves.above ne) (r.leaves.lifts ne))
      (cases_eq (address_of v.usage j) 1)

  lifted_same : {X : Type 0} (F : UsageTable → X)
      → (Lifts v.usage r.lifted (segment_of (address_of v.usage j)) true → F r.lifted ≡ F v.usage) → F r.lifted ≡ F v.usage
  lifted_same F lifts = if_left _ (λ same. ap F same) (λ above go. lifts go)

  lifted_size : length r.lifted.segments ≡ length v.usage.segments
  lifted_size = lifted_same (λ u. length u.segments) (λ go. go.size)

  lifted_address : (i : ℕ) → address_of r.lifted i ≡ address_of v.usage i
  lifted_address i = lifted_same (λ u. address_of u i) (λ go. go.blocks.address i)

  lifted_clean : clean_in r.lifted.segments ≡ clean_in v.usage.segments
  lifted_clean = lifted_same (λ u. clean_in u.segments) (λ go. go.clean)

  lifted_kept : (i : ℕ) → kept_of r.lifted i ≡ kept_of v.usage i
  lifted_kept i = lifted_same (λ u. kept_of u i) (λ go. go.kept i)

  lifted_used : (i : ℕ) → used_of r.lifted i ≡ used_of v.usage i
  lifted_used i = lifted_same (λ u. used_of u i) (λ go. go.used i)

  begun_same : {X : Type 0} (F : UsageTable → X) → (Begins r.lifted middle segment number → F middle ≡ F r.lifted) → F middle ≡ F r.lifted
  begun_same F begun = by_case _ (λ z begins. begun begins) (λ lt same on. ap F same)

  mid_kept : (i : ℕ) → kept_of middle i ≡ kept_of v.usage i
  mid_kept i = begun_same (λ u. kept_of u i) (λ begins. begins_kept _ _ _ _ begins i) ∙ lifted_kept i

  -- its segment has room for it
  mid_room : used_of middle segment < 64
  mid_room = by_case _ (λ z begins. begins_room _ _ _ _ begins)
      (λ lt same on.
      let u = ap (λ (u : UsageTable). used_of u segment) same in
      let w = lifted_used segment in
      let s = ap (used_of v.usage) on in
      let o = (good.opened lt).used in
      let short = good.short lt in
      omega arith)

  mid_size : length middle.segments ≡ length v.usage.segments
  mid_size = begun_same (λ u. length u.segments) (λ begins. begins_size _ _ _ _ begins) ∙ lifted_size

  new_unit : v'.usage.unit ≡ v.usage.unit
  new_unit = r.puts.unit ∙ r.places.noted.unit ∙ begun_same (λ u. u.unit) (λ begins. begins_unit _ _ _ _ begins)
      ∙ lifted_same (λ u. u.unit) (λ go. go.unit)

  pub new_size : length v'.usage.segments ≡ length v.usage.segments
  new_size = ap length r.puts.segments ∙ r.places.noted.size ∙ mid_size

  mid_address : (i : ℕ) → address_of middle i ≡ address_of v.usage i
  mid_address i = begun_same (λ u. address_of u i) (λ begins. begins_address _ _ _ _ begins i) ∙ lifted_address i

  still_lifted : (i : ℕ) → stale_of v.usage i ≡ true → stale_of r.lifted i ≡ true
  still_lifted i on = if_left _ (λ same. ap (λ (u : UsageTable). stale_of u i) same ∙ on) (λ above go. stays_stale i go.blocks on)

  still_middle : (i : ℕ) → stale_of r.lifted i ≡ true → stale_of middle i ≡ true
  still_middle i on =
      by_case _ (λ z begins. begins_stale _ _ _ _ begins i on) (λ lt same went. ap (λ (u : UsageTable). stale_of u i) same ∙ on)

  lifted_stale : stale_of r.lifted j ≡ true
  lifted_stale = still_lifted j old

  mid_stale : stale_of middle j ≡ true
  mid_stale = still_middle j lifted_stale

  new_stale : (i : ℕ) → stale_of v.usage i ≡ true → stale_of v'.usage i ≡ true
  new_stale i on = ⊎_elim
      (λ (here : i ≡ j). ap (stale_of v'.usage) here ∙ r.puts.stale.own)
      (λ (ne : i ≡ j → ⊥).
      r.puts.stale.others i ne ∙ stays_stale i r.places.noted.blocks (still_middle i (still_lifted i on)))
      (cases_eq i j)

  pub new_names : v'.chunk.names ≡ v.chunk.names ++ usage_name j ∷ []
  new_names = ap (λ (c : Chunk). c.names) r.chunk ∙ r.places.names

  pub new_length : length v'.chunk.names ≡ suc (length v.chunk.names)
  new_length = ap length new_names ∙ one_longer _ _

  new_some : 0 < length v'.chunk.names
  new_some = let l = new_length in omega arith

  new_address : address_of v'.usage j ≡ 2 + 64 * segment + used_of middle segment
  new_address = r.puts.address.own ∙ r.places.address

  other_address : (i : ℕ) → (i ≡ j → ⊥) → address_of v'.usage i ≡ address_of middle i
  other_address i ne = r.puts.address.others i ne ∙ r.places.noted.blocks.address i

  new_opened : IsOpenChunk v'.chunk v'.usage
  new_opened =
      let o = r.places.opened in
      subst (λ (c : Chunk). IsOpenChunk c v'.usage) (sym r.chunk)
      (record {
        inside = rw r.puts.segments o.inside;
        used = ap (λ (x : List SegmentNumbers). (get_or x segment no_segment).used) r.puts.segments ∙ o.used;
        free = rw r.puts.segments o.free;
        last = r.puts.last ∙ o.last;
        stale = λ begun. ⊎_elim
            (λ (here : segment / 64 ≡ j). ap (stale_of v'.usage) here ∙ r.puts.stale.own)
            (λ (ne : segment / 64 ≡ j → ⊥). r.puts.stale.others (segment / 64) ne ∙ o.stale begun)
            (cases_eq (segment / 64) j);
      })

  new_dirty : v'.dirty ≡ v.dirty
  new_dirty = r.dirty ∙ r.places.dirty

  new_map : v'.map ≡ v.map
  new_map = r.map ∙ r.places.map

  pub resettled_memory : IsMemoryUpTo 63 v'
  resettled_memory = record {
    count = rw new_size good.count;
    opened = λ some. new_opened;
    short = λ some.
        let o = r.places.opened.used in
        let u = r.places.noted.used.own in
        let m = mid_room in
        let s = ap (λ (c : Chunk). c.start + length c.names) r.chunk in
        omega arith;
    usages = λ i one. ⊎_elim
        (λ (here : i ≡ j). let a = r.puts.address.own in let b = r.places.address in let c = ap (address_of v'.usage) here in
        absurd (omega arith))
        (λ (ne : i ≡ j → ⊥). new_stale i (good.usages i (sym (mid_address i) ∙ sym (other_address i ne) ∙ one)))
        (cases_eq i j);
    few = let f = good.few in let c = ap (λ (t : TableValue). t.capacity.limit) new_dirty in let size = new_size in
        omega (arith, f, c, size);
    unit = omega (arith, good.unit, new_unit);
  }

  pub resettled_room : room_of v ≤ room_of v' + 1
  resettled_room =
      let l = new_length in
      let o = r.places.opened.used in
      let w = r.places.noted.used.own in
      let m = mid_room in
      let h = ap (λ (c : Chunk). c.start + length c.names) r.chunk in
      let c : clean_in v'.usage.segments ≡ clean_in middle.segments = ap clean_in r.puts.segments ∙ r.places.noted.clean in
      let u = lifted_clean in
      let n = room_some v'.chunk new_some in
      by_case _
      (λ z begins.
      let none = room_none v.chunk z in
      ⊎_elim
      (λ (t : TakesSegment r.lifted middle segment number). let e = t.count in let one = t.used.own in omega arith)
      (λ (g : GoesOn r.lifted middle segment number). let e = g.clean in omega arith)
      begins)
      (λ lt same on.
      let e = ap (λ (u : UsageTable). clean_in u.segments) same in
      let before = room_some v.chunk lt in
      let a = ap (λ (u : UsageTable). used_of u segment) same in
      let b = lifted_used segment in
      let d = ap (used_of v.usage) on in
      let f = (good.opened lt).used in
      omega arith)

  pub resettled_usage : IsResettled v.usage v'.usage j
  resettled_usage =
      let a = new_address in
      let m = mid_room in
      let p = r.places.opened in
      let inside = p.inside in
      let used = p.used in
      let u = r.places.noted.used.own in
      let size = r.puts.segments in
      let long = ap length size in
      let l = new_length in
      let names = ap (λ (c : Chunk). length c.names) r.chunk in
      let at : segment_of (address_of v'.usage j) ≡ segment = omega arith in
      let here : (address_of v'.usage j - 2) % 64 ≡ used_of middle segment = omega arith in
      let free : kept_of v'.usage segment ≤ r.placed.chunk.start = subst (λ (x : List SegmentNumbers).
      (get_or x segment no_segment).kept ≤ r.placed.chunk.start) (sym r.puts.segments) p.free in
      let kept : kept_of v'.usage (segment_of (address_of v'.usage j)) ≡ kept_of v'.usage segment =
      ap (kept_of v'.usage) at in
      record {
        own = (omega arith, omega arith, omega arith);
        others = λ i ne. other_address i ne ∙ mid_address i;
        kept = λ i. ap (λ (x : List SegmentNumbers). (get_or x i no_segment).kept) r.puts.segments ∙ r.places.noted.kept i ∙ mid_kept i;
        segments = new_size;
      }

  module _ (m : LogMap) where
    lifts_now : Lifts v.usage r.lifted (segment_of (address_of v.usage j)) true
        → IsLifted m (tables_of v) (without v.map r.lifted j) (Usage j) 1 (segment_of (address_of v.usage j))
    lifts_now go = record {
      at = record {
        own = λ top. pick_yes (same_entry (Usage j) (Usage j)) 1 (table_at v.map r.lifted (Usage j)) refl;
        others = λ y top ne. pick_no (same_entry y (Usage j)) 1 (table_at v.map r.lifted y) ne
            ∙ table_other v.map {v' = v.map} v.usage r.lifted refl (λ i away. go.blocks.address i) y ne;
      };
      used = go.used;
      live = go.live;
      held = go.held;
      age = go.age;
      kept = go.kept;
      stale = go.blocks.stale;
    }

    takes_now : TakesSegment r.lifted middle segment number
        → IsTakenFrom (without v.map r.lifted j) (without v.map middle j) segment
    takes_now t = record {
      clean = t.clean;
      at = without_same v.map r.lifted middle j (λ i. (t.blocks i).1);
      used = t.used;
      live = t.live;
      held = t.held;
      age = λ i ne. t.age.others i ne;
      kept = t.kept;
      stale = λ i. (t.blocks i).0;
    }

    goes_on_now : GoesOn r.lifted middle segment number
        → GoesOnIn (without v.map r.lifted j) (without v.map middle j) segment
    goes_on_now g = record {
      some = g.begun;
      room = let r = g.room in omega arith;
      at = without_same v.map r.lifted middle j g.blocks.address;
      used = g.used;
      live = g.live;
      held = g.held;
      age = λ i ne. g.age.others i ne;
      kept = g.kept;
      stale = g.blocks.stale;
    }

    stale_now : IsSet (stale_of middle) (stale_of v'.usage) (segment / 64) true
    stale_now = record {
      own = ⊎_elim
          (λ (here : segment / 64 ≡ j). ap (stale_of v'.usage) here ∙ r.puts.stale.own)
          (λ (ne : segment / 64 ≡ j → ⊥). r.puts.stale.others (segment / 64) ne
          ∙ r.places.noted.blocks.stale.own)
          (cases_eq (segment / 64) j);
      others = λ i away. ⊎_elim
          (λ (here : i ≡ j). ap (stale_of v'.usage) here ∙ r.puts.stale.own ∙ sym mid_stale ∙ ap (stale_of middle) (sym here))
          (λ (ne : i ≡ j → ⊥). r.puts.stale.others i ne ∙ r.places.noted.blocks.stale.others i away)
          (cases_eq i j);
    }

    notes_now : IsNoted m (without v.map middle j) (tables_of v') (Usage j)
        (place_of (without v.map middle j) segment) segment
    notes_now = record {
      at = record {
        own = λ top. new_address;
        others = λ y top ne. table_other v.map middle v'.usage new_map other_address y ne
            ∙ sym (pick_no (same_entry y (Usage j)) 1 (table_at v.map middle y) ne);
      };
      used = subst (λ (x : List SegmentNumbers). IsSet (used_of middle) (λ i. (get_or x i no_segment).used) segment
          (suc (used_of middle segment))) (sym r.puts.segments) r.places.noted.used;
      live = subst (λ (x : List SegmentNumbers). CountsUp true (live_of middle)
          (λ i. (get_or x i no_segment).live) segment) (sym r.puts.segments) r.places.noted.live;
      held = subst (λ (x : List SegmentNumbers). CountsUp false (held_of middle)
          (λ i. (get_or x i no_segment).held) segment) (sym r.puts.segments) r.places.noted.held;
      age = λ i ne. ap (λ (x : List SegmentNumbers). (get_or x i no_segment).age) r.puts.segments ∙ r.places.noted.age i;
      kept = λ i. ap (λ (x : List SegmentNumbers). (get_or x i no_segment).kept) r.puts.segments ∙ r.places.noted.kept i;
      stale = stale_now;
    }

    module _ {d : DeviceState} {k : CheckpointValue} {m0 : LogMap} (log : IsLog d v k m0 m) where
      left_now : Running d (blocks_of v.dirty) (without v.map r.lifted j) k m0 m (segment_in v.chunk) (chunk_in v.chunk)
      left_now = ⊎_elim
          (λ (one : address_of v.usage j ≡ 1).
          rw (r.leaves.left one, ← without_left v.map v.usage j one) log.running)
          (λ (ne : address_of v.usage j ≡ 1 → ⊥).
          usage_leaving d (blocks_of v.dirty) (tables_of v) (without v.map r.lifted j) k m0 m (segment_in v.chunk)
          (chunk_in v.chunk) j log.running (r.leaves.above ne) old (lifts_now (r.leaves.lifts ne)))
          (cases_eq (address_of v.usage j) 1)

      open_now : Running d (blocks_of v.dirty) (without v.map middle j) k m0 m segment (Some (entries_of v.chunk))
      open_now = goes_into d (without v.map middle j) k m0 m v.chunk segment left_now
          (λ z.
          let t = r.places.begun z in
          let s = log.segments in
          let e = lifted_size in
          let i = begins_inside _ _ _ _ t in
          (omega arith, ⊎_elim (λ takes. inl (takes_now takes)) (λ goes. inr (goes_on_now goes)) t))
          (λ ne. let g = r.places.went_on (omega arith) in (ap (λ (u : UsageTable). without v.map u j) g.0, g.1))

      settled_now : Running d (blocks_of v.dirty) (tables_of v') k m0 m segment (Some (entries_of v.chunk ++ Usage j ∷ []))
      settled_now = usage_settling d (blocks_of v.dirty) (without v.map middle j) (tables_of v') k m0 m segment
          (entries_of v.chunk) j open_now
          mid_room (pick_yes (same_entry (Usage j) (Usage j)) 1 _ refl) mid_stale notes_now

      running_now : Running d (blocks_of v'.dirty) (tables_of v') k m0 m (segment_in v'.chunk) (chunk_in v'.chunk)
      running_now =
          let s : segment_in v'.chunk ≡ segment = open_segment v'.chunk new_some ∙ ap (λ (c : Chunk). c.segment) r.chunk in
          let o : chunk_in v'.chunk ≡ Some (entries_of v.chunk ++ Usage j ∷ []) = open_chunk v'.chunk new_some ∙ ap
          (λ (names : List BlockNameValue). Some (map entry_of names)) new_names ∙ ap Some (names_end v.chunk.names (usage_name j)) in
          rw new_dirty (rw s (rw o settled_now))

      pub resettled_log : IsLog d v' k m0 m
      resettled_log = record {
        running = running_now;
        hidden = rw new_map log.hidden;
        segments = new_size ∙ log.segments;
        unit = new_unit ∙ log.unit;
        tight = rw new_dirty log.tight;
      }

  -- the segment has sectors that the acknowledged checkpoint doesn't need
  unkept : kept_of middle segment < used_of middle segment
  unkept =
      let k = r.places.noted.kept segment in
      let f = r.places.opened.free in
      let u = r.places.noted.used.own in
      let o = r.places.opened.used in
      let names = ap length r.places.names ∙ one_longer _ _ in
      omega arith

  -- a segment that was emptied stays so
  pub resettled_emptied : (s : ℕ) → IsEmptied v.usage s → IsEmptied v'.usage s
  resettled_emptied s is =
      let lifted : IsEmptied r.lifted s = if_left _ (λ same. rw same is)
      (λ above go. (stays_emptied _ is).2 (segment_of (address_of v.usage j)) true go) in
      let between : IsEmptied middle s = by_case _
      (λ z begins. (stays_emptied _ lifted).0 segment number begins)
      (λ lt same on. rw same lifted) in
      let placed : IsEmptied r.placed.usage s =
      (stays_emptied _ between).1 segment true r.places.noted unkept in
      (stays_emptied _ placed).3 j r.place true r.puts

  pub resettled_goes : (d d' : DeviceState) (w : LogMemory) → Goes d d' v' w 0 → Goes d d' v w 1
  resettled_goes d d' w g = record {
    carries = g.carries;
    memory = g.memory;
    segments = g.segments ∙ new_size;
    room = let a = resettled_room in let b = g.room in omega arith;
    no_failure = g.no_failure;
    emptied = λ s is. g.emptied s (resettled_emptied s is);
    log = λ k m0 m keeps log. g.log k m0 m keeps (resettled_log m log);
    quiet = λ k m0 m keeps log. g.quiet k m0 m keeps (resettled_log m log);
  }

  pub resettled_stops : (d : DeviceState) {d' : DeviceState} → Stops d d' v' → Stops d d' v
  resettled_stops d s = record {
    carries = s.carries;
    cause = λ k m0 m keeps log. s.cause k m0 m keeps (resettled_log m log);
    settled = λ k m0 m keeps log. s.settled k m0 m keeps (resettled_log m log);
    quiet = λ k m0 m keeps log. s.quiet k m0 m keeps (resettled_log m log);
  }

-- ---- a usage block of the volume lives on the device, where it hasn't left its address
pub usage_there : (d : DeviceState) (v : LogMemory) {k : CheckpointValue} {m0 : LogMap} (m : LogMap) (j : ℕ)
    → (address_of v.usage j ≡ 1 → ⊥)
    → j < (length v.usage.segments + 63) / 64 → IsLog d v k m0 m → IsThere v.usage j
usage_there d v m j not_one low log =
    let w = log.running in
    let same : w.memory.at (Usage j) ≡ address_of v.usage j = w.tables.at (Usage j) refl in
    let size : w.memory.segments ≡ length v.usage.segments = w.segments ∙ sym log.segments in
    let some : 0 < w.memory.at (Usage j) = (w.laid.usages j).0 (omega arith) in
    let above : 2 ≤ address_of v.usage j = omega arith in
    let there : 2 ≤ w.memory.at (Usage j) = omega arith in
    let within = w.laid.within (Usage j) there in
    let counts = (taken_counts d.content m w.memory (segment_in v.chunk) (Usage j) 1 (taken_memory w.memory (Usage j) 1 w.memory.bytes)
    w.laid there (is_taken _ _ 1 _ (omega arith)) (is_shown m)).0 refl in
    let live = w.tables.live (segment_of (w.memory.at (Usage j))) in
    record {
      above = above;
      inside = omega arith;
      live = rw (← same) (omega arith);
    }

-- so a part of a commit doesn't end where it would not
pub not_there : (d : DeviceState) {v : LogMemory} {j : ℕ} → j < (length v.usage.segments + 63) / 64 → IsNowhere v.usage j → Carries d d
    → Stops d d v
not_there d {v} {j} low none carries = record {
  carries = carries;
  cause = λ k m0 m keeps log. absurd (none.lost (usage_there d v m j none.stayed low log));
  settled = λ k m0 m keeps log. absurd (none.lost (usage_there d v m j none.stayed low log));
  quiet = λ k m0 m keeps log. absurd (none.lost (usage_there d v m j none.stayed low log));
}

pub usage_placed : (j : ℕ) → j ≤ 15 → IsPlaced kind.Usage 0 j
unfolding IsPlaced
usage_placed j le = (refl, le)
