-- Blocks in memory change, as the log runs.
use Rattle.std.proofs.Common.{◌≡◌, ◌≤◌, ⊎_elim, cond, not, Bool, true, false, ℕ, List, length, Option, Some, None, refl, sym, ◌∙◌, ap}
use Rattle.std.proofs.Common.{subst, arith}
use Rattle.std.specs.Prelude.{option_map}
use Rattle.lfs_model.specs.Changing.{IsWithBlock, IsPointed, IsRewriting}
use Rattle.lfs_model.specs.Checkpoint.{CheckpointValue}
use Rattle.lfs_model.specs.Device.{DeviceState}
use Rattle.lfs_model.specs.Entry.{Entry, Data, Usage, Header, word}
use Rattle.lfs_model.specs.Laid.{IsLaid}
use Rattle.lfs_model.specs.Lifting.{IsTaken}
use Rattle.lfs_model.specs.Memory.{Memory, parent, pointer, patched, file_of, IsOfFile, is_unlinked, is_nameless, is_shown, is_held}
use Rattle.lfs_model.specs.Memory.{settled_at, live_of, held_of}
use Rattle.lfs_model.specs.Reach.{Row}
use Rattle.lfs_model.specs.Running.{Dirty, Tables, IsCached, SpellsUsage, Running}
use Rattle.lfs_model.specs.Staging.{IsAtAddress, ChangesTo, BlockRewriting, BlockAdding, BlockRemoving, PointersGrowing, PointersShrinking}
use Rattle.lfs_model.specs.Stands.{LogMap}
use Rattle.lfs_model.proofs.BlockChanges.{rewriting, adding, removing}
use Rattle.lfs_model.proofs.Counting.{by_entry, same_counts, settled_low}
use Rattle.lfs_model.proofs.Entries.{same_entry, file_of_parent, data_below, pointers_below}
use Rattle.lfs_model.proofs.PointerChanges.{growing, shrinking}
use Rattle.lfs_model.proofs.Reading.{reading}
use Rattle.lfs_model.proofs.Running.{pick, pick_yes, pick_no, taken_memory, is_taken, open_same}
use Rattle.lfs_model.proofs.Tables.{usage_table, pointers_of_file}

-- ---- which files are shown stays where the headers stay
shown_alike : (m m' : LogMap) → ((n : ℕ) → m'.header n ≡ m.header n) → (x : Entry) → is_shown m' x ≡ is_shown m x
shown_alike m m' same x = go (file_of x)
  where
    go : (f : Option ℕ) → elim f as (λ z. Bool) [ None ↦ true | Some n ↦ not (is_nameless m' n) ] ≡ elim f as (λ z. Bool)
        [ None ↦ true | Some n ↦ not (is_nameless m n) ]
    go None = refl
    go (Some n) = ap (λ (h : Option Header). not (is_unlinked h)) (same n)

pub settled_cond : (b c : Bool) (a e : ℕ) → b ≡ c → settled_at a ≡ settled_at e → settled_at (cond b a 0) ≡ settled_at (cond c e 0)
settled_cond b c a e same at = ap (λ (b : Bool). settled_at (cond b a 0)) same ∙ go c
  where
    go : (c : Bool) → settled_at (cond c a 0) ≡ settled_at (cond c e 0)
    go true = at
    go false = refl

-- ---- a running log goes on with another memory, log map and blocks in memory, where the tables stay
module _ (d : DeviceState) (dirty dirty' : Dirty) (t : Tables) (k : CheckpointValue) (m0 m m' : LogMap) (seg : ℕ)
    (chunk : Option (List Entry)) (w : Running d dirty t k m0 m seg chunk)
    (headers : (n : ℕ) → m'.header n ≡ m.header n) (M' : Memory) (laid : IsLaid d.content m' M' seg) (cached : IsCached dirty' M')
    (segments : M'.segments ≡ w.memory.segments) (rows : M'.rows ≡ w.memory.rows)
    (tops : (x : Entry) → parent x ≡ x → M'.at x ≡ w.memory.at x)
    (settled : (x : Entry) → settled_at (M'.at x) ≡ settled_at (w.memory.at x)) (usage : (j : ℕ)
    → M'.bytes (Usage j) ≡ w.memory.bytes (Usage j)) where
  same_live : (s : ℕ) → live_of m' M' s ≡ live_of m w.memory s
  same_live = same_counts (is_shown m) (is_shown m') w.memory M' w.laid.named laid.named
      (λ y. settled_cond (is_shown m' y) (is_shown m y) (M'.at y) (w.memory.at y) (shown_alike m m' headers y) (settled y))

  same_held : (s : ℕ) → held_of m' M' s ≡ held_of m w.memory s
  same_held = same_counts (is_held m) (is_held m') w.memory M' w.laid.named laid.named
      (λ y. settled_cond (is_held m' y) (is_held m y) (M'.at y) (w.memory.at y) (ap not (shown_alike m m' headers y)) (settled y))

  restaged : Running d dirty' t k m0 m' seg chunk
  restaged = record {
    memory = M';
    laid = laid;
    segments = segments ∙ w.segments;
    settled = w.settled;
    cached = cached;
    tables = record {
      at = λ x top. tops x top ∙ w.tables.at x top;
      used = λ s. w.tables.used s ∙ sym (ap (λ (r : ℕ → Row). length (r s)) rows);
      live = λ s. w.tables.live s ∙ sym (same_live s);
      held = λ s. w.tables.held s ∙ sym (same_held s);
    };
    fresh = λ j off low. subst (SpellsUsage t j) (sym (usage j)) (w.fresh j off low);
    part = w.part;
    whole = w.whole;
    kept = w.kept;
    opened = open_same d.content w.memory M' t t seg chunk segments (ap (λ (r : ℕ → Row). r seg) rows) (λ s. refl) w.opened;
  }

-- ---- one block of a file below another comes to memory, or leaves it; `now` is what is in memory of it then
module _ (d : DeviceState) (dirty dirty' : Dirty) (t : Tables) (k : CheckpointValue) (m0 m : LogMap) (seg : ℕ) (chunk : Option (List Entry))
    (w : Running d dirty t k m0 m seg chunk)
    (x : Entry) (below : parent x ≡ x → ⊥) (file : IsOfFile x) (v : ℕ) (least : v ≤ 1) (bytes : List ℕ) (now : Option (List ℕ))
    (is_now : (b : List ℕ) → now ≡ Some b → (v ≡ 1) × (bytes ≡ b)) (found_now : v ≡ 1 → (b : List ℕ) × (now ≡ Some b))
    (low : w.memory.at x ≤ 1) (above : w.memory.at (parent x) ≡ 1)
    (own : dirty' x ≡ now) (patch : dirty' (parent x) ≡ option_map (patched (pointer x) v) (dirty (parent x)))
    (rest : (y : Entry) → (y ≡ x → ⊥) → (y ≡ parent x → ⊥) → dirty' y ≡ dirty y) where
  bytes_next : Entry → List ℕ
  bytes_next y = pick (same_entry y x) bytes (pick (same_entry y (parent x)) (patched (pointer x) v (w.memory.bytes y)) (w.memory.bytes y))

  unfoldable next : Memory
  next = taken_memory w.memory x v bytes_next

  own_bytes : bytes_next x ≡ bytes
  unfolding bytes_next
  own_bytes = pick_yes (same_entry x x) bytes _ refl

  kept : (y : Entry) → (y ≡ x → ⊥) → (y ≡ parent x → ⊥) → bytes_next y ≡ w.memory.bytes y
  unfolding bytes_next
  kept y ne np = pick_no (same_entry y x) bytes _ ne ∙ pick_no (same_entry y (parent x)) _ (w.memory.bytes y) np

  of_parent : bytes_next (parent x) ≡ patched (pointer x) v (w.memory.bytes (parent x))
  unfolding bytes_next
  of_parent = pick_no (same_entry (parent x) x) bytes _ below
      ∙ pick_yes (same_entry (parent x) (parent x)) _ (w.memory.bytes (parent x)) refl

  taken_now : IsTaken w.memory x v next
  unfolding next
  taken_now = is_taken w.memory x v bytes_next least

  pointed_now : IsPointed w.memory x v next
  unfolding next taken_memory
  pointed_now = record { above = above; patched = of_parent; kept = kept }

  parent_file : IsOfFile (parent x)
  parent_file = (file.0, file_of_parent x ∙ file.1)

  cached_now : IsCached dirty' next
  unfolding next taken_memory
  cached_now = record {
    cached = λ y b held. ⊎_elim
        (λ (here : y ≡ x).
        let n = is_now b (sym own ∙ ap dirty' (sym here) ∙ held) in
        (subst IsOfFile (sym here) file, ap next.at here ∙ taken_now.at ∙ n.0, ap bytes_next here ∙ own_bytes ∙ n.1))
        (λ (ne : y ≡ x → ⊥). ⊎_elim
        (λ (up : y ≡ parent x).
        let p = w.cached.found (parent x) parent_file above in
        let c = w.cached.cached (parent x) p.0 p.1 in
        let e : Some b ≡ Some (patched (pointer x) v p.0) = sym held ∙ ap dirty' up ∙ patch ∙ ap (option_map (patched (pointer x) v)) p.1 in
        let same : b ≡ patched (pointer x) v p.0 = cc in (
          subst IsOfFile (sym up) parent_file,
          taken_now.others y ne ∙ ap w.memory.at up ∙ above,
          ap bytes_next up ∙ of_parent
              ∙ ap (patched (pointer x) v) c.2 ∙ sym same,
        ))
        (λ (np : y ≡ parent x → ⊥).
        let c = w.cached.cached y b (sym (rest y ne np) ∙ held) in
        (c.0, taken_now.others y ne ∙ c.1, kept y ne np ∙ c.2))
        (same_entry y (parent x)))
        (same_entry y x);
    found = λ y f one. ⊎_elim
        (λ (here : y ≡ x). let n = found_now (sym taken_now.at ∙ ap next.at (sym here) ∙ one) in (n.0, ap dirty' here ∙ own ∙ n.1))
        (λ (ne : y ≡ x → ⊥).
        let was = w.cached.found y f (sym (taken_now.others y ne) ∙ one) in
        ⊎_elim
        (λ (up : y ≡ parent x).
        (patched (pointer x) v was.0, ap dirty' up ∙ patch ∙ ap (option_map (patched (pointer x) v)) (ap dirty (sym up) ∙ was.1)))
        (λ (np : y ≡ parent x → ⊥). (was.0, rest y ne np ∙ was.1))
        (same_entry y (parent x)))
        (same_entry y x);
  }

  settled_next : (y : Entry) → settled_at (next.at y) ≡ settled_at (w.memory.at y)
  settled_next = by_entry x (λ y. settled_at (next.at y) ≡ settled_at (w.memory.at y))
      (let a = taken_now.at in settled_low (next.at x) (omega arith) ∙ sym (settled_low (w.memory.at x) low))
      (λ y ne. ap settled_at (taken_now.others y ne))

  -- so the log runs on, with any log map of the same headers for which the memory is laid
  staged : (m' : LogMap) → ((n : ℕ) → m'.header n ≡ m.header n) → IsLaid d.content m' next seg → Running d dirty' t k m0 m' seg chunk
  unfolding next taken_memory
  staged m' headers laid = restaged d dirty dirty' t k m0 m m' seg chunk w headers next laid cached_now refl refl
      (λ y top. taken_now.others y (λ h. below (ap parent (sym h) ∙ top ∙ h)))
      settled_next
      (λ j. kept (Usage j) (λ h. usage_table j (subst IsOfFile (sym h) file)) (λ h. usage_table j (subst IsOfFile (sym h) parent_file)))

-- where memory says that there is none, there is none
nothing_at : (d : DeviceState) (dirty : Dirty) (t : Tables) (k : CheckpointValue) (m0 m : LogMap) (seg : ℕ) (chunk : Option (List Entry))
    (w : Running d dirty t k m0 m seg chunk)
    (x : Entry) → (parent x ≡ x → ⊥) → IsAtAddress dirty t x 0 → (w.memory.at x ≡ 0) × (w.memory.at (parent x) ≡ 1)
nothing_at d dirty t k m0 m seg chunk w x below at =
    let p = at.pointed below in
    let c = w.cached.cached (parent x) p.0 p.1 in
    let one = c.1 in (
      sym ((reading d.content m w.memory seg w.laid).pointer x below at.low (omega arith)) ∙ ap (λ (b : List ℕ). word b (pointer x)) c.2
          ∙ p.2,
      c.1,
    )

pub some_is : {X : Type 0} (a b : X) → Some a ≡ Some b → a ≡ b
some_is a b h = cc

pub block_adding : BlockAdding
unfolding next taken_memory
block_adding d dirty dirty' t k m0 m m' seg chunk n i bytes w at long map fetch =
    let x = Data n i in
    let none = nothing_at d dirty t k m0 m seg chunk w (Data n i) (data_below n i) at in
    staged d dirty dirty' t k m0 m seg chunk w (Data n i) (data_below n i) (n, refl) 1 (omega arith) bytes (Some bytes)
    (λ b h. (refl, some_is bytes b h)) (λ one. (bytes, refl)) (omega (arith, none.0)) none.1
    fetch.own (fetch.patched (data_below n i)) fetch.kept m' map.header
    (adding d.content m w.memory seg n i bytes m' _ w.laid
    (record {
      map = map;
      taken = taken_now d dirty dirty' t k m0 m seg chunk w (Data n i) (data_below n i) (n, refl) 1 (omega arith) bytes (Some bytes)
          (λ b h. (refl, some_is bytes b h)) (λ one. (bytes, refl)) (omega (arith, none.0)) none.1 fetch.own
          (fetch.patched (data_below n i)) fetch.kept;
      was = none.0;
      pointed = pointed_now d dirty dirty' t k m0 m seg chunk w (Data n i) (data_below n i) (n, refl) 1 (omega arith) bytes (Some bytes)
          (λ b h. (refl, some_is bytes b h)) (λ one. (bytes, refl)) (omega (arith, none.0)) none.1 fetch.own
          (fetch.patched (data_below n i)) fetch.kept;
      long = long;
      own = own_bytes d dirty dirty' t k m0 m seg chunk w (Data n i) (data_below n i) (n, refl) 1 (omega arith) bytes (Some bytes)
          (λ b h. (refl, some_is bytes b h)) (λ one. (bytes, refl)) (omega (arith, none.0)) none.1 fetch.own
          (fetch.patched (data_below n i)) fetch.kept;
    }))

pub pointers_growing : PointersGrowing
unfolding next taken_memory
pointers_growing d dirty dirty' t k m0 m seg chunk x bytes w is at long empty fetch =
    let below = pointers_below x is in
    let none = nothing_at d dirty t k m0 m seg chunk w x (pointers_below x is) at in
    let own = own_bytes d dirty dirty' t k m0 m seg chunk w x (pointers_below x is) (pointers_of_file x is) 1 (omega arith) bytes
    (Some bytes) (λ b h. (refl, some_is bytes b h)) (λ one. (bytes, refl)) (omega (arith, none.0)) none.1 fetch.own
    (fetch.patched (pointers_below x is)) fetch.kept in
    staged d dirty dirty' t k m0 m seg chunk w x (pointers_below x is) (pointers_of_file x is) 1 (omega arith) bytes (Some bytes)
    (λ b h. (refl, some_is bytes b h)) (λ one. (bytes, refl)) (omega (arith, none.0)) none.1
    fetch.own (fetch.patched (pointers_below x is)) fetch.kept m (λ n. refl)
    (growing d.content m w.memory seg x _ w.laid
    (record {
      pointers = is;
      taken = taken_now d dirty dirty' t k m0 m seg chunk w x (pointers_below x is) (pointers_of_file x is) 1 (omega arith) bytes
          (Some bytes) (λ b h. (refl, some_is bytes b h)) (λ one. (bytes, refl)) (omega (arith, none.0)) none.1 fetch.own
          (fetch.patched (pointers_below x is)) fetch.kept;
      was = none.0;
      low = at.low;
      pointed = pointed_now d dirty dirty' t k m0 m seg chunk w x (pointers_below x is) (pointers_of_file x is) 1 (omega arith) bytes
          (Some bytes) (λ b h. (refl, some_is bytes b h)) (λ one. (bytes, refl)) (omega (arith, none.0)) none.1 fetch.own
          (fetch.patched (pointers_below x is)) fetch.kept;
      long = ap length own ∙ long;
      empty = λ i lt. ap (λ (b : List ℕ). word b i) own ∙ empty i lt;
    }))

no_block : (w : ℕ) → ◌≡◌ {A = ℕ} 0 1 → (b : List ℕ) × (None ≡ Some b)
no_block w h = absurd (omega arith)

none_is : (bytes b : List ℕ) → None ≡ Some b → (◌≡◌ {A = ℕ} 0 1) × (bytes ≡ b)
none_is bytes b h = absurd (let bad : None ≡ Some b = h in cc)

pub block_removing : BlockRemoving
unfolding next taken_memory
block_removing d dirty dirty' t k m0 m m' seg chunk n i old w held map moves =
    let one = (w.cached.cached (Data n i) old held).1 in
    let above = w.laid.up (Data n i) (w.cached.cached (Data n i) old held).1 in
    staged d dirty dirty' t k m0 m seg chunk w (Data n i) (data_below n i) (n, refl) 0 (omega arith) old None (none_is old) (no_block 0)
    (omega (arith, one)) above
    moves.gone (moves.patched (data_below n i)) moves.kept m' map.header
    (removing d.content m w.memory seg n i m' _ w.laid
    (record {
      map = map;
      taken = taken_now d dirty dirty' t k m0 m seg chunk w (Data n i) (data_below n i) (n, refl) 0 (omega arith) old None (none_is old)
          (no_block 0) (omega (arith, one)) above moves.gone (moves.patched (data_below n i)) moves.kept;
      was = omega (arith, one);
      pointed = pointed_now d dirty dirty' t k m0 m seg chunk w (Data n i) (data_below n i) (n, refl) 0 (omega arith) old None (none_is old)
          (no_block 0) (omega (arith, one)) above moves.gone (moves.patched (data_below n i)) moves.kept;
    }))

pub pointers_shrinking : PointersShrinking
unfolding next taken_memory
pointers_shrinking d dirty dirty' t k m0 m seg chunk x bytes w is held empty moves =
    let c = w.cached.cached x bytes held in
    let one = c.1 in
    let above = w.laid.up x (w.cached.cached x bytes held).1 in
    staged d dirty dirty' t k m0 m seg chunk w x (pointers_below x is) (pointers_of_file x is) 0 (omega arith) bytes None (none_is bytes)
    (no_block 0) (omega (arith, one)) above
    moves.gone (moves.patched (pointers_below x is)) moves.kept m (λ n. refl)
    (shrinking d.content m w.memory seg x _ w.laid
    (record {
      pointers = is;
      taken = taken_now d dirty dirty' t k m0 m seg chunk w x (pointers_below x is) (pointers_of_file x is) 0 (omega arith) bytes None
          (none_is bytes) (no_block 0) (omega (arith, one)) above moves.gone (moves.patched (pointers_below x is)) moves.kept;
      was = c.1;
      pointed = pointed_now d dirty dirty' t k m0 m seg chunk w x (pointers_below x is) (pointers_of_file x is) 0 (omega arith) bytes None
          (none_is bytes) (no_block 0) (omega (arith, one)) above moves.gone (moves.patched (pointers_below x is)) moves.kept;
      empty = λ i lt. ap (λ (b : List ℕ). word b i) c.2 ∙ empty i lt;
    }))

-- ---- a data block in memory is another
module _ (d : DeviceState) (dirty dirty' : Dirty) (t : Tables) (k : CheckpointValue) (m0 m m' : LogMap) (seg : ℕ)
    (chunk : Option (List Entry)) (n i : ℕ) (old bytes : List ℕ)
    (w : Running d dirty t k m0 m seg chunk) (held : dirty (Data n i) ≡ Some old) (long : length bytes ≡ 512)
    (map : IsWithBlock m n i bytes m') (go : ChangesTo dirty dirty' (Data n i) (Some bytes)) where
  rewritten_bytes : Entry → List ℕ
  rewritten_bytes y = pick (same_entry y (Data n i)) bytes (w.memory.bytes y)

  rewritten_own : rewritten_bytes (Data n i) ≡ bytes
  unfolding rewritten_bytes
  rewritten_own = pick_yes (same_entry (Data n i) (Data n i)) bytes _ refl

  rewritten_kept : (y : Entry) → (y ≡ Data n i → ⊥) → rewritten_bytes y ≡ w.memory.bytes y
  unfolding rewritten_bytes
  rewritten_kept y ne = pick_no (same_entry y (Data n i)) bytes _ ne

  unfoldable rewritten : Memory
  rewritten = record { segments = w.memory.segments; at = w.memory.at; bytes = rewritten_bytes; rows = w.memory.rows }

  is_rewriting : IsRewriting m w.memory n i bytes m' rewritten
  unfolding rewritten
  is_rewriting = record {
    map = map;
    place = record { segments = refl; at = refl; rows = refl };
    was = (w.cached.cached (Data n i) old held).1;
    long = long;
    own = rewritten_own;
    kept = rewritten_kept;
  }

  rewritten_cached : IsCached dirty' rewritten
  unfolding rewritten
  rewritten_cached = record {
    cached = λ y b now. ⊎_elim
        (λ (here : y ≡ Data n i).
        let c = w.cached.cached (Data n i) old held in
        let same = some_is bytes b (sym go.own ∙ ap dirty' (sym here) ∙ now) in
        (subst IsOfFile (sym here) c.0, ap w.memory.at here ∙ c.1, ap rewritten_bytes here ∙ rewritten_own ∙ same))
        (λ (ne : y ≡ Data n i → ⊥). let c = w.cached.cached y b (sym (go.others y ne) ∙ now) in (c.0, c.1, rewritten_kept y ne ∙ c.2))
        (same_entry y (Data n i));
    found = λ y f one. ⊎_elim
        (λ (here : y ≡ Data n i). (bytes, ap dirty' here ∙ go.own))
        (λ (ne : y ≡ Data n i → ⊥). let p = w.cached.found y f one in (p.0, go.others y ne ∙ p.1))
        (same_entry y (Data n i));
  }

  block_rewritten : Running d dirty' t k m0 m' seg chunk
  unfolding rewritten
  block_rewritten = restaged d dirty dirty' t k m0 m m' seg chunk w map.header rewritten
      (rewriting d.content m w.memory seg n i bytes m' rewritten w.laid is_rewriting) rewritten_cached refl refl
      (λ y top. refl) (λ y. refl) (λ j. rewritten_kept (Usage j) (λ h. let bad : Usage j ≡ Data n i = h in absurd (cc)))

pub block_rewriting : BlockRewriting
block_rewriting d dirty dirty' t k m0 m m' seg chunk n i old bytes w held long map go =
    block_rewritten d dirty dirty' t k m0 m m' seg chunk n i old bytes w held long map go
