-- The other steps of a commit: segments opened and sealed, blocks of the tables that leave their places or are written.
use Rattle.std.proofs.Common.{◌≡◌, ◌<◌, ◌≤◌, ⊎_elim, ◌+◌, ◌*◌, ◌-◌, ◌/◌, ◌%◌, ◌==◌, cond, eq-eqb, true, false, ℕ, suc, List, [], ◌∷◌, ◌++◌}
use Rattle.std.proofs.Common.{map, length, get_or, length-set, length-append, get_or-set_other, Option, Some, None, refl, sym, ◌∙◌, ap, ap₂}
use Rattle.std.proofs.Common.{subst, arith}
use Rattle.std.proofs.lemmas.Bool.{cases_eq, cond-true}
use Rattle.std.proofs.lemmas.List.{get_or_append_left}
use Rattle.lfs_model.specs.Entry.{Entry, Inode, Map, Usage}
use Rattle.lfs_model.specs.Checkpoint.{CheckpointValue, unit_sectors}
use Rattle.lfs_model.specs.Content.{Content}
use Rattle.lfs_model.specs.Crash.{IsFreeSector}
use Rattle.lfs_model.specs.Device.{DeviceState, put, left_new}
use Rattle.lfs_model.specs.Reach.{Row, row_by, view}
use Rattle.lfs_model.specs.Stands.{LogMap, used_in}
use Rattle.lfs_model.specs.Memory.{Memory, IsOfFile, is_shown, is_held, memory_view}
use Rattle.lfs_model.specs.Laid.{IsLaid}
use Rattle.lfs_model.specs.Placing.{IsFilling, IsOpening, IsReopening}
use Rattle.lfs_model.specs.Lifting.{IsTaken}
use Rattle.lfs_model.specs.Counting.{segment_of}
use Rattle.lfs_model.specs.Settled.{IsSettled, IsFreeFrom}
use Rattle.lfs_model.specs.Running.{Dirty, Tables, IsCached, SpellsUsage, IsOpenAt, Running, IsLifted, IsTakenFrom, GoesOnIn, IsFresh}
use Rattle.lfs_model.specs.Committing.{IsWritten, IsUnkept, Beginning, BeginningTo, GoingOn, GoingOnTo, MapDropping, UsageLeaving}
use Rattle.lfs_model.specs.Committing.{UsageFilling, Closing, ClosingTo, Staying, StayingTo}
use Rattle.lfs_model.proofs.Entries.{same_entry}
use Rattle.lfs_model.proofs.Counting.{unplaced_counts}
use Rattle.lfs_model.proofs.Outgoing.{map_leaving, usage_lifting, filling}
use Rattle.lfs_model.proofs.Segments.{opening, reopening, sealing, no_row_live}
use Rattle.lfs_model.proofs.Tables.{map_table, usage_table, empty_row, row_kept}
use Rattle.lfs_model.proofs.UnitWrites.{to_unit}
use Rattle.lfs_model.proofs.Settled.{settled_write, settled_still}
use Rattle.lfs_model.proofs.Running.{pick, pick_yes, pick_no, taken_memory, is_taken, addressed, lifted_tables, lifted_fresh, usage_kept}
use Rattle.lfs_model.proofs.Running.{row_length, part_same, whole_same, whole_begun, kept_same, open_same}

-- ---- a clean segment is opened
module _ (d : DeviceState) (dirty : Dirty) (t t' : Tables) (k : CheckpointValue) (m0 m : LogMap) (none s : ℕ)
    (w : Running d dirty t k m0 m none None) (inside : s < k.segments) (go : IsTakenFrom t t' s) where
  opened_memory : Memory
  opened_memory = record {
    segments = w.memory.segments;
    at = w.memory.at;
    bytes = w.memory.bytes;
    rows = λ i. pick (cases_eq i s) (None ∷ []) (w.memory.rows i);
  }

  nothing : (r : Row) → length r ≡ 0 → r ≡ []
  nothing [] z = refl
  nothing (x ∷ r) z = absurd (omega arith)

  is_opening : IsOpening w.memory s opened_memory
  unfolding opened_memory
  is_opening = record {
    segments = refl;
    inside = let n = w.segments in omega arith;
    at = refl;
    bytes = refl;
    none = nothing (w.memory.rows s) (sym (w.tables.used s) ∙ go.clean);
    row = pick_yes (cases_eq s s) (None ∷ []) (w.memory.rows s) refl;
    rows = λ i ne. pick_no (cases_eq i s) (None ∷ []) (w.memory.rows i) ne;
  }

  begun : Running d dirty t' k m0 m s (Some [])
  unfolding opened_memory
  begun =
      let o = opening d.content m w.memory none s opened_memory w.laid w.opened is_opening in
      record {
        memory = opened_memory;
        laid = o.0;
        segments = w.segments;
        settled = w.settled;
        cached = record { cached = w.cached.cached; found = w.cached.found };
        tables = record {
          at = λ x top. w.tables.at x top ∙ sym (go.at x);
          used = λ i. ⊎_elim
              (λ (here : i ≡ s). ap t'.used here ∙ go.used.own ∙ sym (ap length is_opening.row)
              ∙ ap (λ (i : ℕ). length (opened_memory.rows i)) (sym here))
              (λ (away : i ≡ s → ⊥). go.used.others i away ∙ w.tables.used i ∙ sym (ap length (is_opening.rows i away)))
              (cases_eq i s);
          live = λ i. go.live i ∙ w.tables.live i ∙ sym (o.1 (is_shown m) i);
          held = λ i. go.held i ∙ w.tables.held i ∙ sym (o.1 (is_held m) i);
        };
        fresh = λ j off low. usage_taken j (w.memory.bytes (Usage j)) (w.fresh j (sym (go.stale j) ∙ off) low);
        part = part_now;
        whole = whole_begun k t t' none s 1 (let p = w.opened in let n = w.segments in omega arith) go.used w.whole;
        kept = kept_same d.content k t t' go.kept w.kept;
        opened = record {
          inside = is_opening.inside;
          before = [];
          row = is_opening.row;
          sealed = empty_row d.content s;
          free = let a = go.kept s in let p = w.part s in let z = go.clean in omega arith;
        };
      }
    where
      part_now : (i : ℕ) → t'.kept i ≤ t'.used i
      part_now i =
          let a = go.kept i in
          let p = w.part i in
          ⊎_elim
          (λ (here : i ≡ s). let u = go.used.own in let v = ap t'.used here in let o = ap t.used here in let z = go.clean in omega arith)
          (λ (away : i ≡ s → ⊥). let u = go.used.others i away in omega arith)
          (cases_eq i s)

      -- nothing lives in s, so what is saved of it stays 0
      nothing_lives : t.live s ≡ 0
      nothing_lives = w.tables.live s ∙ no_row_live (memory_view (is_shown m) w.memory) s (ap Some is_opening.none)

      usage_taken : (j : ℕ) (b : List ℕ) → SpellsUsage t j b → SpellsUsage t' j b
      usage_taken j b is = record {
        long = is.long;
        used = λ i low. is.used i low ∙ saved t.used t'.used (λ i ne. sym (go.used.others i ne)) (64 * j + i);
        live = λ i low. is.live i low ∙ sym (go.live (64 * j + i));
        age = λ i low. is.age i low ∙ saved t.age t'.age (λ i ne. sym (go.age i ne)) (64 * j + i);
      }
        where
          saved : (f g : ℕ → ℕ) → ((i : ℕ) → (i ≡ s → ⊥) → f i ≡ g i) → (i : ℕ)
              → cond (t.live i == 0) 0 (f i) ≡ cond (t'.live i == 0) 0 (g i)
          saved f g same i = ⊎_elim
              (λ (here : i ≡ s).
              let z : t.live i ≡ 0 = ap t.live here ∙ nothing_lives in
              cond-true (t.live i == 0) 0 (f i) (eq-eqb (t.live i) 0 z)
              ∙ sym (cond-true (t'.live i == 0) 0 (g i) (eq-eqb (t'.live i) 0 (go.live i ∙ z))))
              (λ (away : i ≡ s → ⊥). ap₂ (λ (l u : ℕ). cond (l == 0) 0 u) (sym (go.live i)) (same i away))
              (cases_eq i s)

  begun_at : (y : Entry) → begun.memory.at y ≡ w.memory.at y
  unfolding begun opened_memory
  begun_at y = refl

pub beginning : Beginning
beginning d dirty t t' k m0 m none s w inside go = begun d dirty t t' k m0 m none s w inside go

pub beginning_to : BeginningTo
beginning_to d dirty t t' k m0 m none s w inside go =
    (begun d dirty t t' k m0 m none s w inside go, begun_at d dirty t t' k m0 m none s w inside go)

-- ---- a chunk more begins in a segment with room
module _ (d : DeviceState) (dirty : Dirty) (t t' : Tables) (k : CheckpointValue) (m0 m : LogMap) (none s : ℕ)
    (w : Running d dirty t k m0 m none None) (inside : s < k.segments) (go : GoesOnIn t t' s) where
  reopened_memory : Memory
  reopened_memory = record {
    segments = w.memory.segments;
    at = w.memory.at;
    bytes = w.memory.bytes;
    rows = λ i. pick (cases_eq i s) (w.memory.rows s ++ None ∷ []) (w.memory.rows i);
  }

  is_reopening : IsReopening w.memory s reopened_memory
  unfolding reopened_memory
  is_reopening = record {
    segments = refl;
    inside = let n = w.segments in omega arith;
    at = refl;
    bytes = refl;
    some = let u = w.tables.used s in let b = go.some in omega arith;
    room = let u = w.tables.used s in let b = go.room in omega arith;
    row = pick_yes (cases_eq s s) (w.memory.rows s ++ None ∷ []) (w.memory.rows s) refl;
    rows = λ i ne. pick_no (cases_eq i s) (w.memory.rows s ++ None ∷ []) (w.memory.rows i) ne;
  }

  long_now : length (reopened_memory.rows s) ≡ suc (t.used s)
  long_now = let u = w.tables.used s in let l = ap length is_reopening.row ∙ length-append (w.memory.rows s) (None ∷ []) in omega arith

  gone_on : Running d dirty t' k m0 m s (Some [])
  unfolding reopened_memory
  gone_on =
      let o = reopening d.content m w.memory none s reopened_memory w.laid w.opened is_reopening in
      record {
        memory = reopened_memory;
        laid = o.0;
        segments = w.segments;
        settled = w.settled;
        cached = record { cached = w.cached.cached; found = w.cached.found };
        tables = record {
          at = λ x top. w.tables.at x top ∙ sym (go.at x);
          used = λ i. ⊎_elim
              (λ (here : i ≡ s). ap t'.used here ∙ go.used.own ∙ sym long_now ∙ ap (λ (i : ℕ). length (reopened_memory.rows i)) (sym here))
              (λ (away : i ≡ s → ⊥). go.used.others i away ∙ w.tables.used i ∙ sym (ap length (is_reopening.rows i away)))
              (cases_eq i s);
          live = λ i. go.live i ∙ w.tables.live i ∙ sym (o.1 (is_shown m) i);
          held = λ i. go.held i ∙ w.tables.held i ∙ sym (o.1 (is_held m) i);
        };
        fresh = λ j off low. usage_other j off low;
        part = part_now;
        whole = whole_begun k t t' none s (suc (t.used s)) (let p = w.opened in let n = w.segments in omega arith) go.used w.whole;
        kept = kept_same d.content k t t' go.kept w.kept;
        opened = record {
          inside = is_reopening.inside;
          before = w.memory.rows s;
          row = is_reopening.row;
          sealed = w.laid.sealed s (let n = w.segments in let p = w.opened in omega arith);
          free = let a = go.kept s in let p = w.part s in let u = w.tables.used s in omega arith;
        };
      }
    where
      part_now : (i : ℕ) → t'.kept i ≤ t'.used i
      part_now i =
          let a = go.kept i in
          let p = w.part i in
          ⊎_elim
          (λ (here : i ≡ s). let u = go.used.own in let v = ap t'.used here in let o = ap t.used here in omega arith)
          (λ (away : i ≡ s → ⊥). let u = go.used.others i away in omega arith)
          (cases_eq i s)

      -- a usage block that isn't stale says nothing of s
      usage_other : (j : ℕ) → t'.stale j ≡ false → j < (k.segments + 63) / 64 → SpellsUsage t' j (w.memory.bytes (Usage j))
      usage_other j off low =
          let away : j ≡ s / 64 → ⊥ = λ h. let bad : true ≡ false = sym go.stale.own ∙ ap t'.stale (sym h) ∙ off in absurd (cc) in
          let other : (i : ℕ) → i < 64 → 64 * j + i ≡ s → ⊥ = λ i lt h. away (omega arith) in
          usage_kept t t' j (w.memory.bytes (Usage j))
          (λ i lt. (go.used.others (64 * j + i) (other i lt), go.live (64 * j + i), go.age (64 * j + i) (other i lt)))
          (w.fresh j (sym (go.stale.others j away) ∙ off) low)

  gone_on_at : (y : Entry) → gone_on.memory.at y ≡ w.memory.at y
  unfolding gone_on reopened_memory
  gone_on_at y = refl

pub going_on : GoingOn
going_on d dirty t t' k m0 m none s w inside go = gone_on d dirty t t' k m0 m none s w inside go

pub going_on_to : GoingOnTo
going_on_to d dirty t t' k m0 m none s w inside go =
    (gone_on d dirty t t' k m0 m none s w inside go, gone_on_at d dirty t t' k m0 m none s w inside go)

-- ---- blocks of the tables leave their places
module _ (d : DeviceState) {dirty : Dirty} {t : Tables} (t' : Tables) (k : CheckpointValue) {m0 : LogMap} (m : LogMap) {seg : ℕ}
    {chunk : Option (List Entry)}
    (w : Running d dirty t k m0 m seg chunk)
    (x : Entry) (table : IsOfFile x → ⊥) (v : ℕ) (least : v ≤ 1) where
  unfoldable pub left_memory : Memory
  left_memory = taken_memory w.memory x v w.memory.bytes

  pub left_taken : IsTaken w.memory x v left_memory
  unfolding left_memory
  left_taken = is_taken w.memory x v w.memory.bytes least

  pub left_cached : IsCached dirty left_memory
  unfolding left_memory taken_memory
  left_cached = record {
    cached = λ y b is. let c = w.cached.cached y b is in (c.0, left_taken.others y (other y c.0) ∙ c.1, c.2);
    found = λ y f one. w.cached.found y f (sym (left_taken.others y (other y f)) ∙ one);
  }
    where
      other : (y : Entry) → IsOfFile y → y ≡ x → ⊥
      other y f h = table (subst IsOfFile h f)

  pub still_open : (c : Option (List Entry)) → IsOpenAt d.content w.memory t seg c → ((s : ℕ) → t'.kept s ≡ t.kept s)
      → IsOpenAt d.content left_memory t' seg c
  unfolding left_memory taken_memory
  still_open c is same = open_same d.content w.memory left_memory t t' seg c refl refl same is

pub map_dropping : MapDropping
unfolding left_memory taken_memory
map_dropping d dirty t t' k m0 m seg chunk j w one none go =
    let M' = left_memory d t' k m w (Map j) (map_table j) 0 (omega arith) in
    let p = left_taken d t' k m w (Map j) (map_table j) 0 (omega arith) in
    let was : w.memory.at (Map j) ≡ 1 = w.tables.at (Map j) refl ∙ one in
    let counts = unplaced_counts d.content m w.memory seg (Map j) 0
    (left_memory d t' k m w (Map j) (map_table j) 0 (omega arith)) w.laid (omega (arith, was)) p in
    record {
      memory = left_memory d t' k m w (Map j) (map_table j) 0 (omega arith);
      laid =
          map_leaving d.content m w.memory seg j (left_memory d t' k m w (Map j) (map_table j) 0 (omega arith)) w.laid (record {
            was = was;
            none = λ i low. ap (λ (a : ℕ). cond (is_shown m (Inode (128 * j + i))) a 0) (w.tables.at (Inode (128 * j + i)) refl)
                ∙ none i low;
            segments = refl;
            at = p.at;
            others = p.others;
            bytes = refl;
            rows = refl;
          });
      segments = w.segments;
      settled = w.settled;
      cached = left_cached d t' k m w (Map j) (map_table j) 0 (omega arith);
      tables = record {
        at = addressed t t' (Map j) 0 w.memory (left_memory d t' k m w (Map j) (map_table j) 0 (omega arith)) go.at
            p.at p.others w.tables.at;
        used = λ s. go.used s ∙ w.tables.used s;
        live = λ s. go.live s ∙ w.tables.live s ∙ sym (counts (is_shown m) s);
        held = λ s. go.held s ∙ w.tables.held s ∙ sym (counts (is_held m) s);
      };
      fresh = λ i off low. usage_kept t t' i (w.memory.bytes (Usage i))
          (λ q lt. (go.used (64 * i + q), go.live (64 * i + q), go.age (64 * i + q))) (w.fresh i (sym (go.stale i) ∙ off) low);
      part = part_same t t' go.used go.kept w.part;
      whole = whole_same k t t' seg go.used w.whole;
      kept = kept_same d.content k t t' go.kept w.kept;
      opened = still_open d t' k m w (Map j) (map_table j) 0 (omega arith) chunk w.opened go.kept;
    }

pub usage_leaving : UsageLeaving
unfolding left_memory taken_memory
usage_leaving d dirty t t' k m0 m seg chunk j w above old go =
    let p = left_taken d t' k m w (Usage j) (usage_table j) 1 (omega arith) in
    let same : w.memory.at (Usage j) ≡ t.at (Usage j) = w.tables.at (Usage j) refl in
    let was : 2 ≤ w.memory.at (Usage j) = omega arith in
    record {
      memory = left_memory d t' k m w (Usage j) (usage_table j) 1 (omega arith);
      laid = usage_lifting d.content m w.memory seg j (left_memory d t' k m w (Usage j) (usage_table j) 1
          (omega arith)) w.laid (record { taken = p; was = was; bytes = refl });
      segments = w.segments;
      settled = w.settled;
      cached = left_cached d t' k m w (Usage j) (usage_table j) 1 (omega arith);
      tables = lifted_tables d.content m w.memory seg (Usage j) 1
          (left_memory d t' k m w (Usage j) (usage_table j) 1 (omega arith)) t t' w.laid was p w.tables
          (subst (λ (a : ℕ). IsLifted m t t' (Usage j) 1 (segment_of a)) (sym same) go);
      fresh = λ i off low. let no = lifted_fresh m t t' (Usage j) 1 go i off in
          no.1 (w.memory.bytes (Usage i)) (w.fresh i no.0 low);
      part = part_same t t' go.used go.kept w.part;
      whole = whole_same k t t' seg go.used w.whole;
      kept = kept_same d.content k t t' go.kept w.kept;
      opened = still_open d t' k m w (Usage j) (usage_table j) 1 (omega arith) chunk w.opened go.kept;
    }

-- ---- the content changes where k has no use for it
module _ (d d' : DeviceState) (dirty : Dirty) (t : Tables) (k : CheckpointValue) (m0 m : LogMap) (seg : ℕ) (chunk : Option (List Entry))
    (w : Running d dirty t k m0 m seg chunk)
    (s o : ℕ) (below : s < k.segments) (on : t.kept s ≤ o) (within : o < 64) (bytes : List ℕ)
    (is : IsWritten d d' (2 + 64 * s + o) bytes) where
  taken_free : IsFreeSector d.content k (2 + 64 * s + o)
  taken_free = record { segment = s; place = o; is = refl; within = within; below = below; unused = let u = w.kept s below in omega arith }

  taken_settled : IsSettled d' k m0 × ((s : ℕ) → used_in (view d'.content k) s ≡ used_in (view d.content k) s)
  taken_settled = settled_write d d' k m0 (2 + 64 * s + o) bytes w.settled taken_free
      (to_unit d.unit _ bytes d.content d'.content (left_new is.content)) is.crash is.unit

module _ (d d' : DeviceState) (dirty : Dirty) (t t' : Tables) (k : CheckpointValue) (m0 m : LogMap) (seg : ℕ) (chunk : Option (List Entry))
    (j : ℕ) (bytes : List ℕ)
    (w : Running d dirty t k m0 m seg chunk) (above : 2 ≤ t.at (Usage j)) (on : IsUnkept t (t.at (Usage j)))
    (spells : SpellsUsage t j bytes)
    (is : IsWritten d d' (t.at (Usage j)) bytes) (go : IsFresh t t' j) where
  fill_bytes : Entry → List ℕ
  fill_bytes y = pick (same_entry y (Usage j)) bytes (w.memory.bytes y)

  fill_memory : Memory
  fill_memory = record { segments = w.memory.segments; at = w.memory.at; bytes = fill_bytes; rows = w.memory.rows }

  fill_own : fill_bytes (Usage j) ≡ bytes
  unfolding fill_bytes
  fill_own = pick_yes (same_entry (Usage j) (Usage j)) bytes (w.memory.bytes (Usage j)) refl

  fill_kept : (y : Entry) → (y ≡ Usage j → ⊥) → fill_bytes y ≡ w.memory.bytes y
  unfolding fill_bytes
  fill_kept y ne = pick_no (same_entry y (Usage j)) bytes (w.memory.bytes y) ne

  same_at : w.memory.at (Usage j) ≡ t.at (Usage j)
  same_at = w.tables.at (Usage j) refl

  is_filling : IsFilling w.memory j bytes fill_memory
  unfolding fill_memory
  is_filling = record { was = let s = same_at in omega arith; segments = refl; at = refl; own = fill_own; kept = fill_kept; rows = refl }

  split : t.at (Usage j) ≡ 2 + 64 * segment_of (t.at (Usage j)) + (t.at (Usage j) - 2) % 64
  split = omega arith

  filled_settled : IsSettled d' k m0 × ((s : ℕ) → used_in (view d'.content k) s ≡ used_in (view d.content k) s)
  filled_settled = taken_settled d d' dirty t k m0 m seg chunk w (segment_of (t.at (Usage j))) ((t.at (Usage j) - 2) % 64) below_all on
      (omega arith) bytes
      (subst (λ (a : ℕ). IsWritten d d' a bytes) split is)
    where
      below_all : segment_of (t.at (Usage j)) < k.segments
      below_all = let s = same_at in let n = w.segments in let i = w.laid.within (Usage j) (omega arith) in omega arith

  -- the chunks before the open one stay sealed, for none of their summaries stands there
  fill_sealed : (before behind : Row) → w.memory.rows seg ≡ before ++ behind → row_by d.content (length before) seg ≡ Some before
      → row_by d'.content (length before) seg ≡ Some before
  fill_sealed before behind row sealed =
      let whole = ap length row ∙ length-append before behind in
      let few = w.laid.short seg in
      subst (λ (c : Content). row_by c (length before) seg ≡ Some before) (sym is.content)
      (row_kept d.content (put d.content (t.at (Usage j)) bytes) seg before (omega arith)
      (length-set d.content (t.at (Usage j)) (Some bytes))
      (λ q lt blank. get_or-set_other d.content (t.at (Usage j)) (2 + 64 * seg + q) (Some bytes) None
      (λ here. labelled q (omega arith) lt blank here)) sealed)
    where
      labelled : (q : ℕ) → q < 64 → q < length before → get_or before q None ≡ None → 2 + 64 * seg + q ≡ t.at (Usage j) → ⊥
      labelled q low lt blank here =
          let s = same_at in
          let es : (w.memory.at (Usage j) - 2) / 64 ≡ seg = omega arith in
          let eq : (w.memory.at (Usage j) - 2) % 64 ≡ q = omega arith in
          let named = w.laid.named (Usage j) (omega arith) in
          let one : get_or (w.memory.rows seg) q None ≡ Some (Usage j) = sym (ap₂ (λ (s o : ℕ). get_or (w.memory.rows s) o None) es eq)
          ∙ named in
          let two : get_or (w.memory.rows seg) q None ≡ None = ap (λ (r : Row). get_or r q None) row
          ∙ get_or_append_left before behind None q lt ∙ blank in
          let bad : None ≡ Some (Usage j) = sym two ∙ one in
          absurd (cc)

  fill_open : (c : Option (List Entry)) → IsOpenAt d.content w.memory t seg c → IsOpenAt d'.content fill_memory t' seg c
  unfolding fill_memory
  fill_open None is = is
  fill_open (Some es) is = record {
    inside = is.inside;
    before = is.before;
    row = is.row;
    sealed = fill_sealed is.before (None ∷ map Some es) is.row is.sealed;
    free = let a = go.kept seg in let b = is.free in omega arith;
  }

  file_other : (y : Entry) → IsOfFile y → y ≡ Usage j → ⊥
  file_other y f h = usage_table j (subst IsOfFile h f)

  numbers : (i : ℕ) (b : List ℕ) → SpellsUsage t i b → SpellsUsage t' i b
  numbers i b = usage_kept t t' i b (λ q lt. (go.used (64 * i + q), go.live (64 * i + q), go.age (64 * i + q)))

  filled_now : Running d' dirty t' k m0 m seg chunk
  unfolding fill_memory
  filled_now = record {
    memory = fill_memory;
    laid = subst (λ (c : Content). IsLaid c m fill_memory seg) (sym (is.content ∙ ap (λ (a : ℕ). put d.content a bytes) (sym same_at)))
        (filling d.content m w.memory seg j bytes fill_memory w.laid is_filling);
    segments = w.segments;
    settled = filled_settled.0;
    cached = record {
      cached = λ y b held. let c = w.cached.cached y b held in (c.0, c.1, fill_kept y (file_other y c.0) ∙ c.2);
      found = w.cached.found;
    };
    tables = record {
      at = λ x top. w.tables.at x top ∙ sym (go.at x);
      used = λ s. go.used s ∙ w.tables.used s;
      live = λ s. go.live s ∙ w.tables.live s;
      held = λ s. go.held s ∙ w.tables.held s;
    };
    fresh = λ i off low. ⊎_elim
        (λ (here : i ≡ j). subst (λ (i : ℕ). SpellsUsage t' i (fill_bytes (Usage i))) (sym here)
        (subst (SpellsUsage t' j) (sym fill_own) (numbers j bytes spells)))
        (λ (away : i ≡ j → ⊥).
        let ne : Usage i ≡ Usage j → ⊥ = λ h. away (cc) in
        subst (SpellsUsage t' i) (sym (fill_kept (Usage i) ne))
        (numbers i (w.memory.bytes (Usage i)) (w.fresh i (sym (go.stale.others i away) ∙ off) low)))
        (cases_eq i j);
    part = part_same t t' go.used go.kept w.part;
    whole = whole_same k t t' seg go.used w.whole;
    kept = λ s low. let a = filled_settled.1 s in let b = w.kept s low in let c = go.kept s in omega arith;
    opened = fill_open chunk w.opened;
  }

pub usage_filling : UsageFilling
usage_filling d d' dirty t t' k m0 m seg chunk j bytes w above on spells is go =
    filled_now d d' dirty t t' k m0 m seg chunk j bytes w above on spells is go

pub closing : Closing
closing d d' dirty t k m0 m seg start es bytes none w long ends spelt is past =
    let inside : seg < w.memory.segments = w.opened.inside in
    let whole = row_length (w.memory.rows seg) w.opened.before es w.opened.row in
    let used = w.tables.used seg in
    let few = w.laid.short seg in
    let e : start ≡ length w.opened.before = omega arith in
    let n = w.segments in
    let free = w.opened.free in
    let s = taken_settled d d' dirty t k m0 m seg (Some es) w seg start (omega arith) (omega arith) (omega arith) bytes is in
    record {
      memory = w.memory;
      laid = subst (λ (c : Content). IsLaid c m w.memory none) (sym (is.content ∙ ap (λ (o : ℕ). put d.content (2 + 64 * seg + o) bytes) e))
          (sealing d.content m w.memory seg w.opened.before bytes es w.laid inside w.opened.row w.opened.sealed spelt none (omega arith));
      segments = w.segments;
      settled = s.0;
      cached = w.cached;
      tables = w.tables;
      fresh = w.fresh;
      part = w.part;
      whole = λ i low away. ⊎_elim
          (λ (here : i ≡ seg). ap (λ (i : ℕ). t.used i % unit_sectors k) here ∙ ends)
          (λ (other : i ≡ seg → ⊥). w.whole i low other)
          (cases_eq i seg);
      kept = λ i low. let a = s.1 i in let b = w.kept i low in omega arith;
      opened = omega arith;
    }

pub closing_to : ClosingTo
unfolding closing
closing_to d d' dirty t k m0 m seg start es bytes none w long ends spelt is past =
    (closing d d' dirty t k m0 m seg start es bytes none w long ends spelt is past, λ y. refl)

pub staying : Staying
staying d d' dirty t k m0 m seg chunk w same unit = record {
  memory = w.memory;
  laid = subst (λ (c : Content). IsLaid c m w.memory seg) (sym same.content) w.laid;
  segments = w.segments;
  settled = settled_still d d' k m0 w.settled same unit;
  cached = w.cached;
  tables = w.tables;
  fresh = w.fresh;
  part = w.part;
  whole = w.whole;
  kept = λ i low. subst (λ (c : Content). IsFreeFrom c k i (t.kept i)) (sym same.content) (w.kept i low);
  opened = subst (λ (c : Content). IsOpenAt c w.memory t seg chunk) (sym same.content) w.opened;
}

pub staying_to : StayingTo
unfolding staying
staying_to d d' dirty t k m0 m seg chunk w same unit = (staying d d' dirty t k m0 m seg chunk w same unit, λ y. refl)
