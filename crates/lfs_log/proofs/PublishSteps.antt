-- The end of a commit: what its device calls leave of the log.
use Rattle.std.proofs.Common.{◌≡◌, ◌<◌, ◌≤◌, ◌⊎◌, inl, ⊎_elim, ◌+◌, ◌*◌, ◌/◌, ◌%◌, ◌==◌, ◌&&◌, cond, eq-eqb, eqb-true, Bool, true, false, ℕ}
use Rattle.std.proofs.Common.{List, [], length, get_or, None, refl, sym, ◌∙◌, ap, arith}
use Rattle.std.proofs.lemmas.Bool.{cases_eq, cases_lt, cond-true, cond-false, false_from_ne_true}
use Rattle.std.proofs.lemmas.List.{get_or_past}
use Rattle.lfs_model.specs.Entry.{Inode, Map, Usage}
use Rattle.lfs_model.specs.Checkpoint.{CheckpointValue, checkpoint_sector, is_last, shape_of}
use Rattle.lfs_model.specs.Content.{Content}
use Rattle.lfs_model.specs.Crash.{StandsForOn}
use Rattle.lfs_model.specs.Device.{AllLeft, Carries, ComesFrom, DeviceState, IsLawful, LeavesOnly, MayWriteUnit, Only}
use Rattle.lfs_model.specs.Device.{put}
use Rattle.lfs_model.specs.Stands.{LogMap, count_up}
use Rattle.lfs_model.specs.TreeOf.{dropped}
use Rattle.lfs_model.specs.Memory.{Memory, is_shown}
use Rattle.lfs_model.specs.Laid.{IsLaid}
use Rattle.lfs_model.specs.Settled.{IsPlanned}
use Rattle.lfs_model.specs.Running.{Running}
use Rattle.lfs_model.specs.Committing.{IsOut, ManyClean, LeadsTo, IsReleased}
use Rattle.lfs_model.proofs.Decoding.{checkpoint_some}
use Rattle.lfs_model.proofs.Leaving.{staying}
use Rattle.lfs_model.proofs.Moments.{carries_then, started, goes_on, joined}
use Rattle.lfs_model.proofs.Publishing.{planning, resting}
use Rattle.lfs_model.proofs.Settled.{settled_stands, settled_still, slot_torn, acknowledged}
use Rattle.lfs_memory.specs.segments.Table.{SegmentNumbers, PlaceInSegment, UsageTable, no_segment, no_place, used_of, live_of, held_of}
use Rattle.lfs_memory.specs.segments.Table.{address_of}
use Rattle.lfs_memory.specs.segments.Steps.{Releases, is_empty}
use Rattle.lfs_memory.specs.segments.Spare.{spare_in}
use Rattle.lfs_memory.specs.inodes.Blocks.{Blocks, blocks_in, blocks_of}
use Rattle.lfs_memory.specs.declared.memory.LogMemory.{LogMemory}
use Rattle.lfs_memory.specs.Memory.{tables_of, segment_in, chunk_in, IsMemory, IsLog}
use Rattle.lfs_log.specs.Publishing.{Syncs, IsAllOut, IsNext, IsAcknowledged, Publishes, PublishFails}
use Rattle.lfs_memory.proofs.Opened.{closed_segment, closed_chunk, as_chunk}
use Rattle.lfs_log.proofs.UsageWrites.{table_same}

-- ---- counts
many_clean : (t : UsageTable) {n : ℕ} → length t.segments ≡ n → length t.segments ≤ 8 * spare_in t.segments
    → n ≤ 8 * count_up (λ s. cond (live_of t s == 0) 0 (used_of t s) == 0) n
unfolding spare_in
many_clean t same many = rw (← same) many

-- ---- what a release does
both_zero : {l h : ℕ} → l ≡ 0 → h ≡ 0 → ((l == 0) && (h == 0)) ≡ true
both_zero {l} {h} a b = and_true (l == 0) (h == 0) (eq-eqb l 0 a) (eq-eqb h 0 b)
  where
    and_true : (a b : Bool) → a ≡ true → b ≡ true → (a && b) ≡ true
    and_true true true p q = refl
    and_true true false p q = q
    and_true false b p q = p

some_left : (l h : ℕ) → (0 < l) ⊎ (0 < h) → ((l == 0) && (h == 0)) ≡ false
some_left l h some =
    false_from_ne_true ((l == 0) && (h == 0)) (λ both. let z = and_both (l == 0) (h == 0) both in let a = eqb-true l 0 z.0 in
    let b = eqb-true h 0 z.1 in ⊎_elim (λ (lt : 0 < l). absurd (omega arith)) (λ (lt : 0 < h). absurd (omega arith)) some)
  where
    and_both : (a b : Bool) → (a && b) ≡ true → (a ≡ true) × (b ≡ true)
    and_both true true e = (refl, refl)
    and_both true false e = (refl, e)
    and_both false b e = let bad : false ≡ true = e in absurd (cc)

module _ (v : LogMemory) (u : UsageTable) (go : Releases v.usage u) where
  places_same : {X : Type 0} (f : PlaceInSegment → X) (i : ℕ) → f (get_or u.blocks i no_place) ≡ f (get_or v.usage.blocks i no_place)
  places_same f i = ap (λ (x : List PlaceInSegment). f (get_or x i no_place)) go.blocks

  pub is_released : IsReleased (tables_of v) (tables_of (record v { usage = u }))
  is_released = record {
    at = table_same v.map v.usage u (places_same (λ b. b.address));
    gone = λ s l h. ap (λ (n : SegmentNumbers). n.used) (go.each s) ∙ cond-true (is_empty (get_or v.usage.segments s no_segment)) 0
        (used_of v.usage s) (both_zero l h);
    used = λ s some. ap (λ (n : SegmentNumbers). n.used) (go.each s) ∙ cond-false (is_empty (get_or v.usage.segments s no_segment)) 0
        (used_of v.usage s) (some_left (live_of v.usage s) (held_of v.usage s) some);
    live = λ s. ap (λ (n : SegmentNumbers). n.live) (go.each s);
    held = λ s. ap (λ (n : SegmentNumbers). n.held) (go.each s);
    age = λ s some. ap (λ (n : SegmentNumbers). n.age) (go.each s);
    kept = λ s. ap (λ (n : SegmentNumbers). n.kept) (go.each s) ∙ sym (ap (λ (n : SegmentNumbers). n.used) (go.each s));
    stale = places_same (λ b. b.stale);
  }

  pub released_memory : IsMemory v → v.chunk.names ≡ [] → IsMemory (record v { usage = u })
  released_memory good none = record {
    count = rw go.size good.count;
    opened = λ some. let e = ap length none in absurd (omega arith);
    short = good.short;
    usages = λ j one. places_same (λ b. b.stale) j ∙ good.usages j (sym (places_same (λ b. b.address) j) ∙ one);
    few = let few = good.few in let size = go.size in omega (arith, few, size);
    unit = omega (arith, good.unit, go.unit);
  }

-- ---- addresses past the last block of a table
least_shown : (b : Bool) (a : ℕ) → 0 < cond b a 0 → 0 < a
least_shown true a lt = lt
least_shown false a lt = absurd (omega arith)

map_past : {e : Content} (m : LogMap) (M : Memory) {o : ℕ} (j : ℕ) → IsLaid e m M o → (M.at (Map j) ≡ 1 → ⊥) → 32 ≤ j → M.at (Map j) ≡ 0
map_past m M j laid settled ge = ⊎_elim
    (λ (low : M.at (Map j) < 2). omega arith)
    (λ (high : 2 ≤ M.at (Map j)).
    let b = laid.mapped j settled in
    let p = b.some high in
    let word = b.spells high p.0 p.1 in
    let lt = p.2 in
    let there : 0 < M.at (Inode (128 * j + p.0)) =
    least_shown (is_shown m (Inode (128 * j + p.0))) (M.at (Inode (128 * j + p.0))) (omega arith) in
    let file = (laid.spells (Inode (128 * j + p.0)) there).formed in
    let own = file.own in
    let most = file.fits.number.1 in
    absurd (omega arith))
    (cases_lt (M.at (Map j)) 2)

usage_past : {e : Content} (m : LogMap) (M : Memory) {o : ℕ} (j : ℕ) → IsLaid e m M o → 16 ≤ j → M.at (Usage j) ≡ 0
usage_past m M j laid ge = ⊎_elim
    (λ (none : M.at (Usage j) ≡ 0). none)
    (λ (some : M.at (Usage j) ≡ 0 → ⊥).
    let low = (laid.usages j).1 (omega arith) in
    let few = laid.few in
    absurd (omega arith))
    (cases_eq (M.at (Usage j)) 0)

-- an array of addresses, which has all that there are
array_is : (xs : List ℕ) (n : ℕ) {f : ℕ → ℕ} → length xs ≡ n → ((j : ℕ) → j < n → get_or xs j 0 ≡ f j) → ((j : ℕ) → n ≤ j → f j ≡ 0)
    → (j : ℕ) → get_or xs j 0 ≡ f j
array_is xs n long inside past j = ⊎_elim
    (λ (lt : j < n). inside j lt)
    (λ (ge : n ≤ j). get_or_past xs j 0 (omega arith) ∙ sym (past j ge))
    (cases_lt j n)

-- ---- the sync
module _ (d d1 : DeviceState) (v : LogMemory) (version number : ℕ) (lawful : IsLawful d) (syncs : Syncs d d1) where
  synced : (k : CheckpointValue) (m0 m : LogMap) → IsLog d v k m0 m → IsLog d1 v k m0 m
  synced k m0 m log = record {
    running = staying d d1 _ (tables_of v) k m0 m (segment_in v.chunk) (chunk_in v.chunk) log.running syncs.untouched syncs.carries.unit;
    hidden = log.hidden;
    segments = log.segments;
    unit = log.unit;
    tight = log.tight;
  }

  sync_left : (k : CheckpointValue) (m0 : LogMap) {m : LogMap} → IsLog d v k m0 m → AllLeft d1 (StandsForOn (shape_of k) m0 (dropped m))
  sync_left k m0 log c left =
      inl (settled_stands d1 k m0 (settled_still d d1 k m0 log.running.settled syncs.untouched syncs.carries.unit) c left)

  sync_moment : (k : CheckpointValue) (m0 m : LogMap) → IsLog d v k m0 m → LeavesOnly d d1 (StandsForOn (shape_of k) m0 (dropped m))
  sync_moment k m0 m log =
      goes_on _ (started _ lawful
      (λ c left. inl (settled_stands d k m0 log.running.settled c left))) syncs.carries syncs.time (sync_left k m0 log)

  pub sync_fails : d.failed_orders < d1.failed_orders → PublishFails d d1 v version number
  sync_fails failed = record {
    carries = syncs.carries;
    failed = failed;
    left = λ k m0 m keeps is. sync_left k m0 is.log;
    moment = λ k m0 m keeps is. sync_moment k m0 m is.log;
  }

  -- ---- the next checkpoint
  module _ (d2 : DeviceState) (next : CheckpointValue) (good : IsMemory v) (out : IsAllOut v) (is : IsNext v version number next)
      (only : d1.keeps_model → Only d1.content d1) (unfailed : d1.failures ≡ d.failures)
      (moment : LeavesOnly d1 d2 (ComesFrom d1 (MayWriteUnit d1.unit (next.number % 2) (checkpoint_sector next))))
      (left : AllLeft d2 (ComesFrom d1 (MayWriteUnit d1.unit (next.number % 2) (checkpoint_sector next)))) (more : Carries d1 d2) where
    no_chunk : length v.chunk.names ≡ 0
    no_chunk = ap length out.chunk

    module _ (k : CheckpointValue) (m0 m : LogMap) (held : IsAcknowledged d v version number k m0 m) where
      running : Running d1 (blocks_of v.dirty) (tables_of v) k m0 m 1024 None
      running = as_chunk (closed_segment v.chunk no_chunk) (closed_chunk v.chunk no_chunk) (synced k m0 m held.log).running

      log : Running d (blocks_of v.dirty) (tables_of v) k m0 m (segment_in v.chunk) (chunk_in v.chunk)
      log = held.log.running

      all_out : IsOut (blocks_of v.dirty) (tables_of v) k.segments
      all_out = record {
        empty = λ x. ap (λ (es : Blocks). blocks_in es x) out.dirty;
        maps = out.maps;
        usages = λ j one. ⊎_elim
            (λ (low : j < (length v.usage.segments + 63) / 64). let bad : true ≡ false = sym (good.usages j one) ∙ out.fresh j low in
            absurd (cc))
            (λ (high : (length v.usage.segments + 63) / 64 ≤ j).
            let at : log.memory.at (Usage j) ≡ address_of v.usage j = log.tables.at (Usage j) refl in
            let some : 0 < log.memory.at (Usage j) = omega (arith, at, one) in
            let low = (log.laid.usages j).1 some in
            let size = log.segments in
            let count = held.log.segments in
            absurd (omega (arith, low, high, size, count)))
            (cases_lt j ((length v.usage.segments + 63) / 64));
        fresh = λ j lt. out.fresh j (rw held.log.segments lt);
      }

      many : ManyClean (tables_of v) k.segments
      many = many_clean v.usage held.log.segments out.many

      leads : LeadsTo (tables_of v) m.version k next
      leads = record {
        number = is.number ∙ ap (λ (n : ℕ). n + 1) (sym held.same);
        segments = is.segments ∙ held.log.segments;
        same = is.same_version ∙ sym held.same_version;
        last = ap is_last is.same_version ∙ sym held.fits.last;
        unit = is.unit (omega (arith, held.log.unit, held.fits.unit)) ∙ held.log.unit;
        map = array_is next.map 32 is.fits.map_length is.map
            (λ j ge. let at = running.tables.at (Map j) refl in
            sym at ∙ map_past m running.memory j running.laid (λ one. out.maps j (sym at ∙ one)) ge);
        usage = array_is next.usage 16 is.fits.usage_length is.usage
            (λ j ge. sym (running.tables.at (Usage j) refl) ∙ usage_past m running.memory j running.laid ge);
      }

      same : shape_of next ≡ shape_of k
      same i = record { segments = leads.segments i; unit_power = leads.unit i; last = leads.last i }

      planned : IsPlanned k d1.content (next.number % 2) (checkpoint_sector next) next (dropped m)
      planned = planning d1 (blocks_of v.dirty) (tables_of v) k next m0 m 1024 (next.number % 2)
          (checkpoint_sector next) running held.map all_out many leads (checkpoint_some _ next is.fits refl) refl

      torn : d2.keeps_model → (c : Content) → ComesFrom d1 (MayWriteUnit d1.unit (next.number % 2) (checkpoint_sector next)) c
          → StandsForOn (shape_of k) m0 (dropped m) c
      torn keeps c from =
          slot_torn d1 (record d1 { may_leave = ComesFrom d1 (MayWriteUnit d1.unit (next.number % 2) (checkpoint_sector next)) })
          k next m0 (dropped m)
          (next.number % 2) (checkpoint_sector next) running.settled planned
          same (only (more.kept_before keeps)) (λ c f. f) c from

      either : d2.keeps_model → LeavesOnly d d2 (StandsForOn (shape_of k) m0 (dropped m))
      either keeps =
          joined _ _ _ (sync_moment k m0 m held.log) moment (λ c s. s) (torn keeps)

    pub replace_fails : d1.failed_orders < d2.failed_orders → PublishFails d d2 v version number
    replace_fails failed = record {
      carries = carries_then syncs.carries more;
      failed = (let before = syncs.carries.failed_orders in omega (arith, failed, before));
      left = λ k m0 m keeps held c l. torn k m0 m held keeps c (left c l);
      moment = λ k m0 m keeps held. either k m0 m held keeps;
    }

    module _ {u : UsageTable} (go : Releases v.usage u) (content : d2.keeps_model
        → d2.content ≡ put d1.content (next.number % 2) (checkpoint_sector next)) (durable : d2.keeps_model → Only d2.content d2)
        (same_failures : d2.failures ≡ d1.failures) where
      rested : (k : CheckpointValue) (m0 m : LogMap) → d2.keeps_model → IsAcknowledged d v version number k m0 m
          → IsLog d2 (record v { usage = u }) next (dropped m) m
      rested k m0 m keeps held =
          let settled = acknowledged d1 d2 k next m0 (dropped m) (next.number % 2) (checkpoint_sector next) (running k m0 m held).settled
          (planned k m0 m held) (leads k m0 m held).unit (content keeps) (durable keeps) more.unit in
          let r = resting d1 d2 (blocks_of v.dirty) (tables_of v) (tables_of (record v { usage = u })) k next m0 m 1024 (next.number % 2)
          (checkpoint_sector next) (running k m0 m held) (all_out k m0 m held) (many k m0 m held) (leads k m0 m held)
          (omega arith) (content keeps) settled (is_released v u go) in
          record {
            running = as_chunk (sym (closed_segment v.chunk no_chunk)) (sym (closed_chunk v.chunk no_chunk)) r;
            hidden = held.log.hidden;
            segments = go.size ∙ sym is.segments;
            unit = go.unit ∙ sym (is.unit (omega (arith, held.log.unit, held.fits.unit)));
            tight = held.log.tight;
          }

      pub published : Publishes d d2 v (record v { usage = u }) version number
      published = record {
        carries = carries_then syncs.carries more;
        memory = released_memory v u go good out.chunk;
        segments = go.size;
        released = go;
        no_failure = same_failures ∙ unfailed;
        log = λ k m0 m keeps held. (next, is.number, rested k m0 m keeps held, same k m0 m held);
        moment = λ k m0 m keeps held. either k m0 m held keeps;
      }
