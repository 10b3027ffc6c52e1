-- The end of a commit: the checkpoint that leads to what is out, and the log that runs on from it.
use Rattle.std.proofs.Common.{◌≡◌, ◌<◌, ◌≤◌, ◌⊎◌, inl, inr, ⊎_elim, ◌+◌, ◌*◌, ◌/◌, ◌%◌, ◌^◌, ◌==◌, cond, eq-eqb, Bool, true, false, ℕ, zero}
use Rattle.std.proofs.Common.{suc, List, [], length, take, Some, None, refl, sym, ◌∙◌, ap, ap₂, subst, arith, length-set, get_or-set_other}
use Rattle.std.proofs.lemmas.Bool.{cases_eq, cases_lt, cond-true}
use Rattle.std.proofs.lemmas.List.{drop_all}
use Rattle.lfs_model.specs.Entry.{Entry, Data, Leaf, Double, Inode, Map, Usage, half, word}
use Rattle.lfs_model.specs.Checkpoint.{CheckpointValue, unit_sectors}
use Rattle.lfs_model.specs.Content.{Content, block}
use Rattle.lfs_model.specs.Device.{DeviceState, put, cell_at}
use Rattle.lfs_model.specs.Fields.{number_of, part, read16}
use Rattle.lfs_model.specs.Finishing.{shown_view, IsDone, IsReleasing}
use Rattle.lfs_model.specs.Laid.{IsLaid}
use Rattle.lfs_model.specs.Memory.{Memory, IsOfFile, is_shown, memory_view, live_of, held_of, used_of}
use Rattle.lfs_model.specs.Reach.{address, Row, View, view}
use Rattle.lfs_model.specs.Running.{Dirty, Tables, IsTables, IsCached, SpellsUsage, AreWhole, Running, used_saved, age_saved}
use Rattle.lfs_model.specs.Committing.{IsOut, ManyClean, LeadsTo, Planning, IsReleased, Resting}
use Rattle.lfs_model.specs.Settled.{IsSettled, IsFreeFrom}
use Rattle.lfs_model.specs.Stands.{LogMap, EnoughClean, used_in, live_in, age_in, is_clean, count_up}
use Rattle.lfs_model.specs.TreeOf.{dropped}
use Rattle.lfs_model.proofs.Encodes.{word_nil}
use Rattle.lfs_model.proofs.Finishing.{finishing, used_is}
use Rattle.lfs_model.proofs.Live.{count_up_same}
use Rattle.lfs_model.proofs.Reach.{block_same}
use Rattle.lfs_model.proofs.Segments.{releasing, no_row_live}
use Rattle.lfs_model.proofs.Tables.{row_kept}
use Rattle.lfs_model.proofs.Newest.{newest_few}
use Rattle.lfs_model.proofs.UnitSizes.{nothing_whole, saved_whole}

half_nil : (k : ℕ) → half [] k ≡ 0
unfolding half read16 part
half_nil k = ap (λ (b : List ℕ). number_of (take 2 b)) (drop_all (2 * k) [] (omega arith))

-- the checkpoint slots are no part of the log
pub laid_beside : (e : Content) (m : LogMap) (M : Memory) (o slot : ℕ) (bytes : List ℕ) → slot < 2 → IsLaid e m M o
    → IsLaid (put e slot bytes) m M o
laid_beside e m M o slot bytes low laid = record {
  size = let l = length-set e slot (Some bytes) in let s = laid.size in omega arith;
  few = laid.few;
  blocks = laid.blocks;
  inodes = laid.inodes;
  down = laid.down;
  low = laid.low;
  some = laid.some;
  up = laid.up;
  long = laid.long;
  spells = laid.spells;
  mapped = laid.mapped;
  usages = laid.usages;
  there = λ y le. block_same e (put e slot bytes) (M.at y) (λ lt. cells (M.at y) le) ∙ laid.there y le;
  within = laid.within;
  named = laid.named;
  short = laid.short;
  first = laid.first;
  sealed = λ s ne. row_kept e (put e slot bytes) s (M.rows s) (laid.short s) (length-set e slot (Some bytes))
      (λ q lt blank. cells (2 + 64 * s + q) (omega arith)) (laid.sealed s ne);
  past = laid.past;
}
  where
    cells : (a : ℕ) → 2 ≤ a → cell_at (put e slot bytes) a ≡ cell_at e a
    cells a le = get_or-set_other e slot a (Some bytes) None (λ h. omega arith)

module _ (e : Content) (m : LogMap) (M : Memory) (o : ℕ) (dirty : Dirty) (t : Tables) (k next : CheckpointValue) (laid : IsLaid e m M o)
    (closed : M.segments ≤ o) (same : M.segments ≡ k.segments)
    (cached : IsCached dirty M) (tables : IsTables t m M)
    (fresh : (j : ℕ) → t.stale j ≡ false → j < (k.segments + 63) / 64 → SpellsUsage t j (M.bytes (Usage j)))
    (whole : AreWhole k t o) (few : k.unit_power ≤ 6)
    (out : IsOut dirty t k.segments) (many : ManyClean t k.segments) (leads : LeadsTo t m.version k next) where
  none_left : (x : Entry) → M.at x ≡ 1 → ⊥
  none_left (Data n i) one = of_file (Data n i) (n, refl) one
    where
      of_file : (x : Entry) → IsOfFile x → M.at x ≡ 1 → ⊥
      of_file x f one = let b = cached.found x f one in let bad : None ≡ Some b.0 = sym (out.empty x) ∙ b.1 in absurd (cc)
  none_left (Leaf n q) one = let b = cached.found (Leaf n q) (n, refl) one in
      let bad : None ≡ Some b.0 = sym (out.empty (Leaf n q)) ∙ b.1 in absurd (cc)
  none_left (Double n) one = let b = cached.found (Double n) (n, refl) one in
      let bad : None ≡ Some b.0 = sym (out.empty (Double n)) ∙ b.1 in absurd (cc)
  none_left (Inode n) one = let b = cached.found (Inode n) (n, refl) one in let bad : None ≡ Some b.0 = sym (out.empty (Inode n)) ∙ b.1 in
      absurd (cc)
  none_left (Map j) one = out.maps j (sym (tables.at (Map j) refl) ∙ one)
  none_left (Usage j) one = out.usages j (sym (tables.at (Usage j) refl) ∙ one)

  blocks : ℕ
  blocks = (k.segments + 63) / 64

  -- a usage block of the volume says what the tables say
  usage_there : (j : ℕ) → j < (k.segments + 63) / 64 → SpellsUsage t j (block e (M.at (Usage j)))
  usage_there j lt =
      let some = (laid.usages j).0 (subst (λ (n : ℕ). j < (n + 63) / 64) (sym same) lt) in
      let none = none_left (Usage j) in
      let le : 2 ≤ M.at (Usage j) = omega arith in
      subst (SpellsUsage t j) (sym (laid.there (Usage j) le)) (fresh j (out.fresh j lt) lt)

  -- another is none
  usage_none : (j : ℕ) → (k.segments + 63) / 64 ≤ j → block e (M.at (Usage j)) ≡ []
  usage_none j ge = ap (block e) (zero_at (M.at (Usage j)) (λ lt. let b = (laid.usages j).1 lt in let s = same in omega arith))
    where
      zero_at : (a : ℕ) → (0 < a → ⊥) → a ≡ 0
      zero_at a none = omega arith

  lives_past : (s : ℕ) → k.segments ≤ s → t.live s ≡ 0
  lives_past s le = tables.live s ∙ no_row_live (memory_view (is_shown m) M) s (ap Some (laid.past s (omega arith)))

  split : (s : ℕ) → 64 * (s / 64) + s % 64 ≡ s
  split s = omega arith

  saved_past : (f : ℕ → ℕ) (s : ℕ) → k.segments ≤ s → cond (t.live s == 0) 0 (f s) ≡ 0
  saved_past f s le = cond-true (t.live s == 0) 0 (f s) (eq-eqb (t.live s) 0 (lives_past s le))

  V : View
  V = shown_view e m M next

  used_said : (s : ℕ) → used_in (shown_view e m M next) s ≡ used_saved t s
  used_said s = ⊎_elim
      (λ (low : s / 64 < (k.segments + 63) / 64). (usage_there (s / 64) low).used (s % 64) (omega arith) ∙ ap (used_saved t) (split s))
      (λ (high : (k.segments + 63) / 64 ≤ s / 64). ap (λ (b : List ℕ). half b (4 * (s % 64))) (usage_none (s / 64) high)
      ∙ half_nil (4 * (s % 64)) ∙ sym (saved_past t.used s (omega arith)))
      (cases_lt (s / 64) ((k.segments + 63) / 64))

  live_said : (s : ℕ) → live_in (shown_view e m M next) s ≡ t.live s
  live_said s = ⊎_elim
      (λ (low : s / 64 < (k.segments + 63) / 64). (usage_there (s / 64) low).live (s % 64) (omega arith) ∙ ap t.live (split s))
      (λ (high : (k.segments + 63) / 64 ≤ s / 64). ap (λ (b : List ℕ). half b (4 * (s % 64) + 1)) (usage_none (s / 64) high)
      ∙ half_nil (4 * (s % 64) + 1) ∙ sym (lives_past s (omega arith)))
      (cases_lt (s / 64) ((k.segments + 63) / 64))

  age_said : (s : ℕ) → age_in (shown_view e m M next) s ≡ age_saved t s
  age_said s = ⊎_elim
      (λ (low : s / 64 < (k.segments + 63) / 64). (usage_there (s / 64) low).age (s % 64) (omega arith) ∙ ap (age_saved t) (split s))
      (λ (high : (k.segments + 63) / 64 ≤ s / 64). ap (λ (b : List ℕ). word b (2 * (s % 64) + 1)) (usage_none (s / 64) high)
      ∙ word_nil (2 * (s % 64) + 1) ∙ sym (saved_past t.age s (omega arith)))
      (cases_lt (s / 64) ((k.segments + 63) / 64))

  used_tables : (s : ℕ) → used_saved t s ≡ used_of m M s
  used_tables s = ap₂ (λ (l u : ℕ). cond (l == 0) 0 u) (tables.live s) (tables.used s)

  enough : EnoughClean (shown_view e m M next)
  enough =
      let counts = count_up_same (is_clean (shown_view e m M next)) (λ s. used_saved t s == 0) k.segments
      (λ s lt. ap (λ (n : ℕ). n == 0) (used_said s)) in
      subst (λ (n : ℕ). n ≤ 8 * count_up (is_clean (shown_view e m M next)) n) (sym leads.segments)
      (let c = counts in let y = many in omega arith)

  pub out_done : IsDone e m M o next
  out_done = record {
    none = none_left;
    closed = closed;
    segments = leads.segments ∙ sym same;
    version = leads.same;
    map = λ j. tables.at (Map j) refl ∙ sym (leads.map j);
    usage = λ j. tables.at (Usage j) refl ∙ sym (leads.usage j);
    long = λ j lt.
        let b = (laid.usages j).1 lt in
        let none = none_left (Usage j) in
        let low = subst (λ (n : ℕ). j < (n + 63) / 64) same b in
        (fresh j (out.fresh j low) low).long;
    used = λ s. used_said s ∙ used_tables s;
    whole = λ s lt.
        let low : s < k.segments = let n = leads.segments in omega arith in
        let saved = saved_whole (t.live s == 0) (t.used s) k.unit_power few
        (whole s low (λ h. let c = closed in let n = same in omega arith)) in
        ap₂ (λ (n p : ℕ). n % 2 ^ p) (sym (used_tables s)) leads.unit ∙ saved;
    live = λ s. live_said s ∙ tables.live s;
    age = λ s le. age_said s ∙ saved_past t.age s (omega arith);
    clean = enough;
  }

pub planning : Planning
planning d dirty t k next m0 m none slot bytes w formed out many leads spelt place = record {
  place = place;
  ready = record {
    number = leads.number;
    last = leads.last;
    spelt = spelt;
    stands = finishing d.content m w.memory none next formed w.laid
        (out_done d.content m w.memory none dirty t k next w.laid w.opened w.segments w.cached w.tables w.fresh w.whole
        (newest_few d.content k w.settled.newest) out many leads);
  };
}

module _ (d d' : DeviceState) (dirty : Dirty) (t t' : Tables) (k next : CheckpointValue) (m0 m : LogMap) (none slot : ℕ) (bytes : List ℕ)
    (w : Running d dirty t k m0 m none None) (out : IsOut dirty t k.segments) (many : ManyClean t k.segments)
    (leads : LeadsTo t m.version k next) (low : slot < 2) (is : d'.content ≡ put d.content slot bytes)
    (settled : IsSettled d' next (dropped m)) (go : IsReleased t t') where
  laid_now : IsLaid d'.content m w.memory none
  laid_now = subst (λ (c : Content). IsLaid c m w.memory none) (sym is) (laid_beside d.content m w.memory none slot bytes low w.laid)

  done_now : IsDone d'.content m w.memory none next
  done_now = out_done d'.content m w.memory none dirty t k next laid_now w.opened w.segments w.cached w.tables w.fresh w.whole
      (newest_few d.content k w.settled.newest) out many leads

  by_count : ℕ → ℕ → Row → Row
  by_count zero zero r = []
  by_count zero (suc h) r = r
  by_count (suc l) h r = r

  released : Memory
  released = record {
    segments = w.memory.segments;
    at = w.memory.at;
    bytes = w.memory.bytes;
    rows = λ s. by_count (live_of m w.memory s) (held_of m w.memory s) (w.memory.rows s);
  }

  is_gone : (l h : ℕ) (r : Row) → l ≡ 0 → h ≡ 0 → by_count l h r ≡ []
  unfolding by_count
  is_gone zero zero r a b = refl
  is_gone zero (suc h) r a b = absurd (omega arith)
  is_gone (suc l) h r a b = absurd (omega arith)

  is_kept : (l h : ℕ) (r : Row) → (0 < l) ⊎ (0 < h) → by_count l h r ≡ r
  unfolding by_count
  is_kept zero zero r some = ⊎_elim (λ lt. absurd (omega (arith, lt))) (λ lt. absurd (omega (arith, lt))) some
  is_kept zero (suc h) r some = refl
  is_kept (suc l) h r some = refl

  is_releasing : IsReleasing m w.memory released
  unfolding released
  is_releasing = record {
    segments = refl;
    at = refl;
    bytes = refl;
    gone = λ s l h. is_gone (live_of m w.memory s) (held_of m w.memory s) (w.memory.rows s) l h;
    kept = λ s some. is_kept (live_of m w.memory s) (held_of m w.memory s) (w.memory.rows s) some;
  }

  laid_released : IsLaid d'.content m released none × ((s : ℕ) → live_of m released s ≡ live_of m w.memory s)
      × ((s : ℕ) → held_of m released s ≡ held_of m w.memory s)
  laid_released = releasing d'.content m w.memory released none laid_now w.opened is_releasing

  by_case : (s : ℕ) (P : Type 0) → (t.live s ≡ 0 → t.held s ≡ 0 → P) → ((0 < t.live s) ⊎ (0 < t.held s) → P) → P
  by_case s P gone some = ⊎_elim
      (λ (l : t.live s ≡ 0).
      ⊎_elim (λ (h : t.held s ≡ 0). gone l h) (λ (h : t.held s ≡ 0 → ⊥). some (inr (omega arith))) (cases_eq (t.held s) 0))
      (λ (l : t.live s ≡ 0 → ⊥). some (inl (omega arith)))
      (cases_eq (t.live s) 0)

  some_there : (s : ℕ) → (0 < t.live s) ⊎ (0 < t.held s) → (0 < live_of m w.memory s) ⊎ (0 < held_of m w.memory s)
  some_there s some =
      ⊎_elim (λ lt. inl (subst (λ (n : ℕ). 0 < n) (w.tables.live s) lt)) (λ lt. inr (subst (λ (n : ℕ). 0 < n) (w.tables.held s) lt)) some

  used_now : (s : ℕ) → t'.used s ≡ length (released.rows s)
  used_now s = by_case s (t'.used s ≡ length (released.rows s))
      (λ l h. go.gone s l h ∙ sym (ap length (is_releasing.gone s (sym (w.tables.live s) ∙ l) (sym (w.tables.held s) ∙ h))))
      (λ some. go.used s some ∙ w.tables.used s ∙ sym (ap length (is_releasing.kept s (some_there s some))))

  -- what the usage table says stays right
  saved_same : (f g : ℕ → ℕ) → ((s : ℕ) → 0 < t.live s → f s ≡ g s) → (s : ℕ) → cond (t.live s == 0) 0 (f s) ≡ cond (t'.live s == 0) 0 (g s)
  saved_same f g same s = ⊎_elim
      (λ (z : t.live s ≡ 0). cond-true (t.live s == 0) 0 (f s) (eq-eqb (t.live s) 0 z)
      ∙ sym (cond-true (t'.live s == 0) 0 (g s) (eq-eqb (t'.live s) 0 (go.live s ∙ z))))
      (λ (ne : t.live s ≡ 0 → ⊥). ap₂ (λ (l u : ℕ). cond (l == 0) 0 u) (sym (go.live s)) (same s (omega arith)))
      (cases_eq (t.live s) 0)

  usage_now : (j : ℕ) (b : List ℕ) → SpellsUsage t j b → SpellsUsage t' j b
  usage_now j b is = record {
    long = is.long;
    used = λ i lt. is.used i lt ∙ saved_same t.used t'.used (λ s some. sym (go.used s (inl some))) (64 * j + i);
    live = λ i lt. is.live i lt ∙ sym (go.live (64 * j + i));
    age = λ i lt. is.age i lt ∙ saved_same t.age t'.age (λ s some. sym (go.age s some)) (64 * j + i);
  }

  -- the checkpoint needs no more of a segment than is in use
  kept_now : (s : ℕ) → IsFreeFrom d'.content next s (t'.kept s)
  unfolding address
  kept_now s =
      let said =
      used_said d'.content m w.memory none dirty t k next laid_now w.opened w.segments w.cached w.tables w.fresh w.whole
      (newest_few d.content k w.settled.newest) out many leads s in
      let same : used_in (view d'.content next) s ≡ cond (t'.live s == 0) 0 (t'.used s) = viewed s ∙ said
      ∙ saved_same t.used t'.used (λ s some. sym (go.used s (inl some))) s in
      let most = no_more (t'.live s == 0) (t'.used s) in
      let k = go.kept s in
      omega arith
    where
      no_more : (b : Bool) (u : ℕ) → cond {A = ℕ} b 0 u ≤ u
      no_more true u = omega arith
      no_more false u = omega arith

      viewed : (s : ℕ) → used_in (view d'.content next) s ≡ used_in (shown_view d'.content m w.memory next) s
      viewed s = used_is d'.content m w.memory none next laid_now done_now s

  whole_now : AreWhole next t' none
  whole_now s low away =
      let there : s < k.segments = let n = leads.segments in omega arith in
      by_case s (t'.used s % unit_sectors next ≡ 0)
      (λ l h. ap₂ (λ (n p : ℕ). n % 2 ^ p) (go.gone s l h) leads.unit
      ∙ nothing_whole k.unit_power (newest_few d.content k w.settled.newest))
      (λ some. ap₂ (λ (n p : ℕ). n % 2 ^ p) (go.used s some) leads.unit ∙ w.whole s there away)

  rested : Running d' dirty t' next (dropped m) m none None
  unfolding released
  rested = record {
    memory = released;
    laid = laid_released.0;
    segments = w.segments ∙ sym leads.segments;
    settled = settled;
    cached = record { cached = w.cached.cached; found = w.cached.found };
    tables = record {
      at = λ x top. w.tables.at x top ∙ sym (go.at x);
      used = used_now;
      live = λ s. go.live s ∙ w.tables.live s ∙ sym (laid_released.1 s);
      held = λ s. go.held s ∙ w.tables.held s ∙ sym (laid_released.2 s);
    };
    fresh = λ j off lt. usage_now j (w.memory.bytes (Usage j))
        (w.fresh j (sym (go.stale j) ∙ off) (subst (λ (n : ℕ). j < (n + 63) / 64) leads.segments lt));
    part = λ s. let e = go.kept s in omega arith;
    whole = whole_now;
    kept = λ s lt. kept_now s;
    opened = w.opened;
  }

pub resting : Resting
resting d d' dirty t t' k next m0 m none slot bytes w out many leads low is settled go =
    rested d d' dirty t t' k next m0 m none slot bytes w out many leads low is settled go
