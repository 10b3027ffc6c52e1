-- Entries of a file go, as the log runs.
use Rattle.std.proofs.Common.{◌≡◌, ◌<◌, ⊎_elim, ◌+◌, ◌*◌, ◌/◌, cond, ℕ, Bool, true, false, List, Option, Some, None, refl, sym, ◌∙◌, ap}
use Rattle.std.proofs.Common.{subst, arith}
use Rattle.std.proofs.lemmas.Bool.{cases_eq, cases_Bool, cond-true, cond-false}
use Rattle.lfs_model.specs.Checkpoint.{CheckpointValue}
use Rattle.lfs_model.specs.Detaching.{IsCut, IsWithout, IsCleared, IsDetaching, Detaches, IsDetachedFrom, FileCutting}
use Rattle.lfs_model.specs.Device.{DeviceState}
use Rattle.lfs_model.specs.Encodes.{HasInode}
use Rattle.lfs_model.specs.Entry.{Entry, Inode, Map, Usage}
use Rattle.lfs_model.specs.Laid.{IsLaid}
use Rattle.lfs_model.specs.Memory.{Memory, parent, file_of, is_nameless, live_of, held_of, count_of}
use Rattle.lfs_model.specs.Running.{Dirty, Tables, IsTables, IsCached, SpellsUsage, Running}
use Rattle.lfs_model.specs.Stands.{LogMap}
use Rattle.lfs_model.proofs.Detaching.{of_file_or_not, detaching}
use Rattle.lfs_model.proofs.DetachedCounts.{detached_live}
use Rattle.lfs_model.proofs.Running.{usage_kept, part_same, whole_same, kept_same, open_same}
use Rattle.lfs_model.proofs.Tables.{usage_table}

-- ---- usage blocks stay right where counts change only in those that are stale
pub counts_fresh : (t t' : Tables) (counts : ℕ → ℕ) → ((s : ℕ) → counts s ≡ 0 → t'.live s ≡ t.live s) → ((s : ℕ) → t'.used s ≡ t.used s)
    → ((s : ℕ) → t'.age s ≡ t.age s)
    → ((s : ℕ) → 0 < counts s → t'.stale (s / 64) ≡ true) → (j : ℕ) → t'.stale j ≡ false → (b : List ℕ) → SpellsUsage t j b
    → SpellsUsage t' j b
counts_fresh t t' counts live used age changed j off b =
    usage_kept t t' j b (λ i lt. (used (64 * j + i), live (64 * j + i) (no_count i lt), age (64 * j + i)))
  where
    no_count : (i : ℕ) → i < 64 → counts (64 * j + i) ≡ 0
    no_count i lt = ⊎_elim
        (λ (z : counts (64 * j + i) ≡ 0). z)
        (λ (some : counts (64 * j + i) ≡ 0 → ⊥).
        let e : (64 * j + i) / 64 ≡ j = omega arith in
        let on : t'.stale ((64 * j + i) / 64) ≡ true = changed (64 * j + i) (omega arith) in
        let bad : true ≡ false = sym on ∙ ap t'.stale e ∙ off in
        absurd (cc))
        (cases_eq (counts (64 * j + i)) 0)

module _ (d : DeviceState) (dirty dirty' : Dirty) (t t' : Tables) (k : CheckpointValue) (m0 m m' : LogMap) (seg : ℕ)
    (chunk : Option (List Entry)) (n : ℕ) (gone : Entry → Bool) (counts : ℕ → ℕ)
    (w : Running d dirty t k m0 m seg chunk) (cut : IsCut n gone)
    (above : (x : Entry) → gone x ≡ true → 0 < w.memory.at x → (parent x ≡ x → ⊥) → gone (parent x) ≡ false → w.memory.at (parent x) ≡ 1)
    (mapped : gone (Inode n) ≡ true → HasInode m n → is_nameless m n ≡ false → t.at (Map (n / 128)) ≡ 1)
    (counted : (s : ℕ) → counts s ≡ count_of gone w.memory s) (map : IsWithout m n gone m') (go : Detaches dirty dirty' n gone)
    (less : IsDetachedFrom m t t' n gone counts) where
  bytes_of_next : Entry → Option (List ℕ) → List ℕ
  bytes_of_next x None = w.memory.bytes x
  bytes_of_next x (Some b) = b

  bytes_next : Entry → List ℕ
  bytes_next x = bytes_of_next x (dirty' x)

  -- memory without them
  unfoldable next : Memory
  next = record { segments = w.memory.segments; at = λ x. cond (gone x) 0 (w.memory.at x); bytes = bytes_next; rows = w.memory.rows }

  in_memory : (x : Entry) (b : List ℕ) → dirty' x ≡ Some b → bytes_next x ≡ b
  unfolding bytes_next bytes_of_next
  in_memory x b is = ap (bytes_of_next x) is

  out_of_memory : (x : Entry) → dirty' x ≡ None → bytes_next x ≡ w.memory.bytes x
  unfolding bytes_next bytes_of_next
  out_of_memory x is = ap (bytes_of_next x) is

  by_dirty : (P : Type 0) (x : Entry) → (dirty x ≡ None → P) → ((b : List ℕ) → dirty x ≡ Some b → P) → P
  by_dirty P x none some = cases (dirty x) refl
    where
      cases : (o : Option (List ℕ)) → dirty x ≡ o → P
      cases None is = none is
      cases (Some b) is = some b is

  not_there : (x : Entry) → (w.memory.at x ≡ 1 → ⊥) → dirty x ≡ None
  not_there x ne = by_dirty _ x (λ is. is) (λ b is. absurd (ne (w.cached.cached x b is).1))

  bytes_other : (x : Entry) → (file_of x ≡ Some n → w.memory.at x ≡ 1 → ⊥) → bytes_next x ≡ w.memory.bytes x
  bytes_other x not_cleared = ⊎_elim
      (λ (own : file_of x ≡ Some n). out_of_memory x (go.absent x (not_there x (not_cleared own))))
      (λ (out : file_of x ≡ Some n → ⊥). by_dirty _ x
      (λ is. out_of_memory x (go.absent x is))
      (λ b is. in_memory x b (go.kept x out ∙ is) ∙ sym (w.cached.cached x b is).2))
      (of_file_or_not n x)

  -- what is in memory of the file, and what becomes of it
  cleared_now : (x : Entry) → gone x ≡ false → file_of x ≡ Some n → w.memory.at x ≡ 1 → IsCleared gone x (w.memory.bytes x) (bytes_next x)
  cleared_now x off own one =
      let p = w.cached.found x (n, own) one in
      let c = go.cleared x p.0 off own p.1 in
      subst (λ (b : List ℕ). IsCleared gone x b (bytes_next x)) (sym (w.cached.cached x p.0 p.1).2)
      (subst (λ (b : List ℕ). IsCleared gone x p.0 b) (sym (in_memory x c.0 c.1)) c.2)

  is_detaching : IsDetaching m w.memory n gone m' next
  unfolding next
  is_detaching = record {
    map = map;
    cut = cut;
    above = above;
    mapped = λ whole has named. w.tables.at (Map (n / 128)) refl ∙ mapped whole has named;
    segments = refl;
    none = λ x on. cond-true (gone x) 0 (w.memory.at x) on;
    others = λ x off. cond-false (gone x) 0 (w.memory.at x) off;
    cleared = cleared_now;
    kept = λ x off not_cleared. bytes_other x not_cleared;
    rows = refl;
  }

  laid_now : IsLaid d.content m' next seg
  laid_now = detaching d.content m w.memory seg n gone m' next w.laid is_detaching

  by_gone : (P : Type 0) (x : Entry) → (gone x ≡ true → P) → (gone x ≡ false → P) → P
  by_gone P x on off = ⊎_elim on off (cases_Bool (gone x))

  cached_now : IsCached dirty' next
  unfolding next
  cached_now = record {
    cached = λ x b held. by_gone _ x
        (λ on. let bad : None ≡ Some b = sym (go.none x on) ∙ held in absurd (cc))
        (λ off. by_dirty _ x
        (λ none. let bad : None ≡ Some b = sym (go.absent x none) ∙ held in absurd (cc))
        (λ a is. let c = w.cached.cached x a is in (c.0, is_detaching.others x off ∙ c.1, in_memory x b held)));
    found = λ x f one. by_gone _ x
        (λ on. let z = is_detaching.none x on in absurd (omega arith))
        (λ off.
        let p = w.cached.found x f (sym (is_detaching.others x off) ∙ one) in
        ⊎_elim
        (λ (own : file_of x ≡ Some n). let c = go.cleared x p.0 off own p.1 in (c.0, c.1))
        (λ (out : file_of x ≡ Some n → ⊥). (p.0, go.kept x out ∙ p.1))
        (of_file_or_not n x));
  }

  -- ---- counts
  by_name : (P : Type 0) → (is_nameless m n ≡ false → P) → (is_nameless m n ≡ true → P) → P
  by_name P named nameless = ⊎_elim nameless named (cases_Bool (is_nameless m n))

  live_now : (s : ℕ) → t'.live s ≡ live_of m' next s
  live_now s =
      let c = counted s in
      let was = w.tables.live s in
      by_name _
      (λ named. let l = (less.named named s).0 in
      let r = ((detached_live d.content m w.memory seg n gone m' next w.laid is_detaching).0 named s).0 in omega arith)
      (λ nameless. (less.nameless nameless s).0 ∙ was
      ∙ sym ((detached_live d.content m w.memory seg n gone m' next w.laid is_detaching).1 nameless s).0)

  held_now : (s : ℕ) → t'.held s ≡ held_of m' next s
  held_now s =
      let c = counted s in
      let was = w.tables.held s in
      by_name _
      (λ named. (less.named named s).1 ∙ was
      ∙ sym ((detached_live d.content m w.memory seg n gone m' next w.laid is_detaching).0 named s).1)
      (λ nameless. let l = (less.nameless nameless s).1 in
      let r = ((detached_live d.content m w.memory seg n gone m' next w.laid is_detaching).1 nameless s).1 in omega arith)

  same_live : (s : ℕ) → counts s ≡ 0 → t'.live s ≡ t.live s
  same_live s z = by_name _ (λ named. let l = (less.named named s).0 in omega arith) (λ nameless. (less.nameless nameless s).0)

  tables_now : IsTables t' m' next
  unfolding next
  tables_now = record {
    at = λ x top. by_gone _ x
        (λ on. is_detaching.none x on ∙ sym (less.none x top on))
        (λ off. is_detaching.others x off ∙ w.tables.at x top ∙ sym (less.others x top off));
    used = λ s. less.used s ∙ w.tables.used s;
    live = live_now;
    held = held_now;
  }

  usage_same : (j : ℕ) → bytes_next (Usage j) ≡ w.memory.bytes (Usage j)
  usage_same j = bytes_other (Usage j) (λ own one. usage_table j (n, own))

  file_cut : Running d dirty' t' k m0 m' seg chunk
  unfolding next
  file_cut = record {
    memory = next;
    laid = laid_now;
    segments = w.segments;
    settled = w.settled;
    cached = cached_now;
    tables = tables_now;
    fresh = λ j off low. subst (SpellsUsage t' j) (sym (usage_same j))
        (counts_fresh t t' counts same_live less.used less.age less.changed j off (w.memory.bytes (Usage j))
        (w.fresh j (less.stale j off) low));
    part = part_same t t' less.used less.kept w.part;
    whole = whole_same k t t' seg less.used w.whole;
    kept = kept_same d.content k t t' less.kept w.kept;
    opened = open_same d.content w.memory next t t' seg chunk refl refl less.kept w.opened;
  }

pub file_cutting : FileCutting
file_cutting d dirty dirty' t t' k m0 m m' seg chunk n gone counts w cut above mapped counted map go less =
    file_cut d dirty dirty' t t' k m0 m m' seg chunk n gone counts w cut above mapped counted map go less
