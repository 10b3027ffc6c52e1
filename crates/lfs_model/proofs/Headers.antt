-- Headers in memory change, and files are made, as the log runs.
use Rattle.std.proofs.Common.{◌≡◌, ◌<◌, ◌≤◌, ⊎_elim, ◌+◌, ◌*◌, ◌/◌, cond, not, Bool, true, false, ℕ, List, Option, Some, None, refl, sym}
use Rattle.std.proofs.Common.{◌∙◌, ap, subst, arith}
use Rattle.std.proofs.lemmas.Bool.{cases_eq}
use Rattle.lfs_model.specs.Changing.{IsWithHeader, IsRelabeling}
use Rattle.lfs_model.specs.Checkpoint.{CheckpointValue}
use Rattle.lfs_model.specs.Device.{DeviceState}
use Rattle.lfs_model.specs.Entry.{Entry, Inode, Map, Usage, Header, header, word}
use Rattle.lfs_model.specs.Laid.{IsLaid, HoldsInode}
use Rattle.lfs_model.specs.Lifting.{IsTaken}
use Rattle.lfs_model.specs.Memory.{Memory, file_of, IsOfFile, is_unlinked, is_nameless, is_shown, is_held, those, settled_at, live_of}
use Rattle.lfs_model.specs.Memory.{held_of}
use Rattle.lfs_model.specs.Running.{Dirty, Tables, IsCached, SpellsUsage, Running, IsReaddressed}
use Rattle.lfs_model.specs.Staging.{ChangesTo, HeaderChanging, FileCreating}
use Rattle.lfs_model.specs.Stands.{LogMap}
use Rattle.lfs_model.proofs.Changed.{settled_cond, some_is}
use Rattle.lfs_model.proofs.Counting.{same_counts, settled_low}
use Rattle.lfs_model.proofs.Entries.{same_entry}
use Rattle.lfs_model.proofs.FileChanges.{relabeling, creating}
use Rattle.lfs_model.proofs.Files.{file_there}
use Rattle.lfs_model.proofs.Running.{pick, pick_yes, pick_no, taken_memory, is_taken, addressed, usage_kept, part_same, kept_same}
use Rattle.lfs_model.proofs.Running.{whole_same, open_same}

-- which entries are shown, where one file's header is another
shown_but : (m m' : LogMap) (n : ℕ) (h : Option Header) → IsWithHeader m n h m' → (x : Entry) → (file_of x ≡ Some n → ⊥)
    → is_shown m' x ≡ is_shown m x
shown_but m m' n h map x out = go (file_of x) refl
  where
    go : (f : Option ℕ) → file_of x ≡ f → elim f as (λ z. Bool) [ None ↦ true | Some a ↦ not (is_nameless m' a) ] ≡ elim f as (λ z. Bool)
        [ None ↦ true | Some a ↦ not (is_nameless m a) ]
    go None is = refl
    go (Some a) is = ap (λ (h : Option Header). not (is_unlinked h)) (map.others a (λ same. out (is ∙ ap Some same)))

shown_same : (m m' : LogMap) (n : ℕ) (h : Option Header) → IsWithHeader m n h m' → is_nameless m' n ≡ is_nameless m n → (x : Entry)
    → is_shown m' x ≡ is_shown m x
shown_same m m' n h map same x = go (file_of x) refl
  where
    go : (f : Option ℕ) → file_of x ≡ f → elim f as (λ z. Bool) [ None ↦ true | Some a ↦ not (is_nameless m' a) ] ≡ elim f as (λ z. Bool)
        [ None ↦ true | Some a ↦ not (is_nameless m a) ]
    go None is = refl
    go (Some a) is = ⊎_elim
        (λ (here : a ≡ n). ap (λ (a : ℕ). not (is_nameless m' a)) here ∙ ap not same ∙ ap (λ (a : ℕ). not (is_nameless m a)) (sym here))
        (λ (away : a ≡ n → ⊥). ap (λ (h : Option Header). not (is_unlinked h)) (map.others a away))
        (cases_eq a n)

module _ (d : DeviceState) (dirty dirty' : Dirty) (t t' : Tables) (k : CheckpointValue) (m0 m m' : LogMap) (seg : ℕ)
    (chunk : Option (List Entry)) (n : ℕ) (bytes : List ℕ)
    (w : Running d dirty t k m0 m seg chunk) (formed : HoldsInode n bytes) (map : IsWithHeader m n (Some (header bytes)) m')
    (go : ChangesTo dirty dirty' (Inode n) (Some bytes)) where
  bytes_next : Entry → List ℕ
  bytes_next y = pick (same_entry y (Inode n)) bytes (w.memory.bytes y)

  own : bytes_next (Inode n) ≡ bytes
  unfolding bytes_next
  own = pick_yes (same_entry (Inode n) (Inode n)) bytes _ refl

  kept : (y : Entry) → (y ≡ Inode n → ⊥) → bytes_next y ≡ w.memory.bytes y
  unfolding bytes_next
  kept y ne = pick_no (same_entry y (Inode n)) bytes _ ne

  -- memory with these bytes, the inode being there
  unfoldable next : Memory
  next = taken_memory w.memory (Inode n) 1 bytes_next

  taken_now : IsTaken w.memory (Inode n) 1 next
  unfolding next
  taken_now = is_taken w.memory (Inode n) 1 bytes_next (omega arith)

  cached_now : IsCached dirty' next
  unfolding next taken_memory
  cached_now = record {
    cached = λ y b held. ⊎_elim
        (λ (here : y ≡ Inode n).
        let same = some_is bytes b (sym go.own ∙ ap dirty' (sym here) ∙ held) in
        (subst IsOfFile (sym here) (n, refl), ap next.at here ∙ taken_now.at, ap bytes_next here ∙ own ∙ same))
        (λ (ne : y ≡ Inode n → ⊥). let c = w.cached.cached y b (sym (go.others y ne) ∙ held) in
        (c.0, taken_now.others y ne ∙ c.1, kept y ne ∙ c.2))
        (same_entry y (Inode n));
    found = λ y f one. ⊎_elim
        (λ (here : y ≡ Inode n). (bytes, ap dirty' here ∙ go.own))
        (λ (ne : y ≡ Inode n → ⊥). let p = w.cached.found y f (sym (taken_now.others y ne) ∙ one) in (p.0, go.others y ne ∙ p.1))
        (same_entry y (Inode n));
  }

  header_now : IsWithHeader m n (Some (header (next.bytes (Inode n)))) m'
  unfolding next taken_memory
  header_now = subst (λ (b : List ℕ). IsWithHeader m n (Some (header b)) m') (sym own) map

  formed_now : HoldsInode n (next.bytes (Inode n))
  unfolding next taken_memory
  formed_now = subst (HoldsInode n) (sym own) formed

  -- so the log runs on, where the counts stay
  staged : IsLaid d.content m' next seg → IsReaddressed t t' (Inode n) 1 → ((s : ℕ) → live_of m' next s ≡ live_of m w.memory s)
      → ((s : ℕ) → held_of m' next s ≡ held_of m w.memory s) → Running d dirty' t' k m0 m' seg chunk
  unfolding next taken_memory
  staged laid r live held = record {
    memory = next;
    laid = laid;
    segments = w.segments;
    settled = w.settled;
    cached = cached_now;
    tables = record {
      at = addressed t t' (Inode n) 1 w.memory next r.at taken_now.at taken_now.others w.tables.at;
      used = λ s. r.used s ∙ w.tables.used s;
      live = λ s. r.live s ∙ w.tables.live s ∙ sym (live s);
      held = λ s. r.held s ∙ w.tables.held s ∙ sym (held s);
    };
    fresh = λ i off low.
        subst (SpellsUsage t' i) (sym (kept (Usage i) (λ h. let bad : Usage i ≡ Inode n = h in absurd (cc))))
        (usage_kept t t' i (w.memory.bytes (Usage i)) (λ q lt. (r.used (64 * i + q), r.live (64 * i + q), r.age (64 * i + q)))
        (w.fresh i (sym (r.stale i) ∙ off) low));
    part = part_same t t' r.used r.kept w.part;
    whole = whole_same k t t' seg r.used w.whole;
    kept = kept_same d.content k t t' r.kept w.kept;
    opened = open_same d.content w.memory next t t' seg chunk refl refl r.kept w.opened;
  }

  -- ---- a new file
  module _ (none : w.memory.at (Inode n) ≡ 0) (laid : IsLaid d.content m' next seg) where
    -- nothing of it is anywhere
    nothing : (y : Entry) → file_of y ≡ Some n → w.memory.at y ≡ 0
    nothing y is = zero_at (w.memory.at y) (λ lt. let i = file_there w.memory w.laid.down y n is lt in omega arith)
      where
        zero_at : (a : ℕ) → (0 < a → ⊥) → a ≡ 0
        zero_at a none_above = omega arith

    small : (y : Entry) → file_of y ≡ Some n → next.at y ≤ 1
    unfolding next taken_memory
    small y is = ⊎_elim
        (λ (here : y ≡ Inode n). let a = taken_now.at in let e = ap next.at here in omega arith)
        (λ (ne : y ≡ Inode n → ⊥). let a = taken_now.others y ne in let z = nothing y is in omega arith)
        (same_entry y (Inode n))

    off_device : (b : Bool) (a : ℕ) → a ≤ 1 → settled_at (cond b a 0) ≡ 0
    off_device true a le = settled_low a le
    off_device false a le = refl

    new_counts : (is is' : Entry → Bool) → ((x : Entry) → (file_of x ≡ Some n → ⊥) → is' x ≡ is x) → (y : Entry)
        → settled_at (those is' next.at y) ≡ settled_at (those is w.memory.at y)
    unfolding next taken_memory
    new_counts is is' same y = cases (file_of y) refl
      where
        other : (file_of y ≡ Some n → ⊥) → settled_at (those is' next.at y) ≡ settled_at (those is w.memory.at y)
        other out = settled_cond (is' y) (is y) (next.at y) (w.memory.at y) (same y out)
            (ap settled_at (taken_now.others y (λ h. out (ap file_of h))))

        cases : (f : Option ℕ) → file_of y ≡ f → settled_at (those is' next.at y) ≡ settled_at (those is w.memory.at y)
        cases None is_none = other (λ h. let bad : None ≡ Some n = sym is_none ∙ h in absurd (cc))
        cases (Some a) is_some = ⊎_elim
            (λ (here : a ≡ n).
            let f : file_of y ≡ Some n = is_some ∙ ap Some here in
            let z = nothing y f in
            off_device (is' y) (next.at y) (small y f) ∙ sym (off_device (is y) (w.memory.at y) (omega arith)))
            (λ (away : a ≡ n → ⊥). other (λ h. let e : Some a ≡ Some n = sym is_some ∙ h in away (cc)))
            (cases_eq a n)

    live_new : (s : ℕ) → live_of m' next s ≡ live_of m w.memory s
    live_new = same_counts (is_shown m) (is_shown m') w.memory next w.laid.named laid.named
        (new_counts (is_shown m) (is_shown m') (shown_but m m' n (Some (header bytes)) map))

    held_new : (s : ℕ) → held_of m' next s ≡ held_of m w.memory s
    held_new = same_counts (is_held m) (is_held m') w.memory next w.laid.named laid.named
        (new_counts (is_held m) (is_held m') (λ x out. ap not (shown_but m m' n (Some (header bytes)) map x out)))

pub file_creating : FileCreating
unfolding next taken_memory
file_creating d dirty dirty' t t' k m0 m m' seg chunk n bytes w none formed empty map mapped go r =
    let was : w.memory.at (Inode n) ≡ 0 = w.tables.at (Inode n) refl ∙ none in
    let laid = creating d.content m w.memory seg n m' _ w.laid
    (record {
      map = header_now d dirty dirty' t t' k m0 m m' seg chunk n bytes w formed map go;
      taken = taken_now d dirty dirty' t t' k m0 m m' seg chunk n bytes w formed map go;
      was = was;
      mapped = λ named. w.tables.at (Map (n / 128)) refl ∙ mapped named;
      formed = formed_now d dirty dirty' t t' k m0 m m' seg chunk n bytes w formed map go;
      words = λ i lo hi. ap (λ (b : List ℕ). word b i) (own d dirty dirty' t t' k m0 m m' seg chunk n bytes w formed map go)
          ∙ empty i lo hi;
      kept = kept d dirty dirty' t t' k m0 m m' seg chunk n bytes w formed map go;
    }) in
    staged d dirty dirty' t t' k m0 m m' seg chunk n bytes w formed map go laid r
    (live_new d dirty dirty' t t' k m0 m m' seg chunk n bytes w formed map go was laid)
    (held_new d dirty dirty' t t' k m0 m m' seg chunk n bytes w formed map go was laid)

-- ---- another header: memory stays where it is
module _ (d : DeviceState) (dirty dirty' : Dirty) (t : Tables) (k : CheckpointValue) (m0 m m' : LogMap) (seg : ℕ)
    (chunk : Option (List Entry)) (n : ℕ) (old bytes : List ℕ)
    (w : Running d dirty t k m0 m seg chunk) (held : dirty (Inode n) ≡ Some old) (formed : HoldsInode n bytes)
    (words : (i : ℕ) → 8 ≤ i → i < 122 → word bytes i ≡ word old i)
    (map : IsWithHeader m n (Some (header bytes)) m') (same : is_nameless m' n ≡ is_nameless m n)
    (mapped : is_nameless m' n ≡ false → t.at (Map (n / 128)) ≡ 1) (go : ChangesTo dirty dirty' (Inode n) (Some bytes)) where
  labeled_bytes : Entry → List ℕ
  labeled_bytes y = pick (same_entry y (Inode n)) bytes (w.memory.bytes y)

  labeled_own : labeled_bytes (Inode n) ≡ bytes
  unfolding labeled_bytes
  labeled_own = pick_yes (same_entry (Inode n) (Inode n)) bytes _ refl

  labeled_kept : (y : Entry) → (y ≡ Inode n → ⊥) → labeled_bytes y ≡ w.memory.bytes y
  unfolding labeled_bytes
  labeled_kept y ne = pick_no (same_entry y (Inode n)) bytes _ ne

  unfoldable labeled : Memory
  labeled = record { segments = w.memory.segments; at = w.memory.at; bytes = labeled_bytes; rows = w.memory.rows }

  was : IsOfFile (Inode n) × (w.memory.at (Inode n) ≡ 1) × (w.memory.bytes (Inode n) ≡ old)
  was = w.cached.cached (Inode n) old held

  is_relabeling : IsRelabeling m w.memory n m' labeled
  unfolding labeled
  is_relabeling = record {
    map = subst (λ (b : List ℕ). IsWithHeader m n (Some (header b)) m') (sym labeled_own) map;
    place = record { segments = refl; at = refl; rows = refl };
    was = was.1;
    mapped = λ named. w.tables.at (Map (n / 128)) refl ∙ mapped named;
    formed = subst (HoldsInode n) (sym labeled_own) formed;
    words = λ i lo hi. ap (λ (b : List ℕ). word b i) labeled_own ∙ words i lo hi ∙ ap (λ (b : List ℕ). word b i) (sym was.2);
    kept = labeled_kept;
  }

  labeled_cached : IsCached dirty' labeled
  unfolding labeled
  labeled_cached = record {
    cached = λ y b now. ⊎_elim
        (λ (here : y ≡ Inode n).
        let same = some_is bytes b (sym go.own ∙ ap dirty' (sym here) ∙ now) in
        (subst IsOfFile (sym here) (n, refl), ap w.memory.at here ∙ was.1, ap labeled_bytes here ∙ labeled_own ∙ same))
        (λ (ne : y ≡ Inode n → ⊥). let c = w.cached.cached y b (sym (go.others y ne) ∙ now) in (c.0, c.1, labeled_kept y ne ∙ c.2))
        (same_entry y (Inode n));
    found = λ y f one. ⊎_elim
        (λ (here : y ≡ Inode n). (bytes, ap dirty' here ∙ go.own))
        (λ (ne : y ≡ Inode n → ⊥). let p = w.cached.found y f one in (p.0, go.others y ne ∙ p.1))
        (same_entry y (Inode n));
  }

  labeled_laid : IsLaid d.content m' labeled seg
  labeled_laid = relabeling d.content m w.memory seg n m' labeled w.laid is_relabeling

  labeled_live : (s : ℕ) → live_of m' labeled s ≡ live_of m w.memory s
  unfolding labeled
  labeled_live = same_counts (is_shown m) (is_shown m') w.memory labeled w.laid.named labeled_laid.named
      (λ y. settled_cond (is_shown m' y) (is_shown m y) (w.memory.at y) (w.memory.at y) (shown_same m m' n (Some (header bytes)) map same y)
      refl)

  labeled_held : (s : ℕ) → held_of m' labeled s ≡ held_of m w.memory s
  unfolding labeled
  labeled_held = same_counts (is_held m) (is_held m') w.memory labeled w.laid.named labeled_laid.named
      (λ y. settled_cond (is_held m' y) (is_held m y) (w.memory.at y) (w.memory.at y)
      (ap not (shown_same m m' n (Some (header bytes)) map same y)) refl)

  header_changed : Running d dirty' t k m0 m' seg chunk
  unfolding labeled
  header_changed = record {
    memory = labeled;
    laid = labeled_laid;
    segments = w.segments;
    settled = w.settled;
    cached = labeled_cached;
    tables = record {
      at = w.tables.at;
      used = w.tables.used;
      live = λ s. w.tables.live s ∙ sym (labeled_live s);
      held = λ s. w.tables.held s ∙ sym (labeled_held s);
    };
    fresh = λ j off low.
        subst (SpellsUsage t j) (sym (labeled_kept (Usage j) (λ h. let bad : Usage j ≡ Inode n = h in absurd (cc)))) (w.fresh j off low);
    part = w.part;
    whole = w.whole;
    kept = w.kept;
    opened = open_same d.content w.memory labeled t t seg chunk refl refl (λ s. refl) w.opened;
  }

pub header_changing : HeaderChanging
header_changing d dirty dirty' t k m0 m m' seg chunk n old bytes w held formed words map same mapped go =
    header_changed d dirty dirty' t k m0 m m' seg chunk n old bytes w held formed words map same mapped go
