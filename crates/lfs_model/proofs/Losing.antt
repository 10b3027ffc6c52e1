-- A file loses its last name, as the log runs: its blocks are live no more and hold their segments.
use Rattle.std.proofs.Common.{◌≡◌, ◌<◌, ◌≤◌, ⊎_elim, ◌+◌, ◌==◌, cond, not, ℕ, Bool, true, false, List, Option, Some, refl, sym, ◌∙◌, ap}
use Rattle.std.proofs.Common.{subst, arith}
use Rattle.lfs_model.specs.Changing.{IsWithHeader, IsRelabeling}
use Rattle.lfs_model.specs.Checkpoint.{CheckpointValue}
use Rattle.lfs_model.specs.Detaching.{is_of, IsHeldFrom, LinkLosing}
use Rattle.lfs_model.specs.Device.{DeviceState}
use Rattle.lfs_model.specs.Entry.{Entry, Inode, Usage, header, word}
use Rattle.lfs_model.specs.Laid.{IsLaid, HoldsInode}
use Rattle.lfs_model.specs.Memory.{Memory, file_of, IsOfFile, is_nameless, is_shown, is_held, settled_at, live_of, held_of, count_of}
use Rattle.lfs_model.specs.Running.{Dirty, Tables, IsCached, SpellsUsage, Running}
use Rattle.lfs_model.specs.Staging.{ChangesTo}
use Rattle.lfs_model.specs.Stands.{LogMap}
use Rattle.lfs_model.proofs.Changed.{some_is}
use Rattle.lfs_model.proofs.Cutting.{counts_fresh}
use Rattle.lfs_model.proofs.Detaching.{of_file_or_not, is_of_yes, is_of_no}
use Rattle.lfs_model.proofs.DetachedCounts.{counts_sum, shown_in, shown_outside, nowhere, one_if}
use Rattle.lfs_model.proofs.Entries.{same_entry}
use Rattle.lfs_model.proofs.FileChanges.{relabeling}
use Rattle.lfs_model.proofs.Running.{pick, pick_yes, pick_no, part_same, whole_same, kept_same, open_same}

-- ---- counts, where a file that was shown is so no more and nothing moves
module _ (m m' : LogMap) (M M' : Memory) (n : ℕ) (at : M'.at ≡ M.at) (rows : M'.rows ≡ M.rows)
    (headers : (k : ℕ) → (k ≡ n → ⊥) → m'.header k ≡ m.header k)
    (was : is_nameless m n ≡ false) (now : is_nameless m' n ≡ true) where
  -- three tests of one address
  tests : (p q r : Bool) (x : Entry) (a : ℕ) → 0 < a → (b c e : Bool) → b ≡ p → c ≡ q → e ≡ r
      → ((z : ℕ) → 0 < a → one_if (settled_at (cond {A = ℕ} p z 0) == a) + one_if (settled_at (cond {A = ℕ} q z 0) == a)
      ≡ one_if (settled_at (cond {A = ℕ} r z 0) == a))
      → one_if (settled_at (cond {A = ℕ} b (M.at x) 0) == a) + one_if (settled_at (cond {A = ℕ} c (M.at x) 0) == a)
      ≡ one_if (settled_at (cond {A = ℕ} e (M.at x) 0) == a)
  tests p q r x a lt b c e is_b is_c is_e sum =
      let s = sum (M.at x) lt in
      let eb = ap (λ (b : Bool). one_if (settled_at (cond {A = ℕ} b (M.at x) 0) == a)) is_b in
      let ec = ap (λ (b : Bool). one_if (settled_at (cond {A = ℕ} b (M.at x) 0) == a)) is_c in
      let ee = ap (λ (b : Bool). one_if (settled_at (cond {A = ℕ} b (M.at x) 0) == a)) is_e in
      omega arith

  first_of : (a : ℕ) (b : Bool) (z : ℕ) → 0 < a → one_if (settled_at (cond {A = ℕ} b z 0) == a)
      + one_if (settled_at (cond {A = ℕ} false z 0) == a) ≡ one_if (settled_at (cond {A = ℕ} b z 0) == a)
  first_of a b z lt = let n = nowhere a 0 lt refl in omega arith

  second_of : (a : ℕ) (b : Bool) (z : ℕ) → 0 < a → one_if (settled_at (cond {A = ℕ} false z 0) == a)
      + one_if (settled_at (cond {A = ℕ} b z 0) == a) ≡ one_if (settled_at (cond {A = ℕ} b z 0) == a)
  second_of a b z lt = let n = nowhere a 0 lt refl in omega arith

  shown_was : (x : Entry) → file_of x ≡ Some n → is_shown m x ≡ true
  shown_was x own = shown_in m n x own ∙ ap not was

  shown_now : (x : Entry) → file_of x ≡ Some n → is_shown m' x ≡ false
  shown_now x own = shown_in m' n x own ∙ ap not now

  moved_at : (is : Entry → Bool) (x : Entry) (a : ℕ)
      → one_if (settled_at (cond {A = ℕ} (is x) (M'.at x) 0) == a) ≡ one_if (settled_at (cond {A = ℕ} (is x) (M.at x) 0) == a)
  moved_at is x a = ap (λ (f : Entry → ℕ). one_if (settled_at (cond {A = ℕ} (is x) (f x) 0) == a)) at

  pub less_live : (s : ℕ) → live_of m' M' s + count_of (is_of n) M s ≡ live_of m M s
  less_live = counts_sum (is_shown m') (is_of n) (is_shown m) M' M M rows refl (λ x a lt.
      let e = moved_at (is_shown m') x a in
      let s : one_if (settled_at (cond {A = ℕ} (is_shown m' x) (M.at x) 0) == a) + one_if (settled_at (cond {A = ℕ} (is_of n x) (M.at x) 0)
      == a) ≡ one_if (settled_at (cond {A = ℕ} (is_shown m x) (M.at x) 0) == a) = ⊎_elim
      (λ (own : file_of x ≡ Some n). tests false true true x a lt (is_shown m' x) (is_of n x) (is_shown m x) (shown_now x own)
      (is_of_yes n x own) (shown_was x own) (λ z lt. second_of a true z lt))
      (λ (out : file_of x ≡ Some n → ⊥).
      tests (is_shown m x) false (is_shown m x) x a lt (is_shown m' x) (is_of n x) (is_shown m x) (shown_outside m m' n headers x out)
      (is_of_no n x out) refl (λ z lt. first_of a (is_shown m x) z lt))
      (of_file_or_not n x) in
      omega arith)

  pub more_held : (s : ℕ) → count_of (is_of n) M s + held_of m M s ≡ held_of m' M' s
  more_held = counts_sum (is_of n) (is_held m) (is_held m') M M M' (sym rows) (sym rows) (λ x a lt.
      let e = moved_at (is_held m') x a in
      let s : one_if (settled_at (cond {A = ℕ} (is_of n x) (M.at x) 0) == a) + one_if (settled_at (cond {A = ℕ} (is_held m x) (M.at x) 0)
      == a) ≡ one_if (settled_at (cond {A = ℕ} (is_held m' x) (M.at x) 0) == a) = ⊎_elim
      (λ (own : file_of x ≡ Some n). tests true false true x a lt (is_of n x) (is_held m x) (is_held m' x) (is_of_yes n x own)
      (ap not (shown_was x own)) (ap not (shown_now x own)) (λ z lt. first_of a true z lt))
      (λ (out : file_of x ≡ Some n → ⊥).
      tests false (is_held m x) (is_held m x) x a lt (is_of n x) (is_held m x) (is_held m' x) (is_of_no n x out) refl
      (ap not (shown_outside m m' n headers x out)) (λ z lt. second_of a (is_held m x) z lt))
      (of_file_or_not n x) in
      omega arith)

-- ---- the inode in memory has another header
module _ (d : DeviceState) (dirty dirty' : Dirty) (t t' : Tables) (k : CheckpointValue) (m0 m m' : LogMap) (seg : ℕ)
    (chunk : Option (List Entry)) (n : ℕ) (old bytes : List ℕ) (counts : ℕ → ℕ)
    (w : Running d dirty t k m0 m seg chunk) (held : dirty (Inode n) ≡ Some old) (formed : HoldsInode n bytes)
    (words : (i : ℕ) → 8 ≤ i → i < 122 → word bytes i ≡ word old i)
    (map : IsWithHeader m n (Some (header bytes)) m') (was : is_nameless m n ≡ false) (now : is_nameless m' n ≡ true)
    (counted : (s : ℕ) → counts s ≡ count_of (is_of n) w.memory s) (go : ChangesTo dirty dirty' (Inode n) (Some bytes))
    (less : IsHeldFrom t t' counts) where
  bytes_next : Entry → List ℕ
  bytes_next y = pick (same_entry y (Inode n)) bytes (w.memory.bytes y)

  own : bytes_next (Inode n) ≡ bytes
  unfolding bytes_next
  own = pick_yes (same_entry (Inode n) (Inode n)) bytes _ refl

  kept : (y : Entry) → (y ≡ Inode n → ⊥) → bytes_next y ≡ w.memory.bytes y
  unfolding bytes_next
  kept y ne = pick_no (same_entry y (Inode n)) bytes _ ne

  unfoldable next : Memory
  next = record { segments = w.memory.segments; at = w.memory.at; bytes = bytes_next; rows = w.memory.rows }

  in_memory : IsOfFile (Inode n) × (w.memory.at (Inode n) ≡ 1) × (w.memory.bytes (Inode n) ≡ old)
  in_memory = w.cached.cached (Inode n) old held

  is_relabeling : IsRelabeling m w.memory n m' next
  unfolding next
  is_relabeling = record {
    map = subst (λ (b : List ℕ). IsWithHeader m n (Some (header b)) m') (sym own) map;
    place = record { segments = refl; at = refl; rows = refl };
    was = in_memory.1;
    mapped = λ named. let bad : true ≡ false = sym now ∙ named in absurd (cc);
    formed = subst (HoldsInode n) (sym own) formed;
    words = λ i lo hi. ap (λ (b : List ℕ). word b i) own ∙ words i lo hi ∙ ap (λ (b : List ℕ). word b i) (sym in_memory.2);
    kept = kept;
  }

  cached_now : IsCached dirty' next
  unfolding next
  cached_now = record {
    cached = λ y b is. ⊎_elim
        (λ (here : y ≡ Inode n).
        let same = some_is bytes b (sym go.own ∙ ap dirty' (sym here) ∙ is) in
        (subst IsOfFile (sym here) (n, refl), ap w.memory.at here ∙ in_memory.1, ap bytes_next here ∙ own ∙ same))
        (λ (ne : y ≡ Inode n → ⊥). let c = w.cached.cached y b (sym (go.others y ne) ∙ is) in (c.0, c.1, kept y ne ∙ c.2))
        (same_entry y (Inode n));
    found = λ y f one. ⊎_elim
        (λ (here : y ≡ Inode n). (bytes, ap dirty' here ∙ go.own))
        (λ (ne : y ≡ Inode n → ⊥). let p = w.cached.found y f one in (p.0, go.others y ne ∙ p.1))
        (same_entry y (Inode n));
  }

  laid_now : IsLaid d.content m' next seg
  laid_now = relabeling d.content m w.memory seg n m' next w.laid is_relabeling

  live_now : (s : ℕ) → t'.live s ≡ live_of m' next s
  unfolding next
  live_now s =
      let c = counted s in
      let before = w.tables.live s in
      let l = less.live s in
      let r = less_live m m' w.memory next n refl refl map.others was now s in
      omega arith

  held_now : (s : ℕ) → t'.held s ≡ held_of m' next s
  unfolding next
  held_now s =
      let c = counted s in
      let before = w.tables.held s in
      let l = less.held s in
      let r = more_held m m' w.memory next n refl refl map.others was now s in
      omega arith

  link_lost : Running d dirty' t' k m0 m' seg chunk
  unfolding next
  link_lost = record {
    memory = next;
    laid = laid_now;
    segments = w.segments;
    settled = w.settled;
    cached = cached_now;
    tables = record {
      at = λ x top. w.tables.at x top ∙ sym (less.at x top);
      used = λ s. less.used s ∙ w.tables.used s;
      live = live_now;
      held = held_now;
    };
    fresh = λ j off low. subst (SpellsUsage t' j) (sym (kept (Usage j) (λ h. let bad : Usage j ≡ Inode n = h in absurd (cc))))
        (counts_fresh t t' counts (λ s z. let l = less.live s in omega arith) less.used less.age less.changed j off
        (w.memory.bytes (Usage j)) (w.fresh j (less.stale j off) low));
    part = part_same t t' less.used less.kept w.part;
    whole = whole_same k t t' seg less.used w.whole;
    kept = kept_same d.content k t t' less.kept w.kept;
    opened = open_same d.content w.memory next t t' seg chunk refl refl less.kept w.opened;
  }

pub link_losing : LinkLosing
link_losing d dirty dirty' t t' k m0 m m' seg chunk n old bytes counts w held formed words map was now counted go less =
    link_lost d dirty dirty' t t' k m0 m m' seg chunk n old bytes counts w held formed words map was now counted go less
