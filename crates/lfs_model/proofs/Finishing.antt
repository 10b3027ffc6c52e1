-- What a commit leaves stands for the log map without its files of no links.
use Rattle.std.proofs.Common.{◌≡◌, ◌<◌, ◌≤◌, inl, inr, ⊎_elim, ◌+◌, ◌*◌, ◌-◌, ◌/◌, ◌%◌, ◌==◌, nat_lt, not, ℕ, suc, Bool, true, false, List}
use Rattle.std.proofs.Common.{[], ◌∷◌, length, get_or, Option, Some, None, refl, sym, ◌∙◌, ap, subst, arith, eq-eqb, eqb-true}
use Rattle.std.proofs.lemmas.List.{nil_from_length}
use Rattle.std.proofs.lemmas.Bool.{cases_eq, cases_Bool, lt-ltb, ltb-true, cond-true, cond-false, false_from_ne_true}
use Rattle.lfs_model.specs.Entry.{Entry, Data, Leaf, Double, Inode, Map, Usage, Header, header, half}
use Rattle.lfs_model.specs.Checkpoint.{CheckpointValue, layout_version, unit_sectors}
use Rattle.lfs_model.specs.Content.{Content, block}
use Rattle.lfs_model.specs.Inode.{IsForm}
use Rattle.lfs_model.specs.Reach.{address, Row, View, row, row_by, used, place_in}
use Rattle.lfs_model.specs.Stands.{LogMap, used_in, live_in, AreNamed, AreCounted, IsHeld}
use Rattle.lfs_model.specs.Encodes.{Has, HasData, HasLeaf, HasInode, IsLogMap, Spells, Encodes}
use Rattle.lfs_model.specs.Live.{live_count}
use Rattle.lfs_model.specs.Memory.{Memory, file_of, is_unlinked, is_nameless, is_shown, shown, settled_at, memory_view, live_of}
use Rattle.lfs_model.specs.Laid.{IsLaid}
use Rattle.lfs_model.specs.Counting.{segment_of}
use Rattle.lfs_model.specs.TreeOf.{kept, dropped}
use Rattle.lfs_model.specs.Finishing.{shown_view, IsDone, Finishing, ReleasedFree}
use Rattle.lfs_model.proofs.Encodes.{encoding}
use Rattle.lfs_model.proofs.Live.{named_counts, same_live, live_less}
use Rattle.lfs_model.proofs.Counting.{view_named, those_in, those_some, settled_above}
use Rattle.lfs_model.proofs.Files.{file_there}
use Rattle.lfs_model.proofs.Entries.{leaf_parent}
use Rattle.lfs_model.proofs.Patching.{is_inode}
use Rattle.lfs_model.proofs.Segments.{some_counted, no_row_live}
use Rattle.lfs_model.proofs.Tables.{empty_row}

-- ---- the log map without files of no links
module _ (m : LogMap) (n : ℕ) where
  -- a file that is nameless has nothing there, another has what it has
  gone_header : is_nameless m n ≡ true → (dropped m).header n ≡ None
  gone_header is = go (m.header n) is
    where
      go : (o : Option Header) → is_unlinked o ≡ true → kept o o None ≡ None
      go None is = refl
      go (Some h) is = cond-false (nat_lt 0 h.links) (Some h) None
          (false_from_ne_true _ (λ t. let z = eqb-true h.links 0 is in let l = ltb-true 0 h.links t in omega arith))

  gone_block : is_nameless m n ≡ true → (i : ℕ) → (dropped m).block n i ≡ []
  gone_block is i = go (m.header n) is
    where
      go : (o : Option Header) → is_unlinked o ≡ true → kept o (m.block n i) [] ≡ []
      go None is = refl
      go (Some h) is = cond-false (nat_lt 0 h.links) (m.block n i) []
          (false_from_ne_true _ (λ t. let z = eqb-true h.links 0 is in let l = ltb-true 0 h.links t in omega arith))

  some_links : (h : Header) → is_unlinked (Some h) ≡ false → 0 < h.links
  some_links h off = let ne : h.links ≡ 0 → ⊥ = λ z. let on : true ≡ false = sym (eq-eqb h.links 0 z) ∙ off in absurd (cc) in omega arith

  same_header : is_nameless m n ≡ false → (dropped m).header n ≡ m.header n
  same_header is = go (m.header n) is
    where
      go : (o : Option Header) → is_unlinked o ≡ false → kept o o None ≡ o
      go None is = refl
      go (Some h) is = cond-true (nat_lt 0 h.links) (Some h) None (lt-ltb 0 h.links (some_links h is))

  same_block : (h : Header) → m.header n ≡ Some h → is_nameless m n ≡ false → (i : ℕ) → (dropped m).block n i ≡ m.block n i
  same_block h there is i =
      ap (λ (o : Option Header). kept o (m.block n i) []) there
      ∙ cond-true (nat_lt 0 h.links) (m.block n i) [] (lt-ltb 0 h.links (some_links h (sym (ap is_unlinked there) ∙ is)))

module _ (e : Content) (m : LogMap) (M : Memory) (o : ℕ) (next : CheckpointValue) (laid : IsLaid e m M o) (done : IsDone e m M o next) where
  A : Entry → ℕ
  A = shown m M.at

  -- an entry that is shown has its address there
  A_some : (x : Entry) → 0 < shown m M.at x → (is_shown m x ≡ true) × (shown m M.at x ≡ M.at x) × (2 ≤ M.at x)
  A_some x lt =
      let t = those_some (is_shown m) M.at x lt in
      let none : M.at x ≡ 1 → ⊥ = done.none x in
      let e = t.1 in
      (t.0, t.1, omega arith)

  A_is : (x : Entry) → is_shown m x ≡ true → shown m M.at x ≡ M.at x
  A_is x on = those_in (is_shown m) M.at x on

  file_shown : (n : ℕ) (x : Entry) → file_of x ≡ Some n → is_nameless m n ≡ false → is_shown m x ≡ true
  file_shown n x is named = ap (λ (f : Option ℕ). elim f as (λ z. Bool) [ None ↦ true | Some n ↦ not (is_nameless m n) ]) is ∙ ap not named

  shown_file : (n : ℕ) (x : Entry) → file_of x ≡ Some n → is_shown m x ≡ true → is_nameless m n ≡ false
  shown_file n x is on =
      go (is_nameless m n) (sym (ap (λ (f : Option ℕ). elim f as (λ z. Bool) [ None ↦ true | Some n ↦ not (is_nameless m n) ]) is) ∙ on)
    where
      go : (b : Bool) → not b ≡ true → b ≡ false
      go false h = refl
      go true h = sym h

  -- a file that has a name has the blocks that it has
  data_same : (n i : ℕ) → 0 < M.at (Inode n) → is_nameless m n ≡ false → (dropped m).block n i ≡ m.block n i
  data_same n i lt named = let h = (laid.inodes n).1 lt in same_block m n h.0 h.1 named i

  -- what is dropped isn't there
  named_data : (n i : ℕ) → HasData (dropped m) n i → is_nameless m n ≡ false
  named_data n i has = false_from_ne_true _ (λ on. let z = ap length (gone_block m n on i) in omega (arith, has, z))

  named_inode : (n : ℕ) → HasInode (dropped m) n → is_nameless m n ≡ false
  named_inode n has = false_from_ne_true _ (λ on. let bad : None ≡ Some has.0 = sym (gone_header m n on) ∙ has.1 in absurd (cc))

  has_data : (n i : ℕ) → HasData (dropped m) n i → (is_nameless m n ≡ false) × (0 < M.at (Data n i))
  has_data n i has =
      let named = named_data n i has in
      let there = block_there n i has in
      (named, (laid.blocks n i).0 there)
    where
      block_there : (n i : ℕ) → HasData (dropped m) n i → HasData m n i
      block_there a b has = sub a b (m.header a) refl has
        where
          sub : (a b : ℕ) (o : Option Header) → m.header a ≡ o → 0 < length (kept o (m.block a b) []) → 0 < length (m.block a b)
          sub a b None is lt = absurd (omega arith)
          sub a b (Some h) is lt = ⊎_elim
              (λ (on : nat_lt 0 h.links ≡ true). subst (λ (c : List ℕ). 0 < length c) (cond-true (nat_lt 0 h.links) (m.block a b) [] on) lt)
              (λ (off : nat_lt 0 h.links ≡ false). let z = ap length (cond-false (nat_lt 0 h.links) (m.block a b) [] off) in
              absurd (omega arith))
              (cases_Bool (nat_lt 0 h.links))

  leaf_above : (n q i : ℕ) → i < 128 → 0 < M.at (Data n (112 + 128 * q + i)) → 0 < M.at (Leaf n q)
  leaf_above n q i low lt = subst (λ (p : Entry). 0 < M.at p) (leaf_parent n q i low) (laid.down (Data n (112 + 128 * q + i)) lt)

  stored : (x : Entry) → Has (dropped m) next.segments x → 0 < shown m M.at x
  stored (Data n i) has = let d = has_data n i has in let s = A_is (Data n i) (file_shown n (Data n i) refl d.0) in let lt = d.1 in
      omega arith
  stored (Leaf n q) has =
      let d = has_data n (112 + 128 * q + has.0) has.2 in
      let s = A_is (Leaf n q) (file_shown n (Leaf n q) refl d.0) in
      let lt = leaf_above n q has.0 has.1 d.1 in omega arith
  stored (Double n) has =
      let h = has.2 in
      let d = has_data n (112 + 128 * suc has.0 + h.0) h.2 in
      let s = A_is (Double n) (file_shown n (Double n) refl d.0) in
      let lt = laid.down (Leaf n (suc has.0)) (leaf_above n (suc has.0) h.0 h.1 d.1) in omega arith
  stored (Inode n) has = shown_inode n has
    where
      shown_inode : (n : ℕ) → HasInode (dropped m) n → 0 < shown m M.at (Inode n)
      shown_inode n has =
          let named = named_inode n has in
          let s = A_is (Inode n) (file_shown n (Inode n) refl named) in
          let lt = (laid.inodes n).0 (has.0, sym (same_header m n named) ∙ has.1) in
          omega arith
  stored (Map j) has =
      let n = 128 * j + has.0 in
      let named = named_inode (128 * j + has.0) has.2 in
      let s = A_is (Inode (128 * j + has.0)) (file_shown (128 * j + has.0) (Inode (128 * j + has.0)) refl named) in
      let h = has.2 in
      let lt = (laid.inodes (128 * j + has.0)).0 (h.0, sym (same_header m (128 * j + has.0) named) ∙ h.1) in
      let ne : M.at (Map j) ≡ 0 → ⊥ = λ z. let none = (laid.mapped j (done.none (Map j))).none z has.0 has.1 in omega arith in
      let t = A_is (Map j) refl in
      omega arith
  stored (Usage j) has = let t = A_is (Usage j) refl in
      let lt = (laid.usages j).0 (subst (λ (n : ℕ). j < (n + 63) / 64) done.segments has) in omega arith

  -- nothing else has an address there
  header_there : (n : ℕ) → is_nameless m n ≡ false → 0 < M.at (Inode n) → HasInode (dropped m) n
  header_there n named lt = let h = (laid.inodes n).1 lt in (h.0, same_header m n named ∙ h.1)

  data_there : (n i : ℕ) → is_nameless m n ≡ false → 0 < M.at (Data n i) → HasData (dropped m) n i
  data_there n i named lt =
      subst (λ (b : List ℕ). 0 < length b) (sym (data_same n i (file_there M laid.down (Data n i) n refl lt) named))
      ((laid.blocks n i).1 lt)

  leaf_there : (n q : ℕ) → is_nameless m n ≡ false → 2 ≤ M.at (Leaf n q) → HasLeaf (dropped m) n q
  leaf_there n q named le =
      let w = laid.some (Leaf n q) tt le in
      let v = laid.spells (Leaf n q) (omega arith) w.0 w.1 in
      let lt = w.2 in
      (w.0, w.1, data_there n (112 + 128 * q + w.0) named (omega arith))

  only : (x : Entry) → 0 < shown m M.at x → Has (dropped m) next.segments x
  only (Data n i) lt = let a = A_some (Data n i) lt in data_there n i (shown_file n (Data n i) refl a.0) (omega (arith, a.2))
  only (Leaf n q) lt = let a = A_some (Leaf n q) lt in leaf_there n q (shown_file n (Leaf n q) refl a.0) a.2
  only (Double n) lt =
      let a = A_some (Double n) lt in
      let le = a.2 in
      let w = laid.some (Double n) tt a.2 in
      let v = laid.spells (Double n) (omega arith) w.0 w.1 in
      let lt = w.2 in
      let none = done.none (Leaf n (suc w.0)) in
      (w.0, w.1, leaf_there n (suc w.0) (shown_file n (Double n) refl a.0) (omega arith))
  only (Inode n) lt = let a = A_some (Inode n) lt in header_there n (shown_file n (Inode n) refl a.0) (omega (arith, a.2))
  only (Map j) lt =
      let a = A_some (Map j) lt in
      let is = laid.mapped j (done.none (Map j)) in
      let w = is.some a.2 in
      let v = is.spells a.2 w.0 w.1 in
      let lt = w.2 in
      let b = A_some (Inode (128 * j + w.0)) (omega arith) in
      (w.0, w.1, header_there (128 * j + w.0) (shown_file (128 * j + w.0) (Inode (128 * j + w.0)) refl b.0) (omega (arith, b.2)))
  only (Usage j) lt = let a = A_some (Usage j) lt in
      subst (λ (n : ℕ). j < (n + 63) / 64) (sym done.segments) ((laid.usages j).1 (omega (arith, a.2)))

  -- its block is what stands there
  block_is : (x : Entry) → 0 < shown m M.at x → block e (shown m M.at x) ≡ M.bytes x
  block_is x lt = let a = A_some x lt in ap (block e) a.1 ∙ laid.there x a.2

  within : (x : Entry) → 0 < shown m M.at x → (2 ≤ shown m M.at x) × (shown m M.at x < 2 + 64 * next.segments)
  within x lt = let a = A_some x lt in let s = a.1 in let le = a.2 in let w = laid.within x a.2 in let n = done.segments in
      (omega arith, omega arith)

  long_bytes : (x : Entry) → 2 ≤ M.at x → length (M.bytes x) ≡ 512
  long_bytes (Data n i) le = laid.long (Data n i) (n, refl) (omega arith)
  long_bytes (Leaf n q) le = laid.long (Leaf n q) (n, refl) (omega arith)
  long_bytes (Double n) le = laid.long (Double n) (n, refl) (omega arith)
  long_bytes (Inode n) le = laid.long (Inode n) (n, refl) (omega arith)
  long_bytes (Map j) le = (laid.mapped j (done.none (Map j))).long le
  long_bytes (Usage j) le = done.long j (omega arith)

  long : (x : Entry) → 0 < shown m M.at x → length (block e (shown m M.at x)) ≡ 512
  long x lt = ap length (block_is x lt) ∙ long_bytes x (A_some x lt).2

  -- the entries of a file that is shown have their addresses
  of_shown : (n : ℕ) (x : Entry) → file_of x ≡ Some n → is_nameless m n ≡ false → M.at x ≡ shown m M.at x
  of_shown n x is named = sym (A_is x (file_shown n x is named))

  -- a file that is shown has a form of the version
  of_version : IsLogMap (dropped m) → (n : ℕ) (h : Header) → (dropped m).header n ≡ Some h → IsForm (layout_version next) h.kind h.form
  of_version map n h at = subst (λ (v : ℕ). IsForm v h.kind h.form) (sym done.version) (map.forms n h at)

  spells_bytes : IsLogMap (dropped m) → (x : Entry) → 0 < shown m M.at x
      → Spells (dropped m) (layout_version next) (shown m M.at) (M.bytes x) x
  spells_bytes map (Data n i) lt =
      let a = A_some (Data n i) lt in
      let named = shown_file n (Data n i) refl a.0 in
      let some : 0 < M.at (Data n i) = omega (arith, a.2) in
      laid.spells (Data n i) some ∙ sym (data_same n i (file_there M laid.down (Data n i) n refl some) named)
  spells_bytes map (Leaf n q) lt = λ i low.
      let a = A_some (Leaf n q) lt in
      laid.spells (Leaf n q) (omega (arith, a.2)) i low ∙ of_shown n (Data n (112 + 128 * q + i)) refl (shown_file n (Leaf n q) refl a.0)
  spells_bytes map (Double n) lt = λ q low.
      let a = A_some (Double n) lt in
      laid.spells (Double n) (omega (arith, a.2)) q low ∙ of_shown n (Leaf n (suc q)) refl (shown_file n (Double n) refl a.0)
  spells_bytes map (Inode n) lt =
      let a = A_some (Inode n) lt in
      let named = shown_file n (Inode n) refl a.0 in
      let some : 0 < M.at (Inode n) = omega (arith, a.2) in
      let s = laid.spells (Inode n) some in
      let linked : 1 ≤ (header (M.bytes (Inode n))).links =
      some_links m n (header (M.bytes (Inode n))) (sym (ap is_unlinked s.header) ∙ named) in
      record {
        formed = is_inode n s.formed (layout_version next)
            (of_version map n (header (M.bytes (Inode n))) (same_header m n named ∙ s.header)) linked;
        header = same_header m n named ∙ s.header;
        direct = λ i low. s.direct i low ∙ of_shown n (Data n i) refl named;
        single = s.single ∙ of_shown n (Leaf n 0) refl named;
        double = s.double ∙ of_shown n (Double n) refl named;
      }
  spells_bytes map (Map j) lt = let a = A_some (Map j) lt in (laid.mapped j (done.none (Map j))).spells a.2
  spells_bytes map (Usage j) lt = tt

  spells : IsLogMap (dropped m) → (x : Entry) → 0 < shown m M.at x
      → Spells (dropped m) (layout_version next) (shown m M.at) (block e (shown m M.at x)) x
  spells map x lt =
      subst (λ (b : List ℕ). Spells (dropped m) (layout_version next) (shown m M.at) b x) (sym (block_is x lt)) (spells_bytes map x lt)

  -- ---- segments
  V : View
  V = shown_view e m M next

  W : View
  W = memory_view (is_shown m) M

  row_sealed : (s : ℕ) → row_by e (length (M.rows s)) s ≡ Some (M.rows s)
  row_sealed s = ⊎_elim
      (λ (here : s ≡ o).
      subst (λ (r : Row). row_by e (length r) s ≡ Some r) (sym (laid.past s (let c = done.closed in omega arith))) (empty_row e s))
      (λ (away : s ≡ o → ⊥). laid.sealed s away)
      (cases_eq s o)

  pub used_is : (s : ℕ) → used e next s ≡ used_in (shown_view e m M next) s
  used_is s = ap (λ (a : ℕ). half (block e a) (4 * (s % 64))) (sym (A_is (Usage (s / 64)) refl ∙ done.usage (s / 64)))

  used_none : (s : ℕ) → live_of m M s ≡ 0 → used_in (shown_view e m M next) s ≡ 0
  used_none s z = done.used s ∙ cond-true (live_of m M s == 0) 0 (length (M.rows s)) (eq-eqb (live_of m M s) 0 z)

  used_some : (s : ℕ) → (live_of m M s ≡ 0 → ⊥) → used_in (shown_view e m M next) s ≡ length (M.rows s)
  used_some s nz = done.used s
      ∙ cond-false (live_of m M s == 0) 0 (length (M.rows s)) (false_from_ne_true _ (λ h. nz (eqb-true (live_of m M s) 0 h)))

  row_split : (r : Row) → get_or r 0 None ≡ None → 0 < length r → (q : Row) × (r ≡ None ∷ q)
  row_split [] none lt = absurd (omega arith)
  row_split (x ∷ q) none lt = (q, ap (λ (y : Option Entry). y ∷ q) none)

  live_some_row : (s : ℕ) → (live_of m M s ≡ 0 → ⊥) → live_of m M s < length (M.rows s)
  live_some_row s nz =
      let nonempty : length (M.rows s) ≡ 0
      → ⊥ = λ z. nz (no_row_live (memory_view (is_shown m) M) s (ap Some (nil_from_length (M.rows s) z))) in
      let q = row_split (M.rows s) (laid.first s) (omega arith) in
      let l = live_less (memory_view (is_shown m) M) s q.0 (ap Some q.1) in
      let le = ap length q.1 in
      omega arith

  used_row : (s : ℕ) → (live_of m M s ≡ 0 → ⊥) → row e next s ≡ Some (M.rows s)
  used_row s nz = ap (λ (u : ℕ). row_by e u s) (used_is s ∙ used_some s nz) ∙ row_sealed s

  by_live : (P : Type 0) (s : ℕ) → (live_of m M s ≡ 0 → P) → ((live_of m M s ≡ 0 → ⊥) → P) → P
  by_live P s none some = ⊎_elim none some (cases_eq (live_of m M s) 0)

  some_live : (x : Entry) → 0 < shown m M.at x → live_of m M (segment_of (shown m M.at x)) ≡ 0 → ⊥
  some_live x lt z =
      let a = A_some x lt in
      let some = some_counted (is_shown m) M laid.named x a.0 a.2 in
      let same = ap (λ (a : ℕ). live_of m M (segment_of a)) a.1 in
      omega arith

  all_named : AreNamed (shown_view e m M next)
  all_named x lt =
      let a = A_some x lt in
      ap (λ (r : Option Row). place_in r ((shown m M.at x - 2) % 64)) (used_row (segment_of (shown m M.at x)) (some_live x lt))
      ∙ ap (λ (a : ℕ). get_or (M.rows ((a - 2) / 64)) ((a - 2) % 64) None) a.1 ∙ laid.named x a.2

  settled_is : (x : Entry) → settled_at (shown m M.at x) ≡ shown m M.at x
  settled_is x = ⊎_elim (λ (z : shown m M.at x ≡ 0). ap settled_at z ∙ sym z)
      (λ (some : shown m M.at x ≡ 0 → ⊥). settled_above (shown m M.at x) (within x (omega arith)).0) (cases_eq (shown m M.at x) 0)

  live_is : (s : ℕ) → live_of m M s ≡ live_count (shown_view e m M next) s
  live_is s = same_live (shown_view e m M next) (memory_view (is_shown m) M) all_named (view_named (is_shown m) M laid.named) s
      (λ at low. (
        (λ (h : IsHeld (shown_view e m M next) (2 + 64 * s + at)). (h.0, settled_is h.0 ∙ h.1)),
        (λ (h : IsHeld (memory_view (is_shown m) M) (2 + 64 * s + at)). (h.0, sym (settled_is h.0) ∙ h.1)),
      ))

  all_counted : AreCounted (shown_view e m M next)
  all_counted s low = (named_counts (shown_view e m M next) all_named s (live_in (shown_view e m M next) s)).1 (done.live s ∙ live_is s)

  is_encoded : IsLogMap (dropped m) → Encodes e next (shown m M.at) (dropped m)
  is_encoded map = record {
    size = let a = laid.size in let n = done.segments in omega arith;
    version = sym done.version;
    map = λ j. A_is (Map j) refl ∙ done.map j;
    usage = λ j. A_is (Usage j) refl ∙ done.usage j;
    stored = stored;
    only = only;
    within = within;
    long = long;
    spells = spells map;
    rows = λ s lt. (M.rows s, by_live _ s (λ z. let u = used_none s z in absurd (omega arith)) (used_row s));
    named = all_named;
    fit = λ s.
        by_live _ s (λ z. let u = used_none s z in omega arith) (λ nz. let u = used_some s nz in let l = laid.short s in omega arith);
    whole = λ s lt. ap (λ (n : ℕ). n % unit_sectors next) (done.used s) ∙ done.whole s lt;
    less = λ s. by_live _ s (λ z. inl (used_none s z))
        (λ nz. let u = used_some s nz in let l = done.live s in let r = live_some_row s nz in inr (omega arith, omega arith));
    both = λ s z. by_live _ s (λ z. done.live s ∙ z) (λ nz. let u = used_some s nz in let r = live_some_row s nz in absurd (omega arith));
    past = λ s le. let n = done.segments in let r = laid.past s (omega arith) in
        (used_none s (no_row_live (memory_view (is_shown m) M) s (ap Some r)), done.age s (omega arith));
    counted = all_counted;
    clean = done.clean;
  }

pub finishing : Finishing
finishing e m M o next formed laid done = encoding e next (shown m M.at) (dropped m) formed (is_encoded e m M o next laid done formed)

-- nothing lives there, so nothing of it is in use
pub released_free : ReleasedFree
unfolding address
released_free e m M o next laid done stands s at low within z = record {
  segment = s;
  place = at;
  is = refl;
  within = within;
  below = let n = done.segments in omega arith;
  unused = let u = used_is e m M o next laid done s in let v = used_none e m M o next laid done s z in omega arith;
}
