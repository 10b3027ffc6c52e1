-- What a mount begins with.
use Rattle.std.proofs.Common.{◌≡◌, ◌<◌, ◌≤◌, ◌↔◌, ⊎_elim, ◌+◌, ◌*◌, ◌-◌, ◌/◌, ◌%◌, ◌==◌, nat_lt, not, ℕ, zero, suc, true, false, List, []}
use Rattle.std.proofs.Common.{◌∷◌, length, get_or, take, drop, Option, Some, None, refl, sym, ◌∙◌, ap, subst, arith, length-take}
use Rattle.std.proofs.Common.{length-drop, eq-eqb, eqb-true}
use Rattle.std.proofs.lemmas.Bool.{cases_eq, cases_lt, lt-ltb, le-ltb, leb-true, and_parts, cond-true, cond-false, false_from_ne_true}
use Rattle.lfs_model.specs.Entry.{Entry, Data, Leaf, Double, Inode, Map, Usage, Header, IsInode, header, word, entries_in}
use Rattle.lfs_model.specs.Inode.{inode_in, inode_of, inode_sector, may_be_inode}
use Rattle.lfs_model.specs.Checkpoint.{CheckpointValue, layout_version, unit_sectors}
use Rattle.lfs_model.specs.Content.{Content, block, bytes_of}
use Rattle.lfs_model.specs.Reach.{Row, View, row, row_by, used, live, chunks, address, linked, place_in, view}
use Rattle.lfs_model.specs.Stands.{LogMap, StandsAt, used_in, live_in, IsHeld}
use Rattle.lfs_model.specs.Encodes.{Encodes, IsLogMap}
use Rattle.lfs_model.specs.Decodes.{IsSized}
use Rattle.lfs_model.specs.Live.{live_count}
use Rattle.lfs_model.specs.Memory.{parent, IsPointers, HasPointer, is_unlinked, is_nameless, is_shown, shown, those, settled_at}
use Rattle.lfs_model.specs.Memory.{memory_view, live_of, used_of}
use Rattle.lfs_model.specs.Laid.{IsLaid, IsMapped, SpellsBlock}
use Rattle.lfs_model.specs.Finishing.{row_or_none, mounted_memory, IsDone, Mounting}
use Rattle.lfs_model.specs.Reach
use Rattle.lfs_model.proofs.Segments.{no_row_live}
use Rattle.lfs_model.proofs.Reach.{opened_inv, address_linked}
use Rattle.lfs_model.proofs.Crash.{chunks_length}
use Rattle.lfs_model.proofs.Decodes.{decoding, address_of_word}
use Rattle.lfs_model.proofs.Live.{named_counts, same_live}
use Rattle.lfs_model.proofs.Counting.{Named, view_named, settled_above}
use Rattle.lfs_model.proofs.Decoding.{value_found}
use Rattle.lfs_model.proofs.Entries.{data_parent_low, data_parent_high}
use Rattle.lfs_model.proofs.Patching.{holds_inode}

-- an inode has a link
links_some : (version n : ℕ) (b : List ℕ) → IsInode version n b → 0 < (header b).links
unfolding inode_in header
links_some version n b is =
    let found = value_found inode_of may_be_inode inode_sector b is.value is.spelt in
    leb-true 1 (inode_of b).links (and_parts _ _ (and_parts _ _ (and_parts _ _ found.1).1).0).0

module _ (c : Content) (k : CheckpointValue) (m : LogMap) (few : k.segments ≤ 1024) (sized : IsSized c) (st : StandsAt c k m) where
  en : Encodes c k (address c k) m
  en = (decoding c k m sized st).1

  formed : IsLogMap m
  formed = (decoding c k m sized st).0

  row_there : (s : ℕ) → (r : Row) × (row c k s ≡ Some r)
  unfolding row_by address
  row_there s =
      ⊎_elim
      (λ (none : used c k s ≡ 0). ([], ap (λ (u : ℕ). chunks [] (take u (drop (2 + 64 * s) c))) none))
      (λ (some : used c k s ≡ 0 → ⊥). st.holds.stages.rows s (omega arith))
      (cases_eq (used c k s) 0)

  rows_is : (s : ℕ) → row c k s ≡ Some (row_or_none (row c k s))
  rows_is s = let r = row_there s in r.1 ∙ ap (λ (o : Option Row). Some (row_or_none o)) (sym r.1)

  used_past : (s : ℕ) → k.segments ≤ s → used c k s ≡ 0
  unfolding address
  used_past s le = (st.holds.stages.usages.past s le).0

  pub row_length : (s : ℕ) → length (row_or_none (row c k s)) ≡ used c k s
  unfolding row_by address
  row_length s =
      let r = row_there s in
      let same : row_or_none (row c k s) ≡ r.0 = ap row_or_none r.1 in
      let fit = st.holds.stages.usages.fit s in
      let size = st.holds.size in
      let a = chunks_length [] (take (used c k s) (drop (2 + 64 * s) c)) r.0 r.1 in
      let b = length-take (used c k s) (drop (2 + 64 * s) c) in
      let d = length-drop (2 + 64 * s) c in
      let l = ap length same in
      ⊎_elim (λ (low : s < k.segments). omega arith) (λ (high : k.segments ≤ s). let z = used_past s high in omega arith)
      (cases_lt s k.segments)

  first_none : (ss : List (Option (List ℕ))) (r : Row) → chunks [] ss ≡ Some r → get_or r 0 None ≡ None
  first_none [] r h = let e : [] ≡ r = cc in ap (λ (r : Row). get_or r 0 None) (sym e)
  first_none (s ∷ ss) r h = let i = opened_inv (entries_in (bytes_of s)) (λ es. chunks es ss) r h in ap (λ (r : Row). get_or r 0 None) i.4

  rows_first : (s : ℕ) → get_or (row_or_none (row c k s)) 0 None ≡ None
  unfolding row_by
  rows_first s = let r = row_there s in ap (λ (o : Option Row). get_or (row_or_none o) 0 None) r.1
      ∙ first_none (take (used c k s) (drop (2 + 64 * s) c)) r.0 r.1

  place_is : (o : Option Row) (at : ℕ) → place_in o at ≡ get_or (row_or_none o) at None
  place_is None at = refl
  place_is (Some r) at = refl

  rows_past : (s : ℕ) → k.segments ≤ s → row_or_none (row c k s) ≡ []
  unfolding row_by
  rows_past s le = ap (λ (u : ℕ). row_or_none (chunks [] (take u (drop (2 + 64 * s) c)))) (used_past s le)

  used_fit : (s : ℕ) → length (row_or_none (row c k s)) ≤ 64
  unfolding address
  used_fit s = let l = row_length s in let f = st.holds.stages.usages.fit s in omega arith

  never_one : (x : Entry) → address c k x ≡ 1 → ⊥
  never_one x one = let w = en.within x (omega arith) in omega (arith, w.0)

  -- a block that has an address stands below one that has
  below : (x p : Entry) (w : ℕ) → address c k x ≡ word (block c (address c k p)) w → 0 < address c k x → 0 < address c k p
  below x p w at lt = address_of_word c (address c k p) w (omega arith)

  down : (x : Entry) → 0 < address c k x → 0 < address c k (parent x)
  down (Data n i) lt =
      ⊎_elim
      (λ (low : i < 112).
      subst (λ (p : Entry). 0 < address c k p) (sym (data_parent_low n i low))
      (below (Data n i) (Inode n) (8 + i)
      (address_linked c k (Data n i) ∙ cond-true (nat_lt i 112) (word (block c (address c k (Inode n))) (8 + i))
      (word (block c (address c k (Leaf n ((i - 112) / 128)))) ((i - 112) % 128)) (lt-ltb i 112 low)) lt))
      (λ (high : 112 ≤ i).
      subst (λ (p : Entry). 0 < address c k p) (sym (data_parent_high n i high))
      (below (Data n i) (Leaf n ((i - 112) / 128)) ((i - 112) % 128)
      (address_linked c k (Data n i) ∙ cond-false (nat_lt i 112) (word (block c (address c k (Inode n))) (8 + i))
      (word (block c (address c k (Leaf n ((i - 112) / 128)))) ((i - 112) % 128)) (le-ltb i 112 high)) lt))
      (cases_lt i 112)
  down (Leaf n zero) lt = below (Leaf n zero) (Inode n) 120 (address_linked c k (Leaf n zero)) lt
  down (Leaf n (suc q)) lt = below (Leaf n (suc q)) (Double n) q (address_linked c k (Leaf n (suc q))) lt
  down (Double n) lt = below (Double n) (Inode n) 121 (address_linked c k (Double n)) lt
  down (Inode n) lt = lt
  down (Map j) lt = lt
  down (Usage j) lt = lt

  some : (x : Entry) → IsPointers x → 2 ≤ address c k x → HasPointer (block c (address c k x))
  some (Leaf n q) is le =
      let h = en.only (Leaf n q) (omega arith) in
      let w = en.spells (Leaf n q) (omega arith) h.0 h.1 in
      let lt = en.stored (Data n (112 + 128 * q + h.0)) h.2 in
      (h.0, h.1, omega arith)
  some (Double n) is le =
      let h = en.only (Double n) (omega arith) in
      let w = en.spells (Double n) (omega arith) h.0 h.1 in
      let lt = en.stored (Leaf n (suc h.0)) h.2 in
      (h.0, h.1, omega arith)
  some (Data n i) is le = absurd is
  some (Inode n) is le = absurd is
  some (Map j) is le = absurd is
  some (Usage j) is le = absurd is

  -- each file that is there has a link
  named_files : (n : ℕ) → is_nameless m n ≡ false
  named_files n = go (m.header n) refl
    where
      go : (o : Option Header) → m.header n ≡ o → is_nameless m n ≡ false
      go None is = ap is_unlinked is
      go (Some h) is =
          let lt = en.stored (Inode n) (h, is) in
          let sp = en.spells (Inode n) lt in
          let holds = holds_inode (layout_version k) n (block c (address c k (Inode n))) sp.formed in
          let both : Some h ≡ Some (header (block c (address c k (Inode n)))) = sym is ∙ sp.header in
          let same : h ≡ header (block c (address c k (Inode n))) = cc in
          let linked = links_some (layout_version k) n (block c (address c k (Inode n))) sp.formed in
          let l = ap (λ (h : Header). h.links) same in
          ap is_unlinked is ∙ false_from_ne_true (h.links == 0) (λ z. let e = eqb-true h.links 0 z in omega arith)

  pub shown_is : (x : Entry) → is_shown m x ≡ true
  shown_is (Data n i) = ap not (named_files n)
  shown_is (Leaf n q) = ap not (named_files n)
  shown_is (Double n) = ap not (named_files n)
  shown_is (Inode n) = ap not (named_files n)
  shown_is (Map j) = refl
  shown_is (Usage j) = refl

  all_shown : (x : Entry) → shown m (address c k) x ≡ address c k x
  all_shown x = cond-true (is_shown m x) (address c k x) 0 (shown_is x)

  spells : (x : Entry) → 0 < address c k x → SpellsBlock m (address c k) (block c (address c k x)) x
  spells (Data n i) lt = en.spells (Data n i) lt
  spells (Leaf n q) lt = en.spells (Leaf n q) lt
  spells (Double n) lt = en.spells (Double n) lt
  spells (Inode n) lt =
      let s = en.spells (Inode n) lt in
      record {
        formed = holds_inode (layout_version k) n (block c (address c k (Inode n))) s.formed;
        header = s.header;
        direct = s.direct;
        single = s.single;
        double = s.double;
      }
  spells (Map j) lt = tt
  spells (Usage j) lt = tt

  mapped : (j : ℕ) → IsMapped m (mounted_memory c k) j
  mapped j = record {
    settled = λ i low one. never_one (Inode (128 * j + i)) (sym (all_shown (Inode (128 * j + i))) ∙ one);
    none = λ z i low. all_shown (Inode (128 * j + i)) ∙ none i low z;
    long = λ le. en.long (Map j) (omega arith);
    spells = λ le i low. en.spells (Map j) (omega arith) i low ∙ sym (all_shown (Inode (128 * j + i)));
    some = λ le.
        let h = en.only (Map j) (omega arith) in
        let w = en.spells (Map j) (omega arith) h.0 h.1 in
        let lt = en.stored (Inode (128 * j + h.0)) h.2 in
        (h.0, h.1, omega arith);
  }
    where
      none : (i : ℕ) → i < 128 → address c k (Map j) ≡ 0 → address c k (Inode (128 * j + i)) ≡ 0
      none i low z = ⊎_elim
          (λ (is : address c k (Inode (128 * j + i)) ≡ 0). is)
          (λ (ne : address c k (Inode (128 * j + i)) ≡ 0 → ⊥).
          let lt = en.stored (Map j) (i, low, en.only (Inode (128 * j + i)) (omega arith)) in absurd (omega arith))
          (cases_eq (address c k (Inode (128 * j + i))) 0)

  row_named : Named (address c k) (λ s. row_or_none (row c k s))
  row_named x le = sym (place_is (row c k ((address c k x - 2) / 64)) ((address c k x - 2) % 64)) ∙ en.named x (omega arith)

  begins : IsLaid c m (mounted_memory c k) k.segments
  begins = record {
    size = en.size;
    few = few;
    blocks = λ n i. (en.stored (Data n i), en.only (Data n i));
    inodes = λ n. (en.stored (Inode n), en.only (Inode n));
    down = down;
    low = λ n q lt. let h = en.only (Leaf n q) lt in let s = formed.small n (112 + 128 * q + h.0) h.2 in omega arith;
    some = some;
    up = λ x one. absurd (never_one x one);
    long = λ x f lt. en.long x lt;
    spells = spells;
    mapped = λ j none. mapped j;
    usages = λ j. (en.stored (Usage j), en.only (Usage j));
    there = λ x lt. refl;
    within = λ x lt. (en.within x (omega arith)).1;
    named = row_named;
    short = used_fit;
    first = rows_first;
    sealed = λ s ne. ap (λ (u : ℕ). row_by c u s) (row_length s) ∙ rows_is s;
    past = rows_past;
  }

  -- ---- and it is as a commit leaves it
  view_address : (x : Entry) → settled_at (those (is_shown m) (address c k) x) ≡ address c k x
  view_address x =
      ap settled_at (all_shown x)
      ∙ ⊎_elim (λ (z : address c k x ≡ 0). ap settled_at z ∙ sym z)
      (λ (ne : address c k x ≡ 0 → ⊥). settled_above (address c k x) (en.within x (omega arith)).0)
      (cases_eq (address c k x) 0)

  held_same : (s at : ℕ) → at < 64
      → IsHeld (view c k) (2 + 64 * s + at) ↔ IsHeld (memory_view (is_shown m) (mounted_memory c k)) (2 + 64 * s + at)
  held_same s at low = (λ h. (h.0, view_address h.0 ∙ h.1), λ h. (h.0, sym (view_address h.0) ∙ h.1))

  live_is : (s : ℕ) → live_of m (mounted_memory c k) s ≡ live_count (view c k) s
  live_is s = same_live (view c k) (memory_view (is_shown m) (mounted_memory c k)) en.named
      (view_named (is_shown m) (mounted_memory c k) row_named) s (held_same s)

  live_counted : (s : ℕ) → live_in (view c k) s ≡ live_of m (mounted_memory c k) s
  live_counted s = ⊎_elim
      (λ (low : s < k.segments). (named_counts (view c k) en.named s (live_in (view c k) s)).0 (st.holds.stages.counted s low)
      ∙ sym (live_is s))
      (λ (high : k.segments ≤ s).
      st.holds.stages.usages.both s (st.holds.stages.usages.past s high).0
      ∙ sym (no_row_live (memory_view (is_shown m) (mounted_memory c k)) s (ap Some (rows_past s high))))
      (cases_lt s k.segments)

  used_counted : (s : ℕ) → used_in (view c k) s ≡ used_of m (mounted_memory c k) s
  unfolding address
  used_counted s =
      let live = live_counted s in
      let row = row_length s in
      ⊎_elim
      (λ (z : live_of m (mounted_memory c k) s ≡ 0).
      none s (omega arith) ∙ sym (cond-true (live_of m (mounted_memory c k) s == 0) 0 (length (row_or_none (Reach.row c k s)))
      (eq-eqb (live_of m (mounted_memory c k) s) 0 z)))
      (λ (ne : live_of m (mounted_memory c k) s ≡ 0 → ⊥).
      sym row ∙ sym (cond-false (live_of m (mounted_memory c k) s == 0) 0 (length (row_or_none (Reach.row c k s)))
      (false_from_ne_true _ (λ h. ne (eqb-true (live_of m (mounted_memory c k) s) 0 h)))))
      (cases_eq (live_of m (mounted_memory c k) s) 0)
    where
      none : (s : ℕ) → live_in (view c k) s ≡ 0 → used_in (view c k) s ≡ 0
      none s z = ⊎_elim (λ (u : used_in (view c k) s ≡ 0). u) (λ some. absurd (omega (arith, z, some.0))) (st.holds.stages.usages.less s)

  is_done : IsDone c m (mounted_memory c k) k.segments k
  unfolding address
  is_done = record {
    none = never_one;
    closed = omega arith;
    segments = refl;
    version = sym st.holds.version;
    map = λ j. refl;
    usage = λ j. refl;
    long = λ j lt. en.long (Usage j) lt;
    used = used_counted;
    whole = λ s lt. ap (λ (n : ℕ). n % unit_sectors k) (sym (used_counted s)) ∙ st.holds.stages.usages.whole s lt;
    live = live_counted;
    age = λ s le. (st.holds.stages.usages.past s le).1;
    clean = st.clean;
  }

pub mounting : Mounting
mounting c k m few sized st = (begins c k m few sized st, is_done c k m few sized st, named_files c k m few sized st)
