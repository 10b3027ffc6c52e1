-- The state that a content stands for is sound.
use Rattle.std.proofs.Common.{◌≡◌, ◌≢◌, ◌<◌, ◌≤◌, ⊎_elim, ◌+◌, ◌*◌, ◌/◌, ◌%◌, ◌&&◌, ◌==◌, nat_le, nat_lt, Bool, true, false, ℕ}
use Rattle.std.proofs.Common.{zero, suc, List, [], ◌∷◌, length, map, take, drop, get_or, Option, Some, None, refl, sym, ◌∙◌, ap, subst}
use Rattle.std.proofs.Common.{arith, slice_index}
use Rattle.std.specs.Prelude.{T}
use Rattle.std.specs.List.{AllByRecursion, range_with_len}
use Rattle.std.specs.FinMap.{is_sorted}
use Rattle.std.specs.FinMap.Entries.{is_sorted-put, below_all}
use Rattle.std.specs.Ordering.{is_lt, nat_cmp}
use Rattle.std.proofs.lemmas.Bool.Decides.{nat_tests}
use Rattle.std.proofs.lemmas.Cmp.{nat_list_cmp_total}
use Rattle.std.proofs.lemmas.Bool.{and_parts, leb-true, cases_Bool, cases_lt, cond-true, cond-false, lt-ltb, ltb-true}
use Rattle.std.proofs.lemmas.List.FromFn.{length-map-range_with_len}
use Rattle.lfs_model.specs.declared.Kind.{Kind}
use Rattle.lfs_model.specs.declared.Kind.TheVariants as kind
use Rattle.lfs_model.specs.Bytes.{AreBytes}
use Rattle.lfs_model.specs.Checkpoint.{CheckpointValue, IsVersion, layout_version}
use Rattle.lfs_model.specs.Content.{Content, block, bytes_of}
use Rattle.lfs_model.specs.Device.{Cell, IsSector, cell_at}
use Rattle.lfs_model.specs.Entry.{Header, Data, Inode, IsInode, header}
use Rattle.lfs_model.specs.Inode.{InodeValue, IsForm, inode_in, inode_of, inode_sector, is_size, may_be_inode}
use Rattle.lfs_model.specs.Reach.{view}
use Rattle.lfs_model.specs.Slot.{SlotValue, FitsSlot, may_be_slot, slot_bytes, slot_in, slot_of}
use Rattle.lfs_model.specs.Sound.{Sound, IsGoodName, IsWithinLimits, IsOfVersion}
use Rattle.lfs_model.specs.Stands.{HoldsAt, LogMap}
use Rattle.lfs_model.specs.Tree.{Names, Node, Tree, byte_cmp, is_dir, links, name_len, node, slot_len}
use Rattle.lfs_model.specs.TreeOf.{IsTree, map_of, node_by, node_of, nodes_from, object, slots, tree_in, with_object, with_slot}
use Rattle.lfs_model.specs.Volume.{StandingIsSound, mounted}
use Rattle.lfs_model.proofs.Newest.{newest_version}
use Rattle.lfs_model.proofs.Volume.{no_node_0, no_node_past, node_in, same_state}
use Rattle.lfs_model.proofs.Cells.{sector_at}
use Rattle.lfs_model.proofs.Decoding.{slot_found, value_found}
use Rattle.lfs_model.proofs.Makes.{all_put}
use Rattle.lfs_model.proofs.Numbers.{IsBytes, taken_fits, dropped_fits}
use Rattle.lfs_model.proofs.Parts.{part_fits}

-- ---- bytes
byte_of : (x : Cell) → IsSector x → (i : ℕ) → slice_index (bytes_of x) i < 256
byte_of None is i = omega arith
byte_of (Some bytes) is i = is.each i

block_byte : (c : Content) → AllByRecursion IsSector c → (a i : ℕ) → slice_index (block c a) i < 256
block_byte c all zero i = omega arith
block_byte c all (suc a) i = byte_of (cell_at c (suc a)) (sector_at c (suc a) all) i

all_each : (P : ℕ → Type 0) (xs : List ℕ) → ((i : ℕ) → i < length xs → P (get_or xs i 0)) → AllByRecursion P xs
all_each P [] each = tt
all_each P (x ∷ xs) each = (each 0 (omega arith), all_each P xs (λ i lt. each (suc i) (omega arith)))

each_mapped : (f : ℕ → ℕ) → ((x : ℕ) → f x < 256) → (n a : ℕ) → IsBytes (map f (range_with_len a n))
each_mapped f small zero a i = omega arith
each_mapped f small (suc n) a zero = small a
each_mapped f small (suc n) a (suc i) = each_mapped f small n (a + 1) i

object_bytes : (m : LogMap) → ((n i o : ℕ) → slice_index (m.block n i) o < 256) → (n : ℕ) (h : Header) → IsBytes (object m n h)
unfolding object
object_bytes m small n h = each_mapped (λ o. slice_index (m.block n (o / 512)) (o % 512)) (λ x. small n (x / 512) (x % 512)) h.size 0

pub object_length : (m : LogMap) (n : ℕ) (h : Header) → length (object m n h) ≡ h.size
unfolding object
object_length m n h = length-map-range_with_len (λ o. slice_index (m.block n (o / 512)) (o % 512)) 0 h.size

are_bytes : (xs : List ℕ) → IsBytes xs → AreBytes xs
are_bytes xs small = all_each (λ b. b < 256) xs (λ i lt. small i)

-- ---- names
good_name : (form : ℕ) (s : SlotValue) → FitsSlot form s → IsBytes s.name → IsGoodName (name_len form) s.name
good_name form s fits small = record {
  some = fits.name.long;
  short = fits.name.short;
  clean = all_each (λ c. (c ≢ 0) × (c ≢ 47)) s.name fits.name.bytes;
  bytes = are_bytes s.name small;
  not_dot = fits.name.dot;
  not_dot_dot = fits.name.dotdot;
}

slot_bytes_small : (form : ℕ) (b : List ℕ) (s : SlotValue) → IsBytes b → slot_in form b ≡ Some s → IsBytes s.name
unfolding slot_in
slot_bytes_small form b s small is =
    let found = value_found slot_of (may_be_slot form) (slot_bytes form) b s is in
    subst (λ (v : SlotValue). IsBytes v.name) found.0 (part_fits 5 (get_or b 4 0) b small)

AreGood : ℕ → Names → Type 0
AreGood form m = AllByRecursion (λ e. IsGoodName (name_len form) e.0) m

good_slot : (form : ℕ) (b : List ℕ) (m : Names) (o : Option SlotValue) → slot_in form b ≡ o → IsBytes b → AreGood form m
    → AreGood form (with_slot o m)
unfolding AreGood
good_slot form b m None is small good = good
good_slot form b m (Some s) is small good = all_put byte_cmp (IsGoodName (name_len form)) s.name s.number m
    (good_name form s (slot_found form b s is).0 (slot_bytes_small form b s small is)) good

good_names : (form : ℕ) (bs : List (List ℕ)) → AllByRecursion IsBytes bs → AreGood form (map_of form bs)
unfolding AreGood
good_names form [] small = tt
good_names form (b ∷ bs) small = good_slot form b (map_of form bs) (slot_in form b) refl small.0 (good_names form bs small.1)

each_slot : (f : ℕ → List ℕ) → ((x : ℕ) → IsBytes (f x)) → (n a : ℕ) → AllByRecursion IsBytes (map f (range_with_len a n))
each_slot f small zero a = tt
each_slot f small (suc n) a = (small a, each_slot f small n (a + 1))

slots_small : (m : LogMap) → ((n i o : ℕ) → slice_index (m.block n i) o < 256) → (n : ℕ) (h : Header) → AllByRecursion IsBytes (slots m n h)
unfolding slots
slots_small m small n h =
    each_slot (λ j. take (slot_len h.form) (drop (slot_len h.form * j) (object m n h)))
    (λ j. taken_fits (slot_len h.form) _ (dropped_fits (slot_len h.form * j) (object m n h) (object_bytes m small n h)))
    (h.size / slot_len h.form) 0

pub slots_length : (m : LogMap) (n : ℕ) (h : Header) → length (slots m n h) ≡ h.size / slot_len h.form
unfolding slots
slots_length m n h =
    length-map-range_with_len (λ j. take (slot_len h.form) (drop (slot_len h.form * j) (object m n h))) 0 (h.size / slot_len h.form)

-- ---- headers
pub record IsHeader (version n : ℕ) (h : Header) : Type 0 where
  pub number : (1 ≤ n) × (n ≤ 4095)
  pub links : (1 ≤ h.links) × (h.links ≤ 1000)
  pub form : IsForm version h.kind h.form
  pub size : is_size h.form h.kind h.size ≡ true

within : (n most : ℕ) → (nat_le 1 n && nat_le n most) ≡ true → (1 ≤ n) × (n ≤ most)
within n most e = let a = and_parts (nat_le 1 n) (nat_le n most) e in (leb-true 1 n a.0, leb-true n most a.1)

pub inode_header : (version n : ℕ) (b : List ℕ) → IsInode version n b → IsHeader version n (header b)
unfolding inode_in header
inode_header version n b i =
    let found = value_found inode_of may_be_inode inode_sector b i.value i.spelt in
    let a = and_parts _ _ found.1 in
    let d = and_parts _ _ a.1 in
    let f = and_parts _ _ d.1 in
    let w = within (inode_of b).number 4095 a.0 in
    let own : (inode_of b).number ≡ n = ap (λ (v : InodeValue). v.number) found.0 ∙ i.own in
    record {
      number = subst (λ (x : ℕ). (1 ≤ x) × (x ≤ 4095)) own w;
      links = within (inode_of b).links 1000 d.0;
      form = subst (λ (v : InodeValue). IsForm version v.kind v.form) (sym found.0) i.form;
      size = f.1;
    }

-- what a content that holds a log map has for headers
pub headers_are : (c : Content) (k : CheckpointValue) (m : LogMap) → HoldsAt c k m → (n : ℕ) (h : Header) → m.header n ≡ Some h
    → IsHeader (layout_version k) n h
headers_are c k m st n h is =
    ⊎_elim
    (λ (some : nat_lt 0 ((view c k).address (Inode n)) ≡ true).
    let there : Some h ≡ Some (header ((view c k).block (Inode n))) = sym is ∙ st.header n
    ∙ cond-true (nat_lt 0 ((view c k).address (Inode n))) (Some (header ((view c k).block (Inode n)))) None some in
    let same : h ≡ header ((view c k).block (Inode n)) = cc in
    subst (IsHeader (layout_version k) n) (sym same) (inode_header (layout_version k) n ((view c k).block (Inode n))
    (st.stages.inodes.formed n (ltb-true 0 ((view c k).address (Inode n)) some))))
    (λ (none : nat_lt 0 ((view c k).address (Inode n)) ≡ false).
    let e : Some h ≡ None = sym is ∙ st.header n
    ∙ cond-false (nat_lt 0 ((view c k).address (Inode n))) (Some (header ((view c k).block (Inode n)))) None none in absurd (cc))
    (cases_Bool (nat_lt 0 ((view c k).address (Inode n))))

-- ---- the tree
T_from : (b : Bool) → b ≡ true → T b
T_from b e = subst T (sym e) tt

T_both : (a b : Bool) → T a → T b → T (a && b)
T_both true b p q = q
T_both false b p q = p

less : (x a : ℕ) → x < a → is_lt (nat_cmp x a) ≡ true
less x a lt = grind (arith, nat_tests)

module _ (m : LogMap) where
  below_with : (x a : ℕ) (o : Option Node) (t : Tree) → x < a → T (below_all nat_cmp x t) → T (below_all nat_cmp x (with_object a o t))
  below_with x a None t lt rest = rest
  below_with x a (Some y) t lt rest = T_both (is_lt (nat_cmp x a)) (below_all nat_cmp x t) (T_from (is_lt (nat_cmp x a)) (less x a lt)) rest

  below_nodes : (count a x : ℕ) → x < a → T (below_all nat_cmp x (nodes_from m count a))
  unfolding nodes_from
  below_nodes zero a x lt = tt
  below_nodes (suc count) a x lt =
      below_with x a (node_of m a (m.header a)) (nodes_from m count (a + 1)) lt (below_nodes count (a + 1) x (omega arith))

  sorted_with : (a : ℕ) (o : Option Node) (t : Tree) → T (below_all nat_cmp a t) → T (is_sorted nat_cmp t)
      → T (is_sorted nat_cmp (with_object a o t))
  sorted_with a None t below rest = rest
  sorted_with a (Some y) t below rest = T_both (below_all nat_cmp a t) (is_sorted nat_cmp t) below rest

  sorted_nodes : (count a : ℕ) → T (is_sorted nat_cmp (nodes_from m count a))
  unfolding nodes_from
  sorted_nodes zero a = tt
  sorted_nodes (suc count) a = sorted_with a (node_of m a (m.header a)) (nodes_from m count (a + 1))
      (below_nodes count (a + 1) a (omega arith)) (sorted_nodes count (a + 1))

  pub in_order : T (is_sorted nat_cmp (tree_in m))
  unfolding tree_in
  in_order = sorted_nodes 4095 1

  -- a node is that of a header
  pub node_is : (n : ℕ) (x : Node) → node (tree_in m) n ≡ Some x → (h : Header) × (m.header n ≡ Some h) × (x ≡ node_by m h.kind n h)
  node_is n x at =
      ⊎_elim
      (λ (none : n < 1). let e : None ≡ Some x = sym (ap (λ (y : ℕ). node (tree_in m) y) (omega arith) ∙ no_node_0 m) ∙ at in absurd (cc))
      (λ (some : 1 ≤ n).
      ⊎_elim
      (λ (past : 4095 < n). let e : None ≡ Some x = sym (no_node_past m n (omega arith)) ∙ at in absurd (cc))
      (λ (low : n ≤ 4095). go (m.header n) refl (sym (node_in m n some low) ∙ at))
      (cases_lt 4095 n))
      (cases_lt n 1)
    where
      go : (o : Option Header) → m.header n ≡ o → node_of m n (m.header n) ≡ Some x
          → (h : Header) × (m.header n ≡ Some h) × (x ≡ node_by m h.kind n h)
      go None is there = let e : None ≡ Some x = sym (ap (node_of m n) is) ∙ there in absurd (cc)
      go (Some h) is there = let e : Some (node_by m h.kind n h) ≡ Some x = sym (ap (node_of m n) is) ∙ there in (h, is, cc)

sorted_slot : (m : Names) (o : Option SlotValue) → T (is_sorted byte_cmp m) → T (is_sorted byte_cmp (with_slot o m))
sorted_slot m None h = h
sorted_slot m (Some s) h = is_sorted-put byte_cmp nat_list_cmp_total s.name s.number m h

sorted_names : (form : ℕ) (bs : List (List ℕ)) → T (is_sorted byte_cmp (map_of form bs))
sorted_names form [] = tt
sorted_names form (b ∷ bs) = sorted_slot (map_of form bs) (slot_in form b) (sorted_names form bs)

few_slots : (form size : ℕ) → size ≤ 1024 * slot_len form → size / slot_len form ≤ 1024
few_slots zero size le = omega arith
few_slots (suc form) size le = omega arith

limit_of : (m : LogMap) → ((n i o : ℕ) → slice_index (m.block n i) o < 256) → (kd : Kind) (n : ℕ) (h : Header)
    → is_size h.form kd h.size ≡ true
    → (kd ≡ kind.Directory → length (map_of h.form (slots m n h)) ≡ length (slots m n h))
    → (kd ≡ kind.Link → AllByRecursion (λ c. c ≢ 0) (object m n h)) → IsWithinLimits (node_by m kd n h)
unfolding is_size AreGood
limit_of m small kind.File n h size dir link = let le = leb-true h.size 8511488 size in
    (omega (arith, object_length m n h, le), are_bytes (object m n h) (object_bytes m small n h))
limit_of m small kind.Directory n h size dir link =
    let parts = and_parts (h.size % slot_len h.form == 0) (nat_le h.size (1024 * slot_len h.form)) size in
    let le = leb-true h.size (1024 * slot_len h.form) parts.1 in
    let few = few_slots h.form h.size le in (
      sorted_names h.form (slots m n h),
      omega (arith, dir refl, slots_length m n h, few),
      good_names h.form (slots m n h) (slots_small m small n h),
    )
limit_of m small kind.Link n h size dir link =
    let parts = and_parts (nat_le 1 h.size) (nat_le h.size 1023) size in
    let low = leb-true 1 h.size parts.0 in
    let high = leb-true h.size 1023 parts.1 in (
      omega (arith, object_length m n h, low),
      omega (arith, object_length m n h, high),
      link refl,
      are_bytes (object m n h) (object_bytes m small n h),
    )

version_of : (m : LogMap) (version : ℕ) (kd : Kind) (n : ℕ) (h : Header) → IsForm version kd h.form → IsOfVersion version (node_by m kd n h)
version_of m version kind.File n h form = tt
version_of m version kind.Directory n h form = form
version_of m version kind.Link n h form = tt

root_kind : (m : LogMap) (h : Header) → h.kind ≡ kind.Directory → is_dir (Some (node_by m h.kind 1 h)) ≡ true
root_kind m h is = ap (λ (kd : Kind). is_dir (Some (node_by m kd 1 h))) is

module _ (c : Content) (all : AllByRecursion IsSector c) (k : CheckpointValue) (known : IsVersion (layout_version k)) (m : LogMap)
    (st : HoldsAt c k m) (tree : IsTree k.segments m) where
  small_blocks : (n i o : ℕ) → slice_index (m.block n i) o < 256
  small_blocks n i o =
      subst (λ (b : List ℕ). slice_index b o < 256) (sym (st.block n i)) (block_byte c all ((view c k).address (Data n i)) o)

  is_root : is_dir (node (tree_in m) 1) ≡ true
  is_root =
      let h = header ((view c k).block (Inode 1)) in
      let there : m.header 1 ≡ Some (header ((view c k).block (Inode 1))) = st.header 1
      ∙ cond-true (nat_lt 0 ((view c k).address (Inode 1))) (Some (header ((view c k).block (Inode 1)))) None
      (lt-ltb 0 ((view c k).address (Inode 1)) st.stages.maps.root) in
      ap is_dir (node_in m 1 (omega arith) (omega arith) ∙ ap (node_of m 1) there)
      ∙ root_kind m (header ((view c k).block (Inode 1))) st.stages.inodes.root

  limits_hold : (n : ℕ) (x : Node) → node (tree_in m) n ≡ Some x → IsWithinLimits x
  limits_hold n x at =
      let i = node_is m n x at in
      let f = headers_are c k m st n i.0 i.1 in
      subst IsWithinLimits (sym i.2) (limit_of m small_blocks i.0.kind n i.0 f.size
      (λ dir. (tree.slots.formed n i.0 i.1 dir).1)
      (λ link. tree.texts n (object m n i.0) (at ∙ ap Some i.2 ∙ ap (λ (kd : Kind). Some (node_by m kd n i.0)) link)))

  forms_hold : (n : ℕ) (x : Node) → node (tree_in m) n ≡ Some x → IsOfVersion (layout_version k) x
  forms_hold n x at = let i = node_is m n x at in subst (IsOfVersion (layout_version k)) (sym i.2)
      (version_of m (layout_version k) i.0.kind n i.0 (headers_are c k m st n i.0 i.1).form)

  header_there : (n : ℕ) → node (tree_in m) n ≢ None → (h : Header) × (m.header n ≡ Some h)
  header_there n there = go (node (tree_in m) n) refl
    where
      go : (o : Option Node) → node (tree_in m) n ≡ o → (h : Header) × (m.header n ≡ Some h)
      go None is = absurd (there is)
      go (Some x) is = let i = node_is m n x is in (i.0, i.1)

  few : (n : ℕ) → node (tree_in m) n ≢ None → links (tree_in m) n ≤ 1000
  few n there =
      let i = header_there n there in
      let f = (headers_are c k m st n i.0 i.1).links in
      let e = tree.links n i.0 i.1 in
      omega arith

  pub tree_sound : Sound k.segments (mounted (layout_version k) (tree_in m))
  tree_sound = record {
    in_order = in_order m;
    handles_in_order = tt;
    version = known;
    forms = forms_hold;
    root = is_root;
    numbers = λ n there. let i = header_there n there in (headers_are c k m st n i.0 i.1).number;
    limits = limits_hold;
    few_links = few;
    named = tree.slots.there;
    root_unnamed = tree.reached.root;
    one_name = tree.reached.one;
    reached = tree.reached.down;
    held = λ n ne there none. let some = tree.reached.some n ne there in absurd (omega arith);
    handles = λ h n is. absurd (cc);
    room = tree.room;
  }

pub standing_is_sound : StandingIsSound
standing_is_sound c all s is =
    subst (Sound is.checkpoint.segments)
    (sym (same_state s (mounted (layout_version is.checkpoint) (tree_in is.log)) is.tree.is is.closed is.version))
    (tree_sound c all is.checkpoint (newest_version c is.checkpoint is.found) is.log is.stands.holds is.tree.tree)
