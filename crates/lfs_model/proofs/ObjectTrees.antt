-- The tree of a log map in which one object is another.
use Rattle.std.proofs.Common.{◌≡◌, ◌<◌, ◌≤◌, ⊎_elim, ◌+◌, ◌*◌, ◌/◌, ◌%◌, cond, Bool, ℕ, List, [], map, take, drop, Option, Some, None, refl}
use Rattle.std.proofs.Common.{sym, ◌∙◌, ap, subst, arith, slice_index}
use Rattle.std.specs.Prelude.{T, not, unwrap_or}
use Rattle.std.specs.List.{range_with_len}
use Rattle.std.proofs.lemmas.Bool.{cases_eq, cases_lt}
use Rattle.std.specs.Ordering.{nat_cmp, eq_by_cmp}
use Rattle.std.proofs.lemmas.Cmp.{nat_cmp_total}
use Rattle.std.specs.FinMap.{is_sorted, nat_cmp-IsAntisymmetric}
use Rattle.std.specs.FinMap.Entries.{is_sorted-where_key, is_sorted-put, same_entries}
use Rattle.lfs_model.specs.declared.Kind.{Kind}
use Rattle.lfs_model.specs.declared.Kind.TheVariants as kind
use Rattle.lfs_model.specs.Bytes.{cut, put}
use Rattle.lfs_model.specs.Changing.{IsWithHeader}
use Rattle.lfs_model.specs.Cutting.{IsWithoutFile}
use Rattle.lfs_model.specs.Entry.{Header}
use Rattle.lfs_model.specs.Need.{cost_at, data_of, meta_of}
use Rattle.lfs_model.specs.Stands.{LogMap}
use Rattle.lfs_model.specs.Step.{file_bytes, the_node}
use Rattle.lfs_model.specs.Tree.{Node, File, Dir, Link, Tree, node, slot_len, with_node, without}
use Rattle.lfs_model.specs.TreeOf.{map_of, node_by, node_of, object, slots, tree_in}
use Rattle.lfs_model.specs.Objects.{IsChangedAt, NodeOfHeader, ObjectPut, ObjectTaken, LinksApart, BlocksOfChange, CostsInTree}
use Rattle.lfs_model.specs.Objects.{NeedOfObject, FileWritten, FileCut, data_at, meta_at}
use Rattle.lfs_model.proofs.Committed.{same_node}
use Rattle.lfs_model.proofs.ObjectBytes.{object_cut, object_written}
use Rattle.lfs_model.proofs.ObjectNeeds.{object_costs}
use Rattle.lfs_model.proofs.Standing.{in_order}
use Rattle.lfs_model.proofs.Sums.{find_without, total, total_put, total_without, weight}
use Rattle.lfs_model.proofs.Trees.{cmp_same, cmp_other, find_here, find_other}
use Rattle.lfs_model.proofs.Volume.{node_in, no_node_0, no_node_past}

-- ---- what changes at one number

pub with_header_at : (m m' : LogMap) (n : ℕ) {h : Option Header} → IsWithHeader m n h m' → IsChangedAt m n m'
with_header_at m m' n is = record { headers = is.others; blocks = λ k i ne. is.block k i; version = is.version }

pub without_file_at : (m m' : LogMap) (n : ℕ) → IsWithoutFile m n m' → IsChangedAt m n m'
without_file_at m m' n is = record { headers = is.headers; blocks = is.blocks; version = is.version }

-- ---- nodes

pub node_of_header : NodeOfHeader
node_of_header m n some small = node_in m n some small

same_nodes : (a b : LogMap) (n : ℕ) (o : Option Header) → ((i : ℕ) → a.block n i ≡ b.block n i) → node_of a n o ≡ node_of b n o
same_nodes a b n None same = refl
same_nodes a b n (Some h) same = ap Some (same_node a b h.kind n h same)

-- another number's node stays
pub node_elsewhere : (m m' : LogMap) (n q : ℕ) → IsChangedAt m n m' → (q ≡ n → ⊥) → node (tree_in m') q ≡ node (tree_in m) q
node_elsewhere m m' n q is ne = ⊎_elim
    (λ (none : q < 1). let zero_is : q ≡ 0 = omega arith in
    subst (λ (x : ℕ). node (tree_in m') x ≡ node (tree_in m) x) (sym zero_is) (no_node_0 m' ∙ sym (no_node_0 m)))
    (λ (some : 1 ≤ q). ⊎_elim
    (λ (past : 4095 < q). no_node_past m' q (omega arith) ∙ sym (no_node_past m q (omega arith)))
    (λ (low : q ≤ 4095). node_in m' q some low ∙ ap (node_of m' q) (is.headers q ne)
    ∙ same_nodes m' m q (m.header q) (λ i. is.blocks q i ne) ∙ sym (node_in m q some low))
    (cases_lt 4095 q))
    (cases_lt q 1)

-- trees in order with the same nodes are one
pub same_trees : (s t : Tree) → T (is_sorted nat_cmp s) → T (is_sorted nat_cmp t) → ((q : ℕ) → node s q ≡ node t q) → s ≡ t
same_trees s t a b same = same_entries nat_cmp nat_cmp_total nat_cmp-IsAntisymmetric s t a b same

-- ---- the laws

-- where the node itself is as it was, so is the tree
pub same_tree_at : (m m' : LogMap) (n : ℕ) → IsChangedAt m n m' → node_of m' n (m'.header n) ≡ node_of m n (m.header n)
    → tree_in m' ≡ tree_in m
same_tree_at m m' n is same = same_trees (tree_in m') (tree_in m) (in_order m') (in_order m)
    (λ q. ⊎_elim (λ (at : q ≡ n). subst (λ (x : ℕ). node (tree_in m') x ≡ node (tree_in m) x) (sym at) own) (node_elsewhere m m' n q is)
    (cases_eq q n))
  where
    own : node (tree_in m') n ≡ node (tree_in m) n
    own = ⊎_elim
        (λ (none : n < 1). let zero_is : n ≡ 0 = omega arith in
        subst (λ (x : ℕ). node (tree_in m') x ≡ node (tree_in m) x) (sym zero_is) (no_node_0 m' ∙ sym (no_node_0 m)))
        (λ (some : 1 ≤ n). ⊎_elim
        (λ (past : 4095 < n). no_node_past m' n (omega arith) ∙ sym (no_node_past m n (omega arith)))
        (λ (low : n ≤ 4095). node_in m' n some low ∙ same ∙ sym (node_in m n some low))
        (cases_lt 4095 n))
        (cases_lt n 1)

-- a node that is there afterwards is put into the tree
pub tree_with : (m m' : LogMap) (n : ℕ) {x : Node} → IsChangedAt m n m' → node (tree_in m') n ≡ Some x
    → tree_in m' ≡ with_node (tree_in m) n x
tree_with m m' n {x} is at =
    same_trees (tree_in m') (with_node (tree_in m) n x) (in_order m') (is_sorted-put nat_cmp nat_cmp_total n x (tree_in m) (in_order m))
    (λ q. ⊎_elim
    (λ (here : q ≡ n).
    subst (λ (k : ℕ). node (tree_in m') k ≡ node (with_node (tree_in m) n x) k) (sym here) (at ∙ sym (find_here (tree_in m) n x)))
    (λ (ne : q ≡ n → ⊥). node_elsewhere m m' n q is ne ∙ sym (find_other (tree_in m) n x q ne))
    (cases_eq q n))

-- and none that isn't
pub tree_without : (m m' : LogMap) (n : ℕ) → IsChangedAt m n m' → node (tree_in m') n ≡ None → tree_in m' ≡ without nat_cmp n (tree_in m)
tree_without m m' n is none = same_trees (tree_in m') (without nat_cmp n (tree_in m)) (in_order m')
    (is_sorted-where_key nat_cmp (λ k. not (eq_by_cmp nat_cmp n k)) (tree_in m) (in_order m))
    (λ q. ⊎_elim
    (λ (here : q ≡ n). subst (λ (k : ℕ). node (tree_in m') k ≡ node (without nat_cmp n (tree_in m)) k) (sym here)
    (none ∙ sym (find_without nat_cmp_total n n (tree_in m) ∙ ap (λ (b : Bool). cond b None (node (tree_in m) n)) (cmp_same n))))
    (λ (ne : q ≡ n → ⊥). node_elsewhere m m' n q is ne
    ∙ sym (find_without nat_cmp_total n q (tree_in m) ∙ ap (λ (b : Bool). cond b None (node (tree_in m) q)) (cmp_other q n ne)))
    (cases_eq q n))

-- a number without a header has no node
pub no_header_no_node : (m : LogMap) (n : ℕ) → m.header n ≡ None → node (tree_in m) n ≡ None
no_header_no_node m n at = ⊎_elim
    (λ (low : n < 1). let zero_is : n ≡ 0 = omega arith in subst (λ (x : ℕ). node (tree_in m) x ≡ None) (sym zero_is) (no_node_0 m))
    (λ (some : 1 ≤ n). ⊎_elim
    (λ (past : 4095 < n). no_node_past m n (omega arith))
    (λ (low : n ≤ 4095). node_in m n some low ∙ ap (node_of m n) at)
    (cases_lt 4095 n))
    (cases_lt n 1)

pub object_put : ObjectPut
object_put m m' n h is some small at = tree_with m m' n is (node_in m' n some small ∙ ap (node_of m' n) at)

pub object_taken : ObjectTaken
object_taken m m' n is at = tree_without m m' n is (no_header_no_node m' n at)

-- an object is given by its kind, its form and its size
module _ (m : LogMap) (n : ℕ) (h h' : Header) (form : h'.form ≡ h.form) (size : h'.size ≡ h.size) where
  object_by_size : object m n h' ≡ object m n h
  unfolding object
  object_by_size = ap (λ (s : ℕ). map (λ o. slice_index (m.block n (o / 512)) (o % 512)) (range_with_len 0 s)) size

  slots_by_size : slots m n h' ≡ slots m n h
  unfolding slots
  slots_by_size = λ i.
      map (λ j. take (slot_len (form i)) (drop (slot_len (form i) * j) (object_by_size i))) (range_with_len 0 (size i / slot_len (form i)))

  node_by_size : (k : Kind) → node_by m k n h' ≡ node_by m k n h
  node_by_size kind.File = ap File object_by_size
  node_by_size kind.Directory = λ i. Dir (form i) (map_of (form i) (slots_by_size i))
  node_by_size kind.Link = ap Link object_by_size

pub links_apart : LinksApart
links_apart m m' n h h' is at kind form size = same_tree_at m m' n (with_header_at m m' n is)
    (ap (node_of m' n) is.own ∙ same_nodes m' m n (Some h') (λ i. is.block n i)
    ∙ ap Some (ap (λ (k : Kind). node_by m k n h') kind ∙ node_by_size m n h h' form size h.kind) ∙ sym (ap (node_of m n) at))

-- ---- files

module _ (m m' : LogMap) (n : ℕ) (h h' : Header) (changed : IsChangedAt m n m') (some : 1 ≤ n) (small : n ≤ 4095) (at : m.header n ≡ Some h)
    (now : m'.header n ≡ Some h') (file : h.kind ≡ kind.File) (is_file : h'.kind ≡ kind.File) where
  bytes_were : file_bytes (the_node (tree_in m) n) ≡ object m n h
  bytes_were =
      ap (λ (o : Option Node). file_bytes (unwrap_or o (File []))) (node_in m n some small ∙ ap (node_of m n) at)
      ∙ ap (λ (k : Kind). file_bytes (node_by m k n h)) file

  file_put : (b : List ℕ) → object m' n h' ≡ b → tree_in m' ≡ with_node (tree_in m) n (File b)
  file_put b is = object_put m m' n h' changed some small now
      ∙ ap (with_node (tree_in m) n) (ap (λ (k : Kind). node_by m' k n h') is_file ∙ ap File is)

pub file_written : FileWritten
file_written m m' n h h' is changed some small at now file is_file o w writes =
    file_put m m' n h h' changed some small at now file is_file _
    (object_written m m' n h h' is at o w writes
    ∙ ap (λ (b : List ℕ). put b o w) (sym (bytes_were m m' n h h' changed some small at now file is_file)))

pub file_cut : FileCut
file_cut m m' n h h' is changed some small at now file is_file len cuts =
    file_put m m' n h h' changed some small at now file is_file _
    (object_cut m m' n h h' is at len cuts
    ∙ ap (λ (b : List ℕ). cut b len) (sym (bytes_were m m' n h h' changed some small at now file is_file)))

-- ---- the blocks of the tree

module _ (f : Node → ℕ) where
  abbrev weighs : Option Node → ℕ
  weighs o = weight nat_cmp_total f o

  total_of_change : (m m' : LogMap) (n : ℕ) → IsChangedAt m n m'
      → total nat_cmp_total f (tree_in m') + weighs (node (tree_in m) n) ≡ total nat_cmp_total f (tree_in m) + weighs (node (tree_in m') n)
  total_of_change m m' n is = by (node (tree_in m') n) refl
    where
      by : (o : Option Node) → node (tree_in m') n ≡ o
          → total nat_cmp_total f (tree_in m') + weighs (node (tree_in m) n) ≡ total nat_cmp_total f (tree_in m) + weighs o
      by None none =
          let t = total_without nat_cmp_total f n (tree_in m) (in_order m) in
          let same = ap (total nat_cmp_total f) (tree_without m m' n is none) in
          omega arith
      by (Some x) at =
          let t = total_put nat_cmp_total f n x (tree_in m) (in_order m) in
          let same = ap (total nat_cmp_total f) (tree_with m m' n is at) in
          omega arith

data_at_is : (o : Option Node) → weighs data_of o ≡ data_at o
data_at_is None = refl
data_at_is (Some x) = refl

meta_at_is : (o : Option Node) → weighs meta_of o ≡ meta_at o
meta_at_is None = refl
meta_at_is (Some x) = refl

pub blocks_of_change : BlocksOfChange
blocks_of_change m m' n is =
    let was = node (tree_in m) n in
    let now = node (tree_in m') n in
    let d = total_of_change data_of m m' n is in
    let e = total_of_change meta_of m m' n is in
    (omega (arith, d, data_at_is was, data_at_is now), omega (arith, e, meta_at_is was, meta_at_is now))

cost_at_is : (o : Option Node) → cost_at o ≡ data_at o + 7 * meta_at o
cost_at_is None = refl
cost_at_is (Some x) = refl

pub need_of_object : NeedOfObject
need_of_object m m' n is =
    let both = blocks_of_change m m' n is in
    let d = both.0 in
    let e = both.1 in
    omega (arith, d, e, cost_at_is (node (tree_in m) n), cost_at_is (node (tree_in m') n))

-- ---- costs

pub costs_in_tree : CostsInTree
costs_in_tree m n h is long some small at directory =
    let costs = object_costs m n h is long at directory in
    let there = node_in m n some small ∙ ap (node_of m n) at in
    (ap data_at there ∙ costs.blocks, ap meta_at there ∙ costs.above)
