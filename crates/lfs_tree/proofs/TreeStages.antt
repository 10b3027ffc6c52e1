-- The stages of a tree by number, and the room that it needs.
use Rattle.std.proofs.Common.{◌≡◌, ◌≤◌, ◌+◌, ◌*◌, ◌%◌, ◌==◌, nat_le, true, false, Bool, ℕ, suc, length, Option, Some, None, refl, sym}
use Rattle.std.proofs.Common.{◌∙◌, ap, arith}
use Rattle.std.specs.Prelude.{sum_by}
use Rattle.std.proofs.lemmas.Bool.{and_parts, eqb-true, ltb-true}
use Rattle.lfs_model.specs.declared.Kind.{Kind}
use Rattle.lfs_model.specs.declared.Kind.TheVariants as kind
use Rattle.lfs_model.specs.Checkpoint.{CheckpointValue}
use Rattle.lfs_model.specs.Content.{Content}
use Rattle.lfs_model.specs.Damage.{IsDamaged, stage}
use Rattle.lfs_model.specs.Decodes.{IsSized}
use Rattle.lfs_model.specs.Encodes.{IsLogMap}
use Rattle.lfs_model.specs.Entry.{Data, Header}
use Rattle.lfs_model.specs.Inode.{is_size}
use Rattle.lfs_model.specs.Need.{data_blocks, data_of, meta_blocks, meta_of, need, pointers}
use Rattle.lfs_model.specs.Objects.{AreLong, HasCosts, IsDirectory, is_stored, stored_below, stored_blocks}
use Rattle.lfs_model.specs.Reach.{View, view}
use Rattle.lfs_model.specs.Stands.{EnoughClean, HoldsAt, LogMap, Stages, log_in}
use Rattle.lfs_model.specs.Totals.{IsCounted, data_of_file, meta_of_file, sum_upto}
use Rattle.lfs_model.specs.Tree.{Node, slot_len}
use Rattle.lfs_model.specs.TreeOf.{AreFormed, IsTree, node_by, node_of, tree_in}
use Rattle.lfs_model.proofs.Decodes
use Rattle.lfs_model.proofs.NodeSums.{tree_sum}
use Rattle.lfs_model.proofs.ObjectNeeds.{filter_none, object_costs}
use Rattle.lfs_model.proofs.Standing.{headers_are}
use Rattle.lfs_verify.specs.Codes.{HoldsBelow}
use Rattle.lfs_verify.proofs.CodeSteps.{below_1, below_next, stage_1, stage_2, stage_3, stage_4, stage_5, stage_6, stage_7, stage_8}
use Rattle.lfs_verify.proofs.CodeSteps.{stage_9}
use Rattle.lfs_tree.specs.Checking.{IsTreeDamage, links_fail, reached_fail, space_fail, slots_fail, texts_fail}

-- ---- stages by number
below_10 : {v : View} → Stages v → HoldsBelow v 10
below_10 {v} s =
    below_next v 9 (below_next v 8
    (below_next v 7 (below_next v 6 (below_next v 5 (below_next v 4 (below_next v 3 (below_next v 2 (below_next v 1 (below_1 v)
    ((stage_1 v).1 s.usages)) ((stage_2 v).1 s.rows)) ((stage_3 v).1 s.maps)) ((stage_4 v).1 s.inodes)) (stage_5 s.roots))
    (stage_6 s.leaves)) ((stage_7 v).1 s.blocks)) ((stage_8 v).1 s.named)) ((stage_9 v).1 s.counted)

-- damage of the tree is damage of the volume, where the stages of its log hold
pub damage_of_tree : {v : View} {code : ℕ} → Stages v → IsTreeDamage v.checkpoint.segments (log_in v) code
    → (10 ≤ code) × (code ≤ 14) × IsDamaged v code
unfolding stage
damage_of_tree {v} s (slots_fail is fails) =
    (omega arith, omega arith, rw is (below_10 s, fails))
damage_of_tree {v} s (texts_fail is slots fails) =
    (omega arith, omega arith, rw is (below_next v 10 (below_10 s) slots, fails))
damage_of_tree {v} s (reached_fail is slots texts fails) =
    (omega arith, omega arith, rw is (below_next v 11 (below_next v 10 (below_10 s) slots) texts, fails))
damage_of_tree {v} s (links_fail is slots texts reached fails) =
    (omega arith, omega arith, rw is (below_next v 12 (below_next v 11 (below_next v 10 (below_10 s) slots) texts) reached, fails))
damage_of_tree {v} s (space_fail is slots texts reached links fails) = (
  omega arith,
  omega arith,
  rw is (below_next v 13 (below_next v 12 (below_next v 11 (below_next v 10 (below_10 s) slots) texts) reached) links, fails),
)

-- where the stages of the log and of its tree hold, too few clean segments are what is damaged
pub too_few_clean : {v : View} → Stages v → IsTree v.checkpoint.segments (log_in v) → (EnoughClean v → ⊥) → IsDamaged v 15
unfolding stage
too_few_clean {v} s t few = (
  below_next v 14 (below_next v 13 (below_next v 12 (below_next v 11 (below_next v 10 (below_10 s) t.slots) t.texts) t.reached)
      t.links) t.room,
  few,
)

-- ---- the log map of a content
pub same_log : {c : Content} {k : CheckpointValue} {m : LogMap} → HoldsAt c k m → m ≡ log_in (view c k)
same_log st i = record { header = λ n. st.header n i; block = λ n j. st.block n j i; version = st.version i }

-- ---- sums
sum_upto_none : (f : ℕ → ℕ) → sum_upto f 0 ≡ 0
unfolding sum_upto
sum_upto_none f = refl

sum_upto_more : (f : ℕ → ℕ) (n : ℕ) → sum_upto f (suc n) ≡ sum_upto f n + f (suc n)
unfolding sum_upto
sum_upto_more f n = refl

-- ---- the need
module _ (c : Content) (k : CheckpointValue) (m : LogMap) (sized : IsSized c) (st : HoldsAt c k m) (formed : AreFormed m) where
  map_is : IsLogMap m
  map_is = Decodes.formed c k m sized st

  long : (n : ℕ) → AreLong m n
  long n i has = ap length (st.block n i) ∙ Decodes.long c k m sized st (Data n i) (Decodes.stored c k m sized st (Data n i) has)

  whole_slots : (h : Header) → is_size h.form h.kind h.size ≡ true → (k : Kind) → h.kind ≡ k → k ≡ kind.Directory
      → h.size % slot_len h.form ≡ 0
  unfolding is_size
  whole_slots h size kind.File e dir = cc
  whole_slots h size kind.Link e dir = cc
  whole_slots h size kind.Directory e dir =
      eqb-true (h.size % slot_len h.form) 0 (and_parts (h.size % slot_len h.form == 0) (nat_le h.size (1024 * slot_len h.form)) cc).0

  directory : (n : ℕ) (h : Header) → m.header n ≡ Some h → h.kind ≡ kind.Directory → IsDirectory m n h
  directory n h at dir =
      let own = formed n h at dir in
      record { whole = whole_slots h (headers_are c k m st n h at).size h.kind refl dir; formed = own.0; apart = own.1 }

  costs : (n : ℕ) (h : Header) → m.header n ≡ Some h → HasCosts (node_by m h.kind n h) (stored_blocks m n)
  costs n h at = object_costs m n h map_is (long n) at (directory n h at)

  not_stored : (n : ℕ) → m.header n ≡ None → (i : ℕ) → is_stored m n i ≡ false
  not_stored n none i = by (is_stored m n i) refl
    where
      by : (b : Bool) → is_stored m n i ≡ b → b ≡ false
      by false e = refl
      by true e =
          let at = map_is.within n i (ltb-true 0 (length (m.block n i)) e) in
          cc

  stored_none : (n : ℕ) → m.header n ≡ None → length (stored_blocks m n) ≡ 0
  unfolding stored_below
  stored_none n none = ap length (filter_none (is_stored m n) 0 16624 (λ i low. not_stored n none i))

  data_each : (n : ℕ) (o : Option Header) → m.header n ≡ o → elim (node_of m n o) [ None ↦ 0 | Some x ↦ data_of x ] ≡ data_of_file m n
  data_each n None at = sym (stored_none n at)
  data_each n (Some h) at = (costs n h at).blocks

  meta_each : (n : ℕ) (o : Option Header) → m.header n ≡ o → elim (node_of m n o) [ None ↦ 0 | Some x ↦ meta_of x ] ≡ meta_of_file m n
  meta_each n None at = sym (ap (λ (o : Option Header). elim o [ None ↦ 0 | Some h ↦ 1 + pointers (stored_blocks m n) ]) at)
  meta_each n (Some h) at = (costs n h at).above
      ∙ sym (ap (λ (o : Option Header). elim o [ None ↦ 0 | Some h ↦ 1 + pointers (stored_blocks m n) ]) at)

  sum_of : (f : Node → ℕ) (g : ℕ → ℕ) → ((n : ℕ) → elim (node_of m n (m.header n)) [ None ↦ 0 | Some x ↦ f x ] ≡ g n)
      → sum_by (λ (e : ℕ × Node). f e.1) (tree_in m) ≡ sum_upto g 4095
  sum_of f g each = tree_sum m f g each (sum_upto g) (sum_upto_none g) (sum_upto_more g)

  pub need_is : {blocks others : ℕ} → IsCounted m blocks others → need (tree_in m) ≡ blocks + 7 * others + 720
  need_is counted =
      let data_is : data_blocks (tree_in m) ≡ sum_upto (data_of_file m) 4095 =
      sum_of data_of (data_of_file m) (λ n. data_each n (m.header n) refl) in
      let meta : meta_blocks (tree_in m) ≡ sum_upto (meta_of_file m) 4095 =
      sum_of meta_of (meta_of_file m) (λ n. meta_each n (m.header n) refl) in
      let above = counted.above in
      omega arith
