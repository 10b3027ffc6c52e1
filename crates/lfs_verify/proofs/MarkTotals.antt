-- The totals of a log map, by the marks of a walk over it.
use Rattle.std.proofs.Common.{◌≡◌, ◌<◌, ◌≤◌, ◌↔◌, ◌+◌, ◌-◌, ◌*◌, ℕ, zero, suc, Bool, true, false, List, length, Option, Some, None, get_or}
use Rattle.std.proofs.Common.{refl, sym, ◌∙◌, ap, subst, arith}
use Rattle.std.proofs.lemmas.Bool.{false_from_ne_true, lt-ltb, ltb-true}
use Rattle.std.proofs.lemmas.List.Sums.{length-filter}
use Rattle.std.specs.List.{range_with_len}
use Rattle.lfs_model.specs.Checkpoint.{CheckpointValue}
use Rattle.lfs_model.specs.Content.{Content}
use Rattle.lfs_model.specs.Decodes.{IsSized}
use Rattle.lfs_model.specs.Encodes.{Has, HasData, HasInode, IsLogMap}
use Rattle.lfs_model.specs.Entry.{Entry, Data, Leaf, Double, Inode, Header}
use Rattle.lfs_model.specs.Need.{pointers}
use Rattle.lfs_model.specs.Objects.{has_double, has_leaf, is_stored, one_if, stored_below, stored_blocks}
use Rattle.lfs_model.specs.Reach.{address, view}
use Rattle.lfs_model.specs.Stands.{LogMap, HoldsAt, count_up}
use Rattle.lfs_model.specs.Totals.{IsCounted, data_in, data_of_file, meta_in, meta_of_file, sum_upto}
use Rattle.lfs_model.proofs.Decodes.{formed, only, stored}
use Rattle.lfs_model.proofs.ObjectPointers.{leaf_tests, pointer_count}
use Rattle.lfs_verify.specs.Totals.{above_count, CountsByMarks}
use Rattle.lfs_verify.specs.Walk.{Walked, InBounds, step_of}
use Rattle.lfs_verify.proofs.Occurrences.{above, above_is, above_next, above_none, above_range, above_ranges, count_off, occurrences}
use Rattle.lfs_verify.proofs.Occurrences.{occurs_never, occurs_once, sum_both}
use Rattle.lfs_verify.proofs.Steps.{same_step, inside_marks, within}

-- ---- files of a log map, as counts
stored_count : (m : LogMap) (n end : ℕ) → length (stored_below m n end) ≡ count_up (is_stored m n) end
unfolding stored_below count_up
stored_count m n end = length-filter (is_stored m n) (range_with_len 0 end)

abbrev has_inode : LogMap → ℕ → Bool
has_inode m n = elim (m.header n) [ None ↦ false | Some h ↦ true ]

stored_test : (m : LogMap) (n i : ℕ) → (is_stored m n i ≡ true) ↔ HasData m n i
stored_test m n i = (λ on. ltb-true 0 (length (m.block n i)) on, λ lt. lt-ltb 0 (length (m.block n i)) lt)

inode_test : (m : LogMap) (n : ℕ) (o : Option Header) → m.header n ≡ o → (has_inode m n ≡ true) ↔ HasInode m n
inode_test m n None at = (
  λ on. (let off : has_inode m n ≡ false = ap (λ (o : Option Header). elim o [ None ↦ false | Some h ↦ true ]) at in absurd (cc)),
  λ has. (let both : None ≡ Some has.0 = sym at ∙ has.1 in absurd (cc)),
)
inode_test m n (Some h) at = (λ on. (h, at), λ has. ap (λ (o : Option Header). elim o [ None ↦ false | Some h ↦ true ]) at)

-- the blocks of pointers that the inode leads to, and the leaves below its double root
abbrev roots_of : LogMap → ℕ → ℕ
roots_of m n = one_if (has_leaf m n 0) + one_if (has_double m n)

abbrev leaves_of : LogMap → ℕ → ℕ
leaves_of m n = count_up (λ q. has_leaf m n (suc q)) 128

abbrev inodes_of : LogMap → ℕ → ℕ
inodes_of m n = one_if (has_inode m n)

module _ {m : LogMap} (is : IsLogMap m) where
  -- a number without a file has nothing
  no_data : (n : ℕ) → m.header n ≡ None → (i : ℕ) → HasData m n i → ⊥
  no_data n none i has = let within = is.within n i has in let both : None ≡ Some within.0 = sym none ∙ within.1 in absurd (cc)

  no_leaf : (n q : ℕ) → m.header n ≡ None → has_leaf m n q ≡ false
  no_leaf n q none =
      false_from_ne_true (has_leaf m n q) (λ on. let has = ((leaf_tests m n).0 q).0 on in no_data n none (112 + 128 * q + has.0) has.2)

  no_double : (n : ℕ) → m.header n ≡ None → has_double m n ≡ false
  no_double n none = false_from_ne_true (has_double m n)
      (λ on. let has = (leaf_tests m n).1.0 on in no_data n none (112 + 128 * suc has.0 + has.2.0) has.2.2)

  no_blocks : (n : ℕ) → m.header n ≡ None → data_of_file m n ≡ 0
  no_blocks n none = stored_count m n 16624
      ∙ count_off (is_stored m n) 16624 (λ i lt. false_from_ne_true (is_stored m n i) (λ on. no_data n none i ((stored_test m n i).0 on)))

  no_roots : (n : ℕ) → m.header n ≡ None → roots_of m n ≡ 0
  no_roots n none = omega (arith, ap one_if (no_leaf n 0 none), ap one_if (no_double n none))

  no_leaves : (n : ℕ) → m.header n ≡ None → leaves_of m n ≡ 0
  no_leaves n none = count_off (λ q. has_leaf m n (suc q)) 128 (λ q lt. no_leaf n (suc q) none)

  no_inode : (n : ℕ) → m.header n ≡ None → inodes_of m n ≡ 0
  no_inode n none = ap (λ (o : Option Header). one_if (elim o [ None ↦ false | Some h ↦ true ])) none

  -- number 0 is no file's
  none_zero : (o : Option Header) → m.header 0 ≡ o → m.header 0 ≡ None
  none_zero None at = at
  none_zero (Some h) at = absurd (is.none h at)

  zero_free : m.header 0 ≡ None
  zero_free = none_zero (m.header 0) refl

  -- a file's inode and its blocks of pointers
  meta_parts : (n : ℕ) (o : Option Header) → m.header n ≡ o → inodes_of m n + (roots_of m n + leaves_of m n) ≡ meta_of_file m n
  meta_parts n None at =
      let gone : meta_of_file m n ≡ 0 = ap (λ (o : Option Header). elim o [ None ↦ 0 | Some h ↦ 1 + pointers (stored_blocks m n) ]) at in
      omega (arith, gone, no_inode n at, no_roots n at, no_leaves n at)
  meta_parts n (Some h) at =
      let there : meta_of_file m n ≡ 1 + pointers (stored_blocks m n) =
      ap (λ (o : Option Header). elim o [ None ↦ 0 | Some h ↦ 1 + pointers (stored_blocks m n) ]) at in
      let one : inodes_of m n ≡ 1 = ap (λ (o : Option Header). one_if (elim o [ None ↦ false | Some h ↦ true ])) at in
      omega (arith, there, one, pointer_count m n)

  meta_sum : (k : ℕ) → sum_upto (inodes_of m) k + (sum_upto (roots_of m) k + sum_upto (leaves_of m) k) ≡ sum_upto (meta_of_file m) k
  meta_sum k =
      let below = sum_both (roots_of m) (leaves_of m) (λ n. roots_of m n + leaves_of m n) k (λ n. refl) in
      let all = sum_both (inodes_of m) (λ n. roots_of m n + leaves_of m n) (meta_of_file m) k (λ n. meta_parts n (m.header n) refl) in
      omega (arith, below, all)

module _ (c : Content) (k : CheckpointValue) (sized : IsSized c) (m : LogMap) (st : HoldsAt c k m) (marks : List ℕ)
    (w : Walked (view c k) marks 68628528) where
  map_is : IsLogMap m
  map_is = formed c k m sized st

  at_end : (e : Entry) → InBounds e → step_of e < 68628528
  at_end e b = (within e b).5

  -- the mark of an entry stands once where the log map has that entry, and nowhere else
  once : (e : Entry) → InBounds e → Has m k.segments e → occurrences marks (suc (step_of e)) ≡ 1
  once e b has =
      let mark = w.marked e (at_end e b) b (stored c k m sized st e has) in
      occurs_once marks (address c k e) (inside_marks marks (address c k e) mark) mark (λ at there.
      let h = w.held at (step_of e) there in
      sym h.5 ∙ ap (address c k) (same_step h.0 e h.3 b h.1))

  never : (e : Entry) → InBounds e → (Has m k.segments e → ⊥) → occurrences marks (suc (step_of e)) ≡ 0
  never e b lacks = occurs_never marks (suc (step_of e)) (λ at there.
      let h = w.held at (step_of e) there in
      lacks (only c k m sized st e (subst (λ (x : Entry). 0 < address c k x) (same_step h.0 e h.3 b h.1) h.4)))

  counted : (e : Entry) → InBounds e → (test : Bool) → (test ≡ true) ↔ Has m k.segments e
      → occurrences marks (suc (step_of e)) ≡ one_if test
  counted e b true is = once e b (is.0 refl)
  counted e b false is = never e b (λ has. let on : false ≡ true = is.1 has in absurd (cc))

  -- the marks of one file
  inode_marks : (n : ℕ) → n ≤ 4095 → above marks (48 + n) ≡ above marks (48 + suc n) + inodes_of m n
  inode_marks n le = omega (
    arith,
    counted (Inode n) (omega (arith, le)) (has_inode m n) (inode_test m n (m.header n) refl),
    above_next marks (48 + n) (48 + suc n) (omega arith),
  )

  root_marks : (n : ℕ) → n ≤ 4095 → above marks (4144 + 2 * n) ≡ above marks (4144 + 2 * suc n) + roots_of m n
  root_marks n le = omega (
    arith,
    counted (Leaf n zero) (omega (arith, le)) (has_leaf m n 0) ((leaf_tests m n).0 0),
    counted (Double n) (omega (arith, le)) (has_double m n) (leaf_tests m n).1,
    above_next marks (4144 + 2 * n) (4145 + 2 * n) (omega arith),
    above_next marks (4145 + 2 * n) (4144 + 2 * suc n) (omega arith),
  )

  leaf_marks : (n : ℕ) → n ≤ 4095 → above marks (12336 + 128 * n) ≡ above marks (12336 + 128 * suc n) + leaves_of m n
  leaf_marks n le = above_range marks (λ q. has_leaf m n (suc q)) (12336 + 128 * n) 128 (12336 + 128 * suc n) (omega arith)
      (λ q lt. counted (Leaf n (suc q)) (omega (arith, le), lt) (has_leaf m n (suc q)) ((leaf_tests m n).0 (suc q)))

  data_marks : (n : ℕ) → n ≤ 4095 → above marks (536624 + 16624 * n) ≡ above marks (536624 + 16624 * suc n) + data_of_file m n
  data_marks n le =
      let all = above_range marks (is_stored m n) (536624 + 16624 * n) 16624 (536624 + 16624 * suc n) (omega arith)
      (λ i lt. counted (Data n i) (omega (arith, le), lt) (is_stored m n i) (stored_test m n i)) in
      omega (arith, all, stored_count m n 16624)

  -- no mark is above the last step's
  last_mark : (a x : ℕ) → get_or marks a 0 ≡ x → x ≤ 68628528
  last_mark a zero is = omega arith
  last_mark a (suc p) is = omega (arith, (w.held a p is).2)

  none_above : above marks 68628528 ≡ 0
  none_above = above_none marks 68628528 (λ a. last_mark a (get_or marks a 0) refl)

  all_data : above marks 536624 ≡ data_in m
  all_data =
      let sum = above_ranges marks (λ n. 536624 + 16624 * n) (data_of_file m) 4095 (no_blocks map_is 0 (zero_free map_is)) data_marks in
      omega (arith, sum, none_above)

  all_meta : above marks 48 ≡ above marks 536624 + meta_in m
  all_meta =
      let free = zero_free map_is in
      let inodes = above_ranges marks (λ n. 48 + n) (inodes_of m) 4095 (no_inode map_is 0 free) inode_marks in
      let roots = above_ranges marks (λ n. 4144 + 2 * n) (roots_of m) 4095 (no_roots map_is 0 free) root_marks in
      let leaves = above_ranges marks (λ n. 12336 + 128 * n) (leaves_of m) 4095 (no_leaves map_is 0 free) leaf_marks in
      omega (arith, inodes, roots, leaves, meta_sum map_is 4095)

  pub totals_by_marks : {blocks all : ℕ} → blocks ≡ above marks 536624 → all ≡ above marks 48 → IsCounted m blocks (all - blocks)
  totals_by_marks is whole = record {
    stored = is ∙ all_data;
    above = omega (arith, is, whole, all_meta);
  }

pub counts_by_marks : (marks : List ℕ) (blocks all : ℕ) → blocks ≡ above_count marks 536624 (length marks)
    → all ≡ above_count marks 48 (length marks) → CountsByMarks marks blocks (all - blocks)
counts_by_marks marks blocks all is whole c k sized m st w =
    totals_by_marks c k sized m st marks w (is ∙ above_is marks 536624) (whole ∙ above_is marks 48)
