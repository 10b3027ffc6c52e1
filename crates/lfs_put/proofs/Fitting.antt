-- What a new file in the root adds to the need of a tree.
use Rattle.std.proofs.Common.{◌≡◌, ◌≢◌, ◌⊎◌, ◌<◌, ◌≤◌, ℕ, ◌+◌, ◌*◌, ◌/◌, List, [], Option, Some, None, refl, sym, ◌∙◌, ap, subst, arith}
use Rattle.std.proofs.Common.{cond, inl, inr, length}
use Rattle.std.specs.Prelude.{T, is_some, unwrap_or}
use Rattle.std.specs.Int.{div_ceil}
use Rattle.std.specs.List.{range_with_len}
use Rattle.std.specs.Ordering.{nat_cmp}
use Rattle.std.specs.Cmp.Lexicographic.{nat_list_cmp_total}
use Rattle.std.specs.FinMap.{find, put, is_sorted}
use Rattle.std.specs.FinMap.Entries.{is_sorted-put, length-put}
use Rattle.std.proofs.lemmas.Cmp.{nat_cmp_total}
use Rattle.std.proofs.lemmas.List.FromFn.{length-range_with_len}
use Rattle.lfs_model.specs.Need.{cost, cost_at, data_of, data_pieces, meta_of, need, pointers}
use Rattle.lfs_model.specs.Sound.{IsWithinLimits, Sound}
use Rattle.lfs_model.specs.Step.{name, with_new}
use Rattle.lfs_model.specs.Tree.{Dir, File, Names, Node, State, Tree, byte_cmp, entry, form_of, least, names_in, names_of, node}
use Rattle.lfs_model.specs.Tree.{slot_len, with_name}
use Rattle.lfs_model.proofs.Leasts.{least_free}
use Rattle.lfs_model.proofs.Makes.{starts_one}
use Rattle.lfs_model.proofs.Needs.{need-with_node}
use Rattle.lfs_model.proofs.Trees.{find_other}
use Rattle.lfs_put.specs.Largest.{Fits, IsLargestIn, cost_of_blocks, cost_of_entries}

range_cost : (k : ℕ) → length (range_with_len 0 k) + 7 * (1 + pointers (range_with_len 0 k)) ≡ cost_of_blocks k
range_cost k = ap (λ (n : ℕ). n + 7 * (1 + pointers (range_with_len 0 k))) (length-range_with_len 0 k)

file_cost : (b : List ℕ) (k : ℕ) → data_pieces (File b) ≡ range_with_len 0 k → cost (File b) ≡ cost_of_blocks k
unfolding data_of meta_of
file_cost b k full = ap (λ (is : List ℕ). length is + 7 * (1 + pointers is)) full ∙ range_cost k

blocks_are : (n : ℕ) → (n + 511) / 512 ≡ div_ceil n 512
blocks_are n = omega arith

dir_cost_is : (form : ℕ) (m : Names) → cost (Dir form m) ≡ cost_of_entries (slot_len form) (length m)
unfolding data_of meta_of
dir_cost_is form m =
    range_cost ((slot_len form * length m + 511) / 512) ∙ ap cost_of_blocks (blocks_are (slot_len form * length m))

within : (a c d e g l : ℕ) → a + c ≡ g + e + d → g + e + d ≤ l + c → a ≤ l
within a c d e g l all fitting = omega (arith, all, fitting)

past : (a c d e g l : ℕ) → a + c ≡ g + e + d → (g + e + d ≤ l + c → ⊥) → l < a
past a c d e g l all refused = omega (arith, all, refused)

module _ (N : ℕ) (s : State) (sound : Sound N s) (form : ℕ) (m : Names) (root : node s.tree 1 ≡ Some (Dir form m)) (p : List ℕ)
    (absent : entry s.tree 1 (name p) ≡ None) (b : List ℕ) where
  abbrev f : ℕ
  f = least s.tree

  abbrev grown : Node
  grown = Dir (form_of (node s.tree 1)) (put byte_cmp (name p) f (names_in s.tree 1))

  abbrev longer : Names
  longer = put byte_cmp (name p) f m

  abbrev named : Tree
  named = with_name s.tree 1 (name p) f

  abbrev names_at : Option Node → Names
  names_at o = names_of (unwrap_or o (File []))

  grown_is : grown ≡ Dir form longer
  grown_is = ap (λ o. Dir (form_of o) (put byte_cmp (name p) f (names_at o))) root

  named_order : T (is_sorted nat_cmp named)
  named_order = is_sorted-put nat_cmp nat_cmp_total 1 grown s.tree sound.in_order

  limits : IsWithinLimits (Dir form m)
  limits = sound.limits 1 (Dir form m) root

  none_there : find byte_cmp (name p) m ≡ None
  none_there = sym (ap (λ o. find byte_cmp (name p) (names_at o)) root) ∙ absent

  one_longer : length longer ≡ length m + 1
  one_longer = length-put byte_cmp nat_list_cmp_total (name p) f m limits.0
      ∙ ap (λ o. cond (is_some o) (length m) (length m + 1)) none_there

  free : node s.tree f ≡ None
  free = (least_free 1 s.tree sound.in_order (starts_one s.tree sound.numbers)).1

  not_root : f ≢ 1
  not_root same = let clash : None ≡ Some (Dir form m) = sym free ∙ ap (node s.tree) same ∙ root in absurd cc

  free_still : node named f ≡ None
  free_still = find_other s.tree 1 grown f not_root ∙ free

  added : need (with_new s.tree 1 p (File b)) + cost (Dir form m) ≡ need s.tree + cost (File b) + cost (Dir form longer)
  added =
      let one = need-with_node s.tree 1 grown sound.in_order in
      let two = need-with_node named f (File b) named_order in
      let was : cost_at (node s.tree 1) ≡ cost (Dir form m) = ap cost_at root in
      let now : cost grown ≡ cost (Dir form longer) = ap cost grown_is in
      let none : cost_at (node named f) ≡ 0 = ap cost_at free_still in
      omega (arith, one, two, was, now, none)

  -- by the blocks of the file, and the entries of the root
  counted : (k : ℕ) → data_pieces (File b) ≡ range_with_len 0 k
      → need (with_new s.tree 1 p (File b)) + cost_of_entries (slot_len form) (length m)
      ≡ need s.tree + cost_of_blocks k + cost_of_entries (slot_len form) (length m + 1)
  counted k full =
      let was = dir_cost_is form m in
      let now : cost (Dir form longer) ≡ cost_of_entries (slot_len form) (length m + 1) =
      dir_cost_is form longer ∙ ap (cost_of_entries (slot_len form)) one_longer in
      let file = file_cost b k full in
      let all = added in
      sums _ _ _ _ _ all was now file
    where
      sums : (a c d e g : ℕ) {c' d' e' : ℕ} → a + c ≡ g + e + d → c ≡ c' → d ≡ d' → e ≡ e' → a + c' ≡ g + e' + d'
      sums a c d e g all was now file = omega (arith, all, was, now, file)

  module _ (blocks : ℕ) (largest : IsLargestIn (need s.tree) (47 * N) (slot_len form * length m) (length m) blocks)
      (k : ℕ) (full : data_pieces (File b) ≡ range_with_len 0 k) where
    as_large : 0 < k → k ≡ blocks → need (with_new s.tree 1 p (File b)) ≤ 47 * N
    as_large some same = by (largest form refl).fits
      where
        by : (blocks ≡ 0) ⊎ Fits (need s.tree) (47 * N) (slot_len form) (length m) blocks → need (with_new s.tree 1 p (File b)) ≤ 47 * N
        by (inl none) = absurd (omega (arith, some, same, none))
        by (inr fits) =
            let fitting = subst (λ (n : ℕ). Fits (need s.tree) (47 * N) (slot_len form) (length m) n) (sym same) fits in
            within _ _ _ _ _ _ (counted k full) fitting

    larger : blocks < k → k ≤ 16624 → 47 * N < need (with_new s.tree 1 p (File b))
    larger more most = past _ _ _ _ _ _ (counted k full) ((largest form refl).most k more most)

    pub fits : (0 < k → k ≡ blocks → need (with_new s.tree 1 p (File b)) ≤ 47 * N)
        × (blocks < k → k ≤ 16624 → 47 * N < need (with_new s.tree 1 p (File b)))
    fits = (as_large, larger)
