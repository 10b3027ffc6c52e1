-- A rename within one directory: to a name that isn't there it leaves the need as it is, and to any name it adds nothing to it.
use Rattle.std.proofs.Common.{◌≡◌, refl, ap, ◌∙◌, ℕ, ◌+◌, ◌≤◌, ◌&&◌, Bool, true, false, List, [], Option, Some, None, arith, cond, length}
use Rattle.std.specs.Prelude.{T, unwrap_or, not, is_some, ◌==◌, if◌then◌else◌}
use Rattle.std.specs.Ordering.{nat_cmp, eq_by_cmp}
use Rattle.std.specs.Cmp.Lexicographic.{nat_list_cmp_total}
use Rattle.std.proofs.lemmas.Cmp.{nat_cmp_total}
use Rattle.std.specs.FinMap.{find, put, is_sorted}
use Rattle.std.specs.FinMap.Entries.{is_sorted-put, is_sorted-where_key, length_without, length-put}
use Rattle.lfs_model.specs.Tree.{Tree, Names, Node, File, Dir, Handles, State, node, without, names, names_in, names_of, form_of, entry}
use Rattle.lfs_model.specs.Tree.{byte_cmp, opened, with_name, without_name}
use Rattle.lfs_model.specs.Need.{cost, cost_at, need}
use Rattle.lfs_model.specs.Sound.{Sound, IsWithinLimits}
use Rattle.lfs_model.specs.Step.{let_go}
use Rattle.lfs_model.proofs.Sums.{find_without}
use Rattle.lfs_model.proofs.Trees.{find_here}
use Rattle.lfs_model.proofs.Needs.{need-with_node, need-without}
use Rattle.lfs_model.proofs.DirCosts.{dir_cost}

-- a node that leaves the tree, or stays
let_go_less : (t : Tree) (h : Handles) (n : ℕ) → T (is_sorted nat_cmp t) → need (let_go t h n) ≤ need t
let_go_less t h n order =
    let less = need-without t n order in
    elim (names t n == 0 && opened h n == 0) as (λ b. need (if b then without nat_cmp n t else t) ≤ need t)
    [ true ↦ omega (arith, less) | false ↦ omega arith ]

at_most_one_more : (b : Bool) (x : ℕ) → cond b x (x + 1) ≤ x + 1
at_most_one_more true x = omega arith
at_most_one_more false x = omega arith

module _ (N : ℕ) (s : State) (sound : Sound N s) (d n : ℕ) (na nb : List ℕ)
    (is : node s.tree d ≡ Some (Dir (form_of (node s.tree d)) (names_in s.tree d))) (found : entry s.tree d na ≡ Some n) where
  abbrev pub t : Tree
  t = s.tree

  abbrev pub m : Names
  m = names_in t d

  abbrev pub form : ℕ
  form = form_of (node t d)

  -- as the rename leaves it
  abbrev pub t' : Tree
  t' = with_name (without_name t d na) d nb n

  abbrev pub m' : Names
  m' = put byte_cmp nb n (without byte_cmp na m)

  limits_dir : IsWithinLimits (Dir form m)
  limits_dir = sound.limits d (Dir form m) is

  mid_order : T (is_sorted nat_cmp (without_name t d na))
  mid_order = is_sorted-put nat_cmp nat_cmp_total d (Dir form (without byte_cmp na m)) t sound.in_order

  less_order : T (is_sorted byte_cmp (without byte_cmp na m))
  less_order = is_sorted-where_key byte_cmp (λ x. not (eq_by_cmp byte_cmp na x)) m limits_dir.0

  abbrev names_at : Option Node → Names
  names_at o = names_of (unwrap_or o (File []))

  -- the directory as it is left
  abbrev grown : Node
  grown = Dir (form_of (node (without_name t d na) d)) (put byte_cmp nb n (names_in (without_name t d na) d))

  grown_is : grown ≡ Dir form m'
  grown_is = ap (λ o. Dir (form_of o) (put byte_cmp nb n (names_at o))) (find_here t d (Dir form (without byte_cmp na m)))

  moved_order : T (is_sorted nat_cmp t')
  moved_order = is_sorted-put nat_cmp nat_cmp_total d grown (without_name t d na) mid_order

  -- one name goes, and one comes if it isn't there yet
  length_less : length (without byte_cmp na m) + 1 ≡ length m
  length_less =
      let less = length_without byte_cmp nat_list_cmp_total na m limits_dir.0 in
      let one : ◌≡◌ {A = ℕ} (cond (is_some (find byte_cmp na m)) 1 0) 1 = ap (λ o. cond (is_some o) 1 0) found in
      omega (arith, less, one)

  length_moved : length m'
      ≡ cond (is_some (find byte_cmp nb (without byte_cmp na m))) (length (without byte_cmp na m)) (length (without byte_cmp na m) + 1)
  length_moved = length-put byte_cmp nat_list_cmp_total nb n (without byte_cmp na m) less_order

  no_longer : length m' ≤ length m
  no_longer =
      let most = at_most_one_more (is_some (find byte_cmp nb (without byte_cmp na m))) (length (without byte_cmp na m)) in
      let less = length_less in
      let is = length_moved in
      omega (arith, most, less, is)

  -- what the directory costs before and after is all that changes
  need_moved : need t' + cost (Dir form m) ≡ need t + cost (Dir form m')
  need_moved =
      let one = need-with_node t d (Dir form (without byte_cmp na m)) sound.in_order in
      let two = need-with_node (without_name t d na) d grown mid_order in
      let was : cost_at (node t d) ≡ cost (Dir form m) = ap cost_at is in
      let mid : cost_at (node (without_name t d na) d) ≡ cost (Dir form (without byte_cmp na m)) =
      ap cost_at (find_here t d (Dir form (without byte_cmp na m))) in
      let now : cost grown ≡ cost (Dir form m') = ap cost grown_is in
      omega (arith, one, two, was, mid, now)

  -- so the need is no more than it was, also where the node that the name gave goes
  pub less_need : (old : ℕ) → need (let_go t' s.handles old) ≤ need t
  less_need old =
      let moved = need_moved in
      let less = dir_cost form m' m no_longer in
      let goes = let_go_less t' s.handles old moved_order in
      omega (arith, moved, less, goes)

  module _ (absent : entry s.tree d nb ≡ None) where
    not_there : find byte_cmp nb (without byte_cmp na m) ≡ None
    not_there = find_without nat_list_cmp_total na nb m ∙ by (eq_by_cmp byte_cmp nb na)
      where
        by : (b : Bool) → cond b None (find byte_cmp nb m) ≡ None
        by true = refl
        by false = absent

    same_length : length m' ≡ length m
    same_length =
        let grows : length m' ≡ length (without byte_cmp na m) + 1 = length_moved
        ∙ ap (λ o. cond (is_some o) (length (without byte_cmp na m)) (length (without byte_cmp na m) + 1)) not_there in
        let less = length_less in
        omega (arith, grows, less)

    -- the need is as it was
    pub same_need : need t' ≡ need t
    same_need =
        let moved = need_moved in
        let low = dir_cost form m' m no_longer in
        let high = dir_cost form m m' (let e = same_length in omega arith) in
        omega (arith, moved, low, high)
