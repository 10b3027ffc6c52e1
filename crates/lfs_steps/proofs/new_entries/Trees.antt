-- A tree with a new object of some kind under a name that was free in a directory: its links.
use Rattle.lfs_steps.proofs.Prelude.{◌≡◌, ◌≢◌, ◌+◌, not, ℕ, Bool, true, false, List, [], Option, Some, None, refl, sym, ◌∙◌, ap, subst}
use Rattle.lfs_steps.proofs.Prelude.{cond, ⊎_elim, arith, T, count_by, unwrap_or, ◌==◌, cases_eq, nat_cmp_total, nat_cmp, eq_by_cmp, find}
use Rattle.lfs_steps.proofs.Prelude.{is_sorted, is_sorted-where_key, Sound, Dir, File, Node, State, Tree, byte_cmp, form_of, is_dir, least}
use Rattle.lfs_steps.proofs.Prelude.{links, links_at, names, names_in, names_of, node, with_name, with_node, without, gives, least_free}
use Rattle.lfs_steps.proofs.Prelude.{dir_at, starts_one, find_without, total_put, weight, change_more, cmp_other, find_here, find_other}
use Rattle.lfs_steps.proofs.Prelude.{first_links, links_beside, NewKind, kind_of_new, makes_directory, new_directory, new_file, new_link}
use Rattle.std.specs.FinMap.{put}
use Rattle.std.specs.FinMap.Entries.{is_sorted-put}
use Rattle.lfs_model.specs.Tree.{Names}
use Rattle.lfs_model.proofs.Makes.{unnamed}
use Rattle.lfs_model.proofs.ObjectTrees.{same_trees}
use Rattle.lfs_model.proofs.Trees.{cmp_same}
use Rattle.lfs_steps.proofs.new_entries.Steps.{new_node}
use Rattle.lfs_steps.proofs.volume.MovedNames.{link_of, links_left, links_more, never, once}

-- Directory d has the links of one directory more, if object n is one, which has its first; the others have what they had.
pub record HasLinks (t t' : Tree) (n d : ℕ) (k : NewKind) : Type 0 where
  pub here : links t' d ≡ links_beside (makes_directory k) (links t d)
  pub first : links t' n ≡ first_links (kind_of_new k)
  pub others : (q : ℕ) → q ≢ n → q ≢ d → links t' q ≡ links t q

-- a new object has no names in it
no_names : (k : NewKind) → names_of (new_node k) ≡ []
no_names new_file = refl
no_names (new_directory form) = refl
no_names (new_link text) = refl

is_directory : (k : NewKind) → is_dir (Some (new_node k)) ≡ makes_directory k
is_directory new_file = refl
is_directory (new_directory form) = refl
is_directory (new_link text) = refl

module _ (N : ℕ) (s : State) (sound : Sound N s) (d : ℕ) (dir : is_dir (node s.tree d) ≡ true) (nm : List ℕ)
    (absent : find byte_cmp nm (names_in s.tree d) ≡ None) (k : NewKind) where
  abbrev n : ℕ
  n = least s.tree

  free : node s.tree n ≡ None
  free = (least_free 1 s.tree sound.in_order (starts_one s.tree sound.numbers)).1

  other : d ≢ n
  other e = let none : node s.tree d ≡ None = ap (node s.tree) e ∙ free in let no : is_dir (node s.tree d) ≡ false = ap is_dir none in cc

  -- ---- it stands there first, without a name
  abbrev t1 : Tree
  t1 = with_node s.tree n (new_node k)

  at_new : node t1 n ≡ Some (new_node k)
  at_new = find_here s.tree n (new_node k)

  kept : (q : ℕ) → q ≢ n → node t1 q ≡ node s.tree q
  kept = find_other s.tree n (new_node k)

  order_1 : T (is_sorted nat_cmp t1)
  order_1 = is_sorted-put nat_cmp nat_cmp_total n (new_node k) s.tree sound.in_order

  unnamed_1 : names t1 n ≡ 0
  unnamed_1 =
      let all = total_put nat_cmp_total (gives n) n (new_node k) s.tree sound.in_order in
      let was : weight nat_cmp_total (gives n) (node s.tree n) ≡ 0 = ap (weight nat_cmp_total (gives n)) free in
      let now : gives n (new_node k) ≡ 0 = ap (λ (ms : Names). count_by (λ e. e.1 == n) ms) (no_names k) in
      let none = unnamed s.tree n sound.in_order sound.limits sound.named free in
      omega (arith, all, was, now, none)

  links_kept : (q : ℕ) → q ≢ n → links t1 q ≡ links s.tree q
  links_kept q ne =
      sym (links_left t1 n order_1 unnamed_1 (ap (λ (o : Option Node). names_of (unwrap_or o (File []))) at_new ∙ no_names k) q ne)
      ∙ ap (λ (t : Tree). links t q) back
    where
      back : without nat_cmp n t1 ≡ s.tree
      back = same_trees (without nat_cmp n t1) s.tree
          (is_sorted-where_key nat_cmp (λ x. not (eq_by_cmp nat_cmp n x)) t1 order_1) sound.in_order
          (λ q. find_without nat_cmp_total n q t1 ∙ ⊎_elim
          (λ (here : q ≡ n). subst (λ (x : ℕ). cond (eq_by_cmp nat_cmp x n) None (node t1 x) ≡ node s.tree x) (sym here)
          (ap (λ (b : Bool). cond b None (node t1 n)) (cmp_same n) ∙ sym free))
          (λ (ne : q ≡ n → ⊥). ap (λ (b : Bool). cond b None (node t1 q)) (cmp_other q n ne) ∙ kept q ne)
          (cases_eq q n))

  -- ---- and is named then
  abbrev named : Tree
  named = with_node (with_name s.tree d nm n) n (new_node k)

  all_links : (q : ℕ) → links named q ≡ links t1 q + link_of (makes_directory k) d n q
  all_links q =
      ap (λ (t : Tree). links t q) (change_more s.tree sound.in_order (put byte_cmp nm n) d n (new_node k) other)
      ∙ links_more t1 d n nm order_1 (dir_at (node t1 d) (ap is_dir (kept d other) ∙ dir))
      (subst (λ (ms : Names). T (is_sorted byte_cmp ms)) (sym names_1)
      (sound.limits d (Dir (form_of (node s.tree d)) (names_in s.tree d)) (dir_at (node s.tree d) dir)).0)
      (ap (find byte_cmp nm) names_1 ∙ absent) q
      ∙ ap (λ (b : Bool). links t1 q + link_of b d n q) (ap is_dir at_new ∙ is_directory k)
    where
      names_1 : names_in t1 d ≡ names_in s.tree d
      names_1 = ap (λ (o : Option Node). names_of (unwrap_or o (File []))) (kept d other)

  pub links_after : HasLinks s.tree named n d k
  links_after = record {
    here = all_links d ∙ ap (λ (x : ℕ). x + link_of (makes_directory k) d n d) (links_kept d other) ∙ here (makes_directory k);
    first = all_links n ∙ ap (λ (o : Option Node). links_at t1 n o + link_of (makes_directory k) d n n) at_new ∙ first k;
    others = λ q a b.
        let all = all_links q in let same = links_kept q a in let none = others q a b (makes_directory k) in omega (arith, all, same, none);
  }
    where
      here : (b : Bool) → links s.tree d + link_of b d n d ≡ links_beside b (links s.tree d)
      here true = let one = once d in omega (arith, one)
      here false = let none = never n d (λ e. other (sym e)) in omega (arith, none)

      first : (x : NewKind) → links_at t1 n (Some (new_node x)) + link_of (makes_directory x) d n n ≡ first_links (kind_of_new x)
      first new_file = let none = unnamed_1 in let one = once n in omega (arith, none, one)
      first (new_directory form) = let none = never d n other in omega (arith, none)
      first (new_link text) = let none = unnamed_1 in let one = once n in omega (arith, none, one)

      others : (q : ℕ) → q ≢ n → q ≢ d → (b : Bool) → link_of b d n q ≡ 0
      others q a b true = never d q (λ e. b (sym e))
      others q a b false = never n q (λ e. a (sym e))
