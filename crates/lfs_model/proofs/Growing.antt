-- A tree with a new name in a directory that gives a new file or link.
use Rattle.std.proofs.Common.{◌≡◌, ◌≢◌, refl, sym, ap, subst, ◌∙◌, ℕ, ◌+◌, false, List, [], Option, Some, None, arith}
use Rattle.std.proofs.Common.{inl, ◌⊎◌, add-zero}
use Rattle.std.specs.Prelude.{T, count_by, unwrap_or, if◌then◌else◌, ◌==◌}
use Rattle.std.specs.Ordering.{nat_cmp}
use Rattle.lfs_model.specs.Tree.{Tree, Names, Node, File, Dir, Link, node, with_node, names_in, names_of, is_dir, entry, byte_cmp, names}
use Rattle.lfs_model.specs.Tree.{links, links_at}
use Rattle.lfs_model.specs.Sound.{IsReachable}
use Rattle.std.proofs.lemmas.Cmp.{nat_cmp_total}
use Rattle.std.specs.FinMap.{find, put, is_sorted}
use Rattle.std.specs.FinMap.Entries.{is_sorted-put}
use Rattle.lfs_model.proofs.Sums.{total_put, weight}
use Rattle.lfs_model.proofs.Trees.{find_here, find_other}
use Rattle.lfs_model.proofs.Alike.{links_of_names, same_entries, same_reached}
use Rattle.lfs_model.proofs.Gaining as named
pub use Rattle.lfs_model.proofs.Alike.{same_or_not, gives}

-- ---- what a file or a link has

leaf_names : (x : Node) → is_dir (Some x) ≡ false → names_of x ≡ []
leaf_names (File b) h = refl
leaf_names (Dir form m) h = cc
leaf_names (Link text) h = refl

leaf_gives : (q : ℕ) (x : Node) → is_dir (Some x) ≡ false → gives q x ≡ 0
leaf_gives q x h = ap (λ m. count_by (λ e. e.1 == q) m) (leaf_names x h)

leaf_links : (t : Tree) (n : ℕ) (x : Node) → is_dir (Some x) ≡ false → links_at t n (Some x) ≡ names t n
leaf_links t n (File b) h = refl
leaf_links t n (Dir form m) h = cc
leaf_links t n (Link text) h = refl

module _ (t : Tree) (d n form : ℕ) (m : Names) (nm : List ℕ) (made : Node) (leaf : is_dir (Some made) ≡ false)
    (in_order : T (is_sorted nat_cmp t)) (is : node t d ≡ Some (Dir form m)) (dir_order : T (is_sorted byte_cmp m))
    (fresh : node t n ≡ None) (absent : find byte_cmp nm m ≡ None) where
  abbrev pub grown : Node
  grown = Dir form (put byte_cmp nm n m)

  abbrev mid : Tree
  mid = with_node t d grown

  abbrev pub after : Tree
  after = with_node mid n made

  other : d ≢ n
  other e = let a : node t n ≡ Some (Dir form m) = subst (λ x. node t x ≡ Some (Dir form m)) e is in let b = fresh in cc

  mid_order : T (is_sorted nat_cmp mid)
  mid_order = named.after_order t d n form m nm in_order is dir_order absent

  pub after_order : T (is_sorted nat_cmp after)
  after_order = is_sorted-put nat_cmp nat_cmp_total n made mid mid_order

  pub at_new : node after n ≡ Some made
  at_new = find_here mid n made

  not_yet : node mid n ≡ None
  not_yet = named.at_other t d n form m nm in_order is dir_order absent n (λ e. other (sym e)) ∙ fresh

  pub at_dir : node after d ≡ Some grown
  at_dir = find_other mid n made d other ∙ named.at_dir t d n form m nm in_order is dir_order absent

  pub at_other : (q : ℕ) → q ≢ n → q ≢ d → node after q ≡ node t q
  at_other q a b = find_other mid n made q a ∙ named.at_other t d n form m nm in_order is dir_order absent q b

  -- ---- the new node is no directory and names nothing
  unseen : {A : Type 0} (f : Option Node → A) → f (Some made) ≡ f None → (q : ℕ) → f (node after q) ≡ f (node mid q)
  unseen f same q = same_or_not q n
      (λ e. subst (λ x. f (node after x) ≡ f (node mid x)) (sym e) (ap f at_new ∙ same ∙ sym (ap f not_yet)))
      (λ a. ap f (find_other mid n made q a))

  same_dirs : (q : ℕ) → is_dir (node after q) ≡ is_dir (node mid q)
  same_dirs = unseen is_dir leaf

  lists : (q : ℕ) → names_in after q ≡ names_in mid q
  lists = unseen (λ (o : Option Node). names_of (unwrap_or o (File []))) (leaf_names made leaf)

  same_names : (q : ℕ) → names after q ≡ names mid q
  same_names q =
      let all = total_put nat_cmp_total (gives q) n made mid mid_order in
      let no_more = leaf_gives q made leaf in
      let none : weight nat_cmp_total (gives q) (node mid n) ≡ 0 = ap (weight nat_cmp_total (gives q)) not_yet in
      omega (arith, all, no_more, none)

  same_links : (q : ℕ) → q ≢ n → links after q ≡ links mid q
  same_links q a = ap (links_at after q) (find_other mid n made q a) ∙ links_of_names mid after same_dirs q (same_names q) (node mid q)

  -- the directories are the same
  pub dirs : (q : ℕ) → is_dir (node after q) ≡ is_dir (node t q)
  dirs q = same_dirs q ∙ named.dirs t d n form m nm in_order is dir_order absent q

  pub names_kept : (q : ℕ) → q ≢ n → names after q ≡ names t q
  names_kept q ne = same_names q ∙ named.names_kept t d n form m nm in_order is dir_order absent q ne

  pub names_new : names after n ≡ names t n + 1
  names_new = same_names n ∙ named.names_more t d n form m nm in_order is dir_order absent

  pub entry_after : (q : ℕ) (x : List ℕ) (k : ℕ) → entry after q x ≡ Some k → (k ≡ n) ⊎ (entry t q x ≡ Some k)
  entry_after q x k e =
      named.entry_after t d n form m nm in_order is dir_order absent q x k (sym (same_entries mid after lists q x) ∙ e)

  pub links_dir : links after d ≡ links t d
  links_dir =
      let new : is_dir (node t n) ≡ false = ap is_dir fresh in
      same_links d other ∙ named.links_dir t d n form m nm in_order is dir_order absent
      ∙ ap (λ b. links t d + (if b then 1 else 0)) new ∙ add-zero _

  pub links_other : (q : ℕ) → q ≢ n → q ≢ d → links after q ≡ links t q
  links_other q a b = same_links q a ∙ named.links_other t d n form m nm in_order is dir_order absent q b (inl a)

  pub links_new : links after n ≡ names t n + 1
  links_new = ap (links_at after n) at_new ∙ leaf_links after n made leaf ∙ names_new

  -- what is reached stays so
  pub reached_kept : {q : ℕ} → IsReachable t q → IsReachable after q
  reached_kept r = same_reached mid after lists (named.reached_kept t d n form m nm in_order is dir_order absent r)
