-- A tree with one more name in a directory, of a node that is there.
use Rattle.std.proofs.Common.{◌≡◌, ◌≢◌, refl, sym, ap, subst, ◌∙◌, ℕ, ◌+◌, Bool, true, false, List, [], Option, Some, None, arith, cond}
use Rattle.std.proofs.Common.{inl, inr, eqb, ◌⊎◌}
use Rattle.std.specs.Prelude.{T, count_by, unwrap_or, if◌then◌else◌, ◌==◌}
use Rattle.std.specs.Ordering.{nat_cmp, eq_by_cmp, is_eq}
use Rattle.std.specs.declared.cmp.Ordering.TheVariants.{Less, Equal, Greater}
use Rattle.std.specs.Cmp.Lexicographic.{nat_list_cmp_total}
use Rattle.std.specs.Cmp.{tied_itself}
use Rattle.std.proofs.lemmas.Cmp.{nat_cmp_total}
use Rattle.std.proofs.lemmas.Bool.Decides.{nat_tests}
use Rattle.std.specs.FinMap.{find, put, is_sorted}
use Rattle.std.specs.FinMap.Entries.{is_sorted-put, find-put, find_tied}
use Rattle.lfs_model.specs.Tree.{Tree, Names, Node, File, Dir, Link, node, with_node, names_of, is_dir, entry, byte_cmp, names, links}
use Rattle.lfs_model.specs.Tree.{links_at}
use Rattle.lfs_model.specs.Sound.{IsReachable, root, below}
use Rattle.lfs_model.proofs.Walks.{Some-injective}
use Rattle.lfs_model.proofs.Sums.{total_put, weight}
use Rattle.lfs_model.proofs.Trees.{find_here, find_other}
use Rattle.lfs_model.proofs.Alike.{same_or_not, same_subdirs, gives}

module _ (t : Tree) (d n form : ℕ) (m : Names) (nm : List ℕ) (in_order : T (is_sorted nat_cmp t)) (is : node t d ≡ Some (Dir form m))
    (dir_order : T (is_sorted byte_cmp m)) (absent : find byte_cmp nm m ≡ None) where
  abbrev pub grown : Node
  grown = Dir form (put byte_cmp nm n m)

  abbrev pub after : Tree
  after = with_node t d grown

  pub after_order : T (is_sorted nat_cmp after)
  after_order = is_sorted-put nat_cmp nat_cmp_total d grown t in_order

  pub at_dir : node after d ≡ Some grown
  at_dir = find_here t d grown

  pub at_other : (q : ℕ) → q ≢ d → node after q ≡ node t q
  at_other q b = find_other t d grown q b

  pub dirs : (q : ℕ) → is_dir (node after q) ≡ is_dir (node t q)
  dirs q = same_or_not q d
      (λ e. subst (λ x. is_dir (node after x) ≡ is_dir (node t x)) (sym e) (ap is_dir at_dir ∙ sym (ap is_dir is)))
      (λ b. ap is_dir (at_other q b))

  counted : (f : ℕ → Bool) → count_by (λ e. f e.1) (put byte_cmp nm n m) ≡ count_by (λ e. f e.1) m + (if f n then 1 else 0)
  counted f =
      let all = total_put nat_list_cmp_total (λ v. if f v then 1 else 0) nm n m dir_order in
      let zero_before : weight nat_list_cmp_total (λ v. if f v then 1 else 0) (find byte_cmp nm m) ≡ 0 =
      ap (weight nat_list_cmp_total (λ v. if f v then 1 else 0)) absent in
      omega (arith, all, zero_before)

  pub names_after : (q : ℕ) → names after q ≡ names t q + (if n == q then 1 else 0)
  names_after q =
      let one = total_put nat_cmp_total (gives q) d grown t in_order in
      let was : weight nat_cmp_total (gives q) (node t d) ≡ gives q (Dir form m) = ap (weight nat_cmp_total (gives q)) is in
      let more = counted (λ v. v == q) in
      omega (arith, one, was, more)

  pub names_kept : (q : ℕ) → q ≢ n → names after q ≡ names t q
  names_kept q ne = let apart : eqb n q ≡ false = grind (arith, nat_tests) in names_after q ∙ rw apart (omega arith)

  pub names_more : names after n ≡ names t n + 1
  names_more = let same : eqb n n ≡ true = grind (arith, nat_tests) in names_after n ∙ rw same refl

  abbrev names_at : Option Node → Names
  names_at o = names_of (unwrap_or o (File []))

  entry_dir : (x : List ℕ) → entry after d x ≡ cond (eq_by_cmp byte_cmp x nm) (Some n) (find byte_cmp x m)
  entry_dir x = ap (λ o. find byte_cmp x (names_at o)) at_dir ∙ find-put byte_cmp nat_list_cmp_total x nm n m

  entry_was : (x : List ℕ) → entry t d x ≡ find byte_cmp x m
  entry_was x = ap (λ o. find byte_cmp x (names_at o)) is

  pub entry_new : entry after d nm ≡ Some n
  entry_new = entry_dir nm ∙ ap (λ b. cond b (Some n) (find byte_cmp nm m)) (tied_itself_is nm)
    where
      tied_itself_is : (x : List ℕ) → eq_by_cmp byte_cmp x x ≡ true
      tied_itself_is x = ap is_eq (tied_itself nat_list_cmp_total x)

  pub entry_after : (q : ℕ) (x : List ℕ) (k : ℕ) → entry after q x ≡ Some k → (k ≡ n) ⊎ (entry t q x ≡ Some k)
  entry_after q x k e = same_or_not q d
      (λ at. subst (λ y. entry after y x ≡ Some k → (k ≡ n) ⊎ (entry t y x ≡ Some k)) (sym at) (λ e.
      elim (eq_by_cmp byte_cmp x nm) as (λ b. cond b (Some n) (find byte_cmp x m) ≡ Some k → (k ≡ n) ⊎ (entry t d x ≡ Some k)) [
        | true ↦ λ h. inl (sym (Some-injective h))
        | false ↦ λ h. inr (entry_was x ∙ h)
      ] (sym (entry_dir x) ∙ e)) e)
      (λ ne. inr (sym (ap (λ o. find byte_cmp x (names_at o)) (at_other q ne)) ∙ e))

  tied : (x : List ℕ) (k : ℕ) → find byte_cmp x m ≡ Some k → eq_by_cmp byte_cmp x nm ≡ false
  tied x k e = elim (byte_cmp x nm) as (λ r. byte_cmp x nm ≡ r → is_eq r ≡ false) [
    | Less ↦ λ _. refl
    | Equal ↦ λ tie. absurd (let same : find byte_cmp nm m ≡ find byte_cmp x m = find_tied byte_cmp nat_list_cmp_total x nm tie m in
        let a = absent in cc)
    | Greater ↦ λ _. refl
  ] refl

  pub entry_kept : (q : ℕ) (x : List ℕ) (k : ℕ) → entry t q x ≡ Some k → entry after q x ≡ Some k
  entry_kept q x k e = same_or_not q d
      (λ at. subst (λ y. entry t y x ≡ Some k → entry after y x ≡ Some k) (sym at) (λ e.
      let found : find byte_cmp x m ≡ Some k = sym (entry_was x) ∙ e in
      entry_dir x ∙ ap (λ b. cond b (Some n) (find byte_cmp x m)) (tied x k found) ∙ found) e)
      (λ ne. ap (λ o. find byte_cmp x (names_at o)) (at_other q ne) ∙ e)

  -- the directory has one link more where the name gives a directory
  pub links_dir : links after d ≡ links t d + (if is_dir (node t n) then 1 else 0)
  links_dir =
      let more = counted (λ q. is_dir (node t q)) in
      let now : links after d ≡ 2 + count_by (λ x. is_dir (node t x.1)) (put byte_cmp nm n m) = ap (links_at after d) at_dir
      ∙ ap (λ c. 2 + c) (same_subdirs t after dirs (put byte_cmp nm n m)) in
      let was : links t d ≡ 2 + count_by (λ x. is_dir (node t x.1)) m = ap (links_at t d) is in
      omega (arith, more, now, was)

  -- the others have what they had, but a file or a link that has the name
  pub links_other : (q : ℕ) → q ≢ d → (q ≢ n) ⊎ (is_dir (node t q) ≡ true) → links after q ≡ links t q
  links_other q b which = ap (links_at after q) (at_other q b) ∙ by (node t q) which
    where
      leaf : (o : Option Node) → is_dir o ≡ false → (q ≢ n) ⊎ (is_dir o ≡ true) → names after q ≡ names t q
      leaf o plain (inl ne) = names_kept q ne
      leaf o plain (inr dir) = cc

      by : (o : Option Node) → (q ≢ n) ⊎ (is_dir o ≡ true) → links_at after q o ≡ links_at t q o
      by None h = leaf None refl h
      by (Some (File b)) h = leaf (Some (File b)) refl h
      by (Some (Link text)) h = leaf (Some (Link text)) refl h
      by (Some (Dir f ms)) h = ap (λ c. 2 + c) (same_subdirs t after dirs ms)

  pub reached_kept : {q : ℕ} → IsReachable t q → IsReachable after q
  reached_kept root = root
  reached_kept (below x r e) = below x (reached_kept r) (entry_kept _ x _ e)
