-- A tree with a name taken out of a directory, the name of a file or a link.
use Rattle.std.proofs.Common.{◌≡◌, ◌≢◌, refl, sym, ap, subst, ◌∙◌, ℕ, ◌+◌, ◌≤◌, Bool, true, false, List, [], Option, Some, None, arith}
use Rattle.std.proofs.Common.{cond, eqb}
use Rattle.std.specs.Prelude.{T, count_by, unwrap_or, if◌then◌else◌, ◌==◌}
use Rattle.std.specs.Ordering.{nat_cmp, eq_by_cmp, is_eq}
use Rattle.std.specs.declared.cmp.Ordering.TheVariants.{Less, Equal, Greater}
use Rattle.std.specs.Cmp.Lexicographic.{nat_list_cmp_total}
use Rattle.std.proofs.lemmas.Cmp.{nat_cmp_total}
use Rattle.std.proofs.lemmas.Bool.Decides.{nat_tests}
use Rattle.std.specs.FinMap.{find, is_sorted}
use Rattle.std.specs.FinMap.Entries.{is_sorted-put, find_tied}
use Rattle.lfs_model.specs.Tree.{Tree, Names, Node, File, Dir, Link, node, with_node, without, names_in, names_of, is_dir, entry, byte_cmp}
use Rattle.lfs_model.specs.Tree.{names, links, links_at}
use Rattle.lfs_model.specs.Sound.{IsReachable, root, below}
use Rattle.lfs_model.proofs.Sums.{total_put, total_without, weight, find_without, weight-le-total}
use Rattle.lfs_model.proofs.Trees.{find_here, find_other}
use Rattle.lfs_model.proofs.Alike.{same_or_not, same_subdirs, gives}

-- an entry counts among the names of what it gives
pub named_counts : (t : Tree) (q : ℕ) (x : List ℕ) (k : ℕ) → entry t q x ≡ Some k → 1 ≤ names t k
named_counts t q x k e = by (node t q) refl e
  where
    one : eqb k k ≡ true
    one = grind (arith, nat_tests)

    by : (o : Option Node) → node t q ≡ o → find byte_cmp x (names_of (unwrap_or o (File []))) ≡ Some k → 1 ≤ names t k
    by None at e = cc
    by (Some (File b)) at e = cc
    by (Some (Link b)) at e = cc
    by (Some (Dir form m)) at e =
        let inner = weight-le-total nat_list_cmp_total (λ v. if v == k then 1 else 0) x k m e in
        let outer = weight-le-total nat_cmp_total (gives k) q (Dir form m) t at in
        let is : ◌≡◌ {A = ℕ} (if k == k then 1 else 0) 1 = rw one refl in
        omega (arith, inner, outer, is)

module _ (t : Tree) (d n form : ℕ) (m : Names) (nm : List ℕ)
    (in_order : T (is_sorted nat_cmp t)) (is : node t d ≡ Some (Dir form m)) (dir_order : T (is_sorted byte_cmp m))
    (found : find byte_cmp nm m ≡ Some n) where
  abbrev pub shrunk : Node
  shrunk = Dir form (without byte_cmp nm m)

  abbrev pub after : Tree
  after = with_node t d shrunk

  pub other : is_dir (node t n) ≡ false → n ≢ d
  other plain e = let a : is_dir (node t n) ≡ true = subst (λ x. is_dir (node t x) ≡ true) (sym e) (ap is_dir is) in let b = plain in cc

  pub after_order : T (is_sorted nat_cmp after)
  after_order = is_sorted-put nat_cmp nat_cmp_total d shrunk t in_order

  pub at_dir : node after d ≡ Some shrunk
  at_dir = find_here t d shrunk

  pub at_other : (q : ℕ) → q ≢ d → node after q ≡ node t q
  at_other q b = find_other t d shrunk q b

  pub dirs : (q : ℕ) → is_dir (node after q) ≡ is_dir (node t q)
  dirs q = same_or_not q d
      (λ e. subst (λ x. is_dir (node after x) ≡ is_dir (node t x)) (sym e) (ap is_dir at_dir ∙ sym (ap is_dir is)))
      (λ b. ap is_dir (at_other q b))

  counted : (f : ℕ → Bool) → count_by (λ e. f e.1) (without byte_cmp nm m) + (if f n then 1 else 0) ≡ count_by (λ e. f e.1) m
  counted f =
      let all = total_without nat_list_cmp_total (λ v. if f v then 1 else 0) nm m dir_order in
      let one : weight nat_list_cmp_total (λ v. if f v then 1 else 0) (find byte_cmp nm m) ≡ (if f n then 1 else 0) =
      ap (weight nat_list_cmp_total (λ v. if f v then 1 else 0)) found in
      omega (arith, all, one)

  pub names_after : (q : ℕ) → names after q + (if n == q then 1 else 0) ≡ names t q
  names_after q =
      let one = total_put nat_cmp_total (gives q) d shrunk t in_order in
      let was : weight nat_cmp_total (gives q) (node t d) ≡ gives q (Dir form m) = ap (weight nat_cmp_total (gives q)) is in
      let less = counted (λ v. v == q) in
      omega (arith, one, was, less)

  pub names_kept : (q : ℕ) → q ≢ n → names after q ≡ names t q
  names_kept q ne = let no : eqb n q ≡ false = grind (arith, nat_tests) in let e = names_after q in
      let z : ◌≡◌ {A = ℕ} (if n == q then 1 else 0) 0 = rw no refl in omega (arith, e, z)

  nodes_names : Option Node → Names
  nodes_names o = names_of (unwrap_or o (File []))

  names_in_other : (q : ℕ) → q ≢ d → names_in after q ≡ names_in t q
  unfolding nodes_names
  names_in_other q ne = ap nodes_names (at_other q ne)

  names_in_dir : names_in after d ≡ without byte_cmp nm m
  unfolding nodes_names
  names_in_dir = ap nodes_names at_dir

  names_were : names_in t d ≡ m
  unfolding nodes_names
  names_were = ap nodes_names is

  entry_dir : (x : List ℕ) → entry after d x ≡ cond (eq_by_cmp byte_cmp x nm) None (find byte_cmp x m)
  entry_dir x = ap (find byte_cmp x) names_in_dir ∙ find_without nat_list_cmp_total nm x m

  entry_was : (x : List ℕ) → entry t d x ≡ find byte_cmp x m
  entry_was x = ap (find byte_cmp x) names_were

  pub entry_after : (q : ℕ) (x : List ℕ) (k : ℕ) → entry after q x ≡ Some k → entry t q x ≡ Some k
  entry_after q x k e = same_or_not q d
      (λ at. subst (λ y. entry after y x ≡ Some k → entry t y x ≡ Some k) (sym at) (λ e.
      elim (eq_by_cmp byte_cmp x nm) as (λ b. cond b None (find byte_cmp x m) ≡ Some k → entry t d x ≡ Some k) [
        | true ↦ λ h. cc
        | false ↦ λ h. entry_was x ∙ h
      ] (sym (entry_dir x) ∙ e)) e)
      (λ ne. sym (ap (find byte_cmp x) (names_in_other q ne)) ∙ e)

  tied : (x : List ℕ) (k : ℕ) → k ≢ n → find byte_cmp x m ≡ Some k → eq_by_cmp byte_cmp x nm ≡ false
  tied x k ne e = elim (byte_cmp x nm) as (λ r. byte_cmp x nm ≡ r → is_eq r ≡ false) [
    | Less ↦ λ _. refl
    | Equal ↦ λ tie. absurd
        (ne (let same : find byte_cmp nm m ≡ find byte_cmp x m = find_tied byte_cmp nat_list_cmp_total x nm tie m in let a = found in cc))
    | Greater ↦ λ _. refl
  ] refl

  pub entry_kept : (q : ℕ) (x : List ℕ) (k : ℕ) → k ≢ n → entry t q x ≡ Some k → entry after q x ≡ Some k
  entry_kept q x k apart e = same_or_not q d
      (λ at. subst (λ y. entry t y x ≡ Some k → entry after y x ≡ Some k) (sym at) (λ e.
      let here : find byte_cmp x m ≡ Some k = sym (entry_was x) ∙ e in
      entry_dir x ∙ ap (λ b. cond b None (find byte_cmp x m)) (tied x k apart here) ∙ here) e)
      (λ ne. ap (find byte_cmp x) (names_in_other q ne) ∙ e)

  names_less : (q : ℕ) → names after q ≤ names t q
  names_less q = let e = names_after q in omega arith

  pub links_less : (q : ℕ) → links after q ≤ links t q
  links_less q = same_or_not q d
      (λ e. subst (λ x. links after x ≤ links t x) (sym e) (
      let fewer = counted (λ q. is_dir (node t q)) in
      let now : links after d ≡ 2 + count_by (λ x. is_dir (node t x.1)) (without byte_cmp nm m) = ap (links_at after d) at_dir
      ∙ ap (λ c. 2 + c) (same_subdirs t after dirs (without byte_cmp nm m)) in
      let was : links t d ≡ 2 + count_by (λ x. is_dir (node t x.1)) m = ap (links_at t d) is in
      omega (arith, fewer, now, was)))
      (λ b. subst (λ k. k ≤ links t q) (sym (ap (links_at after q) (at_other q b))) (by (node t q)))
    where
      by : (o : Option Node) → links_at after q o ≤ links_at t q o
      by None = names_less q
      by (Some (File b)) = names_less q
      by (Some (Link text)) = names_less q
      by (Some (Dir f ms)) = let e = same_subdirs t after dirs ms in omega (arith, e)

  -- a directory less
  pub links_lost : is_dir (node t n) ≡ true → links after d + 1 ≡ links t d
  links_lost dir =
      let fewer = counted (λ q. is_dir (node t q)) in
      let one : ◌≡◌ {A = ℕ} (if is_dir (node t n) then 1 else 0) 1 = ap (λ (b : Bool). if b then 1 else 0) dir in
      let now : links after d ≡ 2 + count_by (λ x. is_dir (node t x.1)) (without byte_cmp nm m) = ap (links_at after d) at_dir
      ∙ ap (λ c. 2 + c) (same_subdirs t after dirs (without byte_cmp nm m)) in
      let was : links t d ≡ 2 + count_by (λ x. is_dir (node t x.1)) m = ap (links_at t d) is in
      omega (arith, fewer, one, now, was)

  -- a directory that was reached still is
  pub reached_kept : is_dir (node t n) ≡ false → {q : ℕ} → IsReachable t q → is_dir (node t q) ≡ true → IsReachable after q
  reached_kept plain root dir = root
  reached_kept plain (below {d = e} {n = k} x r at) dir = below x (reached_kept plain r (holder e x k at))
      (entry_kept e x k (λ same. let no : is_dir (node t k) ≡ false = subst (λ y. is_dir (node t y) ≡ false) (sym same) plain in cc) at)
    where
      holder : (e : ℕ) (x : List ℕ) (k : ℕ) → entry t e x ≡ Some k → is_dir (node t e) ≡ true
      holder e x k at = by (node t e) at
        where
          by : (o : Option Node) → find byte_cmp x (names_of (unwrap_or o (File []))) ≡ Some k → is_dir o ≡ true
          by None h = cc
          by (Some (File b)) h = cc
          by (Some (Link b)) h = cc
          by (Some (Dir f ms)) h = refl
