-- A file or link that has lost a name or a handle: it leaves the tree with the last of both.
use Rattle.std.proofs.Common.{◌≡◌, ◌≢◌, refl, sym, ap, subst, ◌∙◌, ℕ, ◌+◌, ◌*◌, ◌<◌, ◌≤◌, Bool, true, false, ◌&&◌, List, [], Option, Some}
use Rattle.std.proofs.Common.{None, arith, cond, inl, inr, eqb, ◌⊎◌}
use Rattle.std.specs.Prelude.{T, count_by, unwrap_or, if◌then◌else◌, ◌==◌, not}
use Rattle.std.proofs.Math.Path.{fun_ext}
use Rattle.std.proofs.lemmas.Bool.{eqb-true, eq-eqb}
use Rattle.std.specs.Ordering.{nat_cmp, eq_by_cmp}
use Rattle.std.proofs.lemmas.Cmp.{nat_cmp_total}
use Rattle.std.proofs.lemmas.Bool.Decides.{nat_tests}
use Rattle.std.specs.FinMap.{find, is_sorted}
use Rattle.std.specs.FinMap.Entries.{is_sorted-where_key}
use Rattle.lfs_model.specs.Tree.{Tree, Names, Node, File, Dir, Link, State, node, without, names_of, is_dir, entry, byte_cmp, names, links}
use Rattle.lfs_model.specs.Tree.{links_at, opened}
use Rattle.lfs_model.specs.Checkpoint.{IsVersion}
use Rattle.lfs_model.specs.Need.{need, data_of, meta_of}
use Rattle.lfs_model.specs.Sound.{Sound, NamesGive, IsReachable, root, below, IsWithinLimits, IsOfVersion, IsFile, IsKeptOpen}
use Rattle.lfs_model.specs.Step.{let_go, with_tree}
use Rattle.lfs_model.proofs.Sums.{total_without, weight, total_zero, find_without, weight-le-total}
use Rattle.lfs_model.proofs.Trees.{cmp_same, cmp_other}
use Rattle.lfs_model.proofs.Growing.{same_or_not, gives}
use Rattle.lfs_model.proofs.Shrinking.{named_counts}

-- sound, but that node n may be without a name and without a handle
pub record SoundBut (N : ℕ) (s : State) (n : ℕ) : Type 0 where
  pub in_order : T (is_sorted nat_cmp s.tree)
  pub handles_in_order : T (is_sorted nat_cmp s.handles)
  pub version : IsVersion s.version
  pub forms : (q : ℕ) (x : Node) → node s.tree q ≡ Some x → IsOfVersion s.version x
  pub root : is_dir (node s.tree 1) ≡ true
  pub numbers : (q : ℕ) → node s.tree q ≢ None → (1 ≤ q) × (q ≤ 4095)
  pub limits : (q : ℕ) (x : Node) → node s.tree q ≡ Some x → IsWithinLimits x
  pub few_links : (q : ℕ) → node s.tree q ≢ None → links s.tree q ≤ 1000
  pub named : NamesGive s.tree
  pub root_unnamed : names s.tree 1 ≡ 0
  pub one_name : (q : ℕ) → q ≢ 1 → is_dir (node s.tree q) ≡ true → names s.tree q ≡ 1
  pub reached : (q : ℕ) → is_dir (node s.tree q) ≡ true → IsReachable s.tree q
  pub held : (q : ℕ) → q ≢ n → q ≢ 1 → node s.tree q ≢ None → names s.tree q ≡ 0 → IsKeptOpen s q
  pub handles : (h q : ℕ) → find nat_cmp h s.handles ≡ Some q → (h < 64) × IsFile (node s.tree q)
  pub room : need s.tree ≤ 47 * N

-- an open node is a file
pub opened_file : (s : State) (n : ℕ) → T (is_sorted nat_cmp s.handles) → ((h k : ℕ) → find nat_cmp h s.handles ≡ Some k
    → (h < 64) × IsFile (node s.tree k)) → (opened s.handles n ≡ 0) ⊎ IsFile (node s.tree n)
opened_file s n order files = by (node s.tree n) refl
  where
    none : ((b : List ℕ) → node s.tree n ≢ Some (File b)) → opened s.handles n ≡ 0
    none never = total_zero nat_cmp_total (λ v. if v == n then 1 else 0) s.handles order (λ h k found. same_or_not k n
        (λ e. let file = (files h k found).1 in absurd (never file.0 (subst (λ x. node s.tree x ≡ Some (File file.0)) e file.1)))
        (λ ne. let apart : eqb k n ≡ false = grind (arith, nat_tests) in rw apart refl))

    by : (o : Option Node) → node s.tree n ≡ o → (opened s.handles n ≡ 0) ⊎ IsFile o
    by None at = inl (none (λ b e. cc))
    by (Some (File b)) at = inr (b, refl)
    by (Some (Dir form m)) at = inl (none (λ b e. cc))
    by (Some (Link text)) at = inl (none (λ b e. cc))

-- ---- where it keeps a name or a handle

stays_sound : (N : ℕ) (s : State) (n : ℕ) → SoundBut N s n → ((names s.tree n ≡ 0) × (opened s.handles n ≡ 0) → ⊥) → Sound N s
stays_sound N s n but kept_by = record {
  in_order = but.in_order;
  handles_in_order = but.handles_in_order;
  version = but.version;
  forms = but.forms;
  root = but.root;
  numbers = but.numbers;
  limits = but.limits;
  few_links = but.few_links;
  named = but.named;
  root_unnamed = but.root_unnamed;
  one_name = but.one_name;
  reached = but.reached;
  held = λ q ne some none. same_or_not q n
      (λ e. elim (opened_file s n but.handles_in_order but.handles) [
        | inl shut ↦ absurd (kept_by (subst (λ x. names s.tree x ≡ 0) e none, shut))
        | inr file ↦ subst (λ x. IsKeptOpen s x) (sym e)
            (record { file = file; handle = positive (opened s.handles n) (λ z. kept_by (subst (λ x. names s.tree x ≡ 0) e none, z)) })
      ])
      (λ a. but.held q a ne some none);
  handles = but.handles;
  room = but.room;
}
  where
    positive : (k : ℕ) → k ≢ 0 → 0 < k
    positive k ne = omega arith

-- ---- where it goes

module _ (N : ℕ) (s : State) (n : ℕ) (but : SoundBut N s n) (plain : is_dir (node s.tree n) ≡ false) (unnamed : names s.tree n ≡ 0)
    (shut : opened s.handles n ≡ 0) where
  abbrev t : Tree
  t = s.tree

  abbrev pub t2 : Tree
  t2 = without nat_cmp n t

  node2 : (q : ℕ) → node t2 q ≡ cond (eq_by_cmp nat_cmp q n) None (node t q)
  node2 q = find_without nat_cmp_total n q t

  gone : node t2 n ≡ None
  gone = node2 n ∙ ap (λ b. cond b None (node t n)) (cmp_same n)

  same : (q : ℕ) → q ≢ n → node t2 q ≡ node t q
  same q ne = node2 q ∙ ap (λ b. cond b None (node t q)) (cmp_other q n ne)

  dirs2 : (q : ℕ) → is_dir (node t2 q) ≡ is_dir (node t q)
  dirs2 q = same_or_not q n
      (λ e. subst (λ x. is_dir (node t2 x) ≡ is_dir (node t x)) (sym e) (ap is_dir gone ∙ sym plain))
      (λ a. ap is_dir (same q a))

  no_gives : (q : ℕ) (o : Option Node) → is_dir o ≡ false → weight nat_cmp_total (gives q) o ≡ 0
  no_gives q None e = refl
  no_gives q (Some (File b)) e = refl
  no_gives q (Some (Link b)) e = refl
  no_gives q (Some (Dir f ms)) e = cc

  names2 : (q : ℕ) → names t2 q ≡ names t q
  names2 q = let all = total_without nat_cmp_total (gives q) n t but.in_order in let z = no_gives q (node t n) plain in
      omega (arith, all, z)

  abbrev names_at : Option Node → Names
  names_at o = names_of (unwrap_or o (File []))

  holder : (o : Option Node) (x : List ℕ) (k : ℕ) → find byte_cmp x (names_at o) ≡ Some k → is_dir o ≡ true
  holder None x k h = cc
  holder (Some (File b)) x k h = cc
  holder (Some (Link b)) x k h = cc
  holder (Some (Dir f ms)) x k h = refl

  not_n : (q : ℕ) → is_dir (node t q) ≡ true → q ≢ n
  not_n q dir e = let false_is : is_dir (node t q) ≡ false = subst (λ x. is_dir (node t x) ≡ false) (sym e) plain in cc

  entry2 : (q : ℕ) (x : List ℕ) (k : ℕ) → entry t2 q x ≡ Some k → entry t q x ≡ Some k
  entry2 q x k e = ap (λ o. find byte_cmp x (names_at o)) (sym (same q (not_n q (sym (dirs2 q) ∙ holder (node t2 q) x k e)))) ∙ e

  entry2_kept : (q : ℕ) (x : List ℕ) (k : ℕ) → entry t q x ≡ Some k → entry t2 q x ≡ Some k
  entry2_kept q x k e = ap (λ o. find byte_cmp x (names_at o)) (same q (not_n q (holder (node t q) x k e))) ∙ e

  there2 : (q : ℕ) → node t2 q ≢ None → (q ≢ n) × (node t q ≢ None)
  there2 q some = let ne : q ≢ n = λ e. some (subst (λ x. node t2 x ≡ None) (sym e) gone) in (ne, λ none. some (same q ne ∙ none))

  reached2 : {q : ℕ} → IsReachable t q → IsReachable t2 q
  reached2 root = root
  reached2 (below x r e) = below x (reached2 r) (entry2_kept _ x _ e)

  subdirs2 : (ms : Names) → count_by (λ x. is_dir (node t2 x.1)) ms ≡ count_by (λ x. is_dir (node t x.1)) ms
  subdirs2 ms = let f : (λ (q : ℕ). is_dir (node t2 q)) ≡ (λ (q : ℕ). is_dir (node t q)) = fun_ext dirs2 in
      ap (λ (f : ℕ → Bool). count_by (λ (x : List ℕ × ℕ). f x.1) ms) f

  links2 : (q : ℕ) → q ≢ n → links t2 q ≡ links t q
  links2 q ne = ap (links_at t2 q) (same q ne) ∙ by (node t q)
    where
      by : (o : Option Node) → links_at t2 q o ≡ links_at t q o
      by None = names2 q
      by (Some (File b)) = names2 q
      by (Some (Link text)) = names2 q
      by (Some (Dir f ms)) = ap (λ c. 2 + c) (subdirs2 ms)

  need2 : need t2 ≤ need t
  need2 = let a = total_without nat_cmp_total data_of n t but.in_order in let b = total_without nat_cmp_total meta_of n t but.in_order in
      omega (arith, a, b)

  file2 : (q : ℕ) → q ≢ n → IsFile (node t q) → IsFile (node t2 q)
  file2 q ne f = (f.0, same q ne ∙ f.1)

  open_not_n : (h q : ℕ) → find nat_cmp h s.handles ≡ Some q → q ≢ n
  open_not_n h q e same_number =
      let counts = weight-le-total nat_cmp_total (λ v. if v == n then 1 else 0) h q s.handles e in
      let one : eqb q n ≡ true = eq-eqb q n same_number in
      let is : ◌≡◌ {A = ℕ} (if q == n then 1 else 0) 1 = rw one refl in
      absurd (omega (arith, counts, is, shut))

  goes_sound : Sound N (with_tree s t2)
  goes_sound = record {
    in_order = is_sorted-where_key nat_cmp (λ x. not (eq_by_cmp nat_cmp n x)) t but.in_order;
    handles_in_order = but.handles_in_order;
    version = but.version;
    forms = λ q x h. but.forms q x (sym (same q (there2 q (λ none. cc)).0) ∙ h);
    root = dirs2 1 ∙ but.root;
    numbers = λ q some. but.numbers q (there2 q some).1;
    limits = λ q x h. but.limits q x (sym (same q (there2 q (λ none. cc)).0) ∙ h);
    few_links = λ q some.
        (let ne = (there2 q some).0 in let two = links2 q ne in let few = but.few_links q (there2 q some).1 in omega arith);
    named = λ q x k e none. (
        let one = entry2 q x k e in
        let counts = named_counts t q x k one in
        let ne : k ≢ n = λ at. absurd (let z : names t k ≡ 0 = subst (λ y. names t y ≡ 0) (sym at) unnamed in omega arith) in
        but.named q x k one (sym (same k ne) ∙ none));
    root_unnamed = names2 1 ∙ but.root_unnamed;
    one_name = λ q ne dir. names2 q ∙ but.one_name q ne (sym (dirs2 q) ∙ dir);
    reached = λ q dir. reached2 (but.reached q (sym (dirs2 q) ∙ dir));
    held = λ q ne some none. (
        let a = (there2 q some).0 in
        let was = but.held q a ne (there2 q some).1 (sym (names2 q) ∙ none) in
        record { file = file2 q a was.file; handle = was.handle });
    handles = λ h q e. ((but.handles h q e).0, file2 q (open_not_n h q e) (but.handles h q e).1);
    room = let lesser = need2 in let fits = but.room in omega arith;
  }

-- ---- either

and_both : (a b : Bool) → (a && b) ≡ true → (a ≡ true) × (b ≡ true)
and_both true true e = (refl, refl)
and_both true false e = cc
and_both false b e = cc

not_both : (a b : Bool) → (a && b) ≡ false → ((a ≡ true) × (b ≡ true)) → ⊥
not_both true true e h = cc
not_both true false e h = let f = h.1 in cc
not_both false b e h = let f = h.0 in cc

pub let_go_sound : (N : ℕ) (s : State) (n : ℕ) → SoundBut N s n → is_dir (node s.tree n) ≡ false
    → Sound N (with_tree s (let_go s.tree s.handles n))
let_go_sound N s n but plain =
    elim (names s.tree n == 0 && opened s.handles n == 0) as (λ b. (names s.tree n == 0 && opened s.handles n == 0) ≡ b
    → Sound N (with_tree s (if b then without nat_cmp n s.tree else s.tree))) [
      | true ↦ λ h. (let both = and_both (names s.tree n == 0) (opened s.handles n == 0) h in
          goes_sound N s n but plain (eqb-true (names s.tree n) 0 both.0) (eqb-true (opened s.handles n) 0 both.1))
      | false ↦ λ h. stays_sound N s n but (λ z.
          not_both (names s.tree n == 0) (opened s.handles n == 0) h (eq-eqb (names s.tree n) 0 z.0, eq-eqb (opened s.handles n) 0 z.1))
    ] refl
