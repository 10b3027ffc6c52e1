-- A directory without a name: a new one, or one that was taken out of the directory above it.
use Rattle.std.proofs.Common.{◌≡◌, ◌≢◌, refl, sym, ap, subst, ◌∙◌, ℕ, ◌+◌, ◌*◌, ◌<◌, ◌≤◌, true, false, List, [], Option, Some, None, arith}
use Rattle.std.proofs.Common.{cond, inl, inr, ◌⊎◌}
use Rattle.std.specs.Prelude.{T, count_by, unwrap_or, not}
use Rattle.std.specs.Ordering.{nat_cmp, eq_by_cmp}
use Rattle.std.specs.Cmp.Lexicographic.{nat_list_cmp_total}
use Rattle.std.proofs.lemmas.Cmp.{nat_cmp_total}
use Rattle.std.specs.FinMap.{find, is_sorted}
use Rattle.std.specs.FinMap.Entries.{is_sorted-put, is_sorted-where_key}
use Rattle.lfs_model.specs.Tree.{Tree, Names, Node, File, Dir, Link, State, node, with_node, without, names_of, is_dir, entry, byte_cmp}
use Rattle.lfs_model.specs.Tree.{IsDirectoryForm, names, links, links_at}
use Rattle.lfs_model.specs.Checkpoint.{IsVersion}
use Rattle.lfs_model.specs.Need.{need, data_of, meta_of}
use Rattle.lfs_model.specs.Sound.{Sound, NamesGive, IsReachable, root, below, IsWithinLimits, IsOfVersion, IsFile, IsKeptOpen}
use Rattle.lfs_model.specs.Step.{with_tree}
use Rattle.lfs_model.proofs.Walks.{Some-injective}
use Rattle.lfs_model.proofs.Sums.{total_put, total_without, total_same, weight, find_without}
use Rattle.lfs_model.proofs.Trees.{find_here, find_other, cmp_same, cmp_other}
use Rattle.lfs_model.proofs.DirCosts.{counts_more}
use Rattle.lfs_model.proofs.Growing.{same_or_not, gives}
use Rattle.lfs_model.proofs.Shrinking.{named_counts}
use Rattle.lfs_model.proofs.Makes.{unnamed}

-- n itself, or what a directory under it names
pub data Under (t : Tree) (n : ℕ) : ℕ → Type 0 where
  itself : Under t n n
  inside : {d k : ℕ} (name : List ℕ) → Under t n d → entry t d name ≡ Some k → Under t n k

-- sound but for the need, and but that directory n has no name: each directory is reached from the root or from n
pub record IsDetached (N : ℕ) (s : State) (n : ℕ) : Type 0 where
  pub in_order : T (is_sorted nat_cmp s.tree)
  pub handles_in_order : T (is_sorted nat_cmp s.handles)
  pub version : IsVersion s.version
  pub forms : (q : ℕ) (x : Node) → node s.tree q ≡ Some x → IsOfVersion s.version x
  pub root : is_dir (node s.tree 1) ≡ true
  pub numbers : (q : ℕ) → node s.tree q ≢ None → (1 ≤ q) × (q ≤ 4095)
  pub limits : (q : ℕ) (x : Node) → node s.tree q ≡ Some x → IsWithinLimits x
  pub few_links : (q : ℕ) → node s.tree q ≢ None → links s.tree q ≤ 1000
  pub named : NamesGive s.tree
  pub root_unnamed : names s.tree 1 ≡ 0
  pub dir : is_dir (node s.tree n) ≡ true
  pub not_root : n ≢ 1
  pub unnamed : names s.tree n ≡ 0
  pub one_name : (q : ℕ) → q ≢ n → q ≢ 1 → is_dir (node s.tree q) ≡ true → names s.tree q ≡ 1
  pub reached : (q : ℕ) → is_dir (node s.tree q) ≡ true → IsReachable s.tree q ⊎ Under s.tree n q
  pub held : (q : ℕ) → q ≢ n → q ≢ 1 → node s.tree q ≢ None → names s.tree q ≡ 0 → IsKeptOpen s q
  pub handles : (h q : ℕ) → find nat_cmp h s.handles ≡ Some q → (h < 64) × IsFile (node s.tree q)

-- what has an entry is a directory
pub holder : (o : Option Node) (x : List ℕ) (k : ℕ) → find byte_cmp x (names_of (unwrap_or o (File []))) ≡ Some k → is_dir o ≡ true
holder None x k h = cc
holder (Some (File b)) x k h = cc
holder (Some (Link b)) x k h = cc
holder (Some (Dir f ms)) x k h = refl

-- ---- an empty one leaves the tree

module _ (N : ℕ) (s : State) (n form : ℕ) (was : IsDetached N s n) (empty : node s.tree n ≡ Some (Dir form [])) where
  abbrev t : Tree
  t = s.tree

  abbrev pub t2 : Tree
  t2 = without nat_cmp n t

  node2 : (q : ℕ) → node t2 q ≡ cond (eq_by_cmp nat_cmp q n) None (node t q)
  node2 q = find_without nat_cmp_total n q t

  gone : node t2 n ≡ None
  gone = node2 n ∙ ap (λ b. cond b None (node t n)) (cmp_same n)

  same : (q : ℕ) → q ≢ n → node t2 q ≡ node t q
  same q ne = node2 q ∙ ap (λ b. cond b None (node t q)) (cmp_other q n ne)

  there2 : (q : ℕ) → node t2 q ≢ None → (q ≢ n) × (node t q ≢ None)
  there2 q some = let ne : q ≢ n = λ e. some (subst (λ x. node t2 x ≡ None) (sym e) gone) in (ne, λ none. some (same q ne ∙ none))

  dir2 : (q : ℕ) → is_dir (node t2 q) ≡ true → (q ≢ n) × (is_dir (node t q) ≡ true)
  dir2 q dir = let ne = (there2 q (λ none. let no : is_dir (node t2 q) ≡ false = ap is_dir none in cc)).0 in
      (ne, sym (ap is_dir (same q ne)) ∙ dir)

  names2 : (q : ℕ) → names t2 q ≡ names t q
  names2 q =
      let all = total_without nat_cmp_total (gives q) n t was.in_order in
      let z : weight nat_cmp_total (gives q) (node t n) ≡ 0 = ap (weight nat_cmp_total (gives q)) empty in
      omega (arith, all, z)

  abbrev names_at : Option Node → Names
  names_at o = names_of (unwrap_or o (File []))

  no_entry : (x : List ℕ) → entry t n x ≡ None
  no_entry x = ap (λ o. find byte_cmp x (names_at o)) empty

  not_n : (q : ℕ) (x : List ℕ) (k : ℕ) → entry t q x ≡ Some k → q ≢ n
  not_n q x k e at = let none : entry t q x ≡ None = subst (λ y. entry t y x ≡ None) (sym at) (no_entry x) in cc

  entry2_kept : (q : ℕ) (x : List ℕ) (k : ℕ) → entry t q x ≡ Some k → entry t2 q x ≡ Some k
  entry2_kept q x k e = ap (λ o. find byte_cmp x (names_at o)) (same q (not_n q x k e)) ∙ e

  pub entry2 : (q : ℕ) (x : List ℕ) (k : ℕ) → entry t2 q x ≡ Some k → entry t q x ≡ Some k
  entry2 q x k e = ap (λ o. find byte_cmp x (names_at o)) (sym (same q (dir2 q (holder (node t2 q) x k e)).0)) ∙ e

  reached2 : {q : ℕ} → IsReachable t q → IsReachable t2 q
  reached2 root = root
  reached2 (below x r e) = below x (reached2 r) (entry2_kept _ x _ e)

  pub under_only : {q : ℕ} → Under t n q → q ≡ n
  under_only itself = refl
  under_only (inside {d = d} {k = k} x u e) = absurd (not_n d x k e (under_only u))

  subdirs2 : (ms : Names) → count_by (λ x. is_dir (node t2 x.1)) ms ≤ count_by (λ x. is_dir (node t x.1)) ms
  subdirs2 ms =
      counts_more (λ (x : List ℕ × ℕ). is_dir (node t2 x.1)) (λ (x : List ℕ × ℕ). is_dir (node t x.1)) (λ x dir. (dir2 x.1 dir).1) ms

  pub links2 : (q : ℕ) → q ≢ n → links t2 q ≤ links t q
  links2 q ne = subst (λ (k : ℕ). k ≤ links t q) (sym (ap (links_at t2 q) (same q ne))) (by (node t q))
    where
      by : (o : Option Node) → links_at t2 q o ≤ links_at t q o
      by None = let e = names2 q in omega (arith, e)
      by (Some (File b)) = let e = names2 q in omega (arith, e)
      by (Some (Link text)) = let e = names2 q in omega (arith, e)
      by (Some (Dir f ms)) = let e = subdirs2 ms in omega (arith, e)

  need2 : need t2 ≤ need t
  need2 = let a = total_without nat_cmp_total data_of n t was.in_order in let b = total_without nat_cmp_total meta_of n t was.in_order in
      omega (arith, a, b)

  file2 : (q : ℕ) → IsFile (node t q) → IsFile (node t2 q)
  file2 q f = (
    f.0,
    same q (λ e. let at : node t q ≡ Some (Dir form []) = subst (λ x. node t x ≡ Some (Dir form [])) (sym e) empty in
        let file = f.1 in cc) ∙ f.1,
  )

  pub removed_sound : need t ≤ 47 * N → Sound N (with_tree s t2)
  removed_sound fits = record {
    in_order = is_sorted-where_key nat_cmp (λ x. not (eq_by_cmp nat_cmp n x)) t was.in_order;
    handles_in_order = was.handles_in_order;
    version = was.version;
    forms = λ q x h. was.forms q x (sym (same q (there2 q (λ none. cc)).0) ∙ h);
    root = ap is_dir (same 1 (λ e. was.not_root (sym e))) ∙ was.root;
    numbers = λ q some. was.numbers q (there2 q some).1;
    limits = λ q x h. was.limits q x (sym (same q (there2 q (λ none. cc)).0) ∙ h);
    few_links = λ q some. (let two = links2 q (there2 q some).0 in let few = was.few_links q (there2 q some).1 in omega arith);
    named = λ q x k e none. (
        let one = entry2 q x k e in
        let counts = named_counts t q x k one in
        let zero_names = was.unnamed in
        let ne : k ≢ n = λ at. absurd (let z : names t k ≡ 0 = subst (λ y. names t y ≡ 0) (sym at) zero_names in omega arith) in
        was.named q x k one (sym (same k ne) ∙ none));
    root_unnamed = names2 1 ∙ was.root_unnamed;
    one_name = λ q ne dir. names2 q ∙ was.one_name q (dir2 q dir).0 ne (dir2 q dir).1;
    reached = λ q dir. elim (was.reached q (dir2 q dir).1) as (λ _. IsReachable t2 q) [
      | inl r ↦ reached2 r
      | inr u ↦ absurd ((dir2 q dir).0 (under_only u))
    ];
    held = λ q ne some none. (
        let a = (there2 q some).0 in
        let old = was.held q a ne (there2 q some).1 (sym (names2 q) ∙ none) in
        record { file = file2 q old.file; handle = old.handle });
    handles = λ h q e. ((was.handles h q e).0, file2 q (was.handles h q e).1);
    room = let lesser = need2 in omega arith;
  }

-- ---- a new one

module _ (N : ℕ) (s : State) (sound : Sound N s) (n form : ℕ) (fresh : node s.tree n ≡ None) (in_range : (1 ≤ n) × (n ≤ 4095))
    (known : IsDirectoryForm s.version form) where
  abbrev pub made : Node
  made = Dir form []

  abbrev pub t1 : Tree
  t1 = with_node s.tree n made

  new_is : node t1 n ≡ Some made
  new_is = find_here s.tree n made

  kept : (q : ℕ) → q ≢ n → node t1 q ≡ node s.tree q
  kept q ne = find_other s.tree n made q ne

  not_new : (q : ℕ) → node s.tree q ≢ None → q ≢ n
  not_new q some e = some (subst (λ x. node s.tree x ≡ None) (sym e) fresh)

  each_kept : (P : Node → Type 0) → ((q : ℕ) (x : Node) → node s.tree q ≡ Some x → P x) → P made → (q : ℕ) (x : Node) → node t1 q ≡ Some x
      → P x
  each_kept P old new q x h = same_or_not q n
      (λ e. subst P (Some-injective (sym new_is ∙ subst (λ y. node t1 y ≡ Some x) e h)) new)
      (λ b. old q x (sym (kept q b) ∙ h))

  same_names : (q : ℕ) → names t1 q ≡ names s.tree q
  same_names q =
      let all = total_put nat_cmp_total (gives q) n made s.tree sound.in_order in
      let none : weight nat_cmp_total (gives q) (node s.tree n) ≡ 0 = ap (weight nat_cmp_total (gives q)) fresh in
      omega (arith, all, none)

  no_name : names t1 n ≡ 0
  no_name = same_names n ∙ unnamed s.tree n sound.in_order sound.limits sound.named fresh

  abbrev names_in_it : Option Node → Names
  names_in_it o = names_of (unwrap_or o (File []))

  entry_was : (q : ℕ) (x : List ℕ) (k : ℕ) → entry t1 q x ≡ Some k → entry s.tree q x ≡ Some k
  entry_was q x k e = same_or_not q n
      (λ at. absurd (let none : entry t1 q x ≡ None =
      subst (λ y. entry t1 y x ≡ None) (sym at) (ap (λ o. find byte_cmp x (names_in_it o)) new_is) in cc))
      (λ ne. sym (ap (λ o. find byte_cmp x (names_in_it o)) (kept q ne)) ∙ e)

  entry_kept : (q : ℕ) (x : List ℕ) (k : ℕ) → entry s.tree q x ≡ Some k → entry t1 q x ≡ Some k
  entry_kept q x k e = ap (λ o. find byte_cmp x (names_in_it o))
      (kept q (not_new q (λ none. let no : entry s.tree q x ≡ None = ap (λ o. find byte_cmp x (names_in_it o)) none in cc))) ∙ e

  reached_kept : {q : ℕ} → IsReachable s.tree q → IsReachable t1 q
  reached_kept root = root
  reached_kept (below x r e) = below x (reached_kept r) (entry_kept _ x _ e)

  -- no name gives the new directory, so no directory has a subdirectory more
  subdirs : (q f : ℕ) (ms : Names) → node s.tree q ≡ Some (Dir f ms)
      → count_by (λ x. is_dir (node t1 x.1)) ms ≡ count_by (λ x. is_dir (node s.tree x.1)) ms
  subdirs q f ms is = total_same nat_list_cmp_total (λ v. cond (is_dir (node t1 v)) 1 0) (λ v. cond (is_dir (node s.tree v)) 1 0) ms
      (sound.limits q (Dir f ms) is).0
      (λ x v found.
      ap (λ o. cond (is_dir o) 1 0) (kept v (not_new v (sound.named q x v (ap (λ o. find byte_cmp x (names_in_it o)) is ∙ found)))))

  pub same_links : (q : ℕ) → q ≢ n → links t1 q ≡ links s.tree q
  same_links q ne = ap (links_at t1 q) (kept q ne) ∙ by (node s.tree q) refl
    where
      by : (o : Option Node) → node s.tree q ≡ o → links_at t1 q o ≡ links_at s.tree q o
      by None is = same_names q
      by (Some (File b)) is = same_names q
      by (Some (Link text)) is = same_names q
      by (Some (Dir f ms)) is = ap (λ c. 2 + c) (subdirs q f ms is)

  there : (q : ℕ) → q ≢ n → node t1 q ≢ None → node s.tree q ≢ None
  there q ne some none = some (kept q ne ∙ none)

  here : (q : ℕ) → node s.tree q ≢ None → node t1 q ≢ None
  here q some none = some (sym (kept q (not_new q some)) ∙ none)

  root_there : node s.tree 1 ≢ None
  root_there none = let dir = sound.root in let no : is_dir (node s.tree 1) ≡ false = ap is_dir none in cc

  file_kept : (q : ℕ) → IsFile (node s.tree q) → IsFile (node t1 q)
  file_kept q f = (f.0, kept q (not_new q (λ none. let file = f.1 in cc)) ∙ f.1)

  pub new_detached : IsDetached N (with_tree s t1) n
  new_detached = record {
    in_order = is_sorted-put nat_cmp nat_cmp_total n made s.tree sound.in_order;
    handles_in_order = sound.handles_in_order;
    version = sound.version;
    forms = each_kept (IsOfVersion s.version) sound.forms known;
    root = ap is_dir (kept 1 (not_new 1 root_there)) ∙ sound.root;
    numbers = λ q some. same_or_not q n (λ e. let low = in_range in (omega arith, omega arith)) (λ ne. sound.numbers q (there q ne some));
    limits = each_kept IsWithinLimits sound.limits (tt, omega arith, tt);
    few_links = λ q some. same_or_not q n
        (λ e. subst (λ x. links t1 x ≤ 1000) (sym e) (let two : links t1 n ≡ 2 = ap (links_at t1 n) new_is in omega arith))
        (λ ne. let same = same_links q ne in let few = sound.few_links q (there q ne some) in omega arith);
    named = λ q x k e. here k (sound.named q x k (entry_was q x k e));
    root_unnamed = same_names 1 ∙ sound.root_unnamed;
    dir = ap is_dir new_is;
    not_root = λ e. not_new 1 root_there (sym e);
    unnamed = no_name;
    one_name = λ q ne a dir. same_names q ∙ sound.one_name q a (sym (ap is_dir (kept q ne)) ∙ dir);
    reached = λ q dir. same_or_not q n
        (λ e. inr (subst (λ x. Under t1 n x) (sym e) itself))
        (λ ne. inl (reached_kept (sound.reached q (sym (ap is_dir (kept q ne)) ∙ dir))));
    held = λ q ne a some none. (let old = sound.held q a (there q ne some) (sym (same_names q) ∙ none) in
        record { file = file_kept q old.file; handle = old.handle });
    handles = λ h q e. ((sound.handles h q e).0, file_kept q (sound.handles h q e).1);
  }
