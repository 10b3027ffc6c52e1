-- Trees whose directories are the same, with the same names in them.
use Rattle.std.proofs.Common.{◌≡◌, ◌≢◌, refl, sym, ap, subst, ◌∙◌, ℕ, ◌+◌, ◌*◌, ◌≤◌, Bool, List, [], Option, Some, None, arith, inl, inr}
use Rattle.std.specs.Prelude.{T, count_by, unwrap_or, ◌==◌}
use Rattle.std.proofs.Math.Path.{fun_ext}
use Rattle.std.proofs.lemmas.Bool.Decides.{eqb_tells}
use Rattle.std.specs.Ordering.{nat_cmp}
use Rattle.std.proofs.lemmas.Cmp.{nat_cmp_total}
use Rattle.std.specs.FinMap.{find, is_sorted}
use Rattle.std.specs.FinMap.Entries.{is_sorted-put}
use Rattle.lfs_model.specs.Tree.{Tree, Names, Node, File, Dir, Link, State, node, with_node, names_in, names_of, is_dir, entry, byte_cmp}
use Rattle.lfs_model.specs.Tree.{names, links, links_at}
use Rattle.lfs_model.specs.Need.{need}
use Rattle.lfs_model.specs.Sound.{Sound, IsReachable, root, below, IsWithinLimits, IsOfVersion, IsFile}
use Rattle.lfs_model.specs.Step.{with_tree}
use Rattle.lfs_model.proofs.Walks.{Some-injective}
use Rattle.lfs_model.proofs.Sums.{total_put, weight}
use Rattle.lfs_model.proofs.Trees.{find_here, find_other}

-- what a number has under a test
pub same_or_not : (a b : ℕ) {P : Type 0} → (a ≡ b → P) → (a ≢ b → P) → P
same_or_not a b {P} f g = elim (eqb_tells a b) as (λ _. P) [ inl h ↦ f h.1 | inr h ↦ g h.1 ]

-- how many names of a directory give q
abbrev pub gives : ℕ → Node → ℕ
gives q x = count_by (λ e. e.1 == q) (names_of x)

-- ---- the same directories
module _ (t t' : Tree) (dirs : (q : ℕ) → is_dir (node t' q) ≡ is_dir (node t q)) where
  pub same_subdirs : (ms : Names) → count_by (λ x. is_dir (node t' x.1)) ms ≡ count_by (λ x. is_dir (node t x.1)) ms
  same_subdirs ms = let f : (λ (q : ℕ). is_dir (node t' q)) ≡ (λ (q : ℕ). is_dir (node t q)) = fun_ext dirs in
      ap (λ (f : ℕ → Bool). count_by (λ (x : List ℕ × ℕ). f x.1) ms) f

  -- a node has as many links where it has as many names
  pub links_of_names : (q : ℕ) → names t' q ≡ names t q → (o : Option Node) → links_at t' q o ≡ links_at t q o
  links_of_names q same None = same
  links_of_names q same (Some (File b)) = same
  links_of_names q same (Some (Link text)) = same
  links_of_names q same (Some (Dir f ms)) = ap (λ c. 2 + c) (same_subdirs ms)

-- ---- the same names in directories
module _ (t t' : Tree) (lists : (q : ℕ) → names_in t' q ≡ names_in t q) where
  pub same_entries : (q : ℕ) (x : List ℕ) → entry t' q x ≡ entry t q x
  same_entries q x = ap (find byte_cmp x) (lists q)

  pub same_reached : {q : ℕ} → IsReachable t q → IsReachable t' q
  same_reached root = root
  same_reached (below x r e) = below x (same_reached r) (same_entries _ x ∙ e)

-- ---- a node in place of one with the same names, which is a directory where that was one
module _ (t : Tree) (n : ℕ) (old new : Node) (in_order : T (is_sorted nat_cmp t)) (is : node t n ≡ Some old)
    (kind : is_dir (Some new) ≡ is_dir (Some old)) (list : names_of new ≡ names_of old) where
  abbrev t' : Tree
  t' = with_node t n new

  now_is : node t' n ≡ Some new
  now_is = find_here t n new

  kept : (q : ℕ) → q ≢ n → node t' q ≡ node t q
  kept q ne = find_other t n new q ne

  -- a word that doesn't see the change
  unseen : {A : Type 0} (f : Option Node → A) → f (Some new) ≡ f (Some old) → (q : ℕ) → f (node t' q) ≡ f (node t q)
  unseen f same q = same_or_not q n
      (λ e. subst (λ x. f (node t' x) ≡ f (node t x)) (sym e) (ap f now_is ∙ same ∙ sym (ap f is)))
      (λ b. ap f (kept q b))

  dirs : (q : ℕ) → is_dir (node t' q) ≡ is_dir (node t q)
  dirs = unseen is_dir kind

  same_names : (q : ℕ) → names t' q ≡ names t q
  same_names q =
      let all = total_put nat_cmp_total (gives q) n new t in_order in
      let was : weight nat_cmp_total (gives q) (node t n) ≡ gives q old = ap (weight nat_cmp_total (gives q)) is in
      let same : gives q new ≡ gives q old = ap (λ (ms : Names). count_by (λ (e : List ℕ × ℕ). e.1 == q) ms) list in
      omega (arith, all, was, same)

  -- a node's links don't see it
  alike : (q : ℕ) (x y : Node) → is_dir (Some x) ≡ is_dir (Some y) → names_of x ≡ names_of y → links_at t q (Some x) ≡ links_at t q (Some y)
  alike q (Dir f ms) (Dir g ns) k l = ap (λ (ms : Names). 2 + count_by (λ (x : List ℕ × ℕ). is_dir (node t x.1)) ms) l
  alike q (Dir f ms) (File b) k l = cc
  alike q (Dir f ms) (Link b) k l = cc
  alike q (File b) (Dir f ms) k l = cc
  alike q (File b) (File c) k l = refl
  alike q (File b) (Link c) k l = refl
  alike q (Link b) (Dir f ms) k l = cc
  alike q (Link b) (File c) k l = refl
  alike q (Link b) (Link c) k l = refl

  pub replaced_links : (q : ℕ) → links t' q ≡ links t q
  replaced_links q = links_of_names t t' dirs q (same_names q) (node t' q) ∙ unseen (links_at t q) (alike q new old kind list) q

-- it keeps a state sound
module _ (N : ℕ) (s : State) (n : ℕ) (old new : Node) (sound : Sound N s) (is : node s.tree n ≡ Some old)
    (kind : is_dir (Some new) ≡ is_dir (Some old)) (list : names_of new ≡ names_of old) (good : IsWithinLimits new)
    (form : IsOfVersion s.version new) (file : IsFile (Some old) → IsFile (Some new)) (fits : need (with_node s.tree n new) ≤ 47 * N) where
  abbrev u : Tree
  u = s.tree

  abbrev u' : Tree
  u' = with_node s.tree n new

  same_dirs : (q : ℕ) → is_dir (node u' q) ≡ is_dir (node u q)
  same_dirs = dirs u n old new sound.in_order is kind list

  number_names : (q : ℕ) → names u' q ≡ names u q
  number_names = same_names u n old new sound.in_order is kind list

  lists : (q : ℕ) → names_in u' q ≡ names_in u q
  lists q = same_or_not q n
      (λ e. subst (λ x. names_in u' x ≡ names_in u x) (sym e) (ap names_by (find_here u n new) ∙ list ∙ sym (ap names_by is)))
      (λ b. ap names_by (find_other u n new q b))
    where
      names_by : Option Node → Names
      names_by o = names_of (unwrap_or o (File []))

  each_kept : (P : Node → Type 0) → ((q : ℕ) (x : Node) → node u q ≡ Some x → P x) → P new → (q : ℕ) (x : Node) → node u' q ≡ Some x → P x
  each_kept P was now q x h = same_or_not q n
      (λ e. subst P (Some-injective (sym (find_here u n new) ∙ subst (λ y. node u' y ≡ Some x) e h)) now)
      (λ b. was q x (sym (find_other u n new q b) ∙ h))

  there : (q : ℕ) → node u' q ≢ None → node u q ≢ None
  there q some none = same_or_not q n
      (λ e. let at : node u n ≡ None = subst (λ x. node u x ≡ None) e none in let b = is in cc)
      (λ b. some (find_other u n new q b ∙ none))

  here : (q : ℕ) → node u q ≢ None → node u' q ≢ None
  here q some none = same_or_not q n
      (λ e. let at : node u' n ≡ None = subst (λ x. node u' x ≡ None) e none in let b = find_here u n new in cc)
      (λ b. some (sym (find_other u n new q b) ∙ none))

  file_kept : (q : ℕ) → IsFile (node u q) → IsFile (node u' q)
  file_kept q f = same_or_not q n
      (λ e. subst (λ x. IsFile (node u' x)) (sym e)
      (let now = file (f.0, sym is ∙ subst (λ x. node u x ≡ Some (File f.0)) e f.1) in (now.0, find_here u n new ∙ now.1)))
      (λ b. (f.0, find_other u n new q b ∙ f.1))

  pub replaced_sound : Sound N (with_tree s u')
  replaced_sound = record {
    in_order = is_sorted-put nat_cmp nat_cmp_total n new u sound.in_order;
    handles_in_order = sound.handles_in_order;
    version = sound.version;
    forms = each_kept (IsOfVersion s.version) sound.forms form;
    root = same_dirs 1 ∙ sound.root;
    numbers = λ q some. sound.numbers q (there q some);
    limits = each_kept IsWithinLimits sound.limits good;
    few_links = λ q some. (
        let same = replaced_links u n old new sound.in_order is kind list q in
        let few = sound.few_links q (there q some) in
        omega (arith, same, few));
    named = λ q x k e. here k (sound.named q x k (sym (same_entries u u' lists q x) ∙ e));
    root_unnamed = number_names 1 ∙ sound.root_unnamed;
    one_name = λ q ne dir. number_names q ∙ sound.one_name q ne (sym (same_dirs q) ∙ dir);
    reached = λ q dir. same_reached u u' lists (sound.reached q (sym (same_dirs q) ∙ dir));
    held = λ q ne some none. (
        let was = sound.held q ne (there q some) (sym (number_names q) ∙ none) in
        record { file = file_kept q was.file; handle = was.handle });
    handles = λ h q e. ((sound.handles h q e).0, file_kept q (sound.handles h q e).1);
    room = fits;
  }
