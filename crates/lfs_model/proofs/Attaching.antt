-- A directory that has no name gets one: the state is sound.
use Rattle.std.proofs.Common.{◌≡◌, ◌≢◌, sym, ap, subst, ◌∙◌, ℕ, ◌+◌, ◌*◌, ◌<◌, ◌≤◌, Bool, true, false, List, Some, None, arith, cond, inl}
use Rattle.std.proofs.Common.{inr, ◌⊎◌, length}
use Rattle.std.specs.Prelude.{if◌then◌else◌, is_some}
use Rattle.std.specs.Cmp.Lexicographic.{nat_list_cmp_total}
use Rattle.std.specs.FinMap.{find, put}
use Rattle.std.specs.FinMap.Entries.{is_sorted-put, length-put}
use Rattle.lfs_model.specs.Tree.{Tree, Names, Node, Dir, State, node, with_node, is_dir, name_len, byte_cmp, names, links}
use Rattle.lfs_model.specs.Need.{need}
use Rattle.lfs_model.specs.Sound.{Sound, IsReachable, below, IsGoodName, IsWithinLimits, IsOfVersion, IsFile}
use Rattle.lfs_model.specs.Step.{with_tree}
use Rattle.lfs_model.proofs.Walks.{Some-injective}
use Rattle.lfs_model.proofs.Growing.{same_or_not}
use Rattle.lfs_model.proofs.Makes.{all_put}
use Rattle.lfs_model.proofs.Detached.{IsDetached, Under, itself, inside}
use Rattle.lfs_model.proofs.Gaining.{after_order, at_dir, at_other, dirs, names_kept, names_more, entry_new, entry_after, entry_kept}
use Rattle.lfs_model.proofs.Gaining.{links_dir, links_other, reached_kept}

module _ (N : ℕ) (s : State) (d n form : ℕ) (m : Names) (nm : List ℕ) (was : IsDetached N s n) (is : node s.tree d ≡ Some (Dir form m))
    (at : IsReachable s.tree d)
    (absent : find byte_cmp nm m ≡ None) (good : IsGoodName (name_len form) nm) (few : length m < 1024) (room : links s.tree d < 1000)
    (fits : need (with_node s.tree d (Dir form (put byte_cmp nm n m))) ≤ 47 * N) where
  abbrev t : Tree
  t = s.tree

  abbrev grown : Node
  grown = Dir form (put byte_cmp nm n m)

  abbrev pub t' : Tree
  t' = with_node t d grown

  limits_dir : IsWithinLimits (Dir form m)
  limits_dir = was.limits d (Dir form m) is

  dir_now : node t' d ≡ Some grown
  dir_now = at_dir t d n form m nm was.in_order is limits_dir.0 absent

  kept : (q : ℕ) → q ≢ d → node t' q ≡ node t q
  kept = at_other t d n form m nm was.in_order is limits_dir.0 absent

  dirs_same : (q : ℕ) → is_dir (node t' q) ≡ is_dir (node t q)
  dirs_same = dirs t d n form m nm was.in_order is limits_dir.0 absent

  same_names : (q : ℕ) → q ≢ n → names t' q ≡ names t q
  same_names = names_kept t d n form m nm was.in_order is limits_dir.0 absent

  one_more : names t' n ≡ names t n + 1
  one_more = names_more t d n form m nm was.in_order is limits_dir.0 absent

  each_kept : (P : Node → Type 0) → ((q : ℕ) (x : Node) → node t q ≡ Some x → P x) → P grown → (q : ℕ) (x : Node) → node t' q ≡ Some x → P x
  each_kept P old dir q x h = same_or_not q d
      (λ e. subst P (Some-injective (sym dir_now ∙ subst (λ y. node t' y ≡ Some x) e h)) dir)
      (λ b. old q x (sym (kept q b) ∙ h))

  there : (q : ℕ) → node t' q ≢ None → node t q ≢ None
  there q some none = same_or_not q d
      (λ e. let none_is : node t d ≡ None = subst (λ x. node t x ≡ None) e none in let b = is in cc)
      (λ b. some (kept q b ∙ none))

  here : (q : ℕ) → node t q ≢ None → node t' q ≢ None
  here q some none = same_or_not q d
      (λ e. let none_is : node t' d ≡ None = subst (λ x. node t' x ≡ None) e none in let b = dir_now in cc)
      (λ b. some (sym (kept q b) ∙ none))

  file_kept : (q : ℕ) → IsFile (node t q) → IsFile (node t' q)
  file_kept q f = same_or_not q d
      (λ e. absurd (let dir : node t q ≡ Some (Dir form m) = subst (λ x. node t x ≡ Some (Dir form m)) (sym e) is in let file = f.1 in cc))
      (λ b. (f.0, kept q b ∙ f.1))

  grown_limits : IsWithinLimits grown
  grown_limits =
      let len = length-put byte_cmp nat_list_cmp_total nm n m limits_dir.0 in
      let now : length (put byte_cmp nm n m) ≡ length m + 1 = len ∙ ap (λ o. cond (is_some o) (length m) (length m + 1)) absent in (
        is_sorted-put byte_cmp nat_list_cmp_total nm n m limits_dir.0,
        omega arith,
        all_put byte_cmp (IsGoodName (name_len form)) nm n m good limits_dir.2,
      )

  links_few : (q : ℕ) → node t' q ≢ None → links t' q ≤ 1000
  links_few q some = same_or_not q d
      (λ e. subst (λ x. links t' x ≤ 1000) (sym e) (
      let more = links_dir t d n form m nm was.in_order is limits_dir.0 absent in
      let one : ◌≡◌ {A = ℕ} (if is_dir (node t n) then 1 else 0) 1 = ap (λ (b : Bool). if b then 1 else 0) was.dir in
      omega arith))
      (λ b. (
      let which : (q ≢ n) ⊎ (is_dir (node t q) ≡ true) =
      same_or_not q n (λ e. inr (subst (λ x. is_dir (node t x) ≡ true) (sym e) was.dir)) (λ ne. inl ne) in
      let same = links_other t d n form m nm was.in_order is limits_dir.0 absent q b which in
      let old = was.few_links q (there q some) in
      omega arith))

  n_reached : IsReachable t' n
  n_reached = below nm (reached_kept t d n form m nm was.in_order is limits_dir.0 absent at)
      (entry_new t d n form m nm was.in_order is limits_dir.0 absent)

  under_reached : {q : ℕ} → Under t n q → IsReachable t' q
  under_reached itself = n_reached
  under_reached (inside x u e) = below x (under_reached u) (entry_kept t d n form m nm was.in_order is limits_dir.0 absent _ x _ e)

  n_there : node t n ≢ None
  n_there none = let dir = was.dir in let no : is_dir (node t n) ≡ false = ap is_dir none in cc

  pub attached_sound : Sound N (with_tree s t')
  attached_sound = record {
    in_order = after_order t d n form m nm was.in_order is limits_dir.0 absent;
    handles_in_order = was.handles_in_order;
    version = was.version;
    forms = each_kept (IsOfVersion s.version) was.forms (was.forms d (Dir form m) is);
    root = dirs_same 1 ∙ was.root;
    numbers = λ q some. was.numbers q (there q some);
    limits = each_kept IsWithinLimits was.limits grown_limits;
    few_links = links_few;
    named = λ q x k e. elim (entry_after t d n form m nm was.in_order is limits_dir.0 absent q x k e) as (λ _. node t' k ≢ None) [
      | inl same ↦ subst (λ y. node t' y ≢ None) (sym same) (here n n_there)
      | inr old ↦ here k (was.named q x k old)
    ];
    root_unnamed = same_names 1 (λ e. was.not_root (sym e)) ∙ was.root_unnamed;
    one_name = λ q ne dir. same_or_not q n
        (λ e. subst (λ x. names t' x ≡ 1) (sym e) (let more = one_more in let none = was.unnamed in omega arith))
        (λ a. same_names q a ∙ was.one_name q a ne (sym (dirs_same q) ∙ dir));
    reached = λ q dir. elim (was.reached q (sym (dirs_same q) ∙ dir)) as (λ _. IsReachable t' q) [
      | inl r ↦ reached_kept t d n form m nm was.in_order is limits_dir.0 absent r
      | inr u ↦ under_reached u
    ];
    held = λ q ne some none. same_or_not q n
        (λ e. absurd (let more = one_more in let zero_is : names t' n ≡ 0 = subst (λ x. names t' x ≡ 0) e none in omega arith))
        (λ a. let old = was.held q a ne (there q some) (sym (same_names q a) ∙ none) in
        record { file = file_kept q old.file; handle = old.handle });
    handles = λ h q e. ((was.handles h q e).0, file_kept q (was.handles h q e).1);
    room = fits;
  }
