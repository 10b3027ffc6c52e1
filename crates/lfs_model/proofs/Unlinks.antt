-- A name taken out of a directory.
use Rattle.std.proofs.Common.{◌≡◌, ◌≢◌, refl, sym, ap, subst, ◌∙◌, ℕ, suc, ◌≤◌, Bool, true, false, List, [], ◌∷◌, Some, None, arith, cond}
use Rattle.std.proofs.Common.{length, inl, inr, ◌⊎◌, eqb}
use Rattle.std.proofs.lemmas.Bool.Decides.{nat_tests}
use Rattle.std.specs.Prelude.{T, unwrap_or, not, filter, if◌then◌else◌, ◌==◌}
use Rattle.std.specs.List.{AllByRecursion}
use Rattle.std.specs.Ordering.{nat_cmp, eq_by_cmp}
use Rattle.std.specs.FinMap.{find, is_sorted}
use Rattle.std.specs.FinMap.Entries.{is_sorted-where_key}
use Rattle.lfs_model.specs.Tree.{Tree, Names, Node, File, Dir, State, node, with_node, without, names_of, form_of, without_name, is_dir}
use Rattle.lfs_model.specs.Tree.{name_len, entry, byte_cmp, names}
use Rattle.lfs_model.specs.Need.{cost, cost_at, need}
use Rattle.lfs_model.specs.Sound.{Sound, IsReachable, root, below, IsGoodName, IsWithinLimits, IsOfVersion, IsFile}
use Rattle.lfs_model.specs.Step.{with_tree}
use Rattle.lfs_model.proofs.Walks.{Some-injective}
use Rattle.lfs_model.proofs.Needs.{need-with_node}
use Rattle.lfs_model.proofs.DirCosts.{dir_cost}
use Rattle.lfs_model.proofs.Growing.{same_or_not}
use Rattle.lfs_model.proofs.Dropping.{SoundBut}
use Rattle.lfs_model.proofs.Detached.{IsDetached, Under, itself, inside, holder}
use Rattle.lfs_model.proofs.Shrinking.{after_order, at_dir, at_other, dirs, names_after, names_kept, named_counts, entry_after, entry_kept}
use Rattle.lfs_model.proofs.Shrinking.{links_less, reached_kept}

pub all_filter : {K X : Type 0} (P : K → Type 0) (p : K × X → Bool) (es : List (K × X)) → AllByRecursion (λ e. P e.0) es
    → AllByRecursion (λ e. P e.0) (filter p es)
all_filter P p [] h = tt
all_filter P p (e ∷ es) h = elim (p e) as (λ b. AllByRecursion (λ e. P e.0) (cond b (e ∷ filter p es) (filter p es)))
    [ true ↦ (h.0, all_filter P p es h.1) | false ↦ all_filter P p es h.1 ]

filter_short : {A : Type 0} (p : A → Bool) (xs : List A) → length (filter p xs) ≤ length xs
filter_short p [] = omega arith
filter_short p (x ∷ xs) = let rest = filter_short p xs in
    elim (p x) as (λ b. length (cond b (x ∷ filter p xs) (filter p xs)) ≤ suc (length xs)) [ true ↦ omega arith | false ↦ omega arith ]

pub name_less : (t : Tree) (d form : ℕ) (m : Names) (nm : List ℕ) → T (is_sorted nat_cmp t) → node t d ≡ Some (Dir form m)
    → need (without_name t d nm) ≤ need t
name_less t d form m nm order is =
    let change = need-with_node t d (Dir form (without byte_cmp nm m)) order in
    let was : cost_at (node t d) ≡ cost (Dir form m) = ap cost_at is in
    let less = dir_cost form (without byte_cmp nm m) m (filter_short (λ (e : List ℕ × ℕ). not (eq_by_cmp byte_cmp nm e.0)) m) in
    let same : without_name t d nm ≡ with_node t d (Dir form (without byte_cmp nm m)) =
    ap (λ o. with_node t d (Dir (form_of o) (without byte_cmp nm (names_of (unwrap_or o (File [])))))) is in
    let small : need (with_node t d (Dir form (without byte_cmp nm m))) ≤ need t = omega (arith, change, was, less) in
    subst (λ (u : Tree). need u ≤ need t) (sym same) small

module _ (N : ℕ) (s : State) (sound : Sound N s) (d n form : ℕ) (m : Names) (nm : List ℕ)
    (is : node s.tree d ≡ Some (Dir form m)) (found : find byte_cmp nm m ≡ Some n) where
  abbrev pub t : Tree
  t = s.tree

  abbrev pub t1 : Tree
  t1 = with_node t d (Dir form (without byte_cmp nm m))

  limits_dir : IsWithinLimits (Dir form m)
  limits_dir = sound.limits d (Dir form m) is

  pub kept : (q : ℕ) → q ≢ d → node t1 q ≡ node t q
  kept = at_other t d n form m nm sound.in_order is limits_dir.0 found

  pub dir_now : node t1 d ≡ Some (Dir form (without byte_cmp nm m))
  dir_now = at_dir t d n form m nm sound.in_order is limits_dir.0 found

  pub dirs_same : (q : ℕ) → is_dir (node t1 q) ≡ is_dir (node t q)
  dirs_same = dirs t d n form m nm sound.in_order is limits_dir.0 found

  pub there : (q : ℕ) → node t1 q ≢ None → node t q ≢ None
  there q some none = same_or_not q d
      (λ e. let at : node t d ≡ None = subst (λ x. node t x ≡ None) e none in let b = is in cc)
      (λ b. some (kept q b ∙ none))

  pub here : (q : ℕ) → node t q ≢ None → node t1 q ≢ None
  here q some none = same_or_not q d
      (λ e. let at : node t1 d ≡ None = subst (λ x. node t1 x ≡ None) e none in let b = dir_now in cc)
      (λ b. some (sym (kept q b) ∙ none))

  file_kept : (q : ℕ) → IsFile (node t q) → IsFile (node t1 q)
  file_kept q f = same_or_not q d
      (λ e. absurd (let dir : node t q ≡ Some (Dir form m) = subst (λ x. node t x ≡ Some (Dir form m)) (sym e) is in let file = f.1 in cc))
      (λ b. (f.0, kept q b ∙ f.1))

  shrunk_limits : IsWithinLimits (Dir form (without byte_cmp nm m))
  shrunk_limits = (
    is_sorted-where_key byte_cmp (λ x. not (eq_by_cmp byte_cmp nm x)) m limits_dir.0,
    (let short = filter_short (λ (e : List ℕ × ℕ). not (eq_by_cmp byte_cmp nm e.0)) m in let few = limits_dir.1 in omega arith),
    all_filter (IsGoodName (name_len form)) (λ e. not (eq_by_cmp byte_cmp nm e.0)) m limits_dir.2,
  )

  each_kept : (P : Node → Type 0) → ((q : ℕ) (x : Node) → node t q ≡ Some x → P x) → P (Dir form (without byte_cmp nm m))
      → (q : ℕ) (x : Node) → node t1 q ≡ Some x → P x
  each_kept P was dir q x h = same_or_not q d
      (λ e. subst P (Some-injective (sym dir_now ∙ subst (λ y. node t1 y ≡ Some x) e h)) dir)
      (λ b. was q x (sym (kept q b) ∙ h))

  pub was_entry : (q : ℕ) (x : List ℕ) (k : ℕ) → entry t1 q x ≡ Some k → entry t q x ≡ Some k
  was_entry = entry_after t d n form m nm sound.in_order is limits_dir.0 found

  same_names : (q : ℕ) → q ≢ n → names t1 q ≡ names t q
  same_names = names_kept t d n form m nm sound.in_order is limits_dir.0 found

  dir_not_n : is_dir (node t n) ≡ false → (q : ℕ) → is_dir (node t q) ≡ true → q ≢ n
  dir_not_n plain q dir e = let no : is_dir (node t q) ≡ false = subst (λ x. is_dir (node t x) ≡ false) (sym e) plain in cc

  pub less_need : need t1 ≤ need t
  less_need =
      let change = need-with_node t d (Dir form (without byte_cmp nm m)) sound.in_order in
      let was : cost_at (node t d) ≡ cost (Dir form m) = ap cost_at is in
      let less = dir_cost form (without byte_cmp nm m) m (filter_short (λ (e : List ℕ × ℕ). not (eq_by_cmp byte_cmp nm e.0)) m) in
      omega (arith, change, was, less)

  -- the node that the name gave may have lost its last name
  pub lost_sound : is_dir (node t n) ≡ false → SoundBut N (with_tree s t1) n
  lost_sound plain = record {
    in_order = after_order t d n form m nm sound.in_order is limits_dir.0 found;
    handles_in_order = sound.handles_in_order;
    version = sound.version;
    forms = each_kept (IsOfVersion s.version) sound.forms (sound.forms d (Dir form m) is);
    root = dirs_same 1 ∙ sound.root;
    numbers = λ q some. sound.numbers q (there q some);
    limits = each_kept IsWithinLimits sound.limits shrunk_limits;
    few_links = λ q some. (let less = links_less t d n form m nm sound.in_order is limits_dir.0 found q in
        let few = sound.few_links q (there q some) in omega arith);
    named = λ q x k e. here k (sound.named q x k (was_entry q x k e));
    root_unnamed = same_names 1 (dir_not_n plain 1 sound.root) ∙ sound.root_unnamed;
    one_name = λ q ne dir. (let was = sym (dirs_same q) ∙ dir in same_names q (dir_not_n plain q was) ∙ sound.one_name q ne was);
    reached = λ q dir. (let was = sym (dirs_same q) ∙ dir in
        reached_kept t d n form m nm sound.in_order is limits_dir.0 found plain (sound.reached q was) was);
    held = λ q a ne some none. (let was = sound.held q ne (there q some) (sym (same_names q a) ∙ none) in
        record { file = file_kept q was.file; handle = was.handle });
    handles = λ h q e. ((sound.handles h q e).0, file_kept q (sound.handles h q e).1);
    room = let less = less_need in let fits = sound.room in omega arith;
  }

  pub still_plain : is_dir (node t n) ≡ false → is_dir (node t1 n) ≡ false
  still_plain plain = dirs_same n ∙ plain

  -- ---- a directory's name

  module _ (dir : is_dir (node t n) ≡ true) where
    counts : 1 ≤ names t n
    counts = named_counts t d nm n (ap (λ o. find byte_cmp nm (names_of (unwrap_or o (File [])))) is ∙ found)

    inner : n ≢ 1
    inner e = let z : names t n ≡ 0 = subst (λ x. names t x ≡ 0) (sym e) sound.root_unnamed in absurd (let c = counts in omega arith)

    no_name : names t1 n ≡ 0
    no_name =
        let one = sound.one_name n inner dir in
        let less = names_after t d n form m nm sound.in_order is limits_dir.0 found n in
        let itself_is : eqb n n ≡ true = grind (arith, nat_tests) in
        let step : ◌≡◌ {A = ℕ} (if n == n then 1 else 0) 1 = rw itself_is refl in
        omega (arith, one, less, step)

    parted : {q : ℕ} → IsReachable t q → is_dir (node t q) ≡ true → IsReachable t1 q ⊎ Under t1 n q
    parted root h = inl root
    parted (below {d = e} {n = k} x r at) h = same_or_not k n
        (λ same. inr (subst (λ y. Under t1 n y) (sym same) itself))
        (λ ne. elim (parted r (holder (node t e) x k at)) as (λ _. IsReachable t1 k ⊎ Under t1 n k) [
          | inl r ↦ inl (below x r (entry_kept t d n form m nm sound.in_order is limits_dir.0 found e x k ne at))
          | inr u ↦ inr (inside x u (entry_kept t d n form m nm sound.in_order is limits_dir.0 found e x k ne at))
        ])

    pub detached : IsDetached N (with_tree s t1) n
    detached = record {
      in_order = after_order t d n form m nm sound.in_order is limits_dir.0 found;
      handles_in_order = sound.handles_in_order;
      version = sound.version;
      forms = each_kept (IsOfVersion s.version) sound.forms (sound.forms d (Dir form m) is);
      root = dirs_same 1 ∙ sound.root;
      numbers = λ q some. sound.numbers q (there q some);
      limits = each_kept IsWithinLimits sound.limits shrunk_limits;
      few_links = λ q some. (let less = links_less t d n form m nm sound.in_order is limits_dir.0 found q in
          let few = sound.few_links q (there q some) in omega arith);
      named = λ q x k e. here k (sound.named q x k (was_entry q x k e));
      root_unnamed = same_names 1 (λ e. inner (sym e)) ∙ sound.root_unnamed;
      dir = dirs_same n ∙ dir;
      not_root = inner;
      unnamed = no_name;
      one_name = λ q ne a is_one. same_names q ne ∙ sound.one_name q a (sym (dirs_same q) ∙ is_one);
      reached = λ q is_one. (let was = sym (dirs_same q) ∙ is_one in parted (sound.reached q was) was);
      held = λ q a ne some none. (let was = sound.held q ne (there q some) (sym (same_names q a) ∙ none) in
          record { file = file_kept q was.file; handle = was.handle });
      handles = λ h q e. ((sound.handles h q e).0, file_kept q (sound.handles h q e).1);
    }
