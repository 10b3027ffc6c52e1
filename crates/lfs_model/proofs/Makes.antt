-- A new file or link with a name keeps a state sound.
use Rattle.std.proofs.Common.{◌≡◌, ◌≢◌, refl, sym, ap, subst, ◌∙◌, ℕ, ◌+◌, ◌*◌, ◌<◌, ◌≤◌, Bool, true, false, List, [], ◌∷◌, Option, Some}
use Rattle.std.proofs.Common.{None, arith, cond, inl, inr, eqb, length, ◌⊎◌}
use Rattle.std.specs.Prelude.{T, unwrap_or, if◌then◌else◌, ◌==◌, is_some}
use Rattle.std.specs.List.{AllByRecursion}
use Rattle.std.specs.Ordering.{nat_cmp}
use Rattle.std.specs.declared.cmp.Ordering.{Ordering}
use Rattle.std.specs.declared.cmp.Ordering.TheVariants.{Less, Equal, Greater}
use Rattle.std.specs.Cmp.Lexicographic.{nat_list_cmp_total}
use Rattle.std.proofs.lemmas.Cmp.{nat_cmp_total}
use Rattle.std.proofs.lemmas.Bool.Decides.{nat_tests}
use Rattle.std.specs.FinMap.{find, put, is_sorted}
use Rattle.std.specs.FinMap.Entries.{is_sorted-put, length-put, by_order}
use Rattle.lfs_model.specs.Tree.{Tree, Names, Node, File, Dir, Link, State, node, with_node, names_in, names_of, is_dir, form_of, name_len}
use Rattle.lfs_model.specs.Tree.{name_limit, with_name, entry, byte_cmp, names, links, least}
use Rattle.lfs_model.specs.Need.{need}
use Rattle.lfs_model.specs.Sound.{Sound, NamesGive, IsGoodName, IsWithinLimits, IsOfVersion, IsFile, IsKeptOpen}
use Rattle.lfs_model.specs.Call.{Answer}
use Rattle.lfs_model.specs.Step.{checked, with_tree}
use Rattle.lfs_model.proofs.Walks.{Some-injective}
use Rattle.lfs_model.proofs.Sums.{total_zero, find_first}
use Rattle.lfs_model.proofs.Leasts.{least_free, starts}
use Rattle.lfs_model.proofs.Growing.{same_or_not, gives, at_new, at_dir, at_other, after_order, dirs, names_kept, names_new, entry_after}
use Rattle.lfs_model.proofs.Growing.{links_dir, links_other, links_new, reached_kept}

-- ---- the table's list of refusals

abbrev pub NonePass : List (Bool × Answer) → Type 0
NonePass cs = AllByRecursion (λ c. c.0 ≡ false) cs

-- a refused call leaves the state; else no condition held
pub checked_cases : (s : State) (cs : List (Bool × Answer)) (r : Answer × State)
    → ((checked s cs r).1 ≡ s) ⊎ (NonePass cs × ((checked s cs r).1 ≡ r.1))
checked_cases s [] r = inr (tt, refl)
checked_cases s (c ∷ cs) r =
    elim c.0 as (λ b. c.0 ≡ b → ((if b then (c.1, s) else checked s cs r).1 ≡ s)
    ⊎ (NonePass (c ∷ cs) × ((if b then (c.1, s) else checked s cs r).1 ≡ r.1))) [
      | true ↦ λ e. inl refl
      | false ↦ λ e. elim (checked_cases s cs r) as (λ _. ((checked s cs r).1 ≡ s) ⊎ (NonePass (c ∷ cs) × ((checked s cs r).1 ≡ r.1)))
          [ inl h ↦ inl h | inr h ↦ inr ((e, h.0), h.1) ]
    ] refl

-- ---- small facts

pub dir_at : (o : Option Node) → is_dir o ≡ true → o ≡ Some (Dir (form_of o) (names_of (unwrap_or o (File []))))
dir_at None e = cc
dir_at (Some (File b)) e = cc
dir_at (Some (Dir form m)) e = refl
dir_at (Some (Link text)) e = cc

pub not_some : {A : Type 0} (o : Option A) → is_some o ≡ false → o ≡ None
not_some None e = refl
not_some (Some x) e = cc

pub all_put : {K X : Type 0} (R : K → K → Ordering) (P : K → Type 0) (k : K) (v : X) (es : List (K × X)) → P k
    → AllByRecursion (λ e. P e.0) es → AllByRecursion (λ e. P e.0) (put R k v es)
all_put R P k v [] p h = (p, tt)
all_put R P k v (e ∷ es) p h =
    elim (R k e.0) as (λ r. AllByRecursion (λ e. P e.0) (by_order r ((k, v) ∷ e ∷ es) ((e.0, v) ∷ es) (e ∷ put R k v es))) [
      | Less ↦ (p, h)
      | Equal ↦ h
      | Greater ↦ (h.0, all_put R P k v es p h.1)
    ]

pub starts_one : (t : Tree) → ((n : ℕ) → node t n ≢ None → (1 ≤ n) × (n ≤ 4095)) → starts 1 t
starts_one [] h = tt
starts_one (e ∷ es) h = (h e.0 (λ none. let first = find_first nat_cmp_total (λ x. 0) e es in cc)).0

-- no name gives a number that is free
pub unnamed : (t : Tree) (n : ℕ) → T (is_sorted nat_cmp t) → ((q : ℕ) (x : Node) → node t q ≡ Some x → IsWithinLimits x) → NamesGive t
    → node t n ≡ None → names t n ≡ 0
unnamed t n order limits given fresh = total_zero nat_cmp_total (gives n) t order zeros
  where
    inside : (q : ℕ) (x : Node) → node t q ≡ Some x → gives n x ≡ 0
    inside q (File b) is = refl
    inside q (Link text) is = refl
    inside q (Dir form m) is = total_zero nat_list_cmp_total (λ v. if v == n then 1 else 0) m (limits q (Dir form m) is).0 (λ x k found.
        same_or_not k n
        (λ e. absurd (given q x n (ap (λ o. find byte_cmp x (names_of (unwrap_or o (File [])))) is ∙ found ∙ ap Some e) fresh))
        (λ ne. let no : eqb k n ≡ false = grind (arith, nat_tests) in rw no refl))

    zeros : (q : ℕ) (x : Node) → node t q ≡ Some x → gives n x ≡ 0
    zeros q x is = inside q x is

-- ---- the state after it

leaf_version : (version : ℕ) (x : Node) → is_dir (Some x) ≡ false → IsOfVersion version x
leaf_version version (File b) h = tt
leaf_version version (Dir form m) h = cc
leaf_version version (Link text) h = tt

module _ (N : ℕ) (s : State) (d : ℕ) (nm : List ℕ) (made : Node) (leaf : is_dir (Some made) ≡ false) (sound : Sound N s)
    (is_a_dir : is_dir (node s.tree d) ≡ true)
    (free_name : is_some (entry s.tree d nm) ≡ false) (good : IsGoodName (name_limit s.tree d) nm) (few : length (names_in s.tree d) < 1024)
    (top : least s.tree ≤ 4095)
    (made_limits : IsWithinLimits made) (fits : need (with_node (with_name s.tree d nm (least s.tree)) (least s.tree) made) ≤ 47 * N) where
  abbrev pub t : Tree
  t = s.tree

  abbrev pub n : ℕ
  n = least t

  abbrev pub m : Names
  m = names_in t d

  abbrev pub form : ℕ
  form = form_of (node t d)

  is : node t d ≡ Some (Dir form m)
  is = dir_at (node t d) is_a_dir

  dir_limits : IsWithinLimits (Dir form m)
  dir_limits = sound.limits d (Dir form m) is

  free : (1 ≤ n) × (node t n ≡ None)
  free = least_free 1 t sound.in_order (starts_one t sound.numbers)

  absent : find byte_cmp nm m ≡ None
  absent = not_some _ free_name

  abbrev pub t' : Tree
  t' = with_node (with_name t d nm n) n made

  new_is : node t' n ≡ Some made
  new_is = at_new t d n form m nm made leaf sound.in_order is dir_limits.0 free.1 absent

  dir_is : node t' d ≡ Some (Dir form (put byte_cmp nm n m))
  dir_is = at_dir t d n form m nm made leaf sound.in_order is dir_limits.0 free.1 absent

  kept : (q : ℕ) → q ≢ n → q ≢ d → node t' q ≡ node t q
  kept = at_other t d n form m nm made leaf sound.in_order is dir_limits.0 free.1 absent

  there : (q : ℕ) → q ≢ n → node t' q ≢ None → node t q ≢ None
  there q a some none = same_or_not q d
      (λ e. let at : node t d ≡ None = subst (λ x. node t x ≡ None) e none in let b = is in cc)
      (λ b. some (kept q a b ∙ none))

  file_kept : (q : ℕ) → IsFile (node t q) → IsFile (node t' q)
  file_kept q f = same_or_not q n
      (λ e. absurd (let gone : node t q ≡ None = subst (λ x. node t x ≡ None) (sym e) free.1 in let file = f.1 in cc))
      (λ a. same_or_not q d
      (λ e. absurd (let dir : node t q ≡ Some (Dir form m) = subst (λ x. node t x ≡ Some (Dir form m)) (sym e) is in let file = f.1 in cc))
      (λ b. (f.0, kept q a b ∙ f.1)))

  grown_limits : IsWithinLimits (Dir form (put byte_cmp nm n m))
  grown_limits =
      let len = length-put byte_cmp nat_list_cmp_total nm n m dir_limits.0 in
      let now : length (put byte_cmp nm n m) ≡ length m + 1 = len ∙ ap (λ o. cond (is_some o) (length m) (length m + 1)) absent in (
        is_sorted-put byte_cmp nat_list_cmp_total nm n m dir_limits.0,
        omega arith,
        all_put byte_cmp (IsGoodName (name_len form)) nm n m good dir_limits.2,
      )

  -- what holds of each node
  each_kept : (P : Node → Type 0) → ((q : ℕ) (x : Node) → node t q ≡ Some x → P x) → P made → P (Dir form (put byte_cmp nm n m))
      → (q : ℕ) (x : Node) → node t' q ≡ Some x → P x
  each_kept P was new dir q x h = same_or_not q n
      (λ e. subst P (Some-injective (sym new_is ∙ subst (λ y. node t' y ≡ Some x) e h)) new)
      (λ a. same_or_not q d
      (λ e. subst P (Some-injective (sym dir_is ∙ subst (λ y. node t' y ≡ Some x) e h)) dir)
      (λ b. was q x (sym (kept q a b) ∙ h)))

  new_names : names t n ≡ 0
  new_names = unnamed t n sound.in_order sound.limits sound.named free.1

  links_kept : (q : ℕ) → node t' q ≢ None → links t' q ≤ 1000
  links_kept q some = same_or_not q n
      (λ e. subst (λ x. links t' x ≤ 1000) (sym e) (let one =
      links_new t d n form m nm made leaf sound.in_order is dir_limits.0 free.1 absent in let none = new_names in omega arith))
      (λ a. same_or_not q d
      (λ e. subst (λ x. links t' x ≤ 1000) (sym e) (rw (links_dir t d n form m nm made leaf sound.in_order is dir_limits.0 free.1 absent)
      (sound.few_links d (λ none. let b = is in cc))))
      (λ b. rw (links_other t d n form m nm made leaf sound.in_order is dir_limits.0 free.1 absent q a b)
      (sound.few_links q (there q a some))))

  gives_kept : NamesGive t'
  gives_kept q x k e none = elim (entry_after t d n form m nm made leaf sound.in_order is dir_limits.0 free.1 absent q x k e) [
    | inl new ↦ let gone : node t' n ≡ None = subst (λ y. node t' y ≡ None) new none in let b = new_is in cc
    | inr old ↦ same_or_not k n
        (λ at. let gone : node t' n ≡ None = subst (λ y. node t' y ≡ None) at none in let b = new_is in cc)
        (λ a. same_or_not k d
        (λ at. let gone : node t' d ≡ None = subst (λ y. node t' y ≡ None) at none in let b = dir_is in cc)
        (λ b. sound.named q x k old (sym (kept k a b) ∙ none)))
  ]

  not_new : (q : ℕ) → is_dir (node t q) ≡ true → q ≢ n
  not_new q dir e = let at : node t q ≡ None = subst (λ x. node t x ≡ None) (sym e) free.1 in
      let no : is_dir (node t q) ≡ false = ap is_dir at in cc

  same_names : (q : ℕ) → q ≢ n → names t' q ≡ names t q
  same_names = names_kept t d n form m nm made leaf sound.in_order is dir_limits.0 free.1 absent

  dir_before : (q : ℕ) → is_dir (node t' q) ≡ true → is_dir (node t q) ≡ true
  dir_before q dir = sym (dirs t d n form m nm made leaf sound.in_order is dir_limits.0 free.1 absent q) ∙ dir

  held_kept : (q : ℕ) → q ≢ 1 → node t' q ≢ None → names t' q ≡ 0 → IsKeptOpen (with_tree s t') q
  held_kept q ne some none = same_or_not q n
      (λ e. absurd (let one : names t' n ≡ names t n + 1 = names_new t d n form m nm made leaf sound.in_order is dir_limits.0 free.1
      absent in let zero : names t' n ≡ 0 = subst (λ x. names t' x ≡ 0) e none in omega arith))
      (λ a. let was = sound.held q ne (there q a some) (sym (same_names q a) ∙ none) in
      record { file = file_kept q was.file; handle = was.handle })

  pub new_node : node t' n ≡ Some made
  new_node = new_is

  pub made_sound : Sound N (with_tree s t')
  made_sound = record {
    in_order = after_order t d n form m nm made leaf sound.in_order is dir_limits.0 free.1 absent;
    handles_in_order = sound.handles_in_order;
    version = sound.version;
    forms = each_kept (IsOfVersion s.version) sound.forms (leaf_version s.version made leaf) (sound.forms d (Dir form m) is);
    root = dirs t d n form m nm made leaf sound.in_order is dir_limits.0 free.1 absent 1 ∙ sound.root;
    numbers = λ q some. same_or_not q n (λ e. let low = free.0 in (omega arith, omega arith)) (λ a. sound.numbers q (there q a some));
    limits = each_kept IsWithinLimits sound.limits made_limits grown_limits;
    few_links = links_kept;
    named = gives_kept;
    root_unnamed = same_names 1 (not_new 1 sound.root) ∙ sound.root_unnamed;
    one_name = λ q ne dir. same_names q (not_new q (dir_before q dir)) ∙ sound.one_name q ne (dir_before q dir);
    reached = λ q dir.
        reached_kept t d n form m nm made leaf sound.in_order is dir_limits.0 free.1 absent (sound.reached q (dir_before q dir));
    held = held_kept;
    handles = λ g q e. ((sound.handles g q e).0, file_kept q (sound.handles g q e).1);
    room = fits;
  }
