-- A further name for a file or a link keeps a state sound.
use Rattle.std.proofs.Common.{◌≡◌, ◌≢◌, refl, sym, ap, subst, ◌∙◌, ℕ, ◌+◌, ◌*◌, ◌<◌, ◌≤◌, Bool, true, false, List, Option, Some, None}
use Rattle.std.proofs.Common.{arith, cond, inl, inr, length, add-zero}
use Rattle.std.specs.Prelude.{if◌then◌else◌, is_some}
use Rattle.std.specs.Ordering.{nat_cmp}
use Rattle.std.specs.Cmp.Lexicographic.{nat_list_cmp_total}
use Rattle.std.proofs.lemmas.Cmp.{nat_cmp_total}
use Rattle.std.specs.FinMap.{find, put}
use Rattle.std.specs.FinMap.Entries.{is_sorted-put, length-put}
use Rattle.lfs_model.specs.Tree.{Tree, Names, Node, File, Dir, Link, State, node, with_node, is_dir, name_len, byte_cmp, names, links}
use Rattle.lfs_model.specs.Tree.{links_at}
use Rattle.lfs_model.specs.Need.{need}
use Rattle.lfs_model.specs.Sound.{Sound, IsGoodName, IsWithinLimits, IsOfVersion, IsFile}
use Rattle.lfs_model.specs.Step.{with_tree}
use Rattle.lfs_model.proofs.Walks.{Some-injective}
use Rattle.lfs_model.proofs.Growing.{same_or_not}
use Rattle.lfs_model.proofs.Makes.{all_put}
use Rattle.lfs_model.proofs.Dropping.{SoundBut}
use Rattle.lfs_model.proofs.Gaining as gains

pub sound_but : (N : ℕ) (s : State) (n : ℕ) → Sound N s → SoundBut N s n
sound_but N s n sound = record {
  in_order = sound.in_order;
  handles_in_order = sound.handles_in_order;
  version = sound.version;
  forms = sound.forms;
  root = sound.root;
  numbers = sound.numbers;
  limits = sound.limits;
  few_links = sound.few_links;
  named = sound.named;
  root_unnamed = sound.root_unnamed;
  one_name = sound.one_name;
  reached = sound.reached;
  held = λ q a. sound.held q;
  handles = sound.handles;
  room = sound.room;
}

-- the links of a file or a link are its names
pub leaf_names_are : (t : Tree) (n : ℕ) (o : Option Node) → is_dir o ≡ false → links_at t n o ≡ names t n
leaf_names_are t n None h = refl
leaf_names_are t n (Some (File b)) h = refl
leaf_names_are t n (Some (Dir form m)) h = cc
leaf_names_are t n (Some (Link text)) h = refl

module _ (N : ℕ) (s : State) (d n form : ℕ) (m : Names) (nm : List ℕ) (but : SoundBut N s n) (is : node s.tree d ≡ Some (Dir form m))
    (is_there : node s.tree n ≢ None) (leaf : is_dir (node s.tree n) ≡ false)
    (absent : find byte_cmp nm m ≡ None) (good : IsGoodName (name_len form) nm) (few : length m < 1024) (room : names s.tree n < 1000)
    (fits : need (with_node s.tree d (Dir form (put byte_cmp nm n m))) ≤ 47 * N) where
  abbrev t : Tree
  t = s.tree

  abbrev grown : Node
  grown = Dir form (put byte_cmp nm n m)

  abbrev t' : Tree
  t' = with_node t d grown

  limits_dir : IsWithinLimits (Dir form m)
  limits_dir = but.limits d (Dir form m) is

  dir_now : node t' d ≡ Some grown
  dir_now = gains.at_dir t d n form m nm but.in_order is limits_dir.0 absent

  kept : (q : ℕ) → q ≢ d → node t' q ≡ node t q
  kept = gains.at_other t d n form m nm but.in_order is limits_dir.0 absent

  each_kept : (P : Node → Type 0) → ((q : ℕ) (x : Node) → node t q ≡ Some x → P x) → P grown → (q : ℕ) (x : Node) → node t' q ≡ Some x → P x
  each_kept P was dir q x h = same_or_not q d
      (λ e. subst P (Some-injective (sym dir_now ∙ subst (λ y. node t' y ≡ Some x) e h)) dir)
      (λ b. was q x (sym (kept q b) ∙ h))

  dirs : (q : ℕ) → is_dir (node t' q) ≡ is_dir (node t q)
  dirs = gains.dirs t d n form m nm but.in_order is limits_dir.0 absent

  same_names : (q : ℕ) → q ≢ n → names t' q ≡ names t q
  same_names = gains.names_kept t d n form m nm but.in_order is limits_dir.0 absent

  one_more : names t' n ≡ names t n + 1
  one_more = gains.names_more t d n form m nm but.in_order is limits_dir.0 absent

  not_n : (q : ℕ) → is_dir (node t q) ≡ true → q ≢ n
  not_n q dir e = let no : is_dir (node t q) ≡ false = subst (λ x. is_dir (node t x) ≡ false) (sym e) leaf in cc

  there : (q : ℕ) → node t' q ≢ None → node t q ≢ None
  there q some none = same_or_not q d
      (λ e. let at : node t d ≡ None = subst (λ x. node t x ≡ None) e none in let b = is in cc)
      (λ b. some (kept q b ∙ none))

  here : (q : ℕ) → node t q ≢ None → node t' q ≢ None
  here q some none = same_or_not q d
      (λ e. let at : node t' d ≡ None = subst (λ x. node t' x ≡ None) e none in let b = dir_now in cc)
      (λ b. some (sym (kept q b) ∙ none))

  file_kept : (q : ℕ) → IsFile (node t q) → IsFile (node t' q)
  file_kept q f = same_or_not q d
      (λ e. absurd (let dir : node t q ≡ Some (Dir form m) = subst (λ x. node t x ≡ Some (Dir form m)) (sym e) is in let file = f.1 in cc))
      (λ b. (f.0, kept q b ∙ f.1))

  links_same : (q : ℕ) → q ≢ n → links t' q ≡ links t q
  links_same q ne = same_or_not q d
      (λ e. subst (λ x. links t' x ≡ links t x) (sym e) (
      gains.links_dir t d n form m nm but.in_order is limits_dir.0 absent ∙ ap (λ (b : Bool). links t d + (if b then 1 else 0)) leaf
      ∙ add-zero _))
      (λ b. gains.links_other t d n form m nm but.in_order is limits_dir.0 absent q b (inl ne))

  links_few : (q : ℕ) → node t' q ≢ None → links t' q ≤ 1000
  links_few q some = same_or_not q n
      (λ e. subst (λ x. links t' x ≤ 1000) (sym e)
      (let are = leaf_names_are t' n (node t' n) (dirs n ∙ leaf) in let more = one_more in omega arith))
      (λ a. let same = links_same q a in let old = but.few_links q (there q some) in omega arith)

  grown_limits : IsWithinLimits grown
  grown_limits =
      let len = length-put byte_cmp nat_list_cmp_total nm n m limits_dir.0 in
      let now : length (put byte_cmp nm n m) ≡ length m + 1 = len ∙ ap (λ o. cond (is_some o) (length m) (length m + 1)) absent in (
        is_sorted-put byte_cmp nat_list_cmp_total nm n m limits_dir.0,
        omega arith,
        all_put byte_cmp (IsGoodName (name_len form)) nm n m good limits_dir.2,
      )

  pub named_sound : Sound N (with_tree s t')
  named_sound = record {
    in_order = is_sorted-put nat_cmp nat_cmp_total d grown t but.in_order;
    handles_in_order = but.handles_in_order;
    version = but.version;
    forms = each_kept (IsOfVersion s.version) but.forms (but.forms d (Dir form m) is);
    root = dirs 1 ∙ but.root;
    numbers = λ q some. but.numbers q (there q some);
    limits = each_kept IsWithinLimits but.limits grown_limits;
    few_links = links_few;
    named = λ q x k e. elim (gains.entry_after t d n form m nm but.in_order is limits_dir.0 absent q x k e) as (λ _. node t' k ≢ None) [
      | inl at ↦ subst (λ y. node t' y ≢ None) (sym at) (here n is_there)
      | inr old ↦ here k (but.named q x k old)
    ];
    root_unnamed = same_names 1 (not_n 1 but.root) ∙ but.root_unnamed;
    one_name = λ q ne dir. (let was = sym (dirs q) ∙ dir in same_names q (not_n q was) ∙ but.one_name q ne was);
    reached = λ q dir. gains.reached_kept t d n form m nm but.in_order is limits_dir.0 absent (but.reached q (sym (dirs q) ∙ dir));
    held = λ q ne some none. same_or_not q n
        (λ e. absurd (let more = one_more in let zero_is : names t' n ≡ 0 = subst (λ x. names t' x ≡ 0) e none in omega arith))
        (λ a. let was = but.held q a ne (there q some) (sym (same_names q a) ∙ none) in
        record { file = file_kept q was.file; handle = was.handle });
    handles = λ h q e. ((but.handles h q e).0, file_kept q (but.handles h q e).1);
    room = fits;
  }
