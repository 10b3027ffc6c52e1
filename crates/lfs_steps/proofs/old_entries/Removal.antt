-- A name that goes with one link of what it gave, from the log map to the state after the call.
use Rattle.lfs_steps.proofs.Prelude.{◌≡◌, ◌≢◌, ◌≤◌, ◌+◌, ◌∙◌, ℕ, Bool, true, false, List, [], Option, Some, None, refl, sym, ap, subst}
use Rattle.lfs_steps.proofs.Prelude.{arith, not, ◌*◌, ◌==◌, unwrap_or, T, find, is_sorted, LogMap, one_if, Sound, let_go, name, target, Dir}
use Rattle.lfs_steps.proofs.Prelude.{File, Node, State, Tree, byte_cmp, form_of, is_dir, names, names_in, names_of, node, slot_len, without}
use Rattle.lfs_steps.proofs.Prelude.{without_name, tree_in, At, Parent, parent_dir, dir_at, change_less, find_other, named_counts}
use Rattle.lfs_steps.proofs.Prelude.{as_header, relinked, CutsSlot}
use Rattle.lfs_model.specs.Entry as entry
use Rattle.lfs_steps.proofs.volume.MovedNames as trees
use Rattle.lfs_model.specs.Tree.{Names, entry as entry_in, links as links_in}
use Rattle.lfs_files.specs.declared.header.Header.{Header}
use Rattle.lfs_path.specs.dirs.Taking.{TakesName}
use Rattle.lfs_steps.proofs.volume.Nodes.{IsMapOf, IsShaped, dir_there}
use Rattle.lfs_steps.proofs.volume.Directories.{directory_kind}
use Rattle.lfs_steps.proofs.volume.KeptMaps.{HasHolder, map_by, taken_kept, taken_tree, taken_shifts}
use Rattle.lfs_steps.proofs.volume.MovedMaps.{Relinks, linked_kept, linked_holder, linked_tree, linked_shifts, made}
use Rattle.lfs_steps.proofs.volume.MovedNames.{link_of, nothing_at, once, only_at}
use Rattle.lfs_steps.proofs.volume.LostNames.{LosesName, LosesOne, IsLoss, lost, names_plain as plain_names}
use Rattle.lfs_steps.proofs.rename.Views.{two_links}

-- A path's last name gives object n in directory d, and n has no names itself.
pub record IsEntry (N : ℕ) (m : LogMap) (s : State) (p : List ℕ) (d n : ℕ) (head : Header)
    (h : entry.Header) : Type 0 where
  pub map : IsMapOf N m s
  pub shaped : IsShaped m
  pub walk : Parent s.tree p (At d)
  pub gives : entry_in s.tree d (name p) ≡ Some n
  pub holder : m.header d ≡ Some (as_header head)
  pub few : head.size ≤ 1024 * slot_len head.form
  pub there : m.header n ≡ Some h
  pub empty : names_in s.tree n ≡ []

-- what goes with the name: a link of the directory, or one of the object
link_gone : (b : Bool) (d n q : ℕ)
    → link_of b d n q ≡ only_at d (one_if b) q + only_at n (one_if (not b)) q
link_gone true d n q =
    let none = nothing_at n q in
    let one : only_at d 1 q ≡ one_if (d == q) = refl in
    omega (arith, none, one)
link_gone false d n q =
    let none = nothing_at d q in
    let one : only_at n 1 q ≡ one_if (n == q) = refl in
    omega (arith, none, one)

module _ {N : ℕ} {m : LogMap} {s : State} {p : List ℕ} {d n : ℕ} {head : Header}
    {h : entry.Header} (g : IsEntry N m s p d n head h) where
  open g use {map as is, shaped, walk, gives, holder, few, there, empty}

  abbrev nm : List ℕ
  nm = name p

  abbrev ms : Names
  ms = names_in s.tree d

  abbrev left : Tree
  left = without_name s.tree d nm

  pub dir : is_dir (node s.tree d) ≡ true
  dir = (parent_dir N s is.log.sound p d walk).0

  dir_order : T (is_sorted byte_cmp ms)
  dir_order = (is.log.sound.limits d (Dir (form_of (node s.tree d)) ms)
      (dir_at (node s.tree d) dir)).0

  move : trees.IsMove s.tree d d n nm
  move = record {
    in_order = is.log.sound.in_order;
    is_a = dir;
    order_a = dir_order;
    found = gives;
    is_b = dir;
    order_b = dir_order;
  }

  -- it isn't the directory that it stands in, which has a name
  pub apart : n ≢ d
  apart e =
      let none : ms ≡ [] = subst (λ (x : ℕ). names_in s.tree x ≡ []) e empty in
      let lacks : find byte_cmp nm ms ≡ None = ap (find byte_cmp nm) none in
      let has = gives in cc

  pub not_root : n ≢ 1
  not_root e =
      let some = named_counts s.tree d nm n gives in
      let none : names s.tree n ≡ 0 = ap (names s.tree) e ∙ is.log.sound.root_unnamed in
      absurd (omega (arith, some, none))

  links_left : (q : ℕ)
      → links_in left q + link_of (is_dir (node s.tree n)) d n q ≡ links_in s.tree q
  links_left = trees.lost_links move nm

  names_less : names left n + 1 ≡ names s.tree n
  names_less =
      let all = trees.lost_names move nm n in
      let one = once n in
      omega (arith, all, one)

  -- a directory that another stands in has three links at least
  pub links_many : is_dir (node s.tree n) ≡ true → 3 ≤ head.links
  links_many on =
      let are : head.links ≡ links_in s.tree d = is.log.links d (as_header head) holder
      ∙ ap (λ (t : Tree). links_in t d) (sym is.log.is) in
      let all : links_in left d + link_of true d n d ≡ links_in s.tree d
      = subst (λ (b : Bool). links_in left d + link_of b d n d ≡ links_in s.tree d) on
      (links_left d) in
      let one = once d in
      let two = two_links (node left d) left d (trees.lost_dirs move nm d ∙ dir) in
      omega (arith, are, all, one, two)

  pub lose : LosesOne N m s (λ (t : Tree). without_name t d nm) n h
  lose = record {
    map = is;
    shaped = shaped;
    there = there;
    named = is.log.sound.named d nm n gives;
    not_root = not_root;
    less = names_less;
    goes_first = sym (change_less s.tree is.log.sound.in_order (without byte_cmp nm) d n
        (λ e. apart (sym e)));
    links_gone = λ none. trees.links_left left n (trees.lost_order move nm) none
        (ap (λ (o : Option Node). names_of (unwrap_or o (File [])))
        (find_other s.tree d (Dir (form_of (node s.tree d)) (without byte_cmp nm ms)) n apart)
        ∙ empty);
  }

  pub names_plain : is_dir (node s.tree n) ≡ false → names s.tree n ≡ h.links
  names_plain = plain_names lose

  pub holder_is : HasHolder m d head
  holder_is = record {
    number = is.log.sound.numbers d (dir_there s.tree d dir);
    there = holder;
    kind = directory_kind N m s is d dir head holder;
    few = few;
  }

  -- ---- the object loses its name, and the directory may lose a link
  module _ {m1 m2 : LogMap} (l : ℕ) (loses : LosesName s m m1 n h) (links : Relinks m1 m2 d head l)
    where
      pub loss : IsLoss lose m1
      loss = lost lose loses

      holder_1 : HasHolder m1 d head
      holder_1 = record {
        number = holder_is.number;
        there = loss.changed.headers d (λ e. apart (sym e)) ∙ holder;
        kind = holder_is.kind;
        few = few;
      }

      pub shape_2 : IsShaped m2
      shape_2 = linked_kept m1 m2 d head l loss.shape holder_1 links

      pub holder_2 : HasHolder m2 d (relinked head l)
      holder_2 = linked_holder m1 m2 d head l loss.shape holder_1 links

      -- ---- and the name goes
      module _ {m' : LogMap} (less : l + one_if (is_dir (node s.tree n)) ≡ head.links)
          (cut : CutsSlot m2 m' d (relinked head l))
          (takes : TakesName m2 m' d (relinked head l) nm)
        where
          pub removed_shape : IsShaped m'
          removed_shape = taken_kept shape_2 holder_2 cut takes

          removed_tree : tree_in m' ≡ let_go left s.handles n
          removed_tree = taken_tree shape_2 holder_2 cut takes ∙ ap (λ (t : Tree). without_name t d nm)
              (linked_tree m1 m2 d head l loss.shape holder_1 links) ∙ loss.tree

          removed_links : (k : ℕ) (f : entry.Header) → m'.header k ≡ Some f
              → f.links ≡ links_in (let_go left s.handles n) k
          removed_links k f at =
              let third = taken_shifts shape_2 holder_2 cut takes k f at in
              let second = linked_shifts m1 m2 d head l loss.shape holder_1 links
              (one_if (is_dir (node s.tree n))) 0 (omega (arith, less)) k third.0 third.1 in
              let first = loss.shifts k second.0 second.1 in
              let a = third.2 in
              let b = second.2 in
              let c = first.2 in
              let none = nothing_at d k in
              let was : first.0.links ≡ links_in s.tree k = is.log.links k first.0 first.1
              ∙ ap (λ (t : Tree). links_in t k) (sym is.log.is) in
              let all = links_left k in
              let gone = link_gone (is_dir (node s.tree n)) d n k in
              let same : f.links ≡ links_in left k
              = omega (arith, a, b, c, none, was, all, gone) in
              same ∙ loss.links_of k second.0 second.1

          -- the log map is that of a state with the tree without both
          removed_version : m'.version ≡ m.version
          removed_version = cut.only.version ∙ (made m1 m2 d head l loss.shape holder_1 links).version ∙ loss.changed.version

          pub removed_map : {s' : State} → s'.version ≡ s.version
              → s'.tree ≡ let_go left s.handles (target s.tree d p) → Sound N s' → IsMapOf N m' s'
          removed_map {s'} same_version is' sound =
              let tree : let_go left s.handles n ≡ s'.tree
              = ap (let_go left s.handles)
              (sym (ap (λ (o : Option ℕ). unwrap_or o 0) gives)) ∙ sym is' in
              map_by removed_shape sound (same_version ∙ is.log.version ∙ sym removed_version)
              (removed_tree ∙ tree)
              (λ k f at. removed_links k f at ∙ ap (λ (t : Tree). links_in t k) tree)
