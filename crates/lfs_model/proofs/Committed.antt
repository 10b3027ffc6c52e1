-- What a commit leaves of a running volume's log map, and of its tree.
use Rattle.std.proofs.Common.{◌≡◌, ◌≢◌, refl, sym, ◌∙◌, ap, subst, arith, ℕ, ◌*◌, ◌/◌, ◌%◌, ◌<◌, ◌≤◌, Bool, true, false, ◌||◌, List, []}
use Rattle.std.proofs.Common.{length, map, take, drop, Option, Some, None, cond, inl, inr, ⊎_elim, eqb, slice_index, nat_lt}
use Rattle.std.specs.Prelude.{T, ◌==◌, not, filter}
use Rattle.std.specs.List.{AllByRecursion, range_with_len}
use Rattle.std.proofs.Math.Path.{fun_ext}
use Rattle.std.proofs.lemmas.Bool.{cases_lt}
use Rattle.std.proofs.lemmas.Bool.Decides.{nat_tests, eqb_tells}
use Rattle.std.specs.Ordering.{nat_cmp}
use Rattle.std.proofs.lemmas.Cmp.{nat_cmp_total}
use Rattle.std.specs.FinMap.{is_sorted, nat_cmp-IsAntisymmetric}
use Rattle.std.specs.FinMap.Entries.{is_sorted-where_key, find-where_key, same_entries}
use Rattle.std.specs.Cmp.{ranked}
use Rattle.std.specs.declared.cmp.Ordering.TheVariants.{Equal}
use Rattle.lfs_model.specs.declared.Kind.{Kind}
use Rattle.lfs_model.specs.declared.Kind.TheVariants as kind
use Rattle.lfs_model.specs.Encodes.{HasData, IsLogMap}
use Rattle.lfs_model.specs.Entry.{Header}
use Rattle.lfs_model.specs.Need.{need}
use Rattle.lfs_model.specs.Slot.{slot_in}
use Rattle.lfs_model.specs.Sound.{Sound, NamesGive, IsReachable}
use Rattle.lfs_model.specs.Stands.{LogMap}
use Rattle.lfs_model.specs.Tree.{Node, File, Dir, Link, Tree, State, Handles, node, is_dir, links, links_at, names, slot_len, drop_nameless}
use Rattle.lfs_model.specs.TreeOf.{AreFormed, IsTree, TreeOf, dropped, kept, map_of, node_by, node_of, object, slots, tree_in}
use Rattle.lfs_model.specs.Volume.{MountedLog, DroppedTree, DroppedLog, DroppedStands, NothingDropped, DroppedAgain}
use Rattle.lfs_model.proofs.Forgetting as forgets
use Rattle.lfs_model.proofs.Standing.{in_order, standing_is_sound}
use Rattle.lfs_model.proofs.Volume.{node_in, no_node_0, no_node_past, same_state}

-- ---- an object of two log maps

same_object : (a b : LogMap) (n : ℕ) (h : Header) → ((i : ℕ) → a.block n i ≡ b.block n i) → object a n h ≡ object b n h
unfolding object
same_object a b n h same = ap (λ (f : ℕ → List ℕ). map (λ o. slice_index (f (o / 512)) (o % 512)) (range_with_len 0 h.size)) (fun_ext same)

same_slots : (a b : LogMap) (n : ℕ) (h : Header) → ((i : ℕ) → a.block n i ≡ b.block n i) → slots a n h ≡ slots b n h
unfolding slots
same_slots a b n h same = ap (λ (bytes : List ℕ). map (λ j. take (slot_len h.form) (drop (slot_len h.form * j) bytes))
    (range_with_len 0 (h.size / slot_len h.form))) (same_object a b n h same)

pub same_node : (a b : LogMap) (kd : Kind) (n : ℕ) (h : Header) → ((i : ℕ) → a.block n i ≡ b.block n i)
    → node_by a kd n h ≡ node_by b kd n h
same_node a b kind.File n h same = ap File (same_object a b n h same)
same_node a b kind.Directory n h same = ap (λ (l : List (List ℕ)). Dir h.form (map_of h.form l)) (same_slots a b n h same)
same_node a b kind.Link n h same = ap Link (same_object a b n h same)

-- ---- what is dropped of a log map

abbrev has_links : Option Header → Bool
has_links None = false
has_links (Some h) = nat_lt 0 h.links

module _ (m : LogMap) where
  -- what stays is as it was
  block_kept : (n i : ℕ) (h : Header) → m.header n ≡ Some h → nat_lt 0 h.links ≡ true → (dropped m).block n i ≡ m.block n i
  block_kept n i h is some = ap (λ (o : Option Header). kept o (m.block n i) []) is ∙ ap (λ (b : Bool). cond b (m.block n i) []) some

  header_kept : (n : ℕ) (h : Header) → m.header n ≡ Some h → nat_lt 0 h.links ≡ true → (dropped m).header n ≡ Some h
  header_kept n h is some = ap (λ (o : Option Header). kept o o None) is ∙ ap (λ (b : Bool). cond b (Some h) None) some

  -- and nothing else does
  header_was : (n : ℕ) (h : Header) → (dropped m).header n ≡ Some h → (m.header n ≡ Some h) × (nat_lt 0 h.links ≡ true)
  header_was n h is = by (m.header n) refl is
    where
      by : (o : Option Header) → m.header n ≡ o → kept o o None ≡ Some h → (m.header n ≡ Some h) × (nat_lt 0 h.links ≡ true)
      by None was e = absurd (cc)
      by (Some g) was e = elim (nat_lt 0 g.links)
          as (λ b. nat_lt 0 g.links ≡ b → cond b (Some g) None ≡ Some h → (m.header n ≡ Some h) × (nat_lt 0 h.links ≡ true)) [
            | true ↦ λ some e. (let same : g ≡ h = cc in (was ∙ ap Some same, ap (λ (x : Header). nat_lt 0 x.links) (sym same) ∙ some))
            | false ↦ λ none e. absurd (cc)
          ] refl e

  data_was : (n i : ℕ) → HasData (dropped m) n i → (h : Header) × (m.header n ≡ Some h) × (nat_lt 0 h.links ≡ true)
  data_was n i has = by (m.header n) refl has
    where
      by : (o : Option Header) → m.header n ≡ o → 0 < length (kept o (m.block n i) [])
          → (h : Header) × (m.header n ≡ Some h) × (nat_lt 0 h.links ≡ true)
      by None was some = absurd (omega arith)
      by (Some g) was some = elim (nat_lt 0 g.links) as (λ b. nat_lt 0 g.links ≡ b → 0 < length (cond b (m.block n i) [])
          → (h : Header) × (m.header n ≡ Some h) × (nat_lt 0 h.links ≡ true)) [
            | true ↦ λ yes_links some. (g, was, yes_links)
            | false ↦ λ none some. absurd (omega arith)
          ] refl some

  node_kept : (n : ℕ) → node_of (dropped m) n ((dropped m).header n) ≡ cond (has_links (m.header n)) (node_of m n (m.header n)) None
  node_kept n = by (m.header n) refl
    where
      by : (o : Option Header) → m.header n ≡ o → node_of (dropped m) n (kept o o None) ≡ cond (has_links o) (node_of m n o) None
      by None is = refl
      by (Some h) is = elim (nat_lt 0 h.links)
          as (λ b. nat_lt 0 h.links ≡ b → node_of (dropped m) n (cond b (Some h) None) ≡ cond b (node_of m n (Some h)) None) [
            | true ↦ λ some. ap Some (same_node (dropped m) m h.kind n h (λ i. block_kept n i h is some))
            | false ↦ λ none. refl
          ] refl

  pub dropped_is_log : (h : Header) → m.header 1 ≡ Some h → nat_lt 0 h.links ≡ true → IsLogMap m → IsLogMap (dropped m)
  dropped_is_log h at some was = record {
    none = λ g is. was.none g (header_was 0 g is).0;
    root = (let root = was.root in let same : root.0 ≡ h = (let e : Some root.0 ≡ Some h = sym root.1 ∙ at in cc) in
        (h, header_kept 1 h at some, subst (λ (x : Header). x.kind ≡ kind.Directory) same root.2));
    forms = λ n g is. was.forms n g (header_was n g is).0;
    within = λ n i has. (
        let old = data_was n i has in
        let there = was.within n i (subst (λ (b : List ℕ). 0 < length b) (block_kept n i old.0 old.1 old.2) has) in
        let same : there.0 ≡ old.0 = (let e : Some there.0 ≡ Some old.0 = sym there.1 ∙ old.1 in cc) in
        (old.0, header_kept n old.0 old.1 old.2, subst (λ (x : Header). 512 * i < x.size) same there.2));
    small = λ n i has.
        (let old = data_was n i has in was.small n i (subst (λ (b : List ℕ). 0 < length b) (block_kept n i old.0 old.1 old.2) has));
    nonzero = λ n i has. (
        let old = data_was n i has in
        let same = block_kept n i old.0 old.1 old.2 in
        subst (λ (b : List ℕ). (o : ℕ) × (0 < slice_index b o)) (sym same)
        (was.nonzero n i (subst (λ (b : List ℕ). 0 < length b) same has)));
    past = λ n i o g is less. (let old = header_was n g is in
        subst (λ (b : List ℕ). slice_index b o ≡ 0) (sym (block_kept n i g old.0 old.1)) (was.past n i o g old.0 less));
  }

-- ---- and of its tree

module _ (N : ℕ) (m : LogMap) (handles : Handles) (version : ℕ) where
  abbrev state : State
  state = record { tree = tree_in m; handles = handles; version = version }

  module _ (sound : Sound N state) (formed : AreFormed m)
      (are_links : (n : ℕ) (h : Header) → m.header n ≡ Some h → h.links ≡ links (tree_in m) n) where
    abbrev t : Tree
    t = tree_in m

    abbrev stays : ℕ → Bool
    stays n = n == 1 || not (names t n == 0)

    abbrev t' : Tree
    t' = filter (λ e. stays e.0) t

    or_true : (a b : Bool) → b ≡ true → (a || b) ≡ true
    or_true true b e = refl
    or_true false b e = e

    -- a directory stays, and has links
    dir_stays : (q : ℕ) → is_dir (node t q) ≡ true → stays q ≡ true
    dir_stays q dir = elim (q == 1) as (λ b. (q == 1) ≡ b → (b || not (names t q == 0)) ≡ true) [
      | true ↦ λ e. refl
      | false ↦ λ e. (let ne : q ≢ 1 = grind (arith, nat_tests) in let one = sound.one_name q ne dir in
          let some : (names t q == 0) ≡ false = grind (arith, nat_tests) in ap not some)
    ] refl

    -- what isn't a directory stays where it has a name
    leaf_stays : (q : ℕ) → is_dir (node t q) ≡ false → stays q ≡ nat_lt 0 (names t q)
    leaf_stays q plain =
        let ne : q ≢ 1 =
        λ e. (let root = sound.root in let no_dir : is_dir (node t 1) ≡ false = subst (λ x. is_dir (node t x) ≡ false) e plain in cc) in
        let other : eqb q 1 ≡ false = grind (arith, nat_tests) in
        rw other (grind (arith, nat_tests))

    links_are : (x : Node) (q : ℕ) → node t q ≡ Some x → nat_lt 0 (links t q) ≡ stays q
    links_are (File b) q at = ap (λ o. nat_lt 0 (links_at t q o)) at ∙ sym (leaf_stays q (ap is_dir at))
    links_are (Link b) q at = ap (λ o. nat_lt 0 (links_at t q o)) at ∙ sym (leaf_stays q (ap is_dir at))
    links_are (Dir form ms) q at =
        let two : links t q ≡ links_at t q (Some (Dir form ms)) = ap (links_at t q) at in
        let some : nat_lt 0 (links t q) ≡ true = grind (arith, nat_tests) in
        some ∙ sym (dir_stays q (ap is_dir at))

    in_range : (q : ℕ) → 1 ≤ q → q ≤ 4095 → node (tree_in (dropped m)) q ≡ cond (stays q) (node t q) None
    in_range q low high = node_in (dropped m) q low high ∙ node_kept m q ∙ by (m.header q) refl
      where
        by : (o : Option Header) → m.header q ≡ o → cond (has_links o) (node_of m q o) None ≡ cond (stays q) (node t q) None
        by None is = let none : node t q ≡ None = node_in m q low high ∙ ap (node_of m q) is in by_none (stays q) none
          where
            by_none : (b : Bool) → node t q ≡ None → None ≡ cond b (node t q) None
            by_none true none = sym none
            by_none false none = refl
        by (Some h) is =
            let at : node t q ≡ Some (node_by m h.kind q h) = node_in m q low high ∙ ap (node_of m q) is in
            let same : nat_lt 0 h.links ≡ stays q = ap (nat_lt 0) (are_links q h is) ∙ links_are (node_by m h.kind q h) q at in
            ap (λ b. cond b (Some (node_by m h.kind q h)) None) same ∙ ap (λ o. cond (stays q) o None) (sym at)

    -- outside of the numbers there is nothing
    outside : (q : ℕ) → node (tree_in (dropped m)) q ≡ None → node t q ≡ None
        → node (tree_in (dropped m)) q ≡ cond (stays q) (node t q) None
    outside q one two = one ∙ by (stays q)
      where
        by : (b : Bool) → None ≡ cond b (node t q) None
        by true = sym two
        by false = refl

    node_dropped : (q : ℕ) → node (tree_in (dropped m)) q ≡ cond (stays q) (node t q) None
    node_dropped q = ⊎_elim
        (λ (none : q < 1). let zero_is : q ≡ 0 = omega arith in
        subst (λ (x : ℕ). node (tree_in (dropped m)) x ≡ cond (stays x) (node t x) None) (sym zero_is)
        (outside 0 (no_node_0 (dropped m)) (no_node_0 m)))
        (λ (some : 1 ≤ q). ⊎_elim
        (λ (past : 4095 < q). outside q (no_node_past (dropped m) q (omega arith)) (no_node_past m q (omega arith)))
        (λ (low : q ≤ 4095). in_range q some low)
        (cases_lt 4095 q))
        (cases_lt q 1)

    same_tree : tree_in (dropped m) ≡ t'
    same_tree = same_entries nat_cmp nat_cmp_total nat_cmp-IsAntisymmetric (tree_in (dropped m)) t' (in_order (dropped m))
        (is_sorted-where_key nat_cmp stays t (in_order m))
        (λ q. node_dropped q ∙ sym (forgets.now N state sound q))

    after : Sound N (drop_nameless state)
    after = forgets.dropped_sound N state sound

    -- what is left has a name
    named : (n : ℕ) → n ≢ 1 → node t' n ≢ None → 0 < names t' n
    named n ne there = elim (eqb_tells (names t' n) 0) as (λ _. 0 < names t' n) [
      | inl none ↦ absurd (let held = (after.held n ne there none.1).handle in omega arith)
      | inr some ↦ (let ne = some.1 in omega arith)
    ]

    -- what has links stays
    kept_links : (n : ℕ) (h : Header) → m.header n ≡ Some h → nat_lt 0 h.links ≡ true → stays n ≡ true
    kept_links n h is some = by (node t n) refl
      where
        same : nat_lt 0 (links t n) ≡ true
        same = ap (nat_lt 0) (sym (are_links n h is)) ∙ some

        by : (o : Option Node) → node t n ≡ o → stays n ≡ true
        by None at = leaf_stays n (ap is_dir at) ∙ ap (λ o. nat_lt 0 (links_at t n o)) (sym at) ∙ same
        by (Some x) at = sym (links_are x n at) ∙ same

    is_tree : IsTree N (dropped m)
    is_tree = record {
      slots = record {
        formed = λ n h is dir. (
            let old = header_was m n h is in
            subst (λ (l : List (List ℕ)). AllByRecursion (λ b. slot_in h.form b ≢ None) l × (length (map_of h.form l) ≡ length l))
            (sym (same_slots (dropped m) m n h (λ i. block_kept m n i h old.0 old.1))) (formed n h old.0 dir));
        there = subst NamesGive (sym same_tree) after.named;
      };
      texts = λ n text is. (after.limits n (Link text) (subst (λ (u : Tree). node u n ≡ Some (Link text)) same_tree is)).2;
      reached = record {
        some = λ n ne there.
            subst (λ (u : Tree). 0 < names u n) (sym same_tree) (named n ne (subst (λ (u : Tree). node u n ≢ None) same_tree there));
        root = subst (λ (u : Tree). names u 1 ≡ 0) (sym same_tree) after.root_unnamed;
        one = subst (λ (u : Tree). (n : ℕ) → n ≢ 1 → is_dir (node u n) ≡ true → names u n ≡ 1) (sym same_tree) after.one_name;
        down = subst (λ (u : Tree). (n : ℕ) → is_dir (node u n) ≡ true → IsReachable u n) (sym same_tree) after.reached;
      };
      links = λ n h is. (
          let old = header_was m n h is in
          let stay : stays n ≡ true = kept_links n h old.0 old.1 in
          are_links n h old.0 ∙ sym (forgets.same_links N state sound n stay) ∙ ap (λ (u : Tree). links u n) (sym same_tree));
      room = subst (λ (u : Tree). need u ≤ 47 * N) (sym same_tree) after.room;
    }

    pub tree_of : TreeOf N (dropped m) (drop_nameless state).tree
    tree_of = record { is = sym same_tree; tree = is_tree }

-- ---- the laws

with_log_tree : (m : LogMap) (s : State) → s.tree ≡ tree_in m → s ≡ record { tree = tree_in m; handles = s.handles; version = s.version }
with_log_tree m s is = same_state s (record { tree = tree_in m; handles = s.handles; version = s.version }) is refl refl

pub dropped_tree : DroppedTree
dropped_tree N m s log =
    let same = with_log_tree m s log.is in
    subst (λ (z : State). TreeOf N (dropped m) (drop_nameless z).tree) (sym same)
    (tree_of N m s.handles s.version (subst (Sound N) same log.sound) log.formed log.links)

pub dropped_log : DroppedLog
dropped_log N m s log was =
    let root = was.root in
    let dir : is_dir (node (tree_in m) 1) ≡ true = subst (λ (u : Tree). is_dir (node u 1) ≡ true) log.is log.sound.root in
    dropped_is_log m root.0 root.1 (ap (nat_lt 0) (log.links 1 root.0 root.1) ∙ dir_links (tree_in m) 1 (node (tree_in m) 1) dir) was
  where
    dir_links : (u : Tree) (n : ℕ) (o : Option Node) → is_dir o ≡ true → nat_lt 0 (links_at u n o) ≡ true
    dir_links u n None dir = absurd (cc)
    dir_links u n (Some (File b)) dir = absurd (cc)
    dir_links u n (Some (Link b)) dir = absurd (cc)
    dir_links u n (Some (Dir form ms)) dir = grind (arith, nat_tests)

pub dropped_stands : DroppedStands
dropped_stands c k m s found stands log = record {
  checkpoint = k;
  log = dropped m;
  found = found;
  stands = stands;
  tree = dropped_tree k.segments m s log;
  version = log.version ∙ stands.holds.version;
  closed = refl;
}

pub dropped_again : DroppedAgain
dropped_again N m s log =
    let of = dropped_tree N m s log in
    record {
      sound = forgets.dropped_sound N s log.sound;
      is = of.is;
      version = log.version;
      formed = of.tree.slots.formed;
      links = of.tree.links;
    }

pub mounted_log : MountedLog
mounted_log c all s is = record {
  sound = standing_is_sound c all s is;
  is = is.tree.is;
  version = is.version ∙ sym is.stands.holds.version;
  formed = is.tree.tree.slots.formed;
  links = is.tree.tree.links;
}

neither : (b : Bool) → ◌≡◌ {A = Option Node} (cond b None None) None
neither true = refl
neither false = refl

-- each node of a map that passes a test is left
all_left : (p : ℕ → Bool) (t : Tree) → T (is_sorted nat_cmp t) → ((q : ℕ) → node t q ≢ None → p q ≡ true) → filter (λ e. p e.0) t ≡ t
all_left p t order all =
    same_entries nat_cmp nat_cmp_total nat_cmp-IsAntisymmetric (filter (λ e. p e.0) t) t (is_sorted-where_key nat_cmp p t order) order
    (λ q. find-where_key nat_cmp p q (λ x e. ap p (sym (ranked q x Equal (sym e)))) t ∙ by q (node t q) refl)
  where
    by : (q : ℕ) (o : Option Node) → node t q ≡ o → cond (p q) o None ≡ o
    by q None at = neither (p q)
    by q (Some x) at = ap (λ b. cond b (Some x) None) (all q (λ none. cc))

has_name : (q k : ℕ) → (q ≢ 1 → 0 < k) → (q == 1 || not (k == 0)) ≡ true
has_name q k some = elim (q == 1) as (λ b. (q == 1) ≡ b → (b || not (k == 0)) ≡ true) [
  | true ↦ λ e. refl
  | false ↦ λ e. (let ne : q ≢ 1 = grind (arith, nat_tests) in let low = some ne in
      let other : (k == 0) ≡ false = grind (arith, nat_tests) in ap not other)
] refl

pub nothing_dropped : NothingDropped
nothing_dropped c s is = same_state (drop_nameless s) s (all_left (λ q. q == 1 || not (names s.tree q == 0)) s.tree
    (subst (λ (u : Tree). T (is_sorted nat_cmp u)) (sym is.tree.is) (in_order is.log)) stays) (sym is.closed) refl
  where
    named : (q : ℕ) → q ≢ 1 → node s.tree q ≢ None → 0 < names s.tree q
    named = subst (λ (u : Tree). (q : ℕ) → q ≢ 1 → node u q ≢ None → 0 < names u q) (sym is.tree.is) is.tree.tree.reached.some

    stays : (q : ℕ) → node s.tree q ≢ None → (q == 1 || not (names s.tree q == 0)) ≡ true
    stays q there = has_name q (names s.tree q) (λ ne. named q ne there)
