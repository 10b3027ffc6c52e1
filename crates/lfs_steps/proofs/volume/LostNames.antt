-- An object that loses a name has a link less, or goes: in the log map, and in the tree.
use Rattle.lfs_steps.proofs.Prelude.{◌≡◌, ◌≢◌, ◌⊎◌, ◌≤◌, ◌∙◌, ◌+◌, ◌-◌, ◌&&◌, not, ℕ, Bool, true, false, Option, Some, None, refl, sym, ap}
use Rattle.lfs_steps.proofs.Prelude.{inl, inr, ⊎_elim, arith, ◌==◌, if◌then◌else◌, Dir, File, Link, Node, State, Tree, is_dir, links}
use Rattle.lfs_steps.proofs.Prelude.{links_at, names, node, opened, without, IsChangedAt, one_if, IsWithHeader, IsWithinLimits}
use Rattle.lfs_steps.proofs.Prelude.{IsWithoutFile, Kind, LogMap, let_go, nat_cmp, nat_tests, node_by, tree_in, object_length}
use Rattle.lfs_steps.proofs.Prelude.{with_header_at, without_file_at}
use Rattle.lfs_model.specs.declared.Kind.TheVariants as kind
use Rattle.lfs_model.specs.Entry as entry
use Rattle.lfs_steps.proofs.volume.Nodes.{IsMapOf, IsShaped, node_by_header}
use Rattle.lfs_steps.proofs.volume.KeptMaps.{Shifts, gone_kept, gone_tree, none_at, relinked_kept, relinked_shifts, relinked_tree}
use Rattle.lfs_steps.proofs.volume.KeptMaps.{shifts_gone}
use Rattle.lfs_steps.proofs.volume.MovedNames.{nothing_at, only_at}
use Rattle.lfs_model.proofs.Dropping.{opened_file}

-- Object old, of this header, has a link less in the log map, and keeps another or a handle.
pub record KeepsLink (s : State) (m m1 : LogMap) (old : ℕ) (h : entry.Header) : Type 0 where
  pub links : ℕ
  pub is : links ≡ h.links - 1
  pub stays : (links ≢ 0) ⊎ (opened s.handles old ≢ 0)
  pub plain : h.kind ≢ kind.Directory
  pub made : IsWithHeader m old (Some (record h { links = links })) m1

-- It is gone: a directory, or what had one link, with no handle.
pub record LosesAll (s : State) (m m1 : LogMap) (old : ℕ) (h : entry.Header) : Type 0 where
  pub last : (h.kind ≡ kind.Directory) ⊎ ((h.links ≤ 1) × (opened s.handles old ≡ 0))
  pub gone : IsWithoutFile m old m1

abbrev pub LosesName : State → LogMap → LogMap → ℕ → entry.Header → Type 0
LosesName s m m1 old h = KeepsLink s m m1 old h ⊎ LosesAll s m m1 old h

-- ---- small facts

not_both : (a b : ℕ) → (a ≢ 0) ⊎ (b ≢ 0) → (a == 0 && b == 0) ≡ false
not_both a b some = grind (arith, nat_tests)

both_none : {a b : ℕ} → a ≡ 0 → b ≡ 0 → (a == 0 && b == 0) ≡ true
both_none e f = grind (arith, nat_tests)

leaf_links : (t : Tree) (n : ℕ) → is_dir (node t n) ≡ false → links t n ≡ names t n
leaf_links t n = by (node t n)
  where
    by : (o : Option Node) → is_dir o ≡ false → links_at t n o ≡ names t n
    by None off = refl
    by (Some (File b)) off = refl
    by (Some (Link text)) off = refl
    by (Some (Dir f ms)) off = cc

plain_by : (m : LogMap) (n : ℕ) (h : entry.Header) (k : Kind) → k ≢ kind.Directory
    → is_dir (Some (node_by m k n h)) ≡ false
plain_by m n h kind.File ne = refl
plain_by m n h kind.Directory ne = absurd (ne refl)
plain_by m n h kind.Link ne = refl

small_by : (m : LogMap) (n : ℕ) (h : entry.Header) (k : Kind) → k ≢ kind.Directory
    → IsWithinLimits (node_by m k n h) → h.size ≤ 8511488
small_by m n h kind.File ne limits = let long = object_length m n h in let most = limits.0 in
    omega (arith, long, most)
small_by m n h kind.Directory ne limits = absurd (ne refl)
small_by m n h kind.Link ne limits = let long = object_length m n h in let most = limits.1 in
    omega (arith, long, most)

-- ---- the log map and the tree

-- A change of names in the tree leaves object old with one less, and comes to the same before and
-- after the object is gone.
pub record LosesOne (N : ℕ) (m : LogMap) (s : State) (change : Tree → Tree) (old : ℕ)
    (h : entry.Header) : Type 0 where
  pub map : IsMapOf N m s
  pub shaped : IsShaped m
  pub there : m.header old ≡ Some h
  pub named : node s.tree old ≢ None
  pub not_root : old ≢ 1
  pub less : names (change s.tree) old + 1 ≡ names s.tree old
  pub goes_first : change (without nat_cmp old s.tree) ≡ without nat_cmp old (change s.tree)
  pub links_gone : names (change s.tree) old ≡ 0 → (k : ℕ) → k ≢ old
      → links (without nat_cmp old (change s.tree)) k ≡ links (change s.tree) k

module _ {N : ℕ} {m : LogMap} {s : State} {change : Tree → Tree} {old : ℕ} {h : entry.Header}
    (lose : LosesOne N m s change old h) where
  open lose use {map as is, shaped, there, named, not_root, less}

  abbrev after : Tree
  after = change s.tree

  -- the links that go with the name: those of a directory count for the one that it stands in
  abbrev pub own_links : ℕ
  own_links = one_if (not (is_dir (node s.tree old)))

  node_is : node s.tree old ≡ Some (node_by m h.kind old h)
  node_is = node_by_header is.log old (is.log.sound.numbers old named) there

  pub names_plain : is_dir (node s.tree old) ≡ false → names s.tree old ≡ h.links
  names_plain off = sym (leaf_links s.tree old off)
      ∙ sym (is.log.links old h there ∙ ap (λ (t : Tree). links t old) (sym is.log.is))

  let_go_by : {v : Bool} → (names after old == 0 && opened s.handles old == 0) ≡ v
      → let_go after s.handles old ≡ (if v then without nat_cmp old after else after)
  let_go_by {v} = ap (λ (v : Bool). if v then without nat_cmp old after else after)

  -- What becomes of the log map as it loses the name, and of the tree with it.
  pub record IsLoss (m1 : LogMap) : Type 0 where
    pub shape : IsShaped m1
    pub changed : IsChangedAt m old m1
    pub shifts : Shifts m m1 (only_at old own_links) none_at
    pub tree : change (tree_in m1) ≡ let_go after s.handles old
    pub links_of : (k : ℕ) (f : entry.Header) → m1.header k ≡ Some f
        → links after k ≡ links (let_go after s.handles old) k

  -- ---- it stays, with a link less
  module _ (m1 : LogMap) (keeps : KeepsLink s m m1 old h) where
    plain : is_dir (node s.tree old) ≡ false
    plain = ap is_dir node_is ∙ plain_by m old h h.kind keeps.plain

    small : h.size ≤ 8511488
    small = small_by m old h h.kind keeps.plain
        (is.log.sound.limits old (node_by m h.kind old h) node_is)

    one : own_links ≡ 1
    one = ap (λ (b : Bool). one_if (not b)) plain

    fewer : keeps.links + own_links ≡ h.links + 0
    fewer =
        let own = one in
        let links = keeps.is in
        let names_were = names_plain plain in
        omega (arith, own, links, names_were, less)

    stay_after : let_go after s.handles old ≡ after
    stay_after = let_go_by (not_both (names after old) (opened s.handles old) (⊎_elim
        (λ (some : keeps.links ≢ 0). inl (λ none. some (
        let links = keeps.is in
        let names_were = names_plain plain in
        omega (arith, links, names_were, less, none))))
        (λ (some : opened s.handles old ≢ 0). inr some)
        keeps.stays))

    stays : IsLoss m1
    stays = record {
      shape = relinked_kept m m1 old h keeps.links shaped there small keeps.made;
      changed = with_header_at m m1 old keeps.made;
      shifts = λ k f at. (
          let shift = relinked_shifts m m1 old h keeps.links shaped there small keeps.made own_links
          0 fewer k f at in
          let fewer_here = shift.2 in
          let none = nothing_at old k in
          (shift.0, shift.1, omega (arith, fewer_here, none)));
      tree = ap change (relinked_tree m m1 old h keeps.links shaped there small keeps.made
          ∙ sym is.log.is) ∙ sym stay_after;
      links_of = λ k f at. ap (λ (t : Tree). links t k) (sym stay_after);
    }

  -- ---- or goes
  module _ (m1 : LogMap) (loses : LosesAll s m m1 old h) where
    shut_and_nameless : (names after old ≡ 0) × (opened s.handles old ≡ 0)
    shut_and_nameless = ⊎_elim
        (λ (is_kind : h.kind ≡ kind.Directory).
        let dir : is_dir (node s.tree old) ≡ true = ap is_dir node_is
        ∙ ap (λ (k : Kind). is_dir (Some (node_by m k old h))) is_kind in
        let single = is.log.sound.one_name old not_root dir in (
          omega (arith, single, less),
          ⊎_elim (λ shut. shut)
              (λ file. absurd (let off : is_dir (node s.tree old) ≡ false = ap is_dir file.1 in cc))
              (opened_file s old is.log.sound.handles_in_order is.log.sound.handles),
        ))
        (λ (last : (h.links ≤ 1) × (opened s.handles old ≡ 0)).
        (last_name last.0 (is_dir (node s.tree old)) refl, last.1))
        loses.last
      where
        last_name : h.links ≤ 1 → (v : Bool) → is_dir (node s.tree old) ≡ v → names after old ≡ 0
        last_name few false off = let were = names_plain off in omega (arith, were, less, few)
        last_name few true dir =
            let single = is.log.sound.one_name old not_root dir in omega (arith, single, less)

    gone_after : let_go after s.handles old ≡ without nat_cmp old after
    gone_after = let_go_by (both_none shut_and_nameless.0 shut_and_nameless.1)

    goes : IsLoss m1
    goes = record {
      shape = gone_kept m shaped loses.gone not_root;
      changed = without_file_at m m1 old loses.gone;
      shifts = shifts_gone m1 old own_links loses.gone;
      tree = ap change (gone_tree m shaped loses.gone not_root
          ∙ ap (without nat_cmp old) (sym is.log.is)) ∙ lose.goes_first ∙ sym gone_after;
      links_of = λ k f at.
          sym (lose.links_gone shut_and_nameless.0 k
          (λ e. let both : None ≡ Some f = sym loses.gone.header ∙ ap m1.header (sym e) ∙ at in
          absurd (cc)))
          ∙ ap (λ (t : Tree). links t k) (sym gone_after);
    }

  -- in either case
  pub lost : {m1 : LogMap} → LosesName s m m1 old h → IsLoss m1
  lost {m1} loses = ⊎_elim (λ (keeps : KeepsLink s m m1 old h). stays m1 keeps)
      (λ (all : LosesAll s m m1 old h). goes m1 all) loses
