-- Another name for an object, from the headers and blocks of the log map to the state after the
-- call.
--
-- The draft goes from log map to log map, m, m1, m2, m3, m4, m5. What the second name gave loses a
-- link (`LosesName`; without one m1 is m). The two directories' links are counted anew, and the
-- first name goes (`MovedMaps.DraftsMove`). The second then gives the object (`DraftsName`, or
-- `DraftsOver` where it gave another). `free_moved` and `over_moved` say that m5 is the log map of
-- the state after the call, whether there is room for it or not.
use Rattle.lfs_steps.proofs.Prelude.{length, ◌≡◌, ◌≢◌, ◌≤◌, ◌+◌, ◌-◌, ◌&&◌, not, ℕ, Bool, true, false, List, [], Option, Some, None, refl}
use Rattle.lfs_steps.proofs.Prelude.{sym, ◌∙◌, ap, arith, ◌∷◌, ◌<◌, subst, ◌||◌, nat_lt, T, ◌==◌, if◌then◌else◌, is_some, unwrap_or}
use Rattle.lfs_steps.proofs.Prelude.{is_none, eq-eqb, nat_tests, is_sorted, AreArguments, Done, Rename, one_if, LogMap, Step, is_there}
use Rattle.lfs_steps.proofs.Prelude.{let_go, name, target, with_tree, Dir, State, Tree, byte_cmp, form_of, is_dir, links, names, names_in}
use Rattle.lfs_steps.proofs.Prelude.{node, with_name, without_name, tree_in, dir_at, named_counts, as_header, Last, Object, Source, Target}
use Rattle.lfs_steps.proofs.Prelude.{is_directory, GivesObject, fewer_links, more_links, GivesName, FitsFound}
use Rattle.lfs_model.specs.Entry as entry
use Rattle.lfs_model.specs.Tree.{Names, entry as entry_in}
use Rattle.lfs_model.proofs.KeepsNames.{rename_keeps}
use Rattle.lfs_files.specs.declared.header.Header.{Header}
use Rattle.lfs_entries.specs.Replacing.{FitsReplaced, FitsTarget}
use Rattle.lfs_steps.proofs.volume.Nodes.{IsMapOf, IsShaped}
use Rattle.lfs_steps.proofs.volume.KeptMaps.{HasHolder, map_by}
use Rattle.lfs_steps.proofs.volume.MovedMaps.{DraftsMove, DraftsName, DraftsOver, IsMoving, IsNamed, named_kept, named_new, named_over}
use Rattle.lfs_steps.proofs.volume.MovedMaps.{named_shifts}
use Rattle.lfs_steps.proofs.volume.MovedMaps.{named_tree, named_version, second_after}
use Rattle.lfs_steps.proofs.volume.MovedNames as trees
use Rattle.lfs_steps.proofs.volume.MovedNames.{nothing_at, only_at}
use Rattle.lfs_steps.proofs.paths.Named.{IsReached, dir, entry_is, few, holder, kind_is, range_d}
use Rattle.lfs_steps.proofs.rename.Views.{no_entries, two_links}
use Rattle.lfs_steps.proofs.volume.Directories.{directory_kind}
use Rattle.lfs_steps.proofs.volume.LostNames.{IsLoss, LosesName, LosesOne, lost, own_links, names_plain as plain_names}

-- ---- the state after it

module _ (s : State) (a b : List ℕ) (da db : ℕ) where
  abbrev pub moved : Tree
  moved = with_name (without_name s.tree da (name a)) db (name b) (target s.tree da a)

  abbrev pub tree_after : Tree
  tree_after = if is_there s.tree db b then let_go moved s.handles (target s.tree db b) else moved

  abbrev pub renamed : State
  renamed = with_tree s tree_after

-- ---- a rename in a state

-- Both names' directories have these headers, the names give these objects, and nothing refuses
-- the one in the place of the other.
pub record IsRename (N : ℕ) (m : LogMap) (s : State) (a b : List ℕ) (l o : Last) (source : Source)
    (dest : Target) : Type 0 where
  pub first : IsReached N m s a source.directory.value l
  pub second : IsReached N m s b dest.directory.value o
  pub shaped : IsShaped m
  pub named_a : source.name.now ≡ l.name.now
  pub named_b : dest.name.now ≡ o.name.now
  pub looks_a : GivesObject m source.directory.value l.name.now source.holder (Some source.object)
  pub looks_b : GivesObject m dest.directory.value o.name.now dest.holder dest.replaced
  pub apart : GivesName dest.replaced source.object.number.value ≡ false
  pub fits : FitsTarget source dest

-- The log map is that of the state after the call, if that comes to its end.
pub record IsMoved (N : ℕ) (m5 : LogMap) (s : State) (a b : List ℕ) (da db : ℕ) : Type 0 where
  pub shape : IsShaped m5
  pub tree : tree_in m5 ≡ tree_after s a b da db
  pub map : AreArguments (Rename a b) → Step N s (Rename a b) Done (renamed s a b da db)
      → IsMapOf N m5 (renamed s a b da db)

-- ---- small facts

target_found : (t : Tree) (d : ℕ) (p : List ℕ) (n : ℕ) → entry_in t d (name p) ≡ Some n
    → target t d p ≡ n
target_found t d p n is = ap (λ (o : Option ℕ). unwrap_or o 0) is

-- the links of both directories, where the second name was free, and where it gave an object
fewer_free : (d e : Bool) (l : ℕ) → 2 ≤ l
    → (if d && (not e || false) then l - 1 else l) + one_if (d && not e) ≡ l
fewer_free true true l two = omega arith
fewer_free true false l two = omega (arith, two)
fewer_free false e l two = omega arith

more_free : (d e : Bool) (l : ℕ)
    → (if d && (not e && true) then l + 1 else l) ≡ l + one_if (d && not e)
more_free true true l = omega arith
more_free true false l = refl
more_free false e l = omega arith

fewer_over : (d e : Bool) (l : ℕ) → 2 ≤ l
    → (if d && (not e || true) then l - 1 else l) + one_if d ≡ l
fewer_over true true l two = omega (arith, two)
fewer_over true false l two = omega (arith, two)
fewer_over false e l two = omega arith

more_over : (d e : Bool) (l : ℕ) → (if d && (not e && false) then l + 1 else l) ≡ l
more_over true true l = refl
more_over true false l = refl
more_over false e l = refl

not_one : (d : Bool) → one_if (d && false) ≡ 0
not_one true = refl
not_one false = refl

nothing_in : (ms : Names) → nat_lt 0 (length ms) ≡ false → ms ≡ []
nothing_in [] none = refl
nothing_in (e ∷ ms) none = absurd
    (let some : 0 < length (e ∷ ms) = omega arith in grind (arith, nat_tests))

-- ---- from log map to log map

module _ {N : ℕ} {m : LogMap} {s : State} {a b : List ℕ} {l o : Last} {source : Source} {dest : Target}
    (g : IsRename N m s a b l o source dest) where
  open g use {looks_a, looks_b}

  is : IsMapOf N m s
  is = g.first.map

  abbrev da : ℕ
  da = source.directory.value

  abbrev db : ℕ
  db = dest.directory.value

  abbrev n : ℕ
  n = source.object.number.value

  abbrev head_a : Header
  head_a = source.holder

  abbrev head_b : Header
  head_b = dest.holder

  abbrev la : ℕ
  la = fewer_links source dest

  abbrev lb : ℕ
  lb = more_links source dest

  abbrev dir_of : Bool
  dir_of = is_directory source.object.header.kind

  pub found : entry_in s.tree da (name a) ≡ Some n
  found = entry_is g.first looks_a.looks

  kind_n : is_dir (node s.tree n) ≡ dir_of
  kind_n = kind_is g.first head_a looks_a.looks.header l.name.now (sym looks_a.looks.gives) source.object.header looks_a.there

  order_in : (d : ℕ) → is_dir (node s.tree d) ≡ true → T (is_sorted byte_cmp (names_in s.tree d))
  order_in d dir = (is.log.sound.limits d (Dir (form_of (node s.tree d)) (names_in s.tree d))
      (dir_at (node s.tree d) dir)).0

  move : trees.IsMove s.tree da db n (name a)
  move = record {
    in_order = is.log.sound.in_order;
    is_a = dir g.first;
    order_a = order_in da (dir g.first);
    found = found;
    is_b = dir g.second;
    order_b = order_in db (dir g.second);
  }

  pub holder_a : HasHolder m da head_a
  holder_a = record {
    number = range_d g.first;
    there = looks_a.looks.header;
    kind = directory_kind N m s is da (dir g.first) head_a looks_a.looks.header;
    few = few g.first head_a looks_a.looks.header;
  }

  pub holder_b : HasHolder m db head_b
  holder_b = record {
    number = range_d g.second;
    there = looks_b.looks.header;
    kind = directory_kind N m s is db (dir g.second) head_b looks_b.looks.header;
    few = few g.second head_b looks_b.looks.header;
  }

  linked : (k : ℕ) {h : entry.Header} → m.header k ≡ Some h → h.links ≡ links s.tree k
  linked k {h} at = is.log.links k h at ∙ ap (λ (t : Tree). links t k) (sym is.log.is)

  pub linked_twice : 2 ≤ head_a.links
  linked_twice = (holder g.first).linked head_a looks_a.looks.header

  pub linked_twice_b : 2 ≤ head_b.links
  linked_twice_b = (holder g.second).linked head_b looks_b.looks.header

  abbrev after : Tree
  after = with_name (without_name s.tree da (name a)) db (name b) n

  moved_is : moved s a b da db ≡ after
  moved_is = ap (with_name (without_name s.tree da (name a)) db (name b))
      (target_found s.tree da a n found)

  -- the log map is that of the state after the call
  moved_by : {m5 : LogMap} → m5.version ≡ m.version → IsShaped m5 → tree_in m5 ≡ tree_after s a b da db
      → ((k : ℕ) (h : entry.Header) → m5.header k ≡ Some h
      → h.links ≡ links (tree_after s a b da db) k)
      → IsMoved N m5 s a b da db
  moved_by version shape tree links_are = record {
    shape = shape;
    tree = tree;
    map = λ arguments done. map_by shape
        (rename_keeps N s (renamed s a b da db) a b Done is.log.sound arguments done)
        (is.log.version ∙ sym version) tree links_are;
  }

  -- ---- the second name is free
  module _ (none : dest.replaced ≡ None) {m2 m3 m4 m5 : LogMap}
      (drafts : DraftsMove m m2 m3 m4 da db head_a head_b la lb (name a))
      (new : DraftsName m4 m5 db n (second_after da db head_a head_b la lb) (name b)) where
    pub free_moving : IsMoving m m2 m3 m4 da db head_a head_b la lb (name a)
    free_moving = record { kept = g.shaped; has_a = holder_a; has_b = holder_b; drafts = drafts }

    absent : entry_in s.tree db (name b) ≡ None
    absent = entry_is g.second (subst (GivesObject m db o.name.now head_b) none looks_b).looks

    free_named : IsNamed m4 m5 db n (second_after da db head_a head_b la lb) (name b)
    free_named = named_new free_moving new
        (ap (λ (t : Tree). entry_in (without_name t da (name a)) db (name b)) (sym is.log.is)
        ∙ trees.still_free move (name b) absent)

    abbrev crossing : ℕ
    crossing = one_if (dir_of && not (da == db))

    free_less : la + crossing ≡ head_a.links
    free_less = ap (λ (o : Option Object). (if dir_of && (not (da == db) || is_some o)
        then head_a.links - 1 else head_a.links) + crossing) none
        ∙ fewer_free dir_of (da == db) head_a.links linked_twice

    more : lb ≡ head_b.links + crossing
    more = ap (λ (o : Option Object). if dir_of && (not (da == db) && is_none o)
        then head_b.links + 1 else head_b.links) none
        ∙ more_free dir_of (da == db) head_b.links

    x_none : da ≡ db → crossing ≡ 0
    x_none e = ap (λ (v : Bool). one_if (dir_of && not v)) (eq-eqb da db e) ∙ not_one dir_of

    free_after : tree_after s a b da db ≡ after
    free_after = ap (λ (o : Option ℕ). if is_some o then let_go (moved s a b da db)
        s.handles (target s.tree db b) else moved s a b da db) absent ∙ moved_is

    tree_is : tree_in m5 ≡ tree_after s a b da db
    tree_is = named_tree free_moving free_named
        ∙ ap (λ (t : Tree). with_name (without_name t da (name a)) db (name b) n) (sym is.log.is)
        ∙ sym free_after

    free_links : (k : ℕ) (h : entry.Header) → m5.header k ≡ Some h
        → h.links ≡ links (tree_after s a b da db) k
    free_links k h at =
        let shifts = named_shifts free_moving free_named crossing crossing free_less (λ ne. more)
        x_none k h at in
        let one = shifts.2 in
        let was = linked k shifts.1 in
        let now = trees.links_free move (name b) absent crossing
        (ap (λ (v : Bool). one_if (v && not (da == db))) (sym kind_n)) k in
        let same : h.links ≡ links after k = omega (arith, one, was, now) in
        same ∙ ap (λ (t : Tree). links t k) (sym free_after)

    pub free_moved : IsMoved N m5 s a b da db
    free_moved = moved_by (named_version free_moving free_named)
        (named_kept free_moving free_named) tree_is free_links

  -- ---- it gives another object of the same sort, no directory with names
  module _ (r : Object) (some : dest.replaced ≡ Some r) where
    abbrev old : ℕ
    old = r.number.value

    abbrev h : entry.Header
    h = as_header r.header

    pub looks_o : GivesObject m db o.name.now head_b (Some r)
    looks_o = subst (GivesObject m db o.name.now head_b) some looks_b

    there : entry_in s.tree db (name b) ≡ Some old
    there = entry_is g.second looks_o.looks

    other : old ≢ n
    other same =
        let on = eq-eqb old n same in
        let off : (old == n) ≡ false
        = subst (λ (f : Option Object). GivesName f n ≡ false) some g.apart in
        cc

    fits : FitsReplaced source.object.header.kind r.header
    fits = subst (λ (f : Option Object). FitsFound f source dest) some g.fits

    kind_o : is_dir (node s.tree old) ≡ is_directory r.header.kind
    kind_o = kind_is g.second head_b looks_o.looks.header o.name.now (sym looks_o.looks.gives) r.header looks_o.there

    alike : is_dir (node s.tree old) ≡ is_dir (node s.tree n)
    alike = kind_o ∙ fits.same ∙ sym kind_n

    empty : names_in s.tree old ≡ []
    empty = nothing_in (names_in s.tree old) (no_entries is r.header (g.first.headers old h looks_o.there) looks_o.there kind_o
        (λ dir. fits.empty (sym fits.same ∙ dir)))

    -- ---- the object
    pub not_root : old ≢ 1
    not_root e =
        let some = named_counts s.tree db (name b) old there in
        let none : names s.tree old ≡ 0 = ap (names s.tree) e ∙ is.log.sound.root_unnamed in
        absurd (omega (arith, some, none))

    pub apart_first : old ≢ da
    apart_first = trees.not_first move (name b) old there other alike empty

    pub apart_second : old ≢ db
    apart_second = trees.not_second move (name b) old there other alike empty

    abbrev change : Tree → Tree
    change t = with_name (without_name t da (name a)) db (name b) n

    lose : LosesOne N m s change old h
    lose = record {
      map = is;
      shaped = g.shaped;
      there = looks_o.there;
      named = is.log.sound.named db (name b) old there;
      not_root = not_root;
      less = trees.names_over move (name b) old there other alike;
      goes_first = trees.goes_first move (name b) old there other alike empty;
      links_gone = trees.links_gone move (name b) old there other alike empty;
    }

    names_plain : is_dir (node s.tree old) ≡ false → names s.tree old ≡ h.links
    names_plain = plain_names lose

    pub some_links : 0 < r.header.links
    some_links = by (is_dir (node s.tree old)) refl
      where
        by : (v : Bool) → is_dir (node s.tree old) ≡ v → 0 < r.header.links
        by true on =
            let are = linked old looks_o.there in
            let two = two_links (node s.tree old) s.tree old on in
            omega (arith, are, two)
        by false off =
            let are = names_plain off in
            let some = named_counts s.tree db (name b) old there in
            omega (arith, are, some)

    abbrev x : ℕ
    x = one_if (is_dir (node s.tree n))

    links_less : (k : ℕ)
        → links after k + (only_at old (own_links lose) k + only_at da x k) ≡ links s.tree k
    links_less = trees.links_over move (name b) old there other alike x (own_links lose) refl
        (ap (λ (v : Bool). one_if (not v)) alike)

    after_is : let_go after s.handles old ≡ tree_after s a b da db
    after_is = sym (ap (λ (o : Option ℕ). if is_some o then let_go (moved s a b da db)
        s.handles (unwrap_or o 0) else moved s a b da db) there
        ∙ ap (λ (t : Tree). let_go t s.handles old) moved_is)

    -- ---- in either case
    module _ {m1 : LogMap} (loses : LosesName s m m1 old h) where
      loss : IsLoss lose m1
      loss = lost lose loses

      pub lost_shape : IsShaped m1
      lost_shape = loss.shape

      pub lost_a : HasHolder m1 da head_a
      lost_a = record {
        number = holder_a.number;
        there = loss.changed.headers da (λ e. apart_first (sym e)) ∙ looks_a.looks.header;
        kind = holder_a.kind;
        few = holder_a.few;
      }

      pub lost_b : HasHolder m1 db head_b
      lost_b = record {
        number = holder_b.number;
        there = loss.changed.headers db (λ e. apart_second (sym e)) ∙ looks_b.looks.header;
        kind = holder_b.kind;
        few = holder_b.few;
      }

      module _ {m2 m3 m4 m5 : LogMap}
          (drafts : DraftsMove m1 m2 m3 m4 da db head_a head_b la lb (name a))
          (over : DraftsOver m4 m5 db n (second_after da db head_a head_b la lb) (name b)) where
        pub over_moving : IsMoving m1 m2 m3 m4 da db head_a head_b la lb (name a)
        over_moving = record { kept = lost_shape; has_a = lost_a; has_b = lost_b; drafts = drafts }

        over_named : IsNamed m4 m5 db n (second_after da db head_a head_b la lb) (name b)
        over_named = named_over over_moving over

        over_less : la + x ≡ head_a.links
        over_less = ap (λ (p : Option Object). (if dir_of && (not (da == db) || is_some p)
            then head_a.links - 1 else head_a.links) + x) some
            ∙ ap (λ (v : Bool). (if dir_of && (not (da == db) || true)
            then head_a.links - 1 else head_a.links) + one_if v) kind_n
            ∙ fewer_over dir_of (da == db) head_a.links linked_twice

        same : lb ≡ head_b.links + 0
        same = ap (λ (p : Option Object). if dir_of && (not (da == db) && is_none p)
            then head_b.links + 1 else head_b.links) some
            ∙ more_over dir_of (da == db) head_b.links ∙ omega arith

        over_links : (k : ℕ) (f : entry.Header) → m5.header k ≡ Some f
            → f.links ≡ links (tree_after s a b da db) k
        over_links k f at =
            let next = named_shifts over_moving over_named x 0 over_less (λ ne. same)
            (λ e. refl) k f at in
            let first = loss.shifts k next.0 next.1 in
            let one = next.2 in
            let two = first.2 in
            let was = linked k first.1 in
            let now = links_less k in
            let none = nothing_at db k in
            let same_now : f.links ≡ links after k = omega (arith, one, two, was, now, none) in
            same_now ∙ loss.links_of k next.0 next.1
            ∙ ap (λ (t : Tree). links t k) after_is

        pub over_moved : IsMoved N m5 s a b da db
        over_moved = moved_by
            (named_version over_moving over_named ∙ loss.changed.version)
            (named_kept over_moving over_named)
            (named_tree over_moving over_named ∙ loss.tree ∙ after_is) over_links
