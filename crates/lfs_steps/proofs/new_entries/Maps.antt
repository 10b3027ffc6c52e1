-- A new object with a name in a directory, from the log map before the call to the state after it.
use Rattle.lfs_steps.proofs.Prelude.{◌≡◌, ◌≢◌, ◌<◌, ◌≤◌, ◌+◌, ◌%◌, ℕ, zero, suc, Bool, true, false, List, [], length, Some, None, refl, sym}
use Rattle.lfs_steps.proofs.Prelude.{◌∙◌, ap, subst, ⊎_elim, arith, max, AllByRecursion, cases_eq, find, LAST_NUMBER, MOST_LINKS}
use Rattle.lfs_steps.proofs.Prelude.{IsWithHeader, IsVersion, IsForm, IsDirectory, IsHeaderOf, IsObject, slot_in, Sound, LogMap, name}
use Rattle.lfs_steps.proofs.Prelude.{with_new, Dir, File, Link, Node, State, Tree, byte_cmp, least, links, node, slot_len, with_name}
use Rattle.lfs_steps.proofs.Prelude.{with_node, map_of, node_by, node_of, object, tree_in, least_free, not_some, starts_one, object_kept}
use Rattle.lfs_steps.proofs.Prelude.{change_more, node_in, FilesState, IsApart, as_header, relinked, Last, AddsName, grown, slot_for}
use Rattle.lfs_steps.proofs.Prelude.{GivesNumber, links_beside, NewKind, form_of_new, kind_of_new, makes_directory, new_directory, new_file}
use Rattle.lfs_steps.proofs.Prelude.{new_link, text_of_new, TakesOneMore}
use Rattle.std.specs.FinMap.{put}
use Rattle.lfs_model.specs.declared.Kind.TheVariants as kind
use Rattle.lfs_model.specs.Entry as entry
use Rattle.lfs_model.specs.Inode.{IsSize}
use Rattle.lfs_model.specs.Tree.{entry as entry_in}
use Rattle.lfs_model.specs.TreeOf.{slots}
use Rattle.lfs_model.proofs.ObjectTrees.{tree_with}
use Rattle.lfs_files.specs.declared.header.Header.{Header}
use Rattle.lfs_files.specs.Headers.{first_header}
use Rattle.lfs_path.proofs.of_dirs.SlotsKept.{directory_stays}
use Rattle.lfs_entries.specs.NewNames.{LacksObject, Names, TakesEntry, TakesName, holder_with}
use Rattle.lfs_entries.specs.NewObjects.{IsMade, new_header}
use Rattle.lfs_steps.proofs.new_entries.RuleSteps.{IsTaken}
use Rattle.lfs_steps.proofs.new_entries.Steps.{NewCall, new_node}
use Rattle.lfs_steps.proofs.new_entries.Trees.{HasLinks, links_after}
use Rattle.lfs_steps.proofs.paths.Named.{IsReached, dir, fits_d, holder, links_are, piece_is, range_d}
use Rattle.lfs_steps.proofs.volume.Directories.{directory_kind}
use Rattle.lfs_steps.proofs.volume.FileBytes.{shape_kept}
use Rattle.lfs_steps.proofs.volume.Headers.{directory_grows, known_form}
use Rattle.lfs_steps.proofs.volume.KeptMaps.{HasHolder, map_by, relinked_kept, relinked_tree, written_kept, written_tree}
use Rattle.lfs_steps.proofs.volume.Nodes.{IsMapOf, IsShaped}
use Rattle.lfs_steps.proofs.volume.Slots.{slot_some}

-- ---- what a new object is

-- a directory without a byte has no slot
no_slots : (m : LogMap) (n form : ℕ) → slots m n (as_header (first_header kind.Directory form 0)) ≡ []
unfolding slots
no_slots m n zero = refl
no_slots m n (suc form) = refl

new_node_by : (m : LogMap) (n : ℕ) (k : NewKind) → object m n (as_header (new_header k)) ≡ text_of_new k
    → node_by m (kind_of_new k) n (as_header (new_header k)) ≡ new_node k
new_node_by m n new_file bytes = ap File bytes
new_node_by m n (new_directory form) bytes = ap (λ (l : List (List ℕ)). Dir form (map_of form l)) (no_slots m n form)
new_node_by m n (new_link text) bytes = ap Link bytes

no_rest : (form : ℕ) → 0 % slot_len form ≡ 0
no_rest zero = refl
no_rest (suc form) = refl

blank_directory : (m : LogMap) (n : ℕ) (k : NewKind) → kind_of_new k ≡ kind.Directory → IsDirectory m n (as_header (new_header k))
blank_directory m n new_file dir = absurd (cc)
blank_directory m n (new_directory form) dir = record {
  whole = no_rest form;
  formed = subst (AllByRecursion (λ b. slot_in form b ≢ None)) (sym (no_slots m n form)) tt;
  apart = ap (λ (l : List (List ℕ)). length (map_of form l)) (no_slots m n form) ∙ sym (ap length (no_slots m n form));
}
blank_directory m n (new_link text) dir = absurd (cc)

-- ---- a directory gets a name

-- Directory d takes a path's last piece as a new name.
pub record Enters (N : ℕ) (m : LogMap) (s : State) (p : List ℕ) (d : ℕ) (l : Last) (is_mkdir : Bool) (head : Header) : Type 0 where
  pub at : IsReached N m s p d l
  pub shaped : IsShaped m
  pub taken : IsTaken s p d is_mkdir
  pub looks : GivesNumber m d l.name.now head None
  pub room : TakesOneMore head

module _ {N : ℕ} {m : LogMap} {s : State} {p : List ℕ} {d : ℕ} {l : Last} {is_mkdir : Bool} {head : Header}
    (g : Enters N m s p d l is_mkdir head) where
  fits : IsHeaderOf d (as_header head)
  fits = fits_d g.at head g.looks.header

  pub holder_is : HasHolder m d head
  holder_is = record {
    number = range_d g.at;
    there = g.looks.header;
    kind = directory_kind N m s g.at.map d (dir g.at) head g.looks.header;
    few = (let few = g.room in omega (arith, few));
  }

  pub few_grown : head.size + slot_len head.form ≤ 8511488
  few_grown = let few = g.room in let most = (slot_some head.form).1 in omega (arith, few, most)

  -- the draft fits, where nothing is lost of the directory before it
  pub takes_name : {S D : Type 0} {files : FilesState S D} → IsApart files.lost d → (links : ℕ) → links ≤ MOST_LINKS → {n : ℕ}
      → head.size + slot_len head.form ≡ max head.size (head.size + length (slot_for head.form n l.name.now))
      → TakesName files m d (relinked head links) n l.name.now
  takes_name apart links few size = record {
    staged = λ none. (let here = g.looks.header in absurd (cc));
    apart = apart;
    longer = record {
      known = known_form head fits;
      links_few = few;
      size_fits = subst (IsSize head.form head.kind) size (directory_grows d head fits holder_is.kind g.room).size_fits;
    };
  }

  -- its names are those before, and the new one
  pub adds_name : (links : ℕ) {m2 m' : LogMap} {n : ℕ} → ((i : ℕ) → m2.block d i ≡ m.block d i)
      → Names m2 m' d (relinked head links) n l.name.now → AddsName m2 m' d (relinked head links) n (name p)
  adds_name links {m2} {m'} {n} blocks names =
      let same = directory_stays m m2 d head (relinked head links) blocks refl refl ((holder g.at).formed head g.looks.header) in
      subst (AddsName m2 m' d (relinked head links) n) (sym (piece_is g.at))
      (names.more same.0 (ap (find byte_cmp l.name.now) same.1 ∙ sym g.looks.gives))

-- ---- of a new object

-- The call makes an object of that name in directory d, with the least number that is free.
pub record IsNew {version N : ℕ} {p : List ℕ} {d : ℕ} (of : NewCall version N p d) (l : Last) (head : Header) (n : ℕ) (m : LogMap)
    (s : State)
    : Type 0 where
  pub enters : Enters N m s p d l of.is_mkdir head
  pub same : s.version ≡ version
  pub links : makes_directory of.kind ≡ true → head.links < MOST_LINKS
  pub free : m.header n ≡ None
  pub first : least s.tree ≡ n
  pub top : n ≤ LAST_NUMBER

module _ {version N : ℕ} {p : List ℕ} {d : ℕ} {of : NewCall version N p d} {l : Last} {head : Header} {n : ℕ} {m : LogMap} {s : State}
    (g : IsNew of l head n m s) where
  abbrev is : IsMapOf N m s
  is = g.enters.at.map

  abbrev there : m.header d ≡ Some (as_header head)
  there = g.enters.looks.header

  abbrev k : NewKind
  k = of.kind

  abbrev head' : Header
  head' = holder_with head k

  is_version : IsVersion version
  is_version = subst IsVersion g.same is.log.sound.version

  pub known_there : IsForm m.version (kind_of_new k) (form_of_new k)
  known_there = subst (λ (x : ℕ). IsForm x (kind_of_new k) (form_of_new k)) (sym g.same ∙ is.log.version) (of.known is_version)

  least_is : (1 ≤ least s.tree) × (node s.tree (least s.tree) ≡ None)
  least_is = least_free 1 s.tree is.log.sound.in_order (starts_one s.tree is.log.sound.numbers)

  pub top_least : least s.tree ≤ 4095
  top_least = let top = g.top in let first = g.first in omega (arith, first, top)

  in_range : (1 ≤ n) × (n ≤ 4095)
  in_range = (let low = least_is.0 in let first = g.first in omega (arith, low, first), g.top)

  not_root : n ≢ 1
  not_root root =
      let dir_root = is.log.sound.root in
      let none : node s.tree 1 ≡ None = ap (node s.tree) (sym root ∙ sym g.first) ∙ least_is.1 in
      cc

  other : n ≢ d
  other e = let here : m.header n ≡ Some (as_header head) = ap m.header e ∙ there in let none = g.free in cc

  -- ---- the draft fits, where nothing is lost before it

  pub lacks : LacksObject m d head n
  lacks = record { map = is.map; free = g.free; there = there }

  few_links : (b : Bool) → (b ≡ true → head.links < MOST_LINKS) → links_beside b head.links ≤ MOST_LINKS
  few_links true below = let lt = below refl in omega (arith, lt)
  few_links false below = (fits g.enters).links

  pub takes : {S D : Type 0} (files : FilesState S D) → ((q : ℕ) → IsApart files.lost q)
      → head.size + slot_len head.form ≡ max head.size (head.size + length (slot_for head.form n l.name.now))
      → TakesEntry files m m d head n k l.name.now
  takes files none_lost size = record {
    lacks = lacks;
    object = record { free = g.free; apart = none_lost n; header = of.sized is_version };
    linked = (let two = (holder g.enters.at).linked head there in omega (arith, two));
    links = record {
      known = known_form head (fits g.enters);
      links_few = few_links (makes_directory k) g.links;
      size_fits = (fits g.enters).size;
    };
    named = takes_name g.enters (none_lost d) head'.links (few_links (makes_directory k) g.links) size;
  }

  -- ---- the object is made
  module _ {m1 : LogMap} (made : IsMade m n k m1) where
    made_object : IsObject m1 n (as_header (new_header k))
    made_object = record {
      number = in_range.0;
      root = λ e. absurd (not_root e);
      form = subst (λ (v : ℕ). IsForm v (kind_of_new k) (form_of_new k)) (sym made.changed.version) known_there;
      size = made.small;
      whole = made.whole;
      ends = made.ends;
    }

    shape_1 : IsShaped m1
    shape_1 = shape_kept made.changed g.enters.shaped
        (object_kept m m1 n (as_header (new_header k)) is.map made.changed made.own made_object) made.whole.long
        (λ h at dir.
        let same : as_header (new_header k) ≡ h = (let both : Some (as_header (new_header k)) ≡ Some h = sym made.own ∙ at in cc) in
        subst (IsDirectory m1 n) same (blank_directory m1 n k (ap (λ (x : entry.Header). x.kind) same ∙ dir)))

    tree_1 : tree_in m1 ≡ with_node s.tree n (new_node k)
    tree_1 = tree_with m m1 n made.changed
        (node_in m1 n in_range.0 in_range.1 ∙ ap (node_of m1 n) made.own ∙ ap (λ (x : Node). Some x) (new_node_by m1 n k made.bytes))
        ∙ ap (λ (t : Tree). with_node t n (new_node k)) (sym is.log.is)

    holder_1 : HasHolder m1 d head
    holder_1 =
        let was = holder_is g.enters in
        record { number = was.number; there = made.changed.headers d (λ e. other (sym e)) ∙ there; kind = was.kind; few = was.few }

    -- ---- the directory has the links with it
    module _ {m2 : LogMap} (linked : IsWithHeader m1 d (Some (as_header head')) m2) where
      shape_2 : IsShaped m2
      shape_2 = relinked_kept m1 m2 d (as_header head) head'.links shape_1 holder_1.there (fits g.enters).most linked

      tree_2 : tree_in m2 ≡ with_node s.tree n (new_node k)
      tree_2 = relinked_tree m1 m2 d (as_header head) head'.links shape_1 holder_1.there (fits g.enters).most linked ∙ tree_1

      holder_2 : HasHolder m2 d head'
      holder_2 = record { number = holder_1.number; there = linked.own; kind = holder_1.kind; few = holder_1.few }

      -- ---- and it has the name, whether there is room or not
      module _ {m' : LogMap} (names : Names m2 m' d head' n l.name.now) where
        adds : AddsName m2 m' d head' n (name p)
        adds = adds_name g.enters head'.links (λ i. linked.block d i ∙ made.changed.blocks d i (λ e. other (sym e))) names

        pub new_shape : IsShaped m'
        new_shape = written_kept n (name p) shape_2 holder_2
            holder_2.kind refl refl (few_grown g.enters) names.file adds.directory adds.names

        abbrev t' : Tree
        t' = with_new s.tree d p (new_node k)

        pub new_tree : tree_in m' ≡ t'
        new_tree =
            written_tree n (name p) shape_2 holder_2 holder_2.kind refl refl (few_grown g.enters) names.file adds.directory adds.names
            ∙ ap (λ (t : Tree). with_name t d (name p) n) tree_2
            ∙ sym (change_more s.tree is.log.sound.in_order (put byte_cmp (name p) n) d n (new_node k) (λ e. other (sym e)))
            ∙ ap (λ (q : ℕ). with_node (with_name s.tree d (name p) q) q (new_node k)) (sym g.first)

        has_links : HasLinks s.tree t' (least s.tree) d k
        has_links = links_after N s is.log.sound d (dir g.enters.at) (name p)
            (not_some (entry_in s.tree d (name p)) g.enters.taken.new) k

        links_at : (q : ℕ) (h : entry.Header) → m'.header q ≡ Some h → h.links ≡ links t' q
        links_at q h at = ⊎_elim
            (λ (here : q ≡ n).
            let both : Some (as_header (new_header k)) ≡ Some h = sym (names.file.only.headers n other ∙ linked.others n other ∙ made.own)
            ∙ ap m'.header (sym here) ∙ at in
            let same : as_header (new_header k) ≡ h = cc in
            sym (ap (λ (x : entry.Header). x.links) same) ∙ sym has_links.first ∙ ap (links t') (g.first ∙ sym here))
            (λ (a : q ≡ n → ⊥). ⊎_elim
            (λ (here : q ≡ d).
            let both : Some (as_header (grown head')) ≡ Some h = sym names.file.header ∙ ap m'.header (sym here) ∙ at in
            let same : as_header (grown head') ≡ h = cc in
            sym (ap (λ (x : entry.Header). x.links) same) ∙ ap (links_beside (makes_directory k)) (links_are g.enters.at head there)
            ∙ sym has_links.here ∙ ap (links t') (sym here))
            (λ (b : q ≡ d → ⊥).
            is.log.links q h (sym (names.file.only.headers q b ∙ linked.others q b ∙ made.changed.headers q a) ∙ at)
            ∙ ap (λ (t : Tree). links t q) (sym is.log.is) ∙ sym (has_links.others q (λ e. a (e ∙ g.first)) b))
            (cases_eq q d))
            (cases_eq q n)

        -- the volume's log map after the call
        pub new_map : {s' : State} → s'.version ≡ s.version → s'.tree ≡ t' → Sound N s' → IsMapOf N m' s'
        new_map {s'} version tree sound =
            map_by new_shape sound
            (version ∙ is.log.version ∙ sym (names.file.only.version ∙ linked.version ∙ made.changed.version))
            (new_tree ∙ sym tree)
            (λ q h at. links_at q h at ∙ ap (λ (t : Tree). links t q) (sym tree))
