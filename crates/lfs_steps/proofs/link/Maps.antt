-- A further name of a file or a link, from the log map before the call to the state after it.
use Rattle.lfs_steps.proofs.Prelude.{◌≡◌, ◌≢◌, ◌<◌, ◌+◌, ◌∙◌, ℕ, Bool, false, List, length, Some, refl, sym, ap, subst, arith, max}
use Rattle.lfs_steps.proofs.Prelude.{MOST_LINKS, AreBytes, IsHeaderOf, FilesState, IsApart, as_header, relinked, Last, LogMap, Dir, State}
use Rattle.lfs_steps.proofs.Prelude.{Tree, form_of, is_dir, links, names_in, node, slot_len, with_name, name, with_tree, tree_in, dir_at}
use Rattle.lfs_steps.proofs.Prelude.{not_some, IsWithHeader, named_counts, AddsName, slot_for, Sound}
use Rattle.lfs_entries.specs.NewNames.{Names, TakesFurther}
use Rattle.lfs_steps.proofs.new_entries.Maps.{Enters, adds_name, few_grown, holder_is, takes_name}
use Rattle.lfs_steps.proofs.paths.Named.{dir, fits_d}
use Rattle.lfs_steps.proofs.volume.Headers.{known_form}
use Rattle.lfs_model.specs.Entry as entry
use Rattle.lfs_model.specs.Tree.{entry as entry_in}
use Rattle.lfs_steps.proofs.volume.Nodes.{IsMapOf, IsShaped}
use Rattle.lfs_files.specs.declared.header.Header.{Header}
use Rattle.lfs_steps.proofs.volume.KeptMaps.{HasHolder, map_by, relinked_kept, relinked_tree, relinked_shifts, written_kept, written_tree}
use Rattle.lfs_steps.proofs.volume.KeptMaps.{written_shifts}
use Rattle.lfs_model.proofs.Naming.{leaf_names_are}
use Rattle.lfs_steps.proofs.link.Steps.{NamesObject, linked}
use Rattle.lfs_steps.proofs.volume.MovedNames.{links_more, link_of, nothing_at, only_at}

-- A path's last name gives the object n, which is no directory, and directory d takes the last piece of the other path as a further one.
pub record IsLink (N : ℕ) (m : LogMap) (s : State) (a b : List ℕ) (da d : ℕ) (l : Last) (head : Header) (n : ℕ) (object : Header) : Type 0
  where
    pub enters : Enters N m s b d l false head
    pub names : NamesObject m s a da n object
    pub few : object.links < MOST_LINKS
    pub bytes : AreBytes a

module _ {N : ℕ} {m : LogMap} {s : State} {a b : List ℕ} {da d : ℕ} {l : Last} {head : Header} {n : ℕ} {object : Header}
    (g : IsLink N m s a b da d l head n object) where
  abbrev is : IsMapOf N m s
  is = g.enters.at.map

  abbrev nm : List ℕ
  nm = name b

  abbrev object' : Header
  object' = relinked object (object.links + 1)

  object_fits : IsHeaderOf n (as_header object)
  object_fits = g.enters.at.headers n (as_header object) g.names.there

  pub other : n ≢ d
  other e =
      let no : is_dir (node s.tree d) ≡ false
      = subst (λ (x : ℕ). is_dir (node s.tree x) ≡ false) e g.names.plain in
      let yes_dir = dir g.enters.at in cc

  dir_is : node s.tree d ≡ Some (Dir (form_of (node s.tree d)) (names_in s.tree d))
  dir_is = dir_at (node s.tree d) (dir g.enters.at)

  links_were : object.links ≡ links s.tree n
  links_were = is.log.links n (as_header object) g.names.there
      ∙ ap (λ (t : Tree). links t n) (sym is.log.is)

  pub few_links : links s.tree n < 1000
  few_links = let same = links_were in let few = g.few in omega (arith, same, few)

  -- it has a name
  pub some_links : 0 < object.links
  some_links =
      let counted = named_counts s.tree da (name a) n g.names.found in
      let are = leaf_names_are s.tree n (node s.tree n) g.names.plain in
      let were = links_were in
      omega (arith, counted, are, were)

  -- ---- the draft fits, where nothing is lost before it
  pub takes : {S D : Type 0} (files : FilesState S D) → ((q : ℕ) → IsApart files.lost q)
      → head.size + slot_len head.form ≡ max head.size (head.size + length (slot_for head.form n l.name.now))
      → TakesFurther files m m d head n object l.name.now
  takes files none_lost size = record {
    other = λ e. other (sym e);
    there = g.enters.looks.header;
    links = record {
      there = g.names.there;
      linked = some_links;
      apart = (none_lost n).inode;
      header = record {
        known = known_form object object_fits;
        links_few = (let few = g.few in omega (arith, few));
        size_fits = object_fits.size;
      };
    };
    named = takes_name g.enters (none_lost d) head.links (fits_d g.enters.at head g.enters.looks.header).links size;
  }

  -- ---- the object has a link more
  module _ {m1 : LogMap} (made : IsWithHeader m n (Some (as_header object')) m1) where
    pub shape_1 : IsShaped m1
    shape_1 = relinked_kept m m1 n (as_header object) (object.links + 1) g.enters.shaped g.names.there object_fits.most
        made

    holder_1 : HasHolder m1 d head
    holder_1 =
        let was = holder_is g.enters in
        record { number = was.number; there = made.others d (λ e. other (sym e)) ∙ was.there; kind = was.kind; few = was.few }

    -- ---- and the directory the name, whether there is room or not
    module _ {m' : LogMap} (names : Names m1 m' d head n l.name.now) where
      adds : AddsName m1 m' d head n nm
      adds = adds_name g.enters head.links (λ i. made.block d i) names

      pub linked_shape : IsShaped m'
      linked_shape = written_kept n nm shape_1 holder_1 holder_1.kind refl refl (few_grown g.enters) names.file adds.directory adds.names

      pub linked_tree : tree_in m' ≡ linked N s a b n d
      linked_tree = written_tree n nm shape_1 holder_1 holder_1.kind refl refl (few_grown g.enters) names.file adds.directory adds.names
          ∙ ap (λ (t : Tree). with_name t d nm n)
          (relinked_tree m m1 n (as_header object) (object.links + 1) g.enters.shaped g.names.there object_fits.most
          made ∙ sym is.log.is)

      linked_links : (q : ℕ) (h : entry.Header) → m'.header q ≡ Some h
          → h.links ≡ links (linked N s a b n d) q
      linked_links q h at =
          let second = written_shifts n nm
          shape_1 holder_1 holder_1.kind refl refl (few_grown g.enters) names.file adds.directory adds.names q h at in
          let first = relinked_shifts m m1 n (as_header object) (object.links + 1) g.enters.shaped
          g.names.there object_fits.most made 0 1 (omega arith) q second.0 second.1 in
          let one = first.2 in
          let two = second.2 in
          let none = nothing_at d q in
          let none_n = nothing_at n q in
          let was : first.0.links ≡ links s.tree q = is.log.links q first.0 first.1
          ∙ ap (λ (t : Tree). links t q) (sym is.log.is) in
          let now : links (linked N s a b n d) q ≡ links s.tree q + link_of false d n q
          = links_more s.tree d n nm is.log.sound.in_order dir_is
          (is.log.sound.limits d (Dir (form_of (node s.tree d)) (names_in s.tree d)) dir_is).0
          (not_some (entry_in s.tree d nm) g.enters.taken.new) q
          ∙ ap (λ (v : Bool). links s.tree q + link_of v d n q) g.names.plain in
          let same : only_at n 1 q ≡ link_of false d n q = refl in
          omega (arith, one, two, none, none_n, was, now, same)

      -- the volume's log map after the call
      pub linked_map : Sound N (with_tree s (linked N s a b n d))
          → IsMapOf N m' (with_tree s (linked N s a b n d))
      linked_map sound = map_by linked_shape sound
          (is.log.version ∙ sym (names.file.only.version ∙ made.version)) linked_tree linked_links
