-- A directory of a log map, as a call that widens it finds it, and the log map with it widened: it is that of the tree then.
use Rattle.lfs_fs.proofs.Prelude.{◌≡◌, ◌≤◌, ◌<◌, ◌+◌, ◌*◌, ◌==◌, ⊎_elim, ℕ, true, false, List, Some, refl, sym, ◌∙◌, ap, subst, arith}
use Rattle.lfs_fs.proofs.Prelude.{cases_eq, ne_eqb, Done, Refuse, Widen, IsLogMap, IsForm, need, IsDirectory, IsHeaderOf, NoSpace, LogMap}
use Rattle.lfs_fs.proofs.Prelude.{widened, with_tree, IsCounted, State, Tree, form_of, is_dir, links, names_in, node, slot_len, tree_in, At}
use Rattle.lfs_fs.proofs.Prelude.{Resolve, totals_of_tree, WidensNames, HasHeader, MayWiden, map_by, IsMapOf, IsShaped, need_shaped}
use Rattle.lfs_fs.proofs.Prelude.{shaped_map, Step}
use Rattle.lfs_model.specs.declared.Kind.TheVariants as kind
use Rattle.lfs_model.specs.Entry as entry
use Rattle.lfs_model.specs.Inode.{IsSize}
use Rattle.lfs_model.specs.Objects.{IsObject}
use Rattle.lfs_model.proofs.Makes.{dir_at}
use Rattle.lfs_model.proofs.ObjectMaps.{object_fits, object_kept}
use Rattle.lfs_model.proofs.Widening.{same_links, widen_keeps}
use Rattle.lfs_files.specs.declared.header.Header.{Header}
use Rattle.lfs_files.specs.Headers.{FitsHeader, as_header}
use Rattle.lfs_path.specs.dirs.Directory.{slot_count}
use Rattle.lfs_path.specs.dirs.Widening.{WidensFile, wide}
use Rattle.lfs_path.proofs.of_dirs.InTrees.{directory_widened}
use Rattle.lfs_path.proofs.of_dirs.Widenings.{few_slots}
use Rattle.lfs_steps.proofs.volume.Directories.{directory_node}
use Rattle.lfs_steps.proofs.volume.FileBytes.{shape_kept}
use Rattle.lfs_steps.proofs.widen.Steps.{widen_done, widen_no_space}
use Rattle.lfs_fs.proofs.read.Shown.{directory}

module _ {N : ℕ} {m : LogMap} {s : State} (here : IsMapOf N m s)
    (headers : (n : ℕ) (h : entry.Header) → m.header n ≡ Some h → IsHeaderOf n h) {n : ℕ} {head : Header} (there : HasHeader n head m)
    (dir : head.kind ≡ kind.Directory) where
  fits : IsHeaderOf n (as_header head)
  fits = headers n (as_header head) there

  sized : IsSize head.form kind.Directory head.size
  sized = rw dir at fits.size

  few : head.size ≤ 1024 * slot_len head.form
  unfolding IsSize
  few = sized.1

  shaped : IsShaped m
  shaped = shaped_map N here headers

  formed : IsDirectory m n (as_header head)
  formed = shaped.directories n (as_header head) there dir

  pub may_widen : MayWiden n head m
  may_widen = record { formed = formed; small = few }

  -- a directory of form 1 fits as many slots
  pub wide_fits : FitsHeader head.kind 1 head.links (slot_len 1 * slot_count head)
  unfolding IsSize
  wide_fits = let most = few_slots head.form head.size few in record {
    known = rw dir (refl, omega arith);
    links_few = fits.links;
    size_fits = rw dir (omega arith, omega (arith, most));
  }

  is_dir_here : is_dir (node s.tree n) ≡ true
  is_dir_here = directory here headers there dir

  pub form_here : form_of (node s.tree n) ≡ head.form
  form_here = ap form_of (directory_node N m s here n is_dir_here head there)

  -- ---- it is widened

  module _ (new : (s.version ≡ 1) → ⊥) where
    later : 1 < s.version
    later = let some = here.log.sound.version.0 in omega (arith, some, new)

    pub known : IsForm m.version head.kind 1
    known = rw (← here.log.version, dir) (refl, later)

    module _ {m' : LogMap} (file : WidensFile m m' n head) (names : WidensNames m m' n head) where
      was_object : IsObject m n (as_header head)
      was_object = object_fits m n (as_header head) here.map (here.long n) there fits.most

      now_object : IsObject m' n (as_header (wide head))
      now_object = record {
        number = was_object.number;
        root = was_object.root;
        form = rw file.only.version known;
        size = let most = few_slots head.form head.size few in omega (arith, most);
        whole = file.whole was_object.whole;
        ends = file.ends formed.whole was_object.ends;
      }

      pub kept : IsLogMap m'
      kept = object_kept m m' n (as_header (wide head)) here.map file.only file.header now_object

      shape : IsShaped m'
      shape = shape_kept file.only shaped kept now_object.whole.long
          (λ h at dir. subst (IsDirectory m' n) (let both : Some (as_header (wide head)) ≡ Some h = sym file.header ∙ at in cc)
          names.directory)

      tree : tree_in m' ≡ widened s.tree n
      tree =
          directory_widened m m' n head file.only record { number = fits.number; header = there; kind = dir }
          record { number = fits.number; header = file.header; kind = dir } names.names
          ∙ ap (λ (t : Tree). widened t n) (sym here.log.is)

      module _ (path : List ℕ) (walk : Resolve s.tree path true (At n)) (narrow : head.form ≡ 0) {blocks others : ℕ}
          (counted : IsCounted m' blocks others) where
        is_new : (s.version == 1) ≡ false
        is_new = ne_eqb s.version 1 new

        is_narrow : (form_of (node s.tree n) == 1) ≡ false
        is_narrow = ap (λ (f : ℕ). f == 1) (form_here ∙ narrow)

        needs : need (widened s.tree n) ≡ blocks + 7 * others + 720
        needs = ap need (sym tree) ∙ (need_shaped totals_of_tree shape counted).0

        pub done : blocks + 7 * others + 720 ≤ 47 * N → Step N s (Widen path) Done (with_tree s (widened s.tree n))
        done room = widen_done N s path n walk is_dir_here is_new is_narrow (let same = needs in omega (arith, same, room))

        pub lacks : 47 * N < blocks + 7 * others + 720 → Step N s (Widen path) (Refuse NoSpace) s
        lacks more = widen_no_space N s path n walk is_dir_here is_new is_narrow (let same = needs in omega (arith, same, more))

        module _ (room : blocks + 7 * others + 720 ≤ 47 * N) where
          links_now : (q : ℕ) → links (widened s.tree n) q ≡ links s.tree q
          links_now = same_links N s n (form_of (node s.tree n)) (names_in s.tree n) here.log.sound
              (dir_at (node s.tree n) is_dir_here) later (let same = needs in omega (arith, same, room))

          links_are : (q : ℕ) (g : entry.Header) → m'.header q ≡ Some g → g.links ≡ links (widened s.tree n) q
          links_are q g at = ⊎_elim
              (λ (same_one : q ≡ n).
              let same : as_header (wide head) ≡ g =
              (let both : Some (as_header (wide head)) ≡ Some g = sym file.header ∙ ap m'.header (sym same_one) ∙ at in cc) in
              sym (ap (λ (h : entry.Header). h.links) same) ∙ here.log.links n (as_header head) there
              ∙ ap (λ (t : Tree). links t n) (sym here.log.is) ∙ ap (links s.tree) (sym same_one) ∙ sym (links_now q))
              (λ (ne : q ≡ n → ⊥). here.log.links q g (sym (file.only.headers q ne) ∙ at)
              ∙ ap (λ (t : Tree). links t q) (sym here.log.is) ∙ sym (links_now q))
              (cases_eq q n)

          pub after : IsMapOf N m' (with_tree s (widened s.tree n))
          after = map_by shape (widen_keeps N s path Done here.log.sound (done room))
              (here.log.version ∙ sym file.only.version) tree links_are
