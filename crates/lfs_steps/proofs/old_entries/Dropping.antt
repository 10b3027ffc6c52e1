-- An object that lost its name in a directory, and with it a link, or went: from the log map of a draft to the state after the call.
use Rattle.lfs_steps.proofs.Prelude.{◌≡◌, ◌≢◌, ◌<◌, ◌+◌, ◌-◌, ℕ, Bool, true, false, List, [], Some, refl, sym, ◌∙◌, ap, subst, inr, arith}
use Rattle.lfs_steps.proofs.Prelude.{if◌then◌else◌, Call, Done, one_if, Sound, LogMap, Step, name, State, Tree, is_dir, names_in, node}
use Rattle.lfs_steps.proofs.Prelude.{opened, slot_len, named_counts, FilesState, IsApart, FitsHeader, as_header, Last, is_directory}
use Rattle.lfs_steps.proofs.Prelude.{GivesObject}
use Rattle.lfs_model.specs.Tree.{links as links_of}
use Rattle.lfs_files.specs.declared.header.Header.{Header}
use Rattle.lfs_path.specs.dirs.Taking.{TakesName}
use Rattle.lfs_entries.specs.declared.entry.Entry.{Entry}
use Rattle.lfs_entries.specs.OldNames.{HasBoth, HasDropped, HasOld, TakesDrop, holder_without}
use Rattle.lfs_steps.proofs.old_entries.Removal.{IsEntry, apart, holder_2, holder_is, names_plain, not_root, removed_map}
use Rattle.lfs_steps.proofs.old_entries.Removal.{removed_shape, shape_2}
use Rattle.lfs_steps.proofs.old_entries.Steps.{gone}
use Rattle.lfs_steps.proofs.paths.Named.{IsReached, dir, entry_is, few, fits_d, kind_is, links_are, links_many, piece_is}
use Rattle.lfs_steps.proofs.rename.Views.{two_links}
use Rattle.lfs_steps.proofs.volume.Directories.{directory_formed, slot_in_directory}
use Rattle.lfs_steps.proofs.volume.Headers.{directory_shrinks, links_fit}
use Rattle.lfs_steps.proofs.volume.KeptMaps.{HasHolder, holder_directory}
use Rattle.lfs_steps.proofs.volume.LostLinks.{loses_name}
use Rattle.lfs_steps.proofs.volume.LostNames.{LosesName}
use Rattle.lfs_steps.proofs.volume.MovedMaps.{Relinks}
use Rattle.lfs_steps.proofs.volume.Nodes.{IsMapOf, IsShaped}

-- A call may take the last name of a path away: the name gives an object that has no names in it.
pub record MayGo (N : ℕ) (m : LogMap) (s : State) (p : List ℕ) (d : ℕ) (l : Last) (e : Entry) (call : Call) : Type 0 where
  pub reached : IsReached N m s p d l
  pub shaped : IsShaped m
  pub looks : GivesObject m d l.name.now e.holder (Some e.object)
  pub empty : names_in s.tree e.object.number.value ≡ []
  pub done : Step N s call Done (gone s p d)
  pub sound : Sound N (gone s p d)

module _ {N : ℕ} {m : LogMap} {s : State} {p : List ℕ} {d : ℕ} {l : Last} {e : Entry} {call : Call} (g : MayGo N m s p d l e call) where
  abbrev n : ℕ
  n = e.object.number.value

  abbrev head : Header
  head = e.holder

  abbrev object : Header
  object = e.object.header

  placed : IsEntry N m s p d n head (as_header object)
  placed = record {
    map = g.reached.map;
    shaped = g.shaped;
    walk = g.reached.walk;
    gives = entry_is g.reached g.looks.looks;
    holder = g.looks.looks.header;
    few = few g.reached head g.looks.looks.header;
    there = g.looks.there;
    empty = g.empty;
  }

  is_kind : is_dir (node s.tree n) ≡ is_directory object.kind
  is_kind = kind_is g.reached head g.looks.looks.header l.name.now (sym g.looks.looks.gives) object g.looks.there

  both : HasBoth d e m
  both = record {
    map = g.reached.map.map;
    holder = g.looks.looks.header;
    object = g.looks.there;
    other = λ same. apart placed (sym same);
    not_root = not_root placed;
  }

  -- so the draft can be made
  pub has_old : HasOld d e l.name.now m
  has_old = record {
    both = both;
    named = record {
      directory = directory_formed N m s g.reached.map d (dir g.reached) head g.looks.looks.header
          (fits_d g.reached head g.looks.looks.header);
      there = λ none. (let found = g.looks.looks.gives in absurd (cc));
    };
  }

  -- ---- links

  some_links : 0 < object.links
  some_links = by (is_dir (node s.tree n)) refl
    where
      by : (b : Bool) → is_dir (node s.tree n) ≡ b → 0 < object.links
      by true on =
          let are = g.reached.map.log.links n (as_header object) g.looks.there
          ∙ ap (λ (t : Tree). links_of t n) (sym g.reached.map.log.is) in
          let two = two_links (node s.tree n) s.tree n on in
          omega (arith, are, two)
      by false off =
          let are = names_plain placed off in
          let some = named_counts s.tree d (name p) n placed.gives in
          omega (arith, are, some)

  abbrev links_then : ℕ
  links_then = (holder_without e).links

  less : links_then + one_if (is_dir (node s.tree n)) ≡ head.links
  less = by (is_directory object.kind) refl
    where
      by : (b : Bool) → is_directory object.kind ≡ b → links_then + one_if (is_dir (node s.tree n)) ≡ head.links
      by true on =
          let now : links_then ≡ head.links - 1 = ap (λ b. if b then head.links - 1 else head.links) on in
          let one : one_if (is_dir (node s.tree n)) ≡ 1 = ap one_if (is_kind ∙ on) in
          let many = links_many g.reached head g.looks.looks.header l.name.now (sym g.looks.looks.gives) (is_kind ∙ on) in
          omega (arith, now, one, many)
      by false off =
          let now : links_then ≡ head.links = ap (λ b. if b then head.links - 1 else head.links) off in
          let none : one_if (is_dir (node s.tree n)) ≡ 0 = ap one_if (is_kind ∙ off) in
          omega (arith, now, none)

  links_less : FitsHeader head.kind head.form links_then head.size
  links_less = links_fit head (fits_d g.reached head g.looks.looks.header) {links = links_then} (let all = less in omega (arith, all))

  size_less : FitsHeader head.kind head.form head.links (head.size - slot_len head.form)
  size_less = directory_shrinks d head (fits_d g.reached head g.looks.looks.header) holder_here.kind
      (slot_in_directory N m s g.reached.map d (dir g.reached) head g.looks.looks.header (fits_d g.reached head g.looks.looks.header)
      l.name.now (sym g.looks.looks.gives))
    where
      holder_here : HasHolder m d head
      holder_here = holder_is placed

  -- ---- the draft fits, where nothing was lost before
  pub takes_drop : {S D : Type 0} (files : FilesState S D) → ((k : ℕ) → IsApart files.lost k) → TakesDrop files m m d e
  takes_drop files none_lost = record {
    both = both;
    staged = λ none. (let at = g.looks.looks.header in absurd (cc));
    apart = none_lost d;
    object = record {
      there = g.looks.there;
      linked = some_links;
      apart = (none_lost n).inode;
      header = links_fit object (g.reached.headers n (as_header object) g.looks.there) (omega arith);
    };
    linked = (let are = links_are g.reached head g.looks.looks.header in let two = two_links (node s.tree d) s.tree d (dir g.reached) in
        omega (arith, are, two));
    links = links_less;
    shorter = record { known = links_less.known; links_few = links_less.links_few; size_fits = size_less.size_fits };
  }

  -- ---- the log map with the draft
  module _ {S D : Type 0} (files : FilesState S D) {is_open : Bool} (opens : is_open ≡ true → opened s.handles n ≢ 0)
      (shut : is_open ≡ false → is_directory object.kind ≡ false
      → opened s.handles n ≡ 0) (dropped : HasDropped files m m d e is_open l.name.now) where
    loses : LosesName s m dropped.lost n (as_header object)
    loses = loses_name s m dropped.lost n object is_open opens shut dropped.loses

    links : Relinks dropped.lost dropped.linked d head links_then
    links = inr dropped.links

    takes : TakesName dropped.linked dropped.map d (holder_without e) (name p)
    takes = subst (TakesName dropped.linked dropped.map d (holder_without e)) (sym (piece_is g.reached))
        (dropped.untied.names (holder_directory (shape_2 placed links_then loses links) (holder_2 placed links_then loses links)))

    pub gone_map : IsMapOf N dropped.map (gone s p d)
    gone_map = removed_map placed links_then loses links less dropped.untied.cut takes refl refl g.sound

    pub gone_shape : IsShaped dropped.map
    gone_shape = removed_shape placed links_then loses links less dropped.untied.cut takes
