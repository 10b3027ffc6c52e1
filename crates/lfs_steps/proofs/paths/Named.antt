-- What a name gives in the directory of a path's last piece, as the model sees it.
use Rattle.lfs_steps.proofs.Prelude.{◌≡◌, ◌≤◌, ◌<◌, ◌+◌, ◌-◌, ◌*◌, ◌||◌, ℕ, true, false, List, length, Option, Some, sym, ◌∙◌, ap, subst}
use Rattle.lfs_steps.proofs.Prelude.{nat_lt, arith, refl, is_some, unwrap_or, T, find, is_sorted, Kind, LAST_NUMBER, AreBytes, IsHeaderOf}
use Rattle.lfs_steps.proofs.Prelude.{slash, LogMap, gives_dir, is_full, is_long, is_there, last_dots, name, no_last, target, Dir, State}
use Rattle.lfs_steps.proofs.Prelude.{Tree, byte_cmp, entry, form_of, is_dir, links, name_len, names_in, node, slot_len, without_name}
use Rattle.lfs_steps.proofs.Prelude.{node_by, At, Parent, parent_dir, dir_at}
use Rattle.lfs_steps.proofs.Prelude.{as_header, names_at, Last, is_directory, GivesNumber, TakesOneMore}
use Rattle.lfs_model.specs.declared.Kind.TheVariants as kinds
use Rattle.lfs_model.specs.declared.limits.TheConstants.{MOST_ENTRIES}
use Rattle.lfs_model.specs.Entry as entries
use Rattle.lfs_model.specs.Tree.{Names}
use Rattle.lfs_files.specs.declared.header.Header.{Header}
use Rattle.lfs_path.specs.Lasts.{HasLast}
use Rattle.lfs_path.specs.Laws.{SaysLast}
use Rattle.lfs_path.specs.Pieces.{is_dots}
use Rattle.lfs_path.specs.Seeing.{HasHeader}
use Rattle.lfs_path.proofs.LastPieces.{last_says}
use Rattle.lfs_entries.specs.Finding.{IsHolder}
use Rattle.lfs_entries.specs.Sizes.{IsSmall}
use Rattle.lfs_steps.proofs.calls.Checks.{below, not_below}
use Rattle.lfs_steps.proofs.volume.Nodes.{IsMapOf, dir_there, no_header_none, node_by_header}
use Rattle.lfs_steps.proofs.volume.Directories.{directory_formed, directory_node, entry_in_directory, free_directory, full_directory}
use Rattle.lfs_steps.proofs.volume.Directories.{limit_in_directory, names_in_directory, size_of_directory}
use Rattle.lfs_steps.proofs.volume.MovedNames as trees
use Rattle.lfs_steps.proofs.volume.MovedNames.{link_of, once}
use Rattle.lfs_steps.proofs.volume.Slots.{few_slots}
use Rattle.lfs_steps.proofs.rename.Views.{two_links}

-- In state s there is log map m, and the walk of a path comes to directory d, where its last piece stands.
pub record IsReached (N : ℕ) (m : LogMap) (s : State) (p : List ℕ) (d : ℕ) (l : Last) : Type 0 where
  pub map : IsMapOf N m s
  pub headers : (n : ℕ) (h : entries.Header) → m.header n ≡ Some h → IsHeaderOf n h
  pub walk : Parent s.tree p (At d)
  pub last : HasLast p (Some l)
  pub bytes : AreBytes p

dir_by : (m : LogMap) (k : Kind) (n : ℕ) (h : entries.Header) → is_dir (Some (node_by m k n h)) ≡ is_directory k
dir_by m kinds.File n h = refl
dir_by m kinds.Directory n h = refl
dir_by m kinds.Link n h = refl

module _ {N : ℕ} {m : LogMap} {s : State} {p : List ℕ} {d : ℕ} {l : Last} (g : IsReached N m s p d l) where
  -- ---- the piece
  says : SaysLast p (Some l)
  says = last_says p (Some l) g.last

  pub piece_is : name p ≡ l.name.now
  piece_is = says.1

  pub has_piece : no_last p ≡ false
  has_piece = says.0

  pub last_dots_is : last_dots p ≡ is_dots l.name.now
  last_dots_is = says.2

  pub dots_is : (no_last p || last_dots p) ≡ is_dots l.name.now
  dots_is i = says.0 i || says.2 i

  pub slash_is : slash p ≡ l.slash
  slash_is = g.last.1

  -- ---- the directory
  pub dir : is_dir (node s.tree d) ≡ true
  dir = (parent_dir N s g.map.log.sound p d g.walk).0

  pub range_d : (1 ≤ d) × (d ≤ LAST_NUMBER)
  range_d = g.map.log.sound.numbers d (dir_there s.tree d dir)

  module _ (head : Header) (there : HasHeader d head m) where
    pub fits_d : IsHeaderOf d (as_header head)
    fits_d = g.headers d (as_header head) there

    pub few : IsSmall head
    few =
        let many = size_of_directory N m s g.map d dir head there fits_d in
        let most = (g.map.log.sound.limits d (Dir head.form (names_in s.tree d)) is_node).1 in
        few_slots head.form (length (names_in s.tree d)) many most
      where
        is_node : node s.tree d ≡ Some (Dir head.form (names_in s.tree d))
        is_node = directory_node N m s g.map d dir head there
            ∙ ap (λ (ms : Names). Some (Dir head.form ms)) (sym (names_in_directory N m s g.map d dir head there))

    pub links_are : head.links ≡ links s.tree d
    links_are = g.map.log.links d (as_header head) there ∙ ap (λ (t : Tree). links t d) (sym g.map.log.is)

    pub short_is : length l.name.now ≤ name_len head.form → is_long s.tree d p ≡ false
    short_is short = ap (λ (q : ℕ). nat_lt q (length (name p))) (limit_in_directory N m s g.map d dir head there)
        ∙ not_below (name_len head.form) (length (name p)) (let same = ap length piece_is in omega (arith, same, short))

    pub long_is : name_len head.form < length l.name.now → is_long s.tree d p ≡ true
    long_is long = ap (λ (q : ℕ). nat_lt q (length (name p))) (limit_in_directory N m s g.map d dir head there)
        ∙ below (name_len head.form) (length (name p)) (let same = ap length piece_is in omega (arith, same, long))

    pub full_is : (MOST_ENTRIES - 1) * slot_len head.form < head.size → is_full s.tree d ≡ true
    full_is large = full_directory N m s g.map d dir head there fits_d large

    pub free_is : TakesOneMore head → is_full s.tree d ≡ false
    free_is small = free_directory N m s g.map d dir head there fits_d small

    -- what a name gives is there
    module _ (nm : List ℕ) {n : ℕ} (found : find byte_cmp nm (names_at m d head) ≡ Some n) where
      pub gives : entry s.tree d nm ≡ Some n
      gives = entry_in_directory N m s g.map d dir head there nm ∙ found

      pub range_n : (1 ≤ n) × (n ≤ LAST_NUMBER)
      range_n = g.map.log.sound.numbers n (g.map.log.sound.named d nm n gives)

      dir_order : T (is_sorted byte_cmp (names_in s.tree d))
      dir_order = (g.map.log.sound.limits d (Dir (form_of (node s.tree d)) (names_in s.tree d)) (dir_at (node s.tree d) dir)).0

      move : trees.IsMove s.tree d d n nm
      move = record { in_order = g.map.log.sound.in_order; is_a = dir; order_a = dir_order; found = gives; is_b = dir; order_b = dir_order }

      pub kind_is : (h : Header) → HasHeader n h m → is_dir (node s.tree n) ≡ is_directory h.kind
      kind_is h at = ap is_dir (node_by_header g.map.log n range_n at) ∙ dir_by m h.kind n (as_header h)

      -- a directory that another stands in has three links at least
      pub links_many : is_dir (node s.tree n) ≡ true → 3 ≤ head.links
      links_many on =
          let all : links (without_name s.tree d nm) d + link_of true d n d ≡ links s.tree d
          = subst (λ b. links (without_name s.tree d nm) d + link_of b d n d ≡ links s.tree d) on (trees.lost_links move nm d) in
          let are = links_are in
          let one = once d in
          let two = two_links (node (without_name s.tree d nm) d) (without_name s.tree d nm) d (trees.lost_dirs move nm d ∙ dir) in
          omega (arith, are, all, one, two)

  -- it is one of a volume
  pub holder : IsHolder d m
  holder = record {
    there = λ none. dir_there s.tree d dir (no_header_none g.map.log d none);
    formed = λ head at. directory_formed N m s g.map d dir head at (fits_d head at);
    small = λ head at. few head at;
    gives = λ head nm n at found none.
        g.map.log.sound.named d nm n (gives head at nm found) (no_header_none g.map.log n none);
    linked = λ head at. (let are = links_are head at in let two = two_links (node s.tree d) s.tree d dir in omega (arith, are, two));
    above = λ head sub nm n at found other is.
        links_many head at nm found (kind_is head at nm found sub other ∙ ap is_directory is);
  }

  -- ---- what the piece gives
  module _ {head : Header} {found : Option ℕ} (looks : GivesNumber m d l.name.now head found) where
    pub entry_is : entry s.tree d (name p) ≡ found
    entry_is = ap (entry s.tree d) piece_is ∙ entry_in_directory N m s g.map d dir head looks.header l.name.now ∙ sym looks.gives

    pub there_is : is_there s.tree d p ≡ is_some found
    there_is = ap is_some entry_is

    pub target_is : target s.tree d p ≡ unwrap_or found 0
    target_is = ap (λ (o : Option ℕ). unwrap_or o 0) entry_is

  module _ {head : Header} {n : ℕ} (looks : GivesNumber m d l.name.now head (Some n)) (h : Header) (at : HasHeader n h m) where
    pub gives_is : gives_dir s.tree d p ≡ is_directory h.kind
    gives_is = ap (λ (q : ℕ). is_dir (node s.tree q)) (target_is looks) ∙ kind_is head looks.header l.name.now (sym looks.gives) h at
