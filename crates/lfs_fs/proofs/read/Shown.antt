-- What is read of a log map, and listed of it, is what the model says of its state.
use Rattle.lfs_fs.proofs.Prelude.{◌≡◌, ◌≢◌, ◌+◌, ◌-◌, ℕ, true, false, List, [], ◌∷◌, map, Option, Some, None, refl, sym, ◌∙◌, ap, subst}
use Rattle.lfs_fs.proofs.Prelude.{take_all, T, min, unwrap_or, find, is_sorted, Kind, part, IsHeaderOf, LogMap, head_of, is_link, stat_of}
use Rattle.lfs_fs.proofs.Prelude.{the_node, Dir, File, Names, Node, State, is_dir, names_in, names_of, node, node_by, object, object_length}
use Rattle.lfs_fs.proofs.Prelude.{names_at, HasHeader, HasObject, ListedEntry, TreeRow, is_directory, AreTold, IsListable, IsListed, row_of}
use Rattle.lfs_fs.proofs.Prelude.{AreListable, HasRows, rows_at, IsMapOf, no_header_none, node_by_header, stat_is}
use Rattle.std.specs.Cmp.Lexicographic.{nat_list_cmp_total}
use Rattle.std.specs.FinMap.Entries.{below_all}
use Rattle.lfs_model.specs.declared.Kind.TheVariants as kind
use Rattle.lfs_model.specs.Call as call
use Rattle.lfs_model.specs.Entry as entry
use Rattle.lfs_model.specs.Sound.{IsWithinLimits}
use Rattle.lfs_model.specs.Step.{entry_of as entry_at}
use Rattle.lfs_model.specs.Tree.{Link, byte_cmp}
use Rattle.lfs_model.proofs.Sums.{T_right, find_after, find_first}
use Rattle.lfs_files.specs.declared.header.Header.{Header}
use Rattle.lfs_files.specs.Headers.{HeaderAnswer, as_header}
use Rattle.lfs_path.specs.dirs.Directory.{slots_at}
use Rattle.lfs_path.proofs.of_dirs.SlotNames.{sorted_names}
use Rattle.lfs_entries.specs.Reading.{ShowsHead, bytes_of}
use Rattle.lfs_entries.specs.Rows.{AreThere, IsRow}
use Rattle.lfs_fs.specs.Answers.{entry_of}
use Rattle.lfs_fs.specs.Reading.{RowsBy, RowsOf}
use Rattle.lfs_fs.proofs.calls.Steps.{part_clipped}
use Rattle.lfs_steps.proofs.list.Rows.{row_at}
use Rattle.lfs_steps.proofs.volume.Nodes.{the_node_by_header}
use Rattle.lfs_steps.proofs.volume.Directories.{directory_formed, names_in_directory}

-- ---- lists

-- what is told of names is what the model says of them
told_are : {T X : Type 0} (R : List ℕ × ℕ → T → Type 0) (f : T → X) (g : List ℕ × ℕ → X)
    → ((p : List ℕ × ℕ) (t : T) → R p t → f t ≡ g p) → (ps : Names) (ts : List T) → AreTold R ps ts → map f ts ≡ map g ps
told_are R f g one [] [] all = refl
told_are R f g one (p ∷ ps) (t ∷ ts) all = λ i. one p t all.0 i ∷ told_are R f g one ps ts all.1 i
told_are R f g one ps ts all = absurd all

-- names in order that give objects when they are looked up
all_there : (m : LogMap) (ps : Names) → ((name : List ℕ) (n : ℕ) → find byte_cmp name ps ≡ Some n → HasObject n m)
    → T (is_sorted byte_cmp ps) → AreThere ps m
all_there m [] gives order = tt
all_there m (p ∷ ps) gives order = (
  gives p.0 p.1 (find_first nat_list_cmp_total (λ x. 0) p ps),
  all_there m ps (λ name n found. gives name n (find_after nat_list_cmp_total (λ x. 0) name p ps n order found))
      (T_right (below_all byte_cmp p.0 ps) (is_sorted byte_cmp ps) order),
)

-- ---- nodes by their headers

-- bytes between two places, moved back to an object's end
pub bytes_are : (m : LogMap) (n : ℕ) (h : entry.Header) (from count : ℕ) → bytes_of m n h from count ≡ part (object m n h) from count
bytes_are m n h from count =
    ap (λ (l : ℕ). part (object m n h) (min from l) (min (from + count) l - min from l)) (sym (object_length m n h))
    ∙ part_clipped (object m n h) from count

-- what stat tells of an object of this header
abbrev pub told_by : ℕ → Header → call.Stat
told_by n head = record { number = n; kind = head.kind; links = head.links; size = head.size }

pub dir_by : (m : LogMap) (k : Kind) (n : ℕ) (h : entry.Header) → is_dir (Some (node_by m k n h)) ≡ is_directory k
dir_by m kind.File n h = refl
dir_by m kind.Directory n h = refl
dir_by m kind.Link n h = refl

no_link_by : (m : LogMap) (k : Kind) (n : ℕ) (h : entry.Header) → k ≢ kind.Link → is_link (node_by m k n h) ≡ false
no_link_by m kind.File n h other = refl
no_link_by m kind.Directory n h other = refl
no_link_by m kind.Link n h other = absurd (other refl)

no_directory : (k : Kind) → k ≢ kind.Directory → is_directory k ≡ false
no_directory kind.File other = refl
no_directory kind.Directory other = absurd (other refl)
no_directory kind.Link other = refl

-- what is no directory has no names
no_names : (o : Option Node) → is_dir o ≡ false → names_of (unwrap_or o (File [])) ≡ []
no_names None none = refl
no_names (Some (File b)) leaf = refl
no_names (Some (Dir form ms)) leaf = absurd (cc)
no_names (Some (Link text)) leaf = refl

module _ {N : ℕ} {m : LogMap} {s : State} (is : IsMapOf N m s)
    (headers : (n : ℕ) (h : entry.Header) → m.header n ≡ Some h → IsHeaderOf n h) where
  leaf_rows : (d : ℕ) → is_dir (node s.tree d) ≡ false → rows_at s.tree d ≡ []
  leaf_rows d leaf = ap (map (row_at s.tree d)) (no_names (node s.tree d) leaf)

  -- ---- an object that is there
  module _ {n : ℕ} {head : Header} (there : HasHeader n head m) where
    fits : IsHeaderOf n (as_header head)
    fits = headers n (as_header head) there

    is_node : node s.tree n ≡ Some (node_by m head.kind n (as_header head))
    is_node = node_by_header is.log n fits.number there

    is_the_node : the_node s.tree n ≡ node_by m head.kind n (as_header head)
    is_the_node = the_node_by_header is.log n fits.number there

    pub is_told : stat_of s.tree n ≡ told_by n head
    is_told = stat_is is.log n there fits

    pub directory : head.kind ≡ kind.Directory → is_dir (node s.tree n) ≡ true
    directory dir = ap is_dir is_node ∙ dir_by m head.kind n (as_header head) ∙ ap is_directory dir

    pub other_directory : head.kind ≢ kind.Directory → is_dir (node s.tree n) ≡ false
    other_directory other = ap is_dir is_node ∙ dir_by m head.kind n (as_header head) ∙ no_directory head.kind other

    pub link : head.kind ≡ kind.Link → is_link (the_node s.tree n) ≡ true
    link is = ap is_link is_the_node ∙ ap (λ (k : Kind). is_link (node_by m k n (as_header head))) is

    pub other_link : head.kind ≢ kind.Link → is_link (the_node s.tree n) ≡ false
    other_link other = ap is_link is_the_node ∙ no_link_by m head.kind n (as_header head) other

    -- what is shown of it
    head_by : (k : Kind) → node s.tree n ≡ Some (node_by m k n (as_header head)) → {out : List ℕ} → ShowsHead m n head k out
        → head_of (node_by m k n (as_header head)) ≡ out
    head_by kind.File at shows = sym (shows ∙ bytes_are m n (as_header head) 0 16)
    head_by kind.Directory at shows = sym shows
    head_by kind.Link at shows =
        let limits : IsWithinLimits (Link (object m n (as_header head))) = is.log.sound.limits n (Link (object m n (as_header head))) at in
        sym (shows ∙ bytes_are m n (as_header head) 0 1023 ∙ take_all 1023 (object m n (as_header head)) limits.1)

    pub head_is : (out : List ℕ) → ShowsHead m n head head.kind out → head_of (the_node s.tree n) ≡ out
    head_is out shows = ap head_of is_the_node ∙ head_by head.kind is_node {out = out} shows

    -- a link's text
    pub text_is : (out : List ℕ) → head.kind ≡ kind.Link → out ≡ bytes_of m n (as_header head) 0 1023 → head_of (the_node s.tree n) ≡ out
    text_is out is reads = head_is out (subst (λ (k : Kind). ShowsHead m n head k out) (sym is) reads)

  -- ---- one name

  listed_is : (p : List ℕ × ℕ) (told : ListedEntry) → IsListed m p told → entry_of told ≡ entry_at s.tree p
  listed_is p told listed = λ i. record {
    name = listed.name i;
    number = listed.number i;
    kind = (listed.kind ∙ sym (ap (λ (x : call.Stat). x.kind) (is_told listed.header))) i;
  }

  row_is : (d : ℕ) (p : List ℕ × ℕ) (told : TreeRow) → IsRow m d p told → row_of told ≡ row_at s.tree d p
  row_is d p told row = λ i. record {
    directory = row.directory i;
    name = row.name i;
    stat = (fields ∙ sym (is_told row.header)) i;
    head = sym (head_is row.header told.head.items row.shown) i;
  }
    where
      fields : (row_of told).stat ≡ told_by p.1 row.head
      fields = λ i. record { number = row.number i; kind = row.kind i; links = row.links i; size = row.size i }

  -- ---- the names of a directory
  module _ {d : ℕ} {head : Header} (there : HasHeader d head m) (dir : head.kind ≡ kind.Directory) where
    names_are : names_in s.tree d ≡ names_at m d head
    names_are = names_in_directory N m s is d (directory there dir) head there

    pub listing_is : (told : List ListedEntry) → AreTold (IsListed m) (names_at m d head) told
        → map entry_of told ≡ map (entry_at s.tree) (names_in s.tree d)
    listing_is told all = told_are (IsListed m) entry_of (entry_at s.tree) listed_is (names_at m d head) told all
        ∙ ap (map (entry_at s.tree)) (sym names_are)

    rows_are : (told : List TreeRow) → AreTold (IsRow m d) (names_at m d head) told → map row_of told ≡ rows_at s.tree d
    rows_are told all = told_are (IsRow m d) row_of (row_at s.tree d) (row_is d) (names_at m d head) told all
        ∙ ap (map (row_at s.tree d)) (sym names_are)

    listable : IsListable d head m
    listable = record {
      directory = directory_formed N m s is d (directory there dir) head there (headers d (as_header head) there);
      there = all_there m (names_at m d head)
          (λ name n found none.
          is.log.sound.named d name n (ap (find byte_cmp name) names_are ∙ found) (no_header_none is.log n none))
          (sorted_names head.form (slots_at m d head));
    }

  pub all_listable : AreListable m
  all_listable d head = listable

  -- ---- what stands at a number
  pub shows_rows : (n : ℕ) (rows : List TreeRow) → HasRows n rows m → map row_of rows ≡ rows_at s.tree n
  shows_rows n rows has = by has.found has.header has.are
    where
      none : rows ≡ [] → is_dir (node s.tree n) ≡ false → map row_of rows ≡ rows_at s.tree n
      none empty leaf = ap (map row_of) empty ∙ sym (leaf_rows n leaf)

      kinds : (head : Header) → HasHeader n head m → (k : Kind) → head.kind ≡ k → RowsBy m n head rows k
          → map row_of rows ≡ rows_at s.tree n
      kinds head there kind.File is empty = none empty (other_directory there (λ e. let same = is in cc))
      kinds head there kind.Directory is all = rows_are there is rows all
      kinds head there kind.Link is empty = none empty (other_directory there (λ e. let same = is in cc))

      by : (found : Option Header) → HeaderAnswer m n found → RowsOf m n rows found → map row_of rows ≡ rows_at s.tree n
      by None gone empty = none empty (ap is_dir (no_header_none is.log n gone))
      by (Some head) there told = kinds head there head.kind refl told
